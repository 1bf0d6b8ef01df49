use Rattle.std.proofs.Common.{arith, rules}
use Rattle.svid_cli.specs.Mistake.{most_of_token, shown_from}
use Rattle.svid_cli.proofs.MistakeLemmas.{shown_all, shown_more}
use Rattle.svid_cli.proofs.mistake.shown_of.Goals as goal

pub loop-byte-preserved : goal.loop-byte-preserved
loop-byte-preserved c = shown_more c.args.bytes.now c.loop-byte.line.items c.push_shown.new.line.items (shown_from most_of_token c.args.bytes.now) c.loop-byte.byte-index c.loop-byte.left c.left_after-left.result
    (search rules) c.in_ok-push_shown.ensures c.left_after-left.ensures c.loop-byte.invariant

pub returns : goal.returns
returns c = shown_all c.args.bytes.now c.loop-byte.line.items (shown_from most_of_token c.args.bytes.now) c.loop-byte.byte-index c.loop-byte.left (omega (arith, c.loop-byte-test.false)) c.loop-byte.invariant

use Rattle.std.proofs.Common.{refl}
use Rattle.svid_c.proofs.LiveLemmas.{holds_none, holds_one}
use Rattle.svid_c.specs.Live.{alone, reads_log}
use Rattle.svid_c.proofs.validator_check_token.check_alone.Goals as goal

pub returns-then-is_some : goal.returns-then-is_some
returns-then-is_some c =
    let one = holds_one c.args.live.now.member c.if-is_some.ensures in
    reads_log one.0 one.1 c.only.ensures.status c.only.ensures.told refl refl refl

pub returns : goal.returns
returns c = alone (holds_none c.args.live.now.member c.if-is_some.ensures) c.check.ensures

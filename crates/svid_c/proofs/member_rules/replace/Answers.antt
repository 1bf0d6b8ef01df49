use Rattle.std.proofs.Common.{refl, Some, ap, map, sym, string_bytes}
use Rattle.svid_c.specs.Live.{Kept}
use Rattle.svid_c.specs.Peers.{with_peer}
use Rattle.svid_c.specs.Rules.{callers_refused, own_refused, ruled}
use Rattle.svid_c.proofs.member_rules.replace.Goals as goal

pub returns-in-Err : goal.returns-in-Err
returns-in-Err c = own_refused c.in-Some.peer c.in-Err.fault c.in-Some.is c.in-Err.ensures.fault c.number.ensures (sym (ap (with_peer c.args.live.now) c.in-Some.is))

pub returns-in-Err-read : goal.returns-in-Err-read
returns-in-Err-read c = callers_refused c.in-Some.peer c.in-Err-read.fault c.in-Some.is c.in-Err-read.ensures.fault c.pattern_number.ensures (sym (ap (with_peer c.args.live.now) c.in-Some.is))

pub returns : goal.returns
returns c =
    ruled c.in-Some.peer (map string_bytes c.in-Ok.names.items) c.in-Ok-read.callers c.in-Some.is c.in-Ok.ensures.ok c.in-Ok-read.ensures.ok
    (ap (λ (v : Kept). record { validator = v; step = c.args.live.now.step; member = c.args.live.now.member; peer = Some (record { member = c.in-Some.peer.member; withdrawals = c.in-Some.peer.withdrawals; callers = c.in-Ok-read.callers }) }) c.replace_own-before.ensures.state) refl

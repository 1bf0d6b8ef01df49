use Rattle.std.proofs.Common.{refl, ap, rules}
use Rattle.svid_c.specs.Peers.{has_one, with_peer}
use Rattle.svid_c.proofs.member_due.due.Goals as goal

pub returns : goal.returns
returns c = has_one c.in-Some.peer c.in-Some.peer c.in-Some.is (ap (with_peer c.args.live.now) c.in-Some.is) (refl, refl, search rules)

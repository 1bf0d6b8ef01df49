use Rattle.std.proofs.Common.{refl, ap, ◌∙◌}
use Rattle.svid_c.specs.Peers.{has_one, number_of_any, with_peer}
use Rattle.svid_c.proofs.member_know.blocks.Goals as goal

pub returns : goal.returns
returns c = has_one c.in-Some.peer c.in-Some.peer c.in-Some.is (ap (with_peer c.args.live.now) c.in-Some.is) (c.number_of_any.ensures ∙ ap number_of_any c.blocks-2.ensures, refl)

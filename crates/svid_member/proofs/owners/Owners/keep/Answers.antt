use Rattle.std.proofs.Common.{sym, subst}
use Rattle.std.proofs.lemmas.List.Elements.{All-replicate}
use Rattle.svid_member.specs.Owners.{AreOwners, IsOwner}
use Rattle.svid_member.proofs.owners.Owners.keep.Goals as goal

pub invariant_of-self-in-Ok : goal.invariant_of-self-in-Ok
invariant_of-self-in-Ok c = subst AreOwners (sym (c.in-Ok.ensures.items_if_clones_equal (λ y e. e))) (All-replicate IsOwner 1024 c.args.one c.requires)

use Rattle.std.proofs.Common.{arith, length, ◌∙◌, ap, not, nat_lt}
use Rattle.std.specs.List.{prefix_len}
use Rattle.std.proofs.lemmas.List.Sums.{prefix_len-le-length}
use Rattle.svid_replay.proofs.UsesLemmas.{left_rises, left_live, left_count}
use Rattle.svid_replay.proofs.sorted.SortedUsesUseStore.drop_expired.Goals as goal

pub drop_front-requires : goal.drop_front-requires
drop_front-requires c =
    omega (arith, c.count_expired-dropped.ensures, ap length c.deref.ensures.value, prefix_len-le-length (λ u. not (nat_lt c.args.moment u.exp)) c.deref.result.now)

pub invariant_of-self : goal.invariant_of-self
invariant_of-self c = left_rises _ c.args.moment _ _ c.self.invariant (record { front = c.count_expired-dropped.ensures ∙ ap (prefix_len (λ u. not (nat_lt c.args.moment u.exp))) c.deref.ensures.value; rest = c.drop_front.ensures })

pub returns-clause-kept : goal.returns-clause-kept
returns-clause-kept c = left_live _ c.args.moment _ _ _ c.self.invariant c.self.view_is (record { front = c.count_expired-dropped.ensures ∙ ap (prefix_len (λ u. not (nat_lt c.args.moment u.exp))) c.deref.ensures.value; rest = c.drop_front.ensures })

pub returns-clause-dropped : goal.returns-clause-dropped
returns-clause-dropped c = left_count _ c.args.moment _ _ _ c.self.invariant c.self.view_is (record { front = c.count_expired-dropped.ensures ∙ ap (prefix_len (λ u. not (nat_lt c.args.moment u.exp))) c.deref.ensures.value; rest = c.drop_front.ensures })

use Rattle.std.proofs.Common.{arith, nat_lt, not}
use Rattle.std.proofs.lemmas.List.Sums.{prefix_len-le-length}
use Rattle.svid_replay.proofs.RecordsLemmas.{live_rises, taken_or_not}
use Rattle.svid_replay.proofs.record.Record.take_all.Goals as goal

pub split_at-requires : goal.split_at-requires
split_at-requires g c = omega (arith, c.count_expired-expired.ensures, prefix_len-le-length (λ u. not (nat_lt c.self.inside.moment u.exp)) c.args.uses.now)

pub insert_all-requires : goal.insert_all-requires
insert_all-requires g c = live_rises c.self.inside.moment c.args.uses.now _ _ c.requires.rising c.count_expired-expired.ensures c.split_at.ensures.back

pub invariant_of-self : goal.invariant_of-self
invariant_of-self g c = (taken_or_not c.self.inside.moment _ _ c.args.self.now c.args.uses.now _ _ c.insert_all.result c.self.invariant c.self.view_is c.requires.rising c.requires.fields c.requires.made c.count_expired-expired.ensures c.split_at.ensures.back c.insert_all.ensures.all c.insert_all.ensures.none).is

pub returns-clause-all : goal.returns-clause-all
returns-clause-all g c = (taken_or_not c.self.inside.moment _ _ c.args.self.now c.args.uses.now _ _ c.insert_all.result c.self.invariant c.self.view_is c.requires.rising c.requires.fields c.requires.made c.count_expired-expired.ensures c.split_at.ensures.back c.insert_all.ensures.all c.insert_all.ensures.none).joined

use Rattle.std.proofs.Common.{nat_lt}
use Rattle.std.specs.List.{filter, flat_map}
use Rattle.sha2.specs.Hashers.{Holds256}
use Rattle.svid_replay.specs.Sets.{rising}
use Rattle.svid_replay.specs.Use.{text_of}
use Rattle.svid_replay.proofs.StaleLemmas.{HasCounted}
use Rattle.svid_shards.proofs.bucket_digest.digest_of.Given as goal

-- the hasher holds the texts of the live ones of the uses that came, and those that are expired are not counted
abbrev pub invariant-loop-used : goal.invariant-loop-used
invariant-loop-used g l = record {
  text : Holds256 l.hasher (flat_map text_of (filter (λ u. nat_lt l.moment u.exp) l.yielded));
  counted : HasCounted (λ u. nat_lt l.moment u.exp) (rising (g.S.UseStore.content l.store)) l.yielded l.uses;
}

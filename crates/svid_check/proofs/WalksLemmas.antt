-- What a walk over the buckets of a record that changes in between tells.
use Rattle.std.proofs.Common.{ℕ, ◌<◌, nat_lt, IsTrue, refl, sym, ◌∙◌, inl, inr}
use Rattle.std.specs.Prelude.{◌==◌}
use Rattle.std.proofs.lemmas.Bool.{and_from, and_parts, cases_Bool, eq-eqb, lt-ltb}
use Rattle.svid_replay.specs.declared.token_use.Use.{Use}
use Rattle.svid_replay.specs.Buckets.{bucket, bucket_digest, bucket_of, bucket_text}
use Rattle.svid_replay.specs.Sets.{holds}
use Rattle.svid_replay.specs.Uses.{Uses, live}
use Rattle.svid_replay.proofs.BucketsLemmas.{bucket_holds_its_uses}
use Rattle.svid_replay.proofs.UsesLemmas.{holds-live}
use Rattle.svid_check.specs.Walks.{AreInRange, WalksTellAll}
use Rattle.svid_check.proofs.ClashesLemmas.{bucket_below, is_same, other_bytes, same_bucket, same_bytes}

-- a use of a set is one of those that are live at a moment
is_live : (s : Uses) (moment : ℕ) (u : Use) → IsTrue (holds s u) → moment < u.exp → IsTrue (holds (live s moment) u)
is_live s moment u held later = holds-live s moment u ∙ and_from (nat_lt moment u.exp) (holds s u) (lt-ltb moment u.exp later) held

-- and of those that are live at a moment each is one of the set
of_live : (s : Uses) (moment : ℕ) (u : Use) → IsTrue (holds (live s moment) u) → IsTrue (holds s u)
of_live s moment u held = (and_parts (nat_lt moment u.exp) (holds s u) (sym (holds-live s moment u) ∙ held)).1

-- those that are live are in range
live_in_range : (s : Uses) (moment : ℕ) → AreInRange s → AreInRange (live s moment)
live_in_range s moment fits u held = fits u (of_live s moment u held)

-- a use of a set stands in its bucket
in_bucket : (s : Uses) (u : Use) → IsTrue (holds s u) → IsTrue (holds (bucket (bucket_of u) s) u)
in_bucket s u held = bucket_holds_its_uses (bucket_of u) s u ∙ and_from (holds s u) (bucket_of u == bucket_of u) held (eq-eqb (bucket_of u) (bucket_of u) refl)

pub walks_tell_all : WalksTellAll
walks_tell_all first last moment turns u turn had live_now live_compared live_written live_last =
    let t = turns (bucket_of u) in
    let b = bucket_of u in
    let mine = live t.summed.uses moment in
    let theirs = live t.compared.uses moment in
    let compared : IsTrue (holds t.compared.uses u) = turn.begun.uses u had live_compared in
    let there : IsTrue (holds theirs u) = is_live t.compared.uses moment u compared live_now in
    elim (cases_Bool (is_same (bucket_digest b mine) (bucket_digest b theirs))) [
      | inr other ↦ inl (record {
        differ = other_bytes (bucket_digest b mine) (bucket_digest b theirs) other;
        told = in_bucket (live t.written.uses moment) u (is_live t.written.uses moment u (turn.written.uses u compared live_written) live_now);
      })
      | inl same ↦ inr (elim (cases_Bool (is_same (bucket_text b mine) (bucket_text b theirs))) [
        | inl text ↦ inl (turn.now.uses u (of_live t.summed.uses moment u
            (same_bucket mine theirs u (live_in_range t.summed.uses moment turn.asked) (live_in_range t.compared.uses moment turn.answered) (same_bytes (bucket_text b mine) (bucket_text b theirs) text) there)) live_last)
        | inr texts ↦ inr (record {
          number = b;
          is_bucket = bucket_below u (turn.answered u compared);
          texts = other_bytes (bucket_text b mine) (bucket_text b theirs) texts;
          digests = same_bytes (bucket_digest b mine) (bucket_digest b theirs) same;
        })
      ])
    ]

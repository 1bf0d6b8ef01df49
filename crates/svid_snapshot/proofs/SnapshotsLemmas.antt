use Rattle.std.proofs.Common.{◌≡◌, ◌⊎◌, inl, inr, ℕ, max, Bool, true, ◌||◌, nat_lt, List, [], ◌∷◌, ◌++◌, IsTrue, map, length, take, refl, sym, ap, ◌∙◌, arith, append_assoc}
use Rattle.std.specs.Prelude.{codes}
use Rattle.std.specs.List.{flat_map, list_any}
use Rattle.std.proofs.lemmas.Bool.{and_parts, false≢true, or_cases, or_left, or_right}
use Rattle.svid_replay.specs.declared.token_use.Use.{Use}
use Rattle.svid_replay.specs.Batches.{BatchData}
use Rattle.svid_replay.specs.Parts.{join_all}
use Rattle.svid_replay.specs.Records.{State, batch_state, join, state_of}
use Rattle.svid_replay.specs.Sets.{holds}
use Rattle.svid_replay.proofs.RecordsLemmas.{holds-join}
use Rattle.svid_replay.proofs.UsesLemmas.{holds-uses_in}
use Rattle.svid_wire.specs.BatchText.{batch_text}
use Rattle.svid_wire.specs.Messages.{Written, written_text}
use Rattle.svid_wire.specs.Messages.Written.{batch_in, summary}
use Rattle.svid_wire.specs.declared.version.Version.TheVariants.{One, Two}
use Rattle.svid_journal.specs.Payloads.{BeginsWithNoPosition}
use Rattle.svid_journal.proofs.PayloadsLemmas.{messages_have_no_position, none_in_few}
use Rattle.svid_check.proofs.LaterLemmas.{saves_lose_nothing}
use Rattle.svid_snapshot.specs.Snapshots.{MessagesBearNoPosition, PiecesAreAllowed, SeesIn}

-- a use of a record after batches were joined to it was there before, or is seen in one of the batches' texts
seen : (has : List ℕ → Bool) (u : Use) (sees : SeesIn has u) (r : State) (bs : List BatchData) → IsTrue (holds (join_all r bs).uses u) → IsTrue (holds r.uses u) ⊎ (list_any has (map batch_text bs) ≡ true)
seen has u sees r [] h = inl h
seen has u sees r (b ∷ bs) h =
    let s = batch_state b in
    elim (seen has u sees (join r s) bs h) [
      | inl joined ↦ elim (or_cases (holds s.uses u) (holds r.uses u) (and_parts (nat_lt (max r.moment s.moment) u.exp) (holds s.uses u || holds r.uses u) (sym (holds-join r s u) ∙ joined)).1) [
        | inl here ↦ inr (or_left (has (batch_text b)) (list_any has (map batch_text bs)) (sees b here))
        | inr was ↦ inl was
      ]
      | inr later ↦ inr (or_right (has (batch_text b)) (list_any has (map batch_text bs)) later)
    ]

-- what is seen in a list is also seen after others
seen_behind : (has : List ℕ → Bool) (front row : List (List ℕ)) → list_any has row ≡ true → list_any has (front ++ row) ≡ true
seen_behind has [] row found = found
seen_behind has (p ∷ front) row found = or_right (has p) (list_any has (front ++ row)) (seen_behind has front row found)

pub pieces_are_allowed : PiecesAreAllowed
pieces_are_allowed has t w u a z front batches sees had saved live parts ok landed none noted =
    elim (seen has u sees (state_of 0 []) batches (saves_lose_nothing a z batches u saved (had noted) live)) [
      | inl nothing ↦ absurd (false≢true (sym (holds-uses_in [] u) ∙ nothing))
      | inr found ↦ ap (list_any has) parts ∙ seen_behind has front (map batch_text batches) found
    ]

-- each message begins with `JSR`
begins : (w : Written) (behind : List ℕ) → take 3 (written_text w ++ behind) ≡ codes "JSR"
begins (batch_in One b) behind = refl
begins (batch_in Two b) behind = refl
begins (summary s) behind = refl

no_position_in : (written : List Written) (bytes : List ℕ) → bytes ≡ flat_map written_text written ++ [] → BeginsWithNoPosition bytes
no_position_in [] bytes parts = none_in_few bytes (omega (arith, ap length parts))
no_position_in (w ∷ ws) bytes parts = messages_have_no_position bytes (ap (take 3) (parts ∙ append_assoc (written_text w) (flat_map written_text ws) []) ∙ begins w (flat_map written_text ws ++ []))

pub messages_bear_no_position : MessagesBearNoPosition
messages_bear_no_position bytes messages splits = no_position_in splits.written bytes splits.parts

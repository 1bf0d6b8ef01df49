-- What an answer to a summary tells.
use Rattle.std.proofs.Common.{◌≡◌, ◌⊎◌, ℕ, ◌≤◌, false, List, sym, ap, ◌∙◌, subst, inl, inr}
use Rattle.std.specs.Prelude.{IsTrue, Some, slice_get}
use Rattle.std.specs.List.{Contains}
use Rattle.std.proofs.lemmas.Bool.{and_from, cases_Bool, cases_lt}
use Rattle.std.proofs.lemmas.Option.{same_Some}
use Rattle.svid_replay.specs.declared.token_use.Use.{Use}
use Rattle.svid_replay.specs.Batches.{BatchData}
use Rattle.svid_replay.specs.Buckets.{differs, stale, summary_of}
use Rattle.svid_replay.specs.Parts.{cut}
use Rattle.svid_replay.specs.Sets.{holds, rising}
use Rattle.svid_replay.specs.Summary.{SummaryData}
use Rattle.svid_replay.specs.Use.{IsUse}
use Rattle.svid_check.specs.Headline.{AnswersTellAll, HasTaken, IsClash, IsWithin}
use Rattle.svid_check.specs.World.{Answered, Content, Made, Posting, Summed, Took, World, carried, happen, parts_in, start}
use Rattle.svid_check.proofs.ClashesLemmas.{stale_in, unless_clash}
use Rattle.svid_check.proofs.CutsLemmas.{cut_are_cut, first_part, in_part}
use Rattle.svid_check.proofs.EachToldLemmas.{AllTold}
use Rattle.svid_check.proofs.MembersLemmas.{IsTold}
use Rattle.svid_check.proofs.RangesLemmas.{told_are_uses}
use Rattle.svid_check.proofs.SendsLemmas.{arrived_within, carried_expired, carried_listed, told_is_held}
use Rattle.svid_check.proofs.SoundLemmas.{Given, Sound, held_within, is_sound}

summed_same : (s t : SummaryData) → Summed s ≡ Summed t → s ≡ t
summed_same s t e = cc

module _ (w : World) (v j k : ℕ) (answer summary : Posting) (parts : List BatchData) (s : SummaryData) (sound : Sound w) (fits : AllTold IsUse w)
    (at_k : slice_get w.pool k ≡ Some summary) (is_summary : summary.content ≡ Summed s) (made : Contains (w.members v).log (Made k))
    (at_j : slice_get w.pool j ≡ Some answer) (is_answer : answer.content ≡ Answered k parts) (taken : HasTaken (w.members v).log j answer) where
  answerer_told : IsTold answer.was
  answerer_told = (sound.makers j answer at_j).is_told

  gave : Given w.pool answer.was.held (Answered k parts)
  gave = subst (Given w.pool answer.was.held) is_answer (sound.pool j answer at_j)

  -- the answer was to this summary, which is of its maker's record
  answered_it : gave.0 ≡ summary_of summary.was.held
  answered_it =
      let g : s ≡ summary_of summary.was.held = subst (Given w.pool summary.was.held) is_summary (sound.pool k summary at_k) in
      let same = same_Some gave.1 summary (sym gave.2 ∙ at_k) in
      summed_same gave.0 s (sym gave.3 ∙ (ap (λ (x : Posting). x.content) same ∙ is_summary)) ∙ g

  -- what a part carries is learned
  part_told : (p : ℕ) (b : BatchData) (u : Use) → slice_get (cut answer.was.held.moment (rising (stale gave.0 answer.was.held.uses))) p ≡ Some b → IsTrue (holds (carried answer.was.told.uses b) u) → IsTrue (holds (w.members v).told.uses u)
  part_told p b u e h =
      let index = ap (λ (c : Content). slice_get (parts_in c) p) is_answer ∙ (ap (λ (ps : List BatchData). slice_get ps p) gave.4 ∙ e) in
      arrived_within w.pool j p (w.members v).told.uses answer b ((sound.members v).entries (Took j p) (taken p b index)) at_j index u h

  -- the summary's maker had been told no more
  summary_told : IsWithin summary.was.told.uses (w.members v).told.uses
  summary_told =
      let m = (sound.members v).entries (Made k) made in
      subst (λ (x : Posting). IsWithin x.was.told.uses (w.members v).told.uses) (same_Some m.posting summary (sym m.stands ∙ at_k)) m.within

  told_unless : ((u : Use) → IsTrue (holds answer.was.held.uses u) → differs (summary_of summary.was.held) answer.was.held.uses u ≡ false → IsTrue (holds summary.was.held.uses u)) → IsWithin answer.was.told.uses (w.members v).told.uses
  told_unless same u h =
      let moment = answer.was.held.moment in
      let us = rising (stale gave.0 answer.was.held.uses) in
      elim (cases_lt moment u.exp) [
        | inr ge ↦ let f = first_part moment us (cut moment us) (cut_are_cut moment us) in part_told 0 f.0 u f.1 (carried_expired answer.was.told.uses f.0 u h (subst (λ (m : ℕ). u.exp ≤ m) (sym f.2) ge))
        | inl lt ↦
            let held = told_is_held answer.was u answerer_told h lt in
            elim (cases_Bool (differs gave.0 answer.was.held.uses u)) [
              | inl d ↦
                  let i = in_part moment us (cut moment us) u (cut_are_cut moment us) (stale_in gave.0 answer.was.held.uses u ∙ and_from (holds answer.was.held.uses u) (differs gave.0 answer.was.held.uses u) held d) in
                  part_told i.0 i.1 u i.2 (carried_listed answer.was.told.uses i.1 u h i.3)
              | inr d ↦
                  summary_told u (held_within summary.was (sound.makers k summary at_k).is_told u
                  (same u held (subst (λ (x : SummaryData). differs x answer.was.held.uses u ≡ false) answered_it d)))
            ]
      ]

  pub answer_told : IsWithin answer.was.told.uses (w.members v).told.uses ⊎ IsClash summary.was.held.uses answer.was.held.uses
  answer_told =
      elim (unless_clash summary.was.held answer.was.held.uses
      (λ u h. fits.pool k summary at_k u (held_within summary.was (sound.makers k summary at_k).is_told u h))
      (λ u h. fits.pool j answer at_j u (held_within answer.was answerer_told u h))) [
        | inl clash ↦ inr clash
        | inr same ↦ inl (told_unless same)
      ]

pub answers_tell : AnswersTellAll
answers_tell group events v j k answer summary parts s ids at at_k is_summary made at_j is_answer taken =
    answer_told (happen group start events) v j k answer summary parts s (is_sound group events) (told_are_uses group events ids at) at_k is_summary made at_j is_answer taken

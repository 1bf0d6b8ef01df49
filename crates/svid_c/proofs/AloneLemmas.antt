-- Lemmas about specs/Alone.antt.
use Rattle.std.proofs.Common.{ℕ, List, Some, Result, Ok, Err, subst}
use Rattle.svid_token.specs.Rows.{Answers}
use Rattle.svid_token.specs.declared.refusal.Refusal.{Refusal}
use Rattle.svid_keys.specs.Bundles.{Bundle}
use Rattle.svid_check.specs.Said.{RefusesForm}
use Rattle.svid_check.specs.declared.accepted.Accepted.{Accepted}
use Rattle.svid_c.specs.Alone.{Judges, TellsJudgment, bad, good, judged_bad, judged_good, no_room, too_little_room, verdict_alone}
use Rattle.svid_c.specs.declared.check.SvidSetting.{SvidSetting}
use Rattle.svid_c.specs.declared.check.SvidUse.{SvidUse}
use Rattle.svid_c.specs.declared.told.SvidTold.{SvidTold}
use Rattle.svid_c.proofs.LiveLemmas.{as_form}

-- the answer is the verdict
pub verdict_told : (setting : SvidSetting) (own : List (List ℕ)) (bundles : List Bundle) (given : List (List ℕ)) (token : List ℕ) (answer : Result Accepted Refusal)
    (status : ℕ) (told : SvidTold) (old new : List ℕ) (old_use new_use : SvidUse)
    → Answers Some answer (verdict_alone setting own bundles given token) → RefusesForm token answer → TellsJudgment answer status told old new old_use new_use
    → Judges setting given token status told old new old_use new_use own bundles
verdict_told setting own bundles given token answer status told old new old_use new_use due early (no_room short number length out used) =
    too_little_room short number length out used
verdict_told setting own bundles given token answer status told old new old_use new_use due early (bad why room is number length out used) =
    let refuses : Answers Some (Err why) (verdict_alone setting own bundles given token) = subst (λ (a : Result Accepted Refusal). Answers Some a (verdict_alone setting own bundles given token)) is due in
    judged_bad why room refuses (as_form token why (subst (λ (a : Result Accepted Refusal). RefusesForm token a) is early)) number length out used
verdict_told setting own bundles given token answer status told old new old_use new_use due early (good a room is number length put used) =
    let accepts : Answers Some (Ok a) (verdict_alone setting own bundles given token) = subst (λ (b : Result Accepted Refusal). Answers Some b (verdict_alone setting own bundles given token)) is due in
    judged_good a room accepts number length put used

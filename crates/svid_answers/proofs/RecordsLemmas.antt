-- What a record knows, it knows after it was joined.
use Rattle.std.proofs.Common.{◌≡◌, ◌⊎◌, inl, inr, ℕ, ◌<◌, ◌≤◌, Bool, true, false, List, [], ◌∷◌, refl, sym, ◌∙◌, subst, arith, Ok, Err, Result, Some, ◌&&◌, nat_lt}
use Rattle.std.specs.List.{AllByRecursion}
use Rattle.std.proofs.lemmas.Bool.{and_parts, false≢true, ltb-true, or_cases, true≢false}
use Rattle.svid_token.specs.declared.refusal.Refusal.{Refusal}
use Rattle.svid_token.specs.Rows.{first_row}
use Rattle.svid_replay.specs.declared.token_use.Use.{Use}
use Rattle.svid_replay.specs.Records as records
use Rattle.svid_replay.specs.Uses.{Uses, has_use_of, no_uses}
use Rattle.svid_replay.proofs.RecordsLemmas.{moment-join}
use Rattle.svid_replay.proofs.UsesLemmas.{no_uses_hold_none}
use Rattle.svid_log.proofs.StepsLemmas.{Covers, covers_join, held_is_used}
use Rattle.svid_claims.specs.Groups.{KnownUse, is_used}
use Rattle.svid_claims.specs.Owners.{same}
use Rattle.svid_claims.proofs.RowsLemmas.{same_is}
use Rattle.svid_check.specs.Said.{Said}
use Rattle.svid_check.specs.Setting.{Setting}
use Rattle.svid_check.specs.Verdict.{acceptance, key_of, setting_rows, verdict_on}
use Rattle.svid_check.specs.declared.accepted.Accepted.{Accepted}
use Rattle.svid_check.proofs.RowsLemmas.{judged-Ok}
use Rattle.svid_check.proofs.VerdictLemmas.{lives, unused}
use Rattle.svid_member.specs.Judging.{judged_by}
use Rattle.svid_answers.specs.Records.{Knows, KnowsOf}

pub knows_join : (x b : records.State) (u : Use) → Knows x u → Knows (records.join x b) u
knows_join x b u h = out (covers_join x b no_uses u (in_one h))
  where
    in_one : Knows x u → Covers x no_uses u
    in_one (inl has) = inl (inl has)
    in_one (inr past) = inr past

    out : Covers (records.join x b) no_uses u → Knows (records.join x b) u
    out (inl (inl has)) = inl has
    out (inl (inr none)) = absurd (true≢false (sym none ∙ no_uses_hold_none u))
    out (inr past) = inr past

pub all_know_join : (x b : records.State) (uses : List KnownUse) → AllByRecursion (KnowsOf x) uses → AllByRecursion (KnowsOf (records.join x b)) uses
all_know_join x b [] all = tt
all_know_join x b (k ∷ uses) all = let d = all.0 in ((d.0, d.1, d.2, knows_join x b d.0 d.3), all_know_join x b uses all.1)

-- after a judgment too
pub all_know_judged : (adds : Bool) (x : records.State) (answer : Result Accepted Refusal) (uses : List KnownUse) → AllByRecursion (KnowsOf x) uses → AllByRecursion (KnowsOf (judged_by adds x answer)) uses
all_know_judged true x (Ok accepted) uses all = all_know_join x (records.state_of x.moment (accepted.used ∷ [])) uses all
all_know_judged true x (Err refusal) uses all = all
all_know_judged false x answer uses all = all

pub moment_judged : (adds : Bool) (x : records.State) (answer : Result Accepted Refusal) → (judged_by adds x answer).moment ≡ x.moment
moment_judged true x (Ok accepted) = moment-join x (records.state_of x.moment (accepted.used ∷ [])) ∙ omega arith
moment_judged true x (Err refusal) = refl
moment_judged false x answer = refl

-- a live use that is known is in the record
pub known_is_used : (x : records.State) (uses : List KnownUse) (key : List ℕ) (moment : ℕ) → AllByRecursion (KnowsOf x) uses → x.moment ≤ moment → is_used uses key moment ≡ true → has_use_of x.uses key ≡ true
known_is_used x [] key moment all le is = absurd (false≢true is)
known_is_used x (k ∷ uses) key moment all le is = by (or_cases (same k.key key && nat_lt moment k.exp) (is_used uses key moment) is) (λ rest. known_is_used x uses key moment all.1 le rest)
  where
    not_past : (exp other now : ℕ) → exp ≤ other → other ≤ now → now ≤ moment → moment < exp → ⊥
    not_past exp other now a b c d = omega arith

    here : (d : Use) → Knows x d → d.key ≡ key → k.exp ≤ d.exp → moment < k.exp → has_use_of x.uses key ≡ true
    here d (inl has) at later live = held_is_used x.uses d key has at
    here d (inr past) at later live = absurd (not_past k.exp d.exp x.moment later past le live)

    by : ((same k.key key && nat_lt moment k.exp) ≡ true) ⊎ (is_used uses key moment ≡ true) → (is_used uses key moment ≡ true → has_use_of x.uses key ≡ true) → has_use_of x.uses key ≡ true
    by (inl first) more = let both = and_parts (same k.key key) (nat_lt moment k.exp) first in let d = all.0 in here d.0 d.3 (d.1 ∙ same_is k.key key both.0) d.2 (ltb-true moment k.exp both.1)
    by (inr rest) more = more rest

-- what an acceptance says of the token
pub record Accepts (s : Setting) (moment : ℕ) (uses : Uses) (said : Said) (used : Use) : Type 0 where
  pub live : moment < used.exp
  pub unused : has_use_of uses used.key ≡ false
  pub key_is : used.key ≡ key_of said
  pub exp_is : used.exp ≡ said.exp

pub accepts_says : (s : Setting) (moment : ℕ) (uses : Uses) (said : Said) (accepted : Accepted) → verdict_on s moment uses said ≡ Ok (Some accepted) → Accepts s moment uses said accepted.used
unfolding verdict_on
accepts_says s moment uses said accepted is =
    let j = judged-Ok (first_row (setting_rows s moment uses said)) (Some (acceptance s moment said)) (Some accepted) is in
    let made : acceptance s moment said ≡ accepted = cc in
    subst (λ (a : Accepted). Accepts s moment uses said a.used) made (record { live = lives s moment uses said j.0; unused = unused s moment uses said j.0; key_is = refl; exp_is = refl })

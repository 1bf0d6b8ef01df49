-- The answers of a run beside those of a history: one verdict each, and the owner of the claim is that of its caller.
use Rattle.std.proofs.Common.{◌≡◌, inl, inr, ℕ, true, false, List, [], ◌∷◌, refl, sym, ap, ◌∙◌, subst, map, Option, Some, None}
use Rattle.std.specs.List.{AllByRecursion}
use Rattle.std.proofs.lemmas.Option.{none-some, same_Some}
use Rattle.svid_replay.specs.declared.token_use.Use.{Use}
use Rattle.svid_claims.specs.Groups.{Terms}
use Rattle.svid_claims.specs.Groups as claims
use Rattle.svid_claims.specs.Owners.{owner_of_caller}
use Rattle.svid_requests.specs.declared.verdict.Verdict.{Verdict}
use Rattle.svid_requests.specs.declared.verdict.Verdict.TheVariants.{Accept}
use Rattle.svid_requests.specs.declared.deed.Deed.{Deed}
use Rattle.svid_requests.specs.declared.deed.Deed.TheVariants as deed
use Rattle.svid_answers.specs.Group as group
use Rattle.svid_answers.specs.Group.{Given}
use Rattle.svid_answers.specs.Promises.{IsFounded, accepts, is_token}
use Rattle.svid_answers.specs.Runs.{HasCaller, IsAnsweredTo, Response, given_by, verdicts}
use Rattle.svid_answers.proofs.GrantsLemmas.{OnDeed, weaker_on}
use Rattle.svid_answers.proofs.GroupLemmas.{accepted_use, token_parts}

-- a use is accepted for this caller, whose claim has this owner
abbrev pub IsOwned : Terms → Option (List ℕ) → Option (List ℕ) → Use → Type 0
IsOwned t owner caller u = (c : List ℕ) × (caller ≡ Some c) × (t.strict ≡ false → owner ≡ Some (owner_of_caller c u.exp))

-- where an answer accepts a use, it is so
abbrev pub Owns : Terms → Option (List ℕ) → Option (List ℕ) → Verdict → Type 0
Owns t owner caller verdict = (u : Use) → verdict ≡ Accept u → IsOwned t owner caller u

pub record IsOf (t : Terms) (g : Given) (r : Response) : Type 0 where
  pub verdict : g.verdict ≡ r.verdict
  pub owner : Owns t g.owner r.caller g.verdict

abbrev pub AreOf : Terms → List Given → List Response → Type 0
AreOf t [] [] = Unit {0}
AreOf t (g ∷ answers) (r ∷ given) = IsOf t g r × AreOf t answers given
AreOf t [] (r ∷ given) = ⊥
AreOf t (g ∷ answers) [] = ⊥

-- a deed answers here and there
pub deed_answers : (t : Terms) (v : ℕ) (owner caller : Option (List ℕ)) (d : Deed) (answers : List Given) (given : List Response) → OnDeed (Owns t owner caller) d → AreOf t answers given → AreOf t (group.given_by v owner d answers) (given_by caller d given)
deed_answers t v owner caller deed.Nothing answers given owns all = all
deed_answers t v owner caller (deed.Judge n) answers given owns all = all
deed_answers t v owner caller (deed.Append n u) answers given owns all = all
deed_answers t v owner caller (deed.Claim n u) answers given owns all = all
deed_answers t v owner caller (deed.Answer n verdict next) answers given owns all = (record { verdict = refl; owner = owns }, all)

-- what a deed accepts was found by a claim of an owner
abbrev pub HasOwner : Option (List ℕ) → Verdict → Type 0
HasOwner owner verdict = (u : Use) → verdict ≡ Accept u → (o : List ℕ) × (owner ≡ Some o)

pub deed_founded : (t : Terms) (w : claims.World) (v : ℕ) (owner : Option (List ℕ)) (d : Deed) (answers : List Given) → AllByRecursion (IsFounded t w) (group.given_by v owner d answers)
    → OnDeed (HasOwner owner) d
deed_founded t w v owner deed.Nothing answers all = tt
deed_founded t w v owner (deed.Judge n) answers all = tt
deed_founded t w v owner (deed.Append n u) answers all = tt
deed_founded t w v owner (deed.Claim n u) answers all = tt
deed_founded t w v owner (deed.Answer n verdict next) answers all = λ u is. let f = all.0 u is in (f.answer.found.owner, f.owner_is)

-- so it is of the caller of that claim
pub claim_owns : (t : Terms) (owner claimed caller : Option (List ℕ)) (d : Deed) → ((o : List ℕ) → owner ≡ Some o → claimed ≡ Some o) → ((o : List ℕ) → claimed ≡ Some o → OnDeed (Owns t (Some o) caller) d)
    → OnDeed (HasOwner owner) d → OnDeed (Owns t owner caller) d
claim_owns t None claimed caller d is owns found = weaker_on (HasOwner None) (Owns t None caller) d (λ verdict f u accepted. let o = f u accepted in absurd (none-some o.0 o.1)) found
claim_owns t (Some o) claimed caller d is owns found = owns o (is o refl)

-- the verdicts are those of the history
pub same_verdicts : (t : Terms) (answers : List Given) (given : List Response) → AreOf t answers given → map (λ g. g.verdict) answers ≡ verdicts given
same_verdicts t [] [] all = refl
same_verdicts t (g ∷ answers) (r ∷ given) all = ap (λ (v : Verdict). v ∷ map (λ g. g.verdict) answers) all.0.verdict ∙ ap (λ (vs : List Verdict). r.verdict ∷ vs) (same_verdicts t answers given all.1)
same_verdicts t [] (r ∷ given) all = absurd all
same_verdicts t (g ∷ answers) [] all = absurd all

pub have_callers : (t : Terms) (answers : List Given) (given : List Response) → AreOf t answers given → AllByRecursion HasCaller given
have_callers t [] [] all = tt
have_callers t (g ∷ answers) (r ∷ given) all = (λ u is. let o = all.0.owner u (all.0.verdict ∙ is) in (o.0, o.1), have_callers t answers given all.1)
have_callers t [] (r ∷ given) all = absurd all
have_callers t (g ∷ answers) [] all = absurd all

-- where all claims of a token are of one owner, that is the owner of each caller who was answered 200
pub owner_of_answered : (t : Terms) (key : List ℕ) (exp : ℕ) (owner caller : List ℕ) (answers : List Given) (given : List Response) → t.strict ≡ false → AreOf t answers given
    → AllByRecursion (λ g. accepts (is_token key exp) g.verdict ≡ true → g.owner ≡ Some owner) answers → IsAnsweredTo given key exp caller → owner_of_caller caller exp ≡ owner
owner_of_answered t key exp owner caller [] [] bound all owned is = absurd is
owner_of_answered t key exp owner caller (g ∷ answers) (r ∷ given) bound all owned (inr is) = owner_of_answered t key exp owner caller answers given bound all.1 owned.1 is
owner_of_answered t key exp owner caller (g ∷ answers) (r ∷ given) bound all owned (inl is) =
    let accepted = subst (λ (v : Verdict). accepts (is_token key exp) v ≡ true) (sym all.0.verdict) is.0 in
    let d = accepted_use (is_token key exp) g.verdict accepted in
    let o = all.0.owner d.0 d.1 in
    let found : Some (owner_of_caller o.0 d.0.exp) ≡ Some owner = sym (o.2 bound) ∙ owned.0 accepted in
    ap (λ (c : List ℕ). owner_of_caller c exp) (same_Some caller o.0 (sym is.1 ∙ o.1)) ∙ ap (λ (n : ℕ). owner_of_caller o.0 n) (sym (token_parts key exp d.0 d.2).1) ∙ same_Some (owner_of_caller o.0 d.0.exp) owner found
owner_of_answered t key exp owner caller [] (r ∷ given) bound all owned is = absurd all
owner_of_answered t key exp owner caller (g ∷ answers) [] bound all owned is = absurd all

-- A validator's record stays what it has learned.
use Rattle.std.proofs.Common.{◌≡◌, ℕ, max, Bool, true, false, not, ◌&&◌, ◌||◌, nat_lt, [], ◌∷◌, refl, sym, ap, ◌∙◌, inl, inr, arith}
use Rattle.std.specs.Prelude.{Option, None, Some}
use Rattle.std.proofs.lemmas.Bool.{and_parts, false≢true, ltb-true, lt-ltb, or_left, or_right, or_cases}
use Rattle.svid_replay.specs.declared.token_use.Use.{Use}
use Rattle.svid_replay.specs.Batches.{BatchData}
use Rattle.svid_replay.specs.Records.{State, batch_state, join}
use Rattle.svid_replay.specs.Sets.{holds, union}
use Rattle.svid_replay.specs.Uses.{Uses, live, uses_in}
use Rattle.svid_replay.proofs.RecordsLemmas.{is_join}
use Rattle.svid_replay.proofs.SetsLemmas.{holds-keep}
use Rattle.svid_replay.proofs.UseLemmas.{use_exact, use_total}
use Rattle.svid_replay.proofs.UsesLemmas.{holds-live, holds-union, with_holds_one_more}
use Rattle.svid_check.specs.Headline.{IsWithin}
use Rattle.svid_check.specs.Told.{Told, record_of, tell, tell_one}
use Rattle.svid_check.specs.World.{Member, carried, gained, joined, ticked}
use Rattle.svid_check.proofs.RunsLemmas.{told_now, told_one}

-- a validator's record is what it has learned
abbrev pub IsTold : Member → Type 0
IsTold x = x.held ≡ record_of x.told

pub holds-carried : (s : Uses) (b : BatchData) (u : Use) → holds (carried s b) u ≡ ((holds (uses_in b.uses) u || not (nat_lt b.moment u.exp)) && holds s u)
unfolding carried
holds-carried s b u = holds-keep use_total use_exact (λ v. holds (uses_in b.uses) v || not (nat_lt b.moment v.exp)) s u

pub ticked_told : (x : Member) (now : ℕ) → IsTold x → IsTold (ticked x now)
ticked_told x now is = sym (told_now x.told x.held now (sym is))

pub gained_told : (x : Member) (added : Option Use) → IsTold x → IsTold (gained x added)
gained_told x (Some u) is = sym (told_one x.told (Some u) ∙ ap (λ (r : State). join r (record { moment = r.moment; uses = uses_in (u ∷ []) })) (sym is))
gained_told x None is = is

-- the uses of a batch that a sender had learned and that have not expired are learned
carried_tests : (late soon own has has_it told : Bool) → (has_it ≡ true → has ≡ true) → (late ≡ true → soon ≡ true) → (late ≡ true → own ≡ true)
    → (late && (((has_it || not own) && has) || told)) ≡ (late && (has_it || (soon && told)))
carried_tests false soon own has has_it told h k l = refl
carried_tests true true true true true told h k l = refl
carried_tests true true true true false told h k l = refl
carried_tests true true true false true told h k l = absurd (false≢true (h refl))
carried_tests true true true false false told h k l = refl
carried_tests true true false has has_it told h k l = absurd (false≢true (l refl))
carried_tests true false own has has_it told h k l = absurd (false≢true (k refl))

live_left : (m n e : ℕ) → nat_lt (max m n) e ≡ true → nat_lt m e ≡ true
live_left m n e is = lt-ltb m e (let later = ltb-true (max m n) e is in omega arith)

live_right : (m n e : ℕ) → nat_lt (max m n) e ≡ true → nat_lt n e ≡ true
live_right m n e is = lt-ltb n e (let later = ltb-true (max m n) e is in omega arith)

carried_joins : (x : Told) (s : Uses) (b : BatchData) → IsWithin (uses_in b.uses) s → record_of (tell x (record { moment = b.moment; uses = carried s b })) ≡ join (record_of x) (batch_state b)
carried_joins x s b within =
    let m = max x.greatest b.moment in
    is_join (record_of x) (batch_state b) (record_of (tell x (record { moment = b.moment; uses = carried s b }))) refl (λ u.
    holds-live (tell x (record { moment = b.moment; uses = carried s b })).uses m u
    ∙ ap (λ h. nat_lt m u.exp && h) (holds-union x.uses (carried s b) u)
    ∙ ap (λ h. nat_lt m u.exp && (h || holds x.uses u)) (holds-carried s b u)
    ∙ carried_tests (nat_lt m u.exp) (nat_lt x.greatest u.exp) (nat_lt b.moment u.exp) (holds s u) (holds (uses_in b.uses) u) (holds x.uses u)
    (within u) (live_left x.greatest b.moment u.exp) (live_right x.greatest b.moment u.exp)
    ∙ ap (λ h. nat_lt m u.exp && (holds (uses_in b.uses) u || h)) (sym (holds-live x.uses x.greatest u)))

pub joined_told : (x : Member) (s : Uses) (b : BatchData) → IsWithin (uses_in b.uses) s → IsTold x → IsTold (joined x s b)
joined_told x s b within is = ap (λ (r : State). join r (batch_state b)) is ∙ sym (carried_joins x.told s b within)

-- sets that grow
pub within_union : (s t : Uses) → IsWithin s (union s t)
within_union s t u h = holds-union s t u ∙ or_right (holds t u) (holds s u) h

pub union_within : (s t all : Uses) → IsWithin s all → IsWithin t all → IsWithin (union s t) all
union_within s t all h k u a = elim (or_cases (holds t u) (holds s u) (sym (holds-union s t u) ∙ a)) [ inl b ↦ k u b | inr b ↦ h u b ]

pub carried_within : (s : Uses) (b : BatchData) → IsWithin (carried s b) s
carried_within s b u h = (and_parts (holds (uses_in b.uses) u || not (nat_lt b.moment u.exp)) (holds s u) (sym (holds-carried s b u) ∙ h)).1

pub live_within : (s : Uses) (m : ℕ) → IsWithin (live s m) s
live_within s m u h = (and_parts (nat_lt m u.exp) (holds s u) (sym (holds-live s m u) ∙ h)).1

-- a validator that learns one use more still knows what it had learned before
pub told_before : (x : Told) (added : Option Use) → IsWithin x.uses (tell_one x added).uses
told_before x (Some v) u h = with_holds_one_more x.uses v u ∙ or_right _ (holds x.uses u) h
told_before x None u h = h

pub union_tells : (s t : Uses) → IsWithin t (union s t)
union_tells s t u h = holds-union s t u ∙ or_left (holds t u) (holds s u) h

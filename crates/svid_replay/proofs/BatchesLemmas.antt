use Rattle.std.proofs.Common.{◌≡◌, ℕ, ◌+◌, ◌<◌, ◌≤◌, List, [], ◌∷◌, ◌++◌, length, take, drop, get_or, refl, sym, subst, ◌∙◌, ap, arith, Option, None, Some, Bool, true, false, cond, not, nat_lt}
use Rattle.std.proofs.Common.{add-one, drop-cons, zero, suc}
use Rattle.std.proofs.Math.Seq.{take-suc}
use Rattle.std.proofs.lemmas.List.{length-take-le, take-append-drop}
use Rattle.std.specs.List.{AllByRecursion}
use Rattle.svid_replay.specs.declared.batch_fault.BatchFault.{BatchFault}
use Rattle.svid_replay.specs.declared.batch_fault.BatchFault.TheVariants as fault
use Rattle.svid_replay.specs.declared.token_use.Use.{Use}
use Rattle.svid_replay.specs.declared.flaw.Flaw.{Flaw}
use Rattle.svid_replay.specs.declared.flaw.Flaw.TheVariants.{Expired, Future, Order}
use Rattle.svid_replay.specs.Use.{IsUse}
use Rattle.std.proofs.lemmas.Bool.Decides.{nat_tests}
use Rattle.svid_replay.specs.Batches.{is_after, flaw, AllGood, last_of, IsBatch, IsFirstFlaw, IsBatchFault, fault_of}

-- one more good use after good ones
pub AllGood-push : (m : ℕ) (before : Option Use) (xs : List Use) (y : Use) → AllGood m before xs → flaw m (last_of before xs) y ≡ None → AllGood m before (xs ++ y ∷ [])
AllGood-push m before [] y good fine = (fine, tt)
AllGood-push m before (x ∷ xs) y good fine = (good.0, AllGood-push m (Some x) xs y good.1 fine)

pub last_of-push : (before : Option Use) (xs : List Use) (y : Use) → last_of before (xs ++ y ∷ []) ≡ Some y
last_of-push before [] y = refl
last_of-push before (x ∷ xs) y = last_of-push (Some x) xs y

-- among good uses each is good after the one before it
pub AllGood-at : (m : ℕ) (before : Option Use) (xs : List Use) (y : Use) (zs : List Use) → AllGood m before (xs ++ y ∷ zs) → flaw m (last_of before xs) y ≡ None
AllGood-at m before [] y zs good = good.0
AllGood-at m before (x ∷ xs) y zs good = AllGood-at m (Some x) xs y zs good.1

pub AllByRecursion-push : {X : Type 0} (P : X → Type 0) (xs : List X) (y : X) → AllByRecursion P xs → P y → AllByRecursion P (xs ++ y ∷ [])
AllByRecursion-push P [] y all holds = (holds, tt)
AllByRecursion-push P (x ∷ xs) y all holds = (all.0, AllByRecursion-push P xs y all.1 holds)

-- what a loop over the uses has seen before an index, and one more use
pub record HasSeen (m : ℕ) (us : List Use) (i : ℕ) (before : Option Use) : Type 0 where
  pub fields : AllByRecursion IsUse (take i us)
  pub good : AllGood m None (take i us)
  pub last : before ≡ last_of None (take i us)

pub sees_more : (m : ℕ) (us : List Use) (i : ℕ) (d : Use) (before : Option Use) → i < length us → HasSeen m us i before → flaw m before (get_or us i d) ≡ None → IsUse (get_or us i d) → HasSeen m us (i + 1) (Some (get_or us i d))
sees_more m us i d before within seen fine fits =
    let step : take (i + 1) us ≡ take i us ++ get_or us i d ∷ [] = rw (add-one i) (take-suc us i d within) in
    record {
      fields = rw step (AllByRecursion-push IsUse (take i us) (get_or us i d) seen.fields fits);
      good = rw step (AllGood-push m None (take i us) (get_or us i d) seen.good (subst (λ (o : Option Use). flaw m o (get_or us i d) ≡ None) seen.last fine));
      last = rw step (sym (last_of-push None (take i us) (get_or us i d)));
    }

pub finds_flaw : (m : ℕ) (us : List Use) (i : ℕ) (d : Use) (before : Option Use) (f : Flaw) → i < length us → HasSeen m us i before → flaw m before (get_or us i d) ≡ Some f → IsFirstFlaw m us i f
finds_flaw m us i d before f within seen found = record {
  front = take i us;
  bad = get_or us i d;
  rest = drop (suc i) us;
  parts = sym (take-append-drop i us) ∙ ap (λ r. take i us ++ r) (drop-cons us i d within);
  counted = length-take-le i us (omega arith);
  good = seen.good;
  flawed = subst (λ (o : Option Use). flaw m o (get_or us i d) ≡ Some f) seen.last found;
}

-- uses with a first flaw are no batch
pub no_batch_at_flaw : (m : ℕ) (us : List Use) (j : ℕ) (f : Flaw) → IsFirstFlaw m us j f → AllGood m None us → ⊥
no_batch_at_flaw m us j f found good =
    let fine : flaw m (last_of None found.front) found.bad ≡ None = AllGood-at m None found.front found.bad found.rest (subst (AllGood m None) found.parts good) in
    cc (found.flawed)

pub fault_of_first : (m : ℕ) (us : List Use) (j : ℕ) (f : Flaw) → length us ≤ 65536 → IsFirstFlaw m us j f → IsBatchFault m us (fault_of f j)
fault_of_first m us j Expired few found = (few, found)
fault_of_first m us j Future few found = (few, found)
fault_of_first m us j Order few found = (few, found)

-- a refused list of uses is no batch
pub no_batch_at_fault : (m : ℕ) (us : List Use) (f : BatchFault) → IsBatchFault m us f → IsBatch (record { moment = m; uses = us }) → ⊥
no_batch_at_fault m us fault.TooMany many b = let few : length us ≤ 65536 = b.few in omega arith
no_batch_at_fault m us (fault.Expired j) found b = no_batch_at_flaw m us j Expired found.1 b.good
no_batch_at_fault m us (fault.Future j) found b = no_batch_at_flaw m us j Future found.1 b.good
no_batch_at_fault m us (fault.Order j) found b = no_batch_at_flaw m us j Order found.1 b.good

no_flaw_made : (live future after : Bool) → cond live (Some Expired) (cond future (Some Future) (cond after None (Some Order))) ≡ None → future ≡ false
no_flaw_made true future after e = cc
no_flaw_made false true after e = cc
no_flaw_made false false after e = refl

-- good uses were made by the moment
pub made_at : (m : ℕ) (before : Option Use) (us : List Use) (i : ℕ) (d : Use) → AllGood m before us → i < length us → (get_or us i d).at ≤ m
unfolding flaw
made_at m before [] i d good within = absurd (omega arith)
made_at m before (u ∷ us) zero d good within =
    let test : nat_lt m u.at ≡ false = no_flaw_made (not (nat_lt m u.exp)) (nat_lt m u.at) (is_after before u) good.0 in
    grind (arith, nat_tests)
made_at m before (u ∷ us) (suc i) d good within = made_at m (Some u) us i d good.1 (omega arith)

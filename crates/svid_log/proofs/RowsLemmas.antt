-- Many uses are read one after the other.
use Rattle.std.proofs.Common.{◌≡◌, ◌⊎◌, inl, inr, ℕ, Bool, zero, suc, ◌+◌, ◌<◌, ◌≤◌, List, [], ◌∷◌, ◌++◌, length, take, drop, get_or, min, slice_set, refl, sym, ap, ◌∙◌, subst, arith}
use Rattle.std.specs.Prelude.{Option, slice_get}
use Rattle.std.proofs.lemmas.List.{length-set, take_more}
use Rattle.std.proofs.lemmas.Option.{slice_get-get_or}
use Rattle.std.proofs.Math.Seq.{take-length}
use Rattle.svid_replay.specs.declared.token_use.Use.{Use}
use Rattle.svid_replay.specs.Records.{State}
use Rattle.svid_replay.specs.Uses.{Uses, live}
use Rattle.svid_log.specs.declared.fate.Fate.{Fate}
use Rattle.svid_log.specs.declared.rows.Standing.{Standing}
use Rattle.svid_log.specs.Members.{IsRefused, Ledger, accepts, after_all, after_one, answer_at, fates_of}
use Rattle.svid_log.specs.Steps.{beside_after, decided, fate_at, held_after, reached}

pub after_all-push : (now far : ℕ) (l : Ledger) (cs : List Use) (c : Use) → after_all now far l (cs ++ c ∷ []) ≡ after_one now far (after_all now far l cs) c
after_all-push now far l [] c = refl
after_all-push now far l (d ∷ cs) c = after_all-push now far (after_one now far l d) cs c

pub fates_of-push : (s : Standing) (now far : ℕ) (l : Ledger) (cs : List Use) (c : Use)
    → fates_of s now far l (cs ++ c ∷ []) ≡ fates_of s now far l cs ++ answer_at s now far (after_all now far l cs) c ∷ []
fates_of-push s now far l [] c = refl
fates_of-push s now far l (d ∷ cs) c = ap (λ (fates : List Fate). answer_at s now far l d ∷ fates) (fates_of-push s now far (after_one now far l d) cs c)

fates_of-length : (s : Standing) (now far : ℕ) (l : Ledger) (cs : List Use) → length (fates_of s now far l cs) ≡ length cs
fates_of-length s now far l [] = refl
fates_of-length s now far l (d ∷ cs) = let rest = fates_of-length s now far (after_one now far l d) cs in omega arith

-- one more entry is written after the first ones of a row
set_next : {A : Type 0} (front room : List A) (x : A) → length front < length room → slice_set (front ++ drop (length front) room) (length front) x ≡ (front ++ x ∷ []) ++ drop (suc (length front)) room
set_next [] [] x lt = absurd (omega arith)
set_next [] (y ∷ room) x lt = refl
set_next (z ∷ front) [] x lt = absurd (omega arith)
set_next (z ∷ front) (y ∷ room) x lt = ap (λ xs. z ∷ xs) (set_next front room x (omega arith))

-- so many of the uses were read, and these are their fates
pub record IsReadTo (s : Standing) (now far : ℕ) (l m : Ledger) (cs : List Use) (room written : List Fate) (i : ℕ) : Type 0 where
  pub at : m ≡ after_all now far l (take i cs)
  pub fates : written ≡ fates_of s now far l (take i cs) ++ drop i room
  pub fits : i ≤ length room

pub read_none : (s : Standing) (now far : ℕ) (l : Ledger) (cs : List Use) (room : List Fate) → IsReadTo s now far l l cs room room 0
read_none s now far l cs room = record { at = refl; fates = refl; fits = omega arith }

take_len : {A : Type 0} (xs : List A) (i : ℕ) → i ≤ length xs → length (take i xs) ≡ i
take_len xs zero le = refl
take_len [] (suc i) le = absurd (omega arith)
take_len (x ∷ xs) (suc i) le = let rest = take_len xs i (omega arith) in omega arith

pub read_more : (s : Standing) (now far : ℕ) (l m : Ledger) (held : State) (beside : Uses) (cs : List Use) (room written more : List Fate) (i : ℕ) (d : Use) (fate : Fate) (ok : Bool) (moment : ℕ)
    → i < length cs → i < length written → IsReadTo s now far l m cs room written i → more ≡ slice_set written i (decided fate ok)
    → ok ≡ accepts s moment (get_or cs i d) → moment ≡ held.moment
    → fate ≡ fate_at m.held m.beside now far (get_or cs i d) → held ≡ held_after m.held m.beside now far (get_or cs i d) → beside ≡ beside_after m.held m.beside now far (get_or cs i d)
    → IsReadTo s now far l (record { held = held; beside = beside }) cs room more (i + 1)
read_more s now far l m held beside cs room written more i d fate ok moment lt fits r is_set is_ok is_moment is_fate is_held is_beside =
    let c = get_or cs i d in
    let answered : decided fate ok ≡ answer_at s now far m c =
    ap (λ f. decided f ok) is_fate ∙ ap (λ b. decided (fate_at m.held m.beside now far c) b) (is_ok ∙ ap (λ n. accepts s n c) is_moment ∙ ap (λ (h : State). accepts s h.moment c) is_held) in
    let front = fates_of s now far l (take i cs) in
    let long : length front ≡ i = fates_of-length s now far l (take i cs) ∙ take_len cs i (below i (length cs) lt) in
    let roomy : i < length room = in_room front room written i long r.fates fits r.fits in
    record {
      at = ap (λ h. record { held = h; beside = beside }) is_held ∙ ap (λ t. record { held = held_after m.held m.beside now far c; beside = t }) is_beside
          ∙ ap (λ (k : Ledger). after_one now far k c) r.at ∙ sym (after_all-push now far l (take i cs) c) ∙ ap (after_all now far l) (sym (take_more cs i d lt));
      fates = is_set ∙ ap (λ xs. slice_set xs i (decided fate ok)) r.fates
          ∙ subst (λ n. slice_set (front ++ drop n room) n (decided fate ok) ≡ (front ++ decided fate ok ∷ []) ++ drop (suc n) room) long (set_next front room (decided fate ok) (subst (λ n. n < length room) (sym long) roomy))
          ∙ ap (λ n. (front ++ decided fate ok ∷ []) ++ drop n room) (up i)
          ∙ ap (λ f. (front ++ f ∷ []) ++ drop (i + 1) room) (answered ∙ ap (λ (k : Ledger). answer_at s now far k c) r.at)
          ∙ ap (λ fs. fs ++ drop (i + 1) room) (sym (fates_of-push s now far l (take i cs) c) ∙ ap (fates_of s now far l) (sym (take_more cs i d lt)));
      fits = one_more i (length room) roomy;
    }
  where
    below : (j n : ℕ) → j < n → j ≤ n
    below j n h = omega arith

    up : (j : ℕ) → suc j ≡ j + 1
    up j = omega arith

    one_more : (j n : ℕ) → j < n → j + 1 ≤ n
    one_more j n h = omega arith

    joined : {A : Type 0} (xs ys : List A) → length (xs ++ ys) ≡ length xs + length ys
    joined [] ys = none (length ys)
      where
        none : (n : ℕ) → n ≡ 0 + n
        none n = omega arith
    joined (x ∷ xs) ys = let rest = joined xs ys in omega arith

    dropped : {A : Type 0} (n : ℕ) (xs : List A) → n ≤ length xs → n + length (drop n xs) ≡ length xs
    dropped zero xs le = none (length xs)
      where
        none : (j : ℕ) → 0 + j ≡ j
        none j = omega arith
    dropped (suc n) [] le = absurd (omega arith)
    dropped (suc n) (x ∷ xs) le = let rest = dropped n xs (omega arith) in omega arith

    in_room : (front rm wr : List Fate) (j : ℕ) → length front ≡ j → wr ≡ front ++ drop j rm → j < length wr → j ≤ length rm → j < length rm
    in_room front rm wr j e is h le =
        let a = ap length is ∙ joined front (drop j rm) in
        let b = dropped j rm le in
        omega arith

pub read_refused : (s : Standing) (now far : ℕ) (l m : Ledger) (held : State) (beside : Uses) (cs : List Use) (room written : List Fate) (i : ℕ) (d : Use)
    → i < length cs → IsReadTo s now far l m cs room written i → held ≡ reached m.held now far (get_or cs i d) → beside ≡ live m.beside (reached m.held now far (get_or cs i d)).moment
    → IsRefused now far (after_all now far l (take i cs)) (slice_get cs i) (record { held = held; beside = beside })
read_refused s now far l m held beside cs room written i d lt r is_held is_beside =
    let c = get_or cs i d in
    subst (λ (o : Option Use). IsRefused now far (after_all now far l (take i cs)) o (record { held = held; beside = beside })) (sym (slice_get-get_or cs i d lt))
    (subst (λ (k : Ledger). (held ≡ reached k.held now far c) × (beside ≡ live k.beside (reached k.held now far c).moment)) r.at (is_held, is_beside))

-- Lemmas about specs/First.antt.
use Rattle.std.proofs.Common.{◌≡◌, ◌⊎◌, ℕ, ◌+◌, List, [], ◌∷◌, ◌++◌, length, All, inl, inr, refl, ap, sym, subst, arith}
use Rattle.std.proofs.lemmas.List.Elements.{All-cons, All-head, All-nil, All-tail}
use Rattle.svid_keys.specs.First.{IsFirstBad}

-- a bad thing at the head is the first
pub first_here : {X : Type 0} (Good Bad : X → Type 0) (x : X) (row : List X) → Bad x → IsFirstBad Good Bad (x ∷ row) 0
first_here Good Bad x row is_bad =
    record { before = []; one = x; after = row; whole = refl; counted = refl; good = All-nil Good; bad = is_bad }

-- a good thing at the head is passed over
pub first_later : {X : Type 0} (Good Bad : X → Type 0) (x : X) (row : List X) (index : ℕ) → Good x → IsFirstBad Good Bad row index
    → IsFirstBad Good Bad (x ∷ row) (index + 1)
first_later Good Bad x row index is_good is = record {
  before = x ∷ is.before;
  one = is.one;
  after = is.after;
  whole = ap (λ more. x ∷ more) is.whole;
  counted = omega (arith, is.counted);
  good = All-cons Good x is.before is_good is.good;
  bad = is.bad;
}

by_head : {X : Type 0} (Good Bad : X → Type 0) (x : X) (row : List X) (index : ℕ) (before : List X) (one : X) (after : List X)
    → x ∷ row ≡ before ++ one ∷ after → length before ≡ index → All Good before → Bad one
    → ((index ≡ 0) × Bad x) ⊎ ((next : ℕ) × (index ≡ next + 1) × Good x × IsFirstBad Good Bad row next)
by_head Good Bad x row index [] one after whole counted good bad =
    let is : one ≡ x = cc in
    inl (sym counted, subst Bad is bad)
by_head Good Bad x row index (y ∷ before) one after whole counted good bad =
    let is : y ≡ x = cc in
    let rest : row ≡ before ++ one ∷ after = cc in
    inr (
      length before,
      omega (arith, counted),
      subst Good is (All-head Good y before good),
      record {
        before = before;
        one = one;
        after = after;
        whole = rest;
        counted = refl;
        good = All-tail Good y before good;
        bad = bad;
      },
    )

-- the first bad thing is at the head, or behind a good head
pub first_or_later : {X : Type 0} (Good Bad : X → Type 0) (x : X) (row : List X) (index : ℕ) → IsFirstBad Good Bad (x ∷ row) index
    → ((index ≡ 0) × Bad x) ⊎ ((next : ℕ) × (index ≡ next + 1) × Good x × IsFirstBad Good Bad row next)
first_or_later Good Bad x row index is = by_head Good Bad x row index is.before is.one is.after is.whole is.counted is.good is.bad

none_in : {X : Type 0} (before : List X) (one : X) (after : List X) → [] ≡ before ++ one ∷ after → ⊥
none_in [] one after whole = cc
none_in (x ∷ before) one after whole = cc

-- a row of nothing has none
pub none_first : {X : Type 0} (Good Bad : X → Type 0) (index : ℕ) → IsFirstBad Good Bad [] index → ⊥
none_first Good Bad index is = none_in is.before is.one is.after is.whole

use Rattle.std.proofs.Common.{◌≡◌, ℕ, ◌+◌, ◌≤◌, Bool, true, false, List, [], ◌∷◌, ◌++◌, length, length-append, ap, arith}
use Rattle.std.specs.List.{filter}
use Rattle.svid_replay.specs.declared.token_use.Use.{Use}
use Rattle.svid_replay.proofs.ListLemmas.{filter-in, filter-out}

-- how many of some uses pass a test, while those that fail are taken off
-- the count is that of those that passed, and of all that follow
pub record HasCounted (test : Use → Bool) (all front : List Use) (counted : ℕ) : Type 0 where
  pub value : counted + length front ≡ length all + length (filter test front)

pub counts_in : (test : Use → Bool) (all front : List Use) (u : Use) (counted : ℕ) → HasCounted test all front counted → test u ≡ true → HasCounted test all (front ++ u ∷ []) counted
counts_in test all front u counted so_far passes = record {
  value = omega (arith, so_far.value, length-append front (u ∷ []), ap length (filter-in test front u passes), length-append (filter test front) (u ∷ []));
}

pub counts_out : (test : Use → Bool) (all front : List Use) (u : Use) (counted less : ℕ) → HasCounted test all front counted → test u ≡ false → less + 1 ≡ counted → HasCounted test all (front ++ u ∷ []) less
counts_out test all front u counted less so_far fails one = record {
  value = omega (arith, one, so_far.value, length-append front (u ∷ []), ap length (filter-out test front u fails));
}

-- there is one to take off
pub counts_some : (test : Use → Bool) (all front rest : List Use) (u : Use) (counted : ℕ) → HasCounted test all front counted → all ≡ front ++ u ∷ rest → 1 ≤ counted
counts_some test all front rest u counted so_far parts = omega (arith, so_far.value, ap length parts, length-append front (u ∷ rest))

pub counts_all : (test : Use → Bool) (all front : List Use) (counted : ℕ) → HasCounted test all front counted → all ≡ front → counted ≡ length (filter test all)
counts_all test all front counted so_far is = omega (arith, so_far.value, ap length is, ap (λ us. length (filter test us)) is)

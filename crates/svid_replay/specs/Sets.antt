use Rattle.std.specs.Prelude.{Bool, List, [], ◌∷◌}
use Rattle.std.specs.FinMap as finmap
use Rattle.std.specs.declared.cmp.Ordering.{Ordering}

-- a finite set of things in the order R
abbrev pub Set : {K : Type 0} → (K → K → Ordering) → Type 0
Set R = finmap.FinMap R (Unit {0})

-- the set of nothing
unfoldable pub empty : {K : Type 0} (R : K → K → Ordering) → Set R
empty R = finmap.empty {R = R}

-- the set with one more thing
unfoldable pub with : {K : Type 0} {R : K → K → Ordering} → Set R → K → Set R
with s k = finmap.insert s k tt

-- the things of the set that pass a test
unfoldable pub keep : {K : Type 0} {R : K → K → Ordering} → (K → Bool) → Set R → Set R
keep test s = finmap.retain_keys s test

-- whether the set has a thing
unfoldable pub holds : {K : Type 0} {R : K → K → Ordering} → Set R → K → Bool
holds s k = finmap.contains_key s k

-- the things of the set, rising
unfoldable pub rising : {K : Type 0} {R : K → K → Ordering} → Set R → List K
rising s = finmap.keys s

-- the set with the things of a list
abbrev pub with_all : {K : Type 0} {R : K → K → Ordering} → Set R → List K → Set R
with_all s [] = s
with_all s (k ∷ ks) = with_all (with s k) ks

-- the set of a list's things
abbrev pub set_of : {K : Type 0} (R : K → K → Ordering) → List K → Set R
set_of R ks = with_all (empty R) ks

-- the things of either set
abbrev pub union : {K : Type 0} {R : K → K → Ordering} → Set R → Set R → Set R
union s t = with_all s (rising t)

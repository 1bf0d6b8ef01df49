-- Which of the things in a row is the first bad one.
use Rattle.std.specs.Prelude.{◌≡◌, ℕ, List, ◌∷◌, ◌++◌, length, All}

-- the thing that stands behind this many others is bad, and they are good
pub record IsFirstBad {X : Type 0} (Good Bad : X → Type 0) (row : List X) (index : ℕ) : Type 0 where
  pub before : List X
  pub one : X
  pub after : List X
  pub whole : row ≡ before ++ one ∷ after
  pub counted : length before ≡ index
  pub good : All Good before
  pub bad : Bad one

-- Which SPIFFE IDs a pattern allows.
use Rattle.std.specs.Prelude.{◌≡◌, ℕ, ◌<◌, Bool, not, ◌==◌, List, ◌∷◌, ◌++◌, length}
use Rattle.std.specs.List.{All}
use Rattle.svid_id.specs.Id.{IdParts}
use Rattle.svid_id.specs.Path.{IsSegment, slashed}
use Rattle.svid_allow.specs.Pattern.{PatternParts}
use Rattle.svid_allow.specs.declared.reach.Reach.{Reach}
use Rattle.svid_allow.specs.declared.reach.Reach.TheVariants.{Alone, Below, Domain}

-- a path is below another one: its segments begin with those of the other, and there is at least one more
pub record IsBelow (above path : List ℕ) : Type 0 where
  pub first : List (List ℕ)
  pub more : List (List ℕ)
  pub above_is : above ≡ slashed first
  pub path_is : path ≡ slashed (first ++ more)
  pub segments : All IsSegment (first ++ more)
  pub some : 0 < length more

-- an ID is allowed by a pattern that reaches so far from another ID
abbrev pub AllowsFrom : Reach → IdParts → IdParts → Type 0
AllowsFrom Alone one id = id ≡ one
AllowsFrom Below above id = (id.domain ≡ above.domain) × IsBelow above.path id.path
AllowsFrom Domain any id = id.domain ≡ any.domain

-- a pattern allows an ID
abbrev pub Allows : PatternParts → IdParts → Type 0
Allows pattern id = AllowsFrom pattern.reach pattern.id id

-- the pattern of an ID alone, and that of the IDs below it
abbrev pub alone : IdParts → PatternParts
alone id = record { id = id; reach = Alone }

abbrev pub below : IdParts → PatternParts
below id = record { id = id; reach = Below }

-- the ID whose path has one segment more
abbrev pub child : IdParts → List ℕ → IdParts
child id segment = record { domain = id.domain; path = id.path ++ 47 ∷ segment }

-- not '*' (42)
abbrev pub is_no_star : ℕ → Bool
is_no_star b = not (b == 42)

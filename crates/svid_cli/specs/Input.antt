-- The first byte of an input.
use Rattle.std.specs.Prelude.{ℕ, List, Option, None, Some}
use Rattle.std.specs.List.{slice_get}

-- the first byte of an input after these bytes came, by the first byte before them
abbrev pub first_after : Option ℕ → List ℕ → Option ℕ
first_after (Some byte) piece = Some byte
first_after None piece = slice_get piece 0

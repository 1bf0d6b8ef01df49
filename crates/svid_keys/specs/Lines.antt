-- The lines of an input.
use Rattle.std.specs.Prelude.{◌≡◌, ◌≢◌, ◌⊎◌, ℕ, ◌==◌, All, if◌then◌else◌, List, [], ◌∷◌, ◌++◌, map, Option, Some, None}
use Rattle.std.specs.Borrow.{Bor}
use Rattle.std.specs.List.{slice_split}
use Rattle.svid_keys.specs.declared.lines.Lines.{Lines}

-- the byte that ends a line
abbrev pub line_feed : ℕ
line_feed = 10

-- the byte that may stand right before it
abbrev pub carriage_return : ℕ
carriage_return = 13

-- bytes in which no line feed stands
abbrev pub HasNoFeed : List ℕ → Type 0
HasNoFeed = All (λ b. b ≢ line_feed)

-- a line without one carriage return at its end
abbrev pub without_return : List ℕ → List ℕ
without_return [] = []
without_return (b ∷ []) = if b == carriage_return then [] else b ∷ []
without_return (a ∷ b ∷ bytes) = a ∷ without_return (b ∷ bytes)

-- the pieces of a text, cut at each line feed
abbrev pub pieces_of : List ℕ → List (List ℕ)
pieces_of text = slice_split (λ b. b == line_feed) text

-- the lines of a text: its pieces, each without one carriage return at its end
abbrev pub lines_of : List ℕ → List (List ℕ)
lines_of text = map without_return (pieces_of text)

-- a piece is this line, or this line and one carriage return
abbrev pub IsPieceOf : List ℕ → List ℕ → Type 0
IsPieceOf line piece = (piece ≡ line) ⊎ (piece ≡ line ++ carriage_return ∷ [])

-- the lines of the rest of a text, none after its end
abbrev pub lines_of_rest : Option (Bor (List ℕ)) → List (List ℕ)
lines_of_rest None = []
lines_of_rest (Some rest) = lines_of rest.now

-- the lines that an iterator has still to give
abbrev pub lines_left : Lines → List (List ℕ)
lines_left lines = lines_of_rest lines.rest

-- The audiences of a validator, as C gives them: in lines, or one after the other with their lengths.
use Rattle.std.specs.Prelude.{◌≡◌, ◌≢◌, ℕ, All, IsUtf8, nat_lt, filter, List, ◌∷◌, ◌++◌, length, map}
use Rattle.std.specs.List.{Contains, concat, sum}
use Rattle.svid_keys.specs.Lines.{lines_of}
use Rattle.svid_c.specs.Status.{told_length}
use Rattle.svid_c.specs.declared.own_fault.OwnFault.{OwnFault}
use Rattle.svid_c.specs.declared.own_fault.OwnFault.TheVariants as own
use Rattle.svid_c.specs.declared.told.SvidTold.{SvidTold}

-- why audiences are refused
abbrev pub own_number : OwnFault → ℕ
own_number own.NotUtf8 = 35
own_number own.Lengths = 36
own_number own.OutOfMemory = 2

-- why a text is no audience: it is not UTF-8, or memory was refused
abbrev pub IsTextFault : List ℕ → OwnFault → Type 0
IsTextFault text own.NotUtf8 = ¬ IsUtf8 text
IsTextFault text own.Lengths = ⊥
IsTextFault text own.OutOfMemory = Unit {0}

-- the lines that are not empty
abbrev pub full_lines : List (List ℕ) → List (List ℕ)
full_lines lines = filter (λ line. nat_lt 0 (length line)) lines

-- the audiences that a text has in lines
abbrev pub names_of : List ℕ → List (List ℕ)
names_of text = full_lines (lines_of text)

-- these are the audiences that a text has in lines: the lines that are not empty, and each is UTF-8
pub record AreLines (text : List ℕ) (names : List (List ℕ)) : Type 0 where
  pub good : All IsUtf8 (lines_of text)
  pub are : names ≡ names_of text

-- a line is not UTF-8; or memory was refused
abbrev pub IsLineFault : List ℕ → OwnFault → Type 0
IsLineFault text own.NotUtf8 = (line : List ℕ) × Contains (lines_of text) line × ¬ IsUtf8 line
IsLineFault text own.Lengths = ⊥
IsLineFault text own.OutOfMemory = Unit {0}

-- these are the audiences that a text has one after the other, with these lengths, and each is UTF-8
pub record AreCut (text lens : List ℕ) (names : List (List ℕ)) : Type 0 where
  pub good : All IsUtf8 names
  pub whole : concat names ≡ text
  pub lengths : map length names ≡ lens

-- a text has this piece: it has one of the lengths, and stands behind as many bytes as the lengths before that add up to
pub record IsPiece (text lens piece : List ℕ) : Type 0 where
  pub before : List ℕ
  pub behind : List ℕ
  pub sooner : List ℕ
  pub later : List ℕ
  pub parts : text ≡ before ++ piece ++ behind
  pub lengths : lens ≡ sooner ++ length piece ∷ later
  pub offset : length before ≡ sum sooner

-- the lengths do not add up to that of the text; or they do, and a piece is not UTF-8; or memory was refused
abbrev pub IsCutFault : List ℕ → List ℕ → OwnFault → Type 0
IsCutFault text lens own.NotUtf8 = (sum lens ≡ length text) × ((piece : List ℕ) × IsPiece text lens piece × ¬ IsUtf8 piece)
IsCutFault text lens own.Lengths = sum lens ≢ length text
IsCutFault text lens own.OutOfMemory = Unit {0}

-- A call that first reads the audiences of the validator: they are refused, the answer says so, and all else is unchanged; or
-- these are they, and the call acts on them.
pub data Named (AreOwn : List (List ℕ) → Type 0) (IsOwnFault : OwnFault → Type 0) (IsAsBefore : Type 0) (Does : List (List ℕ) → Type 0) (status : ℕ) (told : SvidTold) : Type 0 where
  unnamed : (given : OwnFault) → IsOwnFault given → status ≡ own_number given → told ≡ told_length 0 → IsAsBefore → Named AreOwn IsOwnFault IsAsBefore Does status told
  named : (names : List (List ℕ)) → AreOwn names → Does names → Named AreOwn IsOwnFault IsAsBefore Does status told

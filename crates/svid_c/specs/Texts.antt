-- What the statuses of the C library are called, and what they say.
use Rattle.std.specs.Prelude.{ℕ, List, [], ◌∷◌, ◌++◌, codes, ◌==◌, if◌then◌else◌, length}
use Rattle.svid_c.specs.Statuses.{Texts, statuses}
use Rattle.svid_c.specs.declared.told.SvidTold.{SvidTold}
use Rattle.svid_c.specs.declared.words.Words.{Words}

-- the texts of a number that no status has
abbrev pub nothing : Texts
nothing = record { name = codes "SVID_?"; says = codes "No status has this number."; advice = [] }

-- what stands beside a number, first in a table, or else `none`
unfoldable pub row_in : {X : Type 0} → ℕ → X → List (ℕ × X) → X
row_in number none [] = none
row_in number none (row ∷ rows) = if row.0 == number then row.1 else row_in number none rows

-- the texts of the status that has this number
unfoldable pub texts_of : ℕ → Texts
texts_of number = row_in number nothing statuses

-- advice as it stands after a sentence: behind a space
abbrev pub after_space : List ℕ → List ℕ
after_space [] = []
after_space (c ∷ cs) = 32 ∷ c ∷ cs

-- what a status says, and what to do
abbrev pub sentence : Texts → List ℕ
sentence texts = texts.says ++ after_space texts.advice

-- the answer about a sentence that was written, or has no room: its length, and how much of it is not advice
abbrev pub told_sentence : Texts → SvidTold
told_sentence texts = record { len = length (sentence texts); input = 0; message = 0; offset = 0; more = length texts.says }

-- texts as the code has them: a name, a sentence, and the length of its first part
pub record Shown : Type 0 where
  pub name : List ℕ
  pub sentence : List ℕ
  pub says_len : ℕ

-- those of the definition
abbrev pub shown : Texts → Shown
shown texts = record { name = texts.name; sentence = sentence texts; says_len = length texts.says }

-- those of the code
abbrev pub seen : Words → Shown
seen words = record { name = words.name.now; sentence = words.sentence.now; says_len = words.says_len }

-- those of the definition beside their number
abbrev pub shown_row : ℕ × Texts → ℕ × Shown
shown_row row = (row.0, shown row.1)

-- those of the code beside their number
abbrev pub seen_row : ℕ × Words → ℕ × Shown
seen_row row = (row.0, seen row.1)

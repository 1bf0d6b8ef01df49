-- Tables of questions to which the answer is yes.
use Rattle.std.specs.Prelude.{◌≡◌, ℕ, ◌+◌, ◌==◌, ◌||◌, Bool, IsFalse, IsTrue, if◌then◌else◌, is_some, List, [], ◌∷◌, length, bytes_eq, filter_map, Option, Some, None}
use Rattle.std.specs.List.{list_any}
use Rattle.std.specs.Result.{result_ok}
use Rattle.hex.specs.Hex.{decode_sized}
use Rattle.svid_token.specs.declared.alg.Alg.{Alg}
use Rattle.svid_keys.specs.First.{IsFirstBad}
use Rattle.svid_keys.specs.Key.{KeyData}
use Rattle.svid_keys.specs.Lines.{lines_of}
use Rattle.svid_keys.specs.Question.{question_of}
use Rattle.svid_keys.specs.declared.table_fault.TableFault.{TableFault}
use Rattle.svid_keys.specs.declared.table_fault.TableFault.TheVariants.{Line, OutOfMemory}

-- the question that a line is: 64 hexadecimal digits of either case
abbrev pub question_in : List ℕ → Option (List ℕ)
question_in line = result_ok (decode_sized line 32)

-- a question is one of these
abbrev pub is_among : List ℕ → List (List ℕ) → Bool
is_among question questions = list_any (bytes_eq question) questions

-- a line of a table is empty or a question
abbrev pub is_table_line : List ℕ → Bool
is_table_line line = length line == 0 || is_some (question_in line)

-- the first line that is neither, where the first has this number
abbrev pub lines_fault : ℕ → List (List ℕ) → Option TableFault
lines_fault number [] = None
lines_fault number (line ∷ lines) = if is_table_line line then lines_fault (number + 1) lines else Some (Line number)

-- the fault of a text as a table; its lines count from 1
unfoldable pub table_fault : List ℕ → Option TableFault
table_fault text = lines_fault 1 (lines_of text)

-- the lines before the one of this number are empty or questions, and that one is neither; lines count from 1
abbrev pub IsFirstTableFault : List ℕ → TableFault → Type 0
IsFirstTableFault text (Line number) = (before : ℕ) × (number ≡ before + 1)
    × IsFirstBad (λ line. IsTrue (is_table_line line)) (λ line. IsFalse (is_table_line line)) (lines_of text) before
IsFirstTableFault text OutOfMemory = ⊥

-- the questions of a table
unfoldable pub questions_in : List ℕ → List (List ℕ)
questions_in text = filter_map question_in (lines_of text)

-- a refusal is the fault that was found, if memory did not run out
abbrev pub IsTableRefusal : Option TableFault → TableFault → Type 0
IsTableRefusal found (Line number) = found ≡ Some (Line number)
IsTableRefusal found OutOfMemory = Unit {0}

-- a table says yes to the questions in it
abbrev pub table_says : List (List ℕ) → KeyData → Alg → List ℕ → List ℕ → Bool
table_says questions key alg input signature = is_among (question_of key alg input signature) questions

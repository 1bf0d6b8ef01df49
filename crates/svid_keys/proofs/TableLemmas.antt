-- Which questions a set holds, and how many lines a text has.
use Rattle.std.proofs.Common.{◌≡◌, ℕ, suc, ◌+◌, ◌≤◌, ◌==◌, ◌||◌, Bool, true, false, List, [], ◌∷◌, length, map, bytes_eq, filter_map, cond, if◌then◌else◌, IsFalse, IsTrue, Option, Some, None, option_to_list, inl, inr, refl, ap, sym, ◌∙◌, arith}
use Rattle.std.proofs.lemmas.List.Sums.{count_by-le-length}
use Rattle.std.proofs.lemmas.List.Splits.{length-slice_split}
use Rattle.std.proofs.lemmas.Map.Text.{is_eq-slice_cmp}
use Rattle.std.specs.declared.cmp.Ordering.{Ordering}
use Rattle.std.specs.declared.cmp.Ordering.TheVariants.{Less, Equal, Greater}
use Rattle.std.specs.BTreeMap.{is_at}
use Rattle.std.specs.Cmp.Lexicographic.{nat_list_cmp_total, slice_cmp}
use Rattle.std.specs.List.{cons_option, list_any}
use Rattle.std.specs.Ordering.{is_eq, nat_cmp, ordering_reverse}
use Rattle.svid_keys.specs.Lines.{line_feed, lines_of, pieces_of, without_return}
use Rattle.svid_keys.specs.Table.{IsFirstTableFault, IsTableRefusal, is_among, is_table_line, lines_fault, question_in, questions_in, table_fault}
use Rattle.svid_keys.specs.declared.table_fault.TableFault.{TableFault}
use Rattle.svid_keys.specs.declared.table_fault.TableFault.TheVariants.{Line, OutOfMemory}
use Rattle.svid_keys.specs.First.{IsFirstBad}
use Rattle.svid_keys.proofs.FirstLemmas.{first_here, first_later, first_or_later, none_first}

-- the order of a set tells its questions as their bytes do
pub is_among_keys : (question : List ℕ) (keys : List (List ℕ)) → list_any (is_at (slice_cmp nat_cmp question)) keys ≡ is_among question keys
is_among_keys question [] = refl
is_among_keys question (key ∷ keys) = rw (is_eq-slice_cmp question key, is_among_keys question keys) refl

same_reversed : (o : Ordering) → is_eq (ordering_reverse o) ≡ is_eq o
same_reversed Less = refl
same_reversed Equal = refl
same_reversed Greater = refl

-- the order tells two questions from either side
pub same_question : (a b : List ℕ) → is_at (slice_cmp nat_cmp a) b ≡ bytes_eq b a
same_question a b = ap is_eq (nat_list_cmp_total.antisymm a b) ∙ same_reversed (slice_cmp nat_cmp b a) ∙ is_eq-slice_cmp b a

either : (new old here : Bool) → new ≡ cond here true old → new ≡ (old || here)
either new true true e = e
either new true false e = e
either new false true e = e
either new false false e = e

-- a set has one question more
pub is_among_inserted : (question key : List ℕ) (old new : List (List ℕ))
    → list_any (is_at (slice_cmp nat_cmp question)) new ≡ cond (is_at (slice_cmp nat_cmp key) question) true (list_any (is_at (slice_cmp nat_cmp question)) old)
    → is_among question new ≡ (is_among question old || bytes_eq question key)
is_among_inserted question key old new inserted =
    either _ (is_among question old) (bytes_eq question key) (rw (is_among_keys question new, is_among_keys question old, same_question key question) at inserted)

regroup : (old here later new : Bool) → new ≡ (old || (here || false)) → (old || (here || later)) ≡ (new || later)
regroup true here later new e = rw e refl
regroup false true later new e = rw e refl
regroup false false later new e = rw e refl

none_here : (old later new : Bool) → new ≡ (old || false) → (old || later) ≡ (new || later)
none_here true later new e = rw e refl
none_here false later new e = rw e refl

with_question : (question : List ℕ) (old new : Bool) (found : Option (List ℕ)) (later : List (List ℕ))
    → new ≡ (old || is_among question (option_to_list found)) → (old || is_among question (cons_option found later)) ≡ (new || is_among question later)
with_question question old new None later e = none_here old _ new e
with_question question old new (Some found) later e = regroup old (bytes_eq question found) _ new e

length-map_lines : (pieces : List (List ℕ)) → length (map without_return pieces) ≡ length pieces
length-map_lines [] = refl
length-map_lines (piece ∷ pieces) = ap suc (length-map_lines pieces)

-- a text has at most one line more than bytes
pub length-lines : (text : List ℕ) → length (lines_of text) ≤ length text + 1
length-lines text = omega (arith, length-map_lines (pieces_of text), length-slice_split (λ b. b == line_feed) text, count_by-le-length (λ b. b == line_feed) text)

-- of the lines of a text this many were read, with the questions in them, and these are left
pub record IsReadingLines (text : List ℕ) (number : ℕ) (read : List (List ℕ)) (left : List (List ℕ)) : Type 0 where
  pub count : number + length left ≤ length text + 1
  pub fault : table_fault text ≡ lines_fault (number + 1) left
  pub held : (question : List ℕ) → is_among question (questions_in text) ≡ (is_among question read || is_among question (filter_map question_in left))

-- no line was read yet
pub lines_none : (text : List ℕ) (read left : List (List ℕ)) → read ≡ [] → left ≡ lines_of text → IsReadingLines text 0 read left
unfolding table_fault questions_in
lines_none text read left none all = rw (none, all) (record { count = omega (arith, length-lines text); fault = refl; held = λ question. refl })

-- one more line was read
pub lines_more : (text : List ℕ) (number : ℕ) (old new left : List (List ℕ)) (line : List ℕ) (rest : List (List ℕ))
    → IsReadingLines text number old left → left ≡ line ∷ rest
    → ((lines : List (List ℕ)) → lines_fault (number + 1) (line ∷ lines) ≡ lines_fault (number + 1 + 1) lines)
    → ((question : List ℕ) → is_among question new ≡ (is_among question old || is_among question (option_to_list (question_in line))))
    → IsReadingLines text (number + 1) new rest
lines_more text number old new left line rest is before next added = record {
  count = omega (arith, is.count, ap length before);
  fault = rw before at is.fault ∙ next rest;
  held = λ question. rw before at (is.held question) ∙ with_question question _ _ (question_in line) (filter_map question_in rest) (added question);
}

-- the fault of the next line is that of the text
pub fault_next : (text : List ℕ) (number : ℕ) (read left : List (List ℕ)) (line : List ℕ) (rest : List (List ℕ)) (fault : TableFault)
    → IsReadingLines text number read left → left ≡ line ∷ rest
    → ((lines : List (List ℕ)) → IsTableRefusal (lines_fault (number + 1) (line ∷ lines)) fault) → IsTableRefusal (table_fault text) fault
fault_next text number read left line rest fault is before refused = rw (is.fault, before) (refused rest)

or_false : (b : Bool) → (b || false) ≡ b
or_false true = refl
or_false false = refl

-- all lines were read
pub lines_all : (text : List ℕ) (number : ℕ) (read left : List (List ℕ)) → IsReadingLines text number read left → left ≡ []
    → (table_fault text ≡ None) × ((question : List ℕ) → is_among question read ≡ is_among question (questions_in text))
lines_all text number read left is none =
    (rw none at is.fault, λ question. sym (rw none at (is.held question) ∙ or_false (is_among question read)))

-- a line of a table, and one that is none
abbrev Good : List ℕ → Type 0
Good line = IsTrue (is_table_line line)

abbrev Bad : List ℕ → Type 0
Bad line = IsFalse (is_table_line line)

-- the fault of lines is that of the first bad one
abbrev IsFirstOf : ℕ → List (List ℕ) → TableFault → Type 0
IsFirstOf number lines fault = (before : ℕ) × (fault ≡ Line (number + before)) × IsFirstBad Good Bad lines before

by_line : (number : ℕ) (line : List ℕ) (lines : List (List ℕ)) (fault : TableFault) (good : Bool) → is_table_line line ≡ good
    → (lines_fault (number + 1) lines ≡ Some fault → IsFirstOf (number + 1) lines fault)
    → (if good then lines_fault (number + 1) lines else Some (Line number)) ≡ Some fault → IsFirstOf number (line ∷ lines) fault
by_line number line lines fault true is rest e =
    let next : IsFirstOf (number + 1) lines fault = rest e in
    let counted : number + 1 + next.0 ≡ number + (next.0 + 1) = omega arith in
    (next.0 + 1, next.1 ∙ ap Line counted, first_later Good Bad line lines next.0 is next.2)
by_line number line lines fault false is rest e =
    let counted : number ≡ number + 0 = omega arith in
    let is_fault : fault ≡ Line number = cc in
    (0, is_fault ∙ ap Line counted, first_here Good Bad line lines is)

lines_fault-first : (number : ℕ) (lines : List (List ℕ)) (fault : TableFault) → lines_fault number lines ≡ Some fault
    → IsFirstOf number lines fault
lines_fault-first number [] fault e = absurd (cc)
lines_fault-first number (line ∷ lines) fault e =
    by_line number line lines fault (is_table_line line) refl (lines_fault-first (number + 1) lines fault) e

lines_fault-from_first : (number before : ℕ) (lines : List (List ℕ)) → IsFirstBad Good Bad lines before
    → lines_fault number lines ≡ Some (Line (number + before))
lines_fault-from_first number before [] is = absurd (none_first Good Bad before is)
lines_fault-from_first number before (line ∷ lines) is = elim (first_or_later Good Bad line lines before is) [
  | inl here ↦
      let counted : number ≡ number + before = omega (arith, here.0) in
      rw here.1 (ap (λ n. Some (Line n)) counted)
  | inr later ↦
      let counted : number + 1 + later.0 ≡ number + before = omega (arith, later.1) in
      rw later.2 (lines_fault-from_first (number + 1) later.0 lines later.3 ∙ ap (λ n. Some (Line n)) counted)
]

-- the fault of a table is its first bad line
pub table_fault-first : (text : List ℕ) (fault : TableFault) → table_fault text ≡ Some fault → IsFirstTableFault text fault
unfolding table_fault
table_fault-first text (Line number) e =
    let first : IsFirstOf 1 (lines_of text) (Line number) = lines_fault-first 1 (lines_of text) (Line number) e in
    let same : number ≡ 1 + first.0 = cc (first.1) in
    (first.0, omega (arith, same), first.2)
table_fault-first text OutOfMemory e =
    let first : IsFirstOf 1 (lines_of text) OutOfMemory = lines_fault-first 1 (lines_of text) OutOfMemory e in
    absurd (cc (first.1))

-- and its first bad line is its fault
pub table_fault-from_first : (text : List ℕ) (fault : TableFault) → IsFirstTableFault text fault → table_fault text ≡ Some fault
unfolding table_fault
table_fault-from_first text (Line number) is =
    let counted : 1 + is.0 ≡ number = omega (arith, is.1) in
    lines_fault-from_first 1 is.0 (lines_of text) is.2 ∙ ap (λ n. Some (Line n)) counted
table_fault-from_first text OutOfMemory is = absurd is

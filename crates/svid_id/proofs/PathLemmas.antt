-- Lemmas about specs/Path.antt.
use Rattle.std.proofs.Common.{◌≡◌, ℕ, ◌+◌, ◌<◌, ◌==◌, ◌&&◌, true, false, not, nat_lt, if◌then◌else◌, List, [], ◌∷◌, ◌++◌, length, get_or, take, drop, codes, Option, Some, None, refl, sym, ap, subst, ◌∙◌, inl, inr, ◌⊎◌, append-nil, eqb-true, arith}
use Rattle.std.specs.List.{All, AllByRecursion, after_first, before_first, onto_first, position_or_len, prefix_len, slice_split}
use Rattle.std.specs.Option.{option_or}
use Rattle.std.specs.Str.{bytes_eq}
use Rattle.std.proofs.lemmas.Bool.{cases_Bool, cases_lt, or_cases}
use Rattle.std.proofs.lemmas.Bool.Decides.{nat_tests}
use Rattle.std.proofs.lemmas.List.{drop_more, drop_all, take_all}
use Rattle.std.proofs.lemmas.List.Elements.{All-from_recursion, recursion_from_All}
use Rattle.std.proofs.lemmas.List.Splits.{slice_split-cons_yes, slice_split-cons_no, slice_split_at, slice_split_first, slice_split_none}
use Rattle.std.proofs.lemmas.List.Sums.{fails_before_first, prefix_len-le-length, prefix_len_passes}
use Rattle.std.proofs.lemmas.Slice.Eq.{bytes_eq-Decides}
use Rattle.svid_id.specs.Path.{IsPath, IsSegment, is_dots, is_segment_byte, is_slash, path_fault, segment_fault, segments_fault, slashed}
use Rattle.svid_id.specs.declared.id_fault.IdFault.{IdFault}
use Rattle.svid_id.specs.declared.id_fault.IdFault.TheVariants.{SegmentEmpty, SegmentDots, PathByte}
use Rattle.svid_id.proofs.PieceLemmas.{is_slash-class, run-all, run-piece, length-piece, piece_stops, piece_goes_on}

-- what `is_dots` tests
pub is_dots_cases : (s : List ℕ) → is_dots s ≡ true → (s ≡ codes ".") ⊎ (s ≡ codes "..")
is_dots_cases s is =
    elim (or_cases (bytes_eq s (codes ".")) (bytes_eq s (codes "..")) is) [
      | inl one ↦ inl ((bytes_eq-Decides s (codes ".")).0 one)
      | inr two ↦ inr ((bytes_eq-Decides s (codes "..")).0 two)
    ]

-- "." and ".." have only bytes of a segment
pub run-dots : (s : List ℕ) → is_dots s ≡ true → prefix_len is_segment_byte s ≡ length s
run-dots s is =
    let AllGood : List ℕ → Type 0 = λ t. prefix_len is_segment_byte t ≡ length t in
    elim (is_dots_cases s is) [ inl one ↦ subst AllGood (sym one) refl | inr two ↦ subst AllGood (sym two) refl ]

-- the fault of the segment that a text begins with, by the bytes that it begins with
pub segment_fault-run : (at : ℕ) (s : List ℕ)
    → segment_fault at (before_first is_slash s) ≡ (
    let run = prefix_len is_segment_byte s in
    if nat_lt run (length s) && not (is_slash (get_or s run 0)) then Some (PathByte (at + run))
    else if run == 0 then Some (SegmentEmpty at)
    else if is_dots (take run s) then Some (SegmentDots at)
    else None
    )
segment_fault-run at s =
    let run = run-piece is_segment_byte refl s in
    let len = length-piece s in
    let on = piece_goes_on is_segment_byte refl s in
    let stop = piece_stops is_segment_byte refl s in
    let dots = run-dots (before_first is_slash s) in
    grind (arith, nat_tests)

-- a path's first segment, and the path after it
path_fault-step : (at slash : ℕ) (s : List ℕ)
    → let len = position_or_len is_slash s in
    path_fault at (slash ∷ s) ≡ option_or (segment_fault (at + 1) (before_first is_slash s)) (path_fault (at + (1 + len)) (drop len s))
path_fault-step at slash s =
    let p = position_or_len is_slash s in
    let piece = before_first is_slash s in
    elim (cases_lt p (length s)) [
      | inl more ↦
          let offsets : at + 1 + length piece + 1 ≡ at + (1 + p) + 1 = omega (arith, length-piece s) in
          rw (slice_split_first is_slash s 0 more, drop_more s p 0 more)
          (ap (λ (n : ℕ). option_or (segment_fault (at + 1) piece) (segments_fault n (slice_split is_slash (after_first is_slash s)))) offsets)
      | inr done ↦
          let none : All (λ b. is_slash b ≡ false) s = λ k d h. fails_before_first is_slash s k d (omega arith) in
          rw (slice_split_none is_slash s none, drop_all p s done, take_all p s done) refl
    ]

-- its fault, where it has one, is the path's, and else that of the path after it
pub path_fault-first : (at slash : ℕ) (s path : List ℕ) (found : Option IdFault) → path ≡ slash ∷ s
    → found ≡ segment_fault (at + 1) (before_first is_slash s)
    → let len = position_or_len is_slash s in path_fault at path ≡ option_or found (path_fault (at + (1 + len)) (drop len s))
path_fault-first at slash s path found is first = rw (is, first) (path_fault-step at slash s)

-- where the bytes of a segment end at a '/' or at the text's end, the segment ends
pub segment_stops : (s : List ℕ)
    → (prefix_len is_segment_byte s < length s → get_or s (prefix_len is_segment_byte s) 0 ≡ 47)
    → position_or_len is_slash s ≡ prefix_len is_segment_byte s
segment_stops = piece_stops is_segment_byte refl

pub ruleset segment_runs = (segment_fault-run, segment_stops, nat_tests)

-- neither "." nor ".." is a segment
pub is_dots-IsSegment : (s : List ℕ) → IsSegment s → is_dots s ≡ false
is_dots-IsSegment s is =
    elim (cases_Bool (is_dots s)) [
      | inl dots ↦ elim (is_dots_cases s dots) [ inl one ↦ absurd (is.not_dot one) | inr two ↦ absurd (is.not_dots two) ]
      | inr none ↦ none
    ]

-- a segment has no fault
pub segment_fault-IsSegment : (at : ℕ) (s : List ℕ) → IsSegment s → segment_fault at s ≡ None
segment_fault-IsSegment at s is =
    let some = is.not_empty in
    let dots = is_dots-IsSegment s is in
    let all : prefix_len is_segment_byte s ≡ length s = run-all is_segment_byte s is.bytes in
    grind (arith, nat_tests)

-- what has none is one
pub IsSegment-from_fault : (at : ℕ) (s : List ℕ) → segment_fault at s ≡ None → IsSegment s
IsSegment-from_fault at s none =
    let fits = prefix_len-le-length is_segment_byte s in
    let all : prefix_len is_segment_byte s ≡ length s = grind (arith, nat_tests) in
    let NoFault : List ℕ → Type 0 = λ t. segment_fault at t ≡ None in
    record {
      not_empty = grind (arith, nat_tests);
      not_dot = λ dot. let fault = subst NoFault dot none in cc;
      not_dots = λ dots. let fault = subst NoFault dots none in cc;
      bytes = λ k d h. prefix_len_passes is_segment_byte s k d (omega arith);
    }

-- segments have no fault
pub segments_fault-All : (at : ℕ) (ss : List (List ℕ)) → AllByRecursion IsSegment ss → segments_fault at ss ≡ None
segments_fault-All at [] all = refl
segments_fault-All at (s ∷ ss) all =
    rw (segment_fault-IsSegment at s all.0) (segments_fault-All (at + length s + 1) ss all.1)

-- of two faults neither is there
pub option_or-None : (a b : Option IdFault) → option_or a b ≡ None → (a ≡ None) × (b ≡ None)
option_or-None None b none = (refl, none)
option_or-None (Some fault) b none = absurd (cc)

-- a row without a fault is one of segments
pub All-from_fault : (at : ℕ) (ss : List (List ℕ)) → segments_fault at ss ≡ None → AllByRecursion IsSegment ss
All-from_fault at [] none = tt
All-from_fault at (s ∷ ss) none =
    let parts = option_or-None (segment_fault at s) (segments_fault (at + length s + 1) ss) none in
    (IsSegment-from_fault at s parts.0, All-from_fault (at + length s + 1) ss parts.1)

-- no byte of a segment is '/'
pub IsSegment-slash : (s : List ℕ) → IsSegment s → All (λ b. is_slash b ≡ false) s
IsSegment-slash s is = λ k d h. is_slash-class is_segment_byte refl _ (is.bytes k d h)

-- the text of a row of segments splits into them
pub slice_split-slashed : (s : List ℕ) (ss : List (List ℕ)) → IsSegment s → AllByRecursion IsSegment ss
    → slice_split is_slash (s ++ slashed ss) ≡ s ∷ ss
slice_split-slashed s [] is all = rw (append-nil s) (slice_split_none is_slash s (IsSegment-slash s is))
slice_split-slashed s (t ∷ ts) is all =
    slice_split_at is_slash s 47 (t ++ slashed ts) (IsSegment-slash s is) refl
    ∙ ap (λ ss. s ∷ ss) (slice_split-slashed t ts all.0 all.1)

-- a byte put before the first segment stands right after its '/'
pub slashed-onto_first : (x : ℕ) (ss : List (List ℕ)) (s : List ℕ) → slashed ss ≡ 47 ∷ s
    → slashed (onto_first x ss) ≡ 47 ∷ x ∷ s
slashed-onto_first x [] s spelled = absurd (cc)
slashed-onto_first x (t ∷ ts) s spelled = cc

-- what a text splits into spells it
pub slashed-slice_split : (s : List ℕ) → slashed (slice_split is_slash s) ≡ 47 ∷ s
slashed-slice_split [] = refl
slashed-slice_split (x ∷ s) =
    elim (cases_Bool (is_slash x)) [
      | inl cut ↦ rw (slice_split-cons_yes is_slash x s cut, slashed-slice_split s, eqb-true x 47 cut) refl
      | inr none ↦ rw (slice_split-cons_no is_slash x s none) (slashed-onto_first x (slice_split is_slash s) s (slashed-slice_split s))
    ]

-- the text of a row of segments has no fault
pub path_fault-slashed : (at : ℕ) (ss : List (List ℕ)) → AllByRecursion IsSegment ss
    → path_fault at (slashed ss) ≡ None
path_fault-slashed at [] all = refl
path_fault-slashed at (s ∷ ss) all =
    rw (slice_split-slashed s ss all.0 all.1) (segments_fault-All (at + 1) (s ∷ ss) all)

-- a path has no fault
pub path_fault-IsPath : (at : ℕ) (path : List ℕ) → IsPath path → path_fault at path ≡ None
path_fault-IsPath at path (ss, all, spelled) = rw spelled (path_fault-slashed at ss (recursion_from_All IsSegment ss all))

-- what is empty or begins with '/', and has no fault, is one
pub IsPath-from_fault : (at : ℕ) (path : List ℕ) → (0 < length path → get_or path 0 0 ≡ 47)
    → path_fault at path ≡ None → IsPath path
IsPath-from_fault at [] slash none = ([], All-from_recursion IsSegment [] tt, refl)
IsPath-from_fault at (x ∷ s) slash none =
    let segments = slice_split is_slash s in
    let all = All-from_recursion IsSegment segments (All-from_fault (at + 1) segments none) in
    (segments, all, rw (slash (omega arith)) (sym (slashed-slice_split s)))

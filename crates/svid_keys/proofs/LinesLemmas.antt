-- The lines of a text, one at a time.
use Rattle.std.proofs.Common.{◌≡◌, ◌≢◌, ◌==◌, ◌+◌, ℕ, Bool, true, false, if◌then◌else◌, List, [], ◌∷◌, ◌++◌, All, length, take, drop, map, Some, inl, inr, refl, ap, sym, arith, ◌∙◌}
use Rattle.std.proofs.lemmas.Bool.{eq-eqb, eqb-true, ne_eqb}
use Rattle.std.proofs.lemmas.List.{drop_more, get_or-take, length-take-le, take-append-drop}
use Rattle.std.proofs.lemmas.List.Elements.{All-from_get_or, All-weaker}
use Rattle.std.proofs.lemmas.List.Splits.{slice_split_at, slice_split_none}
use Rattle.std.specs.List.{AllByRecursion, AllZip, join_with_byte}
use Rattle.memchr.specs.Find.{IsFirstByte, is_byte}
use Rattle.svid_keys.specs.Lines.{HasNoFeed, IsPieceOf, carriage_return, line_feed, lines_of, pieces_of, without_return}

whole : (bytes : List ℕ) → HasNoFeed bytes → All (λ b. (b == line_feed) ≡ false) bytes
whole bytes none = All-weaker _ _ (λ b. ne_eqb b line_feed) bytes none

-- a text that ends without a line feed is one line
pub lines_of-last : (text : List ℕ) → HasNoFeed text → lines_of text ≡ without_return text ∷ []
lines_of-last text none = ap (map without_return) (slice_split_none _ text (whole text none))

-- what stands before the first line feed is the first line
pub lines_of-first : (text line rest : List ℕ) → HasNoFeed line → text ≡ line ++ line_feed ∷ rest
    → lines_of text ≡ without_return line ∷ lines_of rest
lines_of-first text line rest none is =
    ap lines_of is ∙ ap (map without_return) (slice_split_at _ line line_feed rest (whole line none) refl)

-- a text is cut at the first line feed
pub cut_at_feed : (text : List ℕ) (at : ℕ) → IsFirstByte (is_byte line_feed) text (Some at)
    → HasNoFeed (take at text) × (text ≡ take at text ++ line_feed ∷ drop (at + 1) text)
cut_at_feed text at found =
    let first = found.0 in
    let long : length (take at text) ≡ at = length-take-le at text (omega (arith, first.high)) in
    let none : HasNoFeed (take at text) = All-from_get_or (λ b. b ≢ line_feed) (take at text) 0
    (λ i within is. first.before i (omega arith) (omega arith) (eq-eqb _ _ (sym (get_or-take at text i 0 (omega arith)) ∙ is))) in
    let cut : drop at text ≡ line_feed ∷ drop (at + 1) text =
    drop_more text at 0 first.high ∙ ap (λ b. b ∷ drop (at + 1) text) (eqb-true _ _ found.1) in
    (none, sym (take-append-drop at text) ∙ ap (λ rest. take at text ++ rest) cut)

-- a carriage return at the end is no part of the line
pub without_return-return : (front : List ℕ) → without_return (front ++ carriage_return ∷ []) ≡ front
without_return-return [] = refl
without_return-return (a ∷ []) = refl
without_return-return (a ∷ b ∷ front) = ap (λ bytes. a ∷ bytes) (without_return-return (b ∷ front))

-- another last byte is
pub without_return-other : (front : List ℕ) (last : ℕ) → last ≢ carriage_return → without_return (front ++ last ∷ []) ≡ front ++ last ∷ []
without_return-other [] last other = rw (ne_eqb last carriage_return other) refl
without_return-other (a ∷ []) last other = rw (ne_eqb last carriage_return other) refl
without_return-other (a ∷ b ∷ front) last other = ap (λ bytes. a ∷ bytes) (without_return-other (b ∷ front) last other)

-- bytes without line feeds, joined by them, are cut into the same bytes again
pub pieces_of-joined : (first : List ℕ) (more : List (List ℕ)) → AllByRecursion HasNoFeed (first ∷ more)
    → pieces_of (join_with_byte line_feed (first ∷ more)) ≡ first ∷ more
pieces_of-joined first [] none = slice_split_none _ first (whole first none.0)
pieces_of-joined first (next ∷ more) none =
    slice_split_at _ first line_feed (join_with_byte line_feed (next ∷ more)) (whole first none.0) refl
    ∙ ap (λ cut. first ∷ cut) (pieces_of-joined next more none.1)

by_return : (b : ℕ) (here : Bool) → (b == carriage_return) ≡ here → IsPieceOf (if here then [] else b ∷ []) (b ∷ [])
by_return b true is = inr (ap (λ x. x ∷ []) (eqb-true b carriage_return is))
by_return b false is = inl refl

is_piece_of : (piece : List ℕ) → IsPieceOf (without_return piece) piece
is_piece_of [] = inl refl
is_piece_of (b ∷ []) = by_return b (b == carriage_return) refl
is_piece_of (a ∷ b ∷ bytes) = elim (is_piece_of (b ∷ bytes)) [
  | inl whole_piece ↦ inl (ap (λ more. a ∷ more) whole_piece)
  | inr cut_piece ↦ inr (ap (λ more. a ∷ more) cut_piece)
]

-- each piece is its line, or its line and one carriage return
pub are_pieces_of : (pieces : List (List ℕ)) → AllZip IsPieceOf (map without_return pieces) pieces
are_pieces_of [] = tt
are_pieces_of (piece ∷ pieces) = (is_piece_of piece, are_pieces_of pieces)

pub ruleset lines = (lines_of-last, lines_of-first)

pub ruleset returns = (without_return-return, without_return-other)

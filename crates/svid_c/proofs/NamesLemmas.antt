-- The audiences of a validator, one after the other with their lengths.
use Rattle.std.proofs.Common.{◌≡◌, ◌+◌, ◌<◌, ◌≤◌, ℕ, List, [], ◌∷◌, ◌++◌, length, map, take, drop, get_or, sym, ap, subst, ◌∙◌, arith, append-nil, length-append}
use Rattle.std.specs.Prelude.{All, IsUtf8}
use Rattle.std.specs.List.{concat, sum}
use Rattle.std.proofs.lemmas.List.{append_assoc, drop_more, map-append, take-append-drop, take_more}
use Rattle.std.proofs.lemmas.List.Concat.{concat_is, length-flat_map}
use Rattle.std.proofs.lemmas.List.Elements.{All-push}
use Rattle.std.proofs.lemmas.List.Sums.{sum-map, sum_by_more, sum_by_more_le}
use Rattle.svid_c.specs.Own.{IsCutFault, IsPiece, IsTextFault}
use Rattle.svid_c.specs.declared.own_fault.OwnFault.{OwnFault}
use Rattle.svid_c.specs.declared.own_fault.OwnFault.TheVariants as own

-- so many names are read, as pieces of a text, and this rest of it is left
pub record IsCutSoFar (text lens : List ℕ) (names : List (List ℕ)) (rest : List ℕ) (i : ℕ) : Type 0 where
  pub good : All IsUtf8 names
  pub parts : text ≡ concat names ++ rest
  pub lengths : map length names ≡ take i lens
  pub left : length rest + sum (take i lens) ≡ sum lens

-- the next piece has its length among those of the rest
pub has_next : (text lens : List ℕ) (names : List (List ℕ)) (rest : List ℕ) (i d : ℕ) → i < length lens → IsCutSoFar text lens names rest i → get_or lens i d ≤ length rest
has_next text lens names rest i d within so_far = omega (arith, so_far.left, sum_by_more_le (λ x. x) lens i d within)

-- a text is its front and what stands behind it
pub taken_apart : (rest piece behind : List ℕ) (n : ℕ) → piece ≡ take n rest → behind ≡ drop n rest → rest ≡ piece ++ behind
taken_apart rest piece behind n front back = sym (take-append-drop n rest) ∙ ap (λ p. p ++ drop n rest) (sym front) ∙ ap (λ b. piece ++ b) (sym back)

concat_push : (names : List (List ℕ)) (name : List ℕ) → concat (names ++ name ∷ []) ≡ concat names ++ name
concat_push [] name = append-nil name
concat_push (first ∷ names) name = ap (λ rest. first ++ rest) (concat_push names name) ∙ sym (append_assoc first (concat names) name)

-- one more piece is read
pub one_more : (text lens : List ℕ) (names new : List (List ℕ)) (rest piece behind : List ℕ) (i d : ℕ) → i < length lens → IsCutSoFar text lens names rest i
    → rest ≡ piece ++ behind → length piece ≡ get_or lens i d → IsUtf8 piece → new ≡ names ++ piece ∷ [] → IsCutSoFar text lens new behind (i + 1)
one_more text lens names new rest piece behind i d within so_far parts long good added = record {
  good = subst (All IsUtf8) (sym added) (All-push IsUtf8 names piece so_far.good good);
  parts = so_far.parts ∙ ap (λ r. concat names ++ r) parts ∙ sym (append_assoc (concat names) piece behind) ∙ ap (λ c. c ++ behind) (sym (concat_push names piece) ∙ ap concat (sym added));
  lengths = ap (map length) added ∙ map-append length names (piece ∷ []) ∙ ap (λ ls. ls ++ length piece ∷ []) so_far.lengths ∙ ap (λ n. take i lens ++ n ∷ []) long ∙ sym (take_more lens i d within);
  left = omega (arith, so_far.left, sum_by_more (λ x. x) lens i d within, ap length parts, long, length-append piece behind);
}

lengths_add_up : (names : List (List ℕ)) → length (concat names) ≡ sum (map length names)
lengths_add_up names = ap length (concat_is names) ∙ length-flat_map (λ x. x) names ∙ sym (sum-map length names)

-- the next piece is one of the text
pub is_piece : (text lens : List ℕ) (names : List (List ℕ)) (rest piece behind : List ℕ) (i d : ℕ) → i < length lens → IsCutSoFar text lens names rest i
    → rest ≡ piece ++ behind → length piece ≡ get_or lens i d → IsPiece text lens piece
is_piece text lens names rest piece behind i d within so_far parts long = record {
  before = concat names;
  behind = behind;
  sooner = take i lens;
  later = drop (i + 1) lens;
  parts = so_far.parts ∙ ap (λ r. concat names ++ r) parts ∙ sym (append_assoc (concat names) piece behind);
  lengths = sym (take-append-drop i lens) ∙ ap (λ r. take i lens ++ r) (drop_more lens i d within) ∙ ap (λ n. take i lens ++ n ∷ drop (i + 1) lens) (sym long);
  offset = lengths_add_up names ∙ ap sum so_far.lengths;
}

-- a piece that is no audience is the fault
pub piece_fault : (text lens piece : List ℕ) (given : OwnFault) → sum lens ≡ length text → IsPiece text lens piece → IsTextFault piece given → IsCutFault text lens given
piece_fault text lens piece own.NotUtf8 all is why = (all, (piece, is, why))
piece_fault text lens piece own.Lengths all is why = absurd why
piece_fault text lens piece own.OutOfMemory all is why = tt

-- Lemmas about the piece of a text before its first '/'.
use Rattle.std.proofs.Common.{◌≡◌, ℕ, ◌<◌, ◌≤◌, ◌≢◌, Bool, true, false, not, List, [], ◌∷◌, length, get_or, refl, arith}
use Rattle.std.specs.List.{AllPass, before_first, position_or_len, prefix_len}
use Rattle.std.proofs.lemmas.Bool.Decides.{nat_tests}
use Rattle.std.proofs.lemmas.List.{get_or-take}
use Rattle.std.proofs.lemmas.List.Folds.{length-prefix_len}
use Rattle.std.proofs.lemmas.List.Sums.{prefix_len-le-length, prefix_len_passes, prefix_len_stops, prefix_len_is, position_or_len_is, passes_at_first}
use Rattle.svid_id.specs.Path.{is_slash}

-- all bytes of a text begin it, where each is of the class
pub run-all : (class : ℕ → Bool) (s : List ℕ) → AllPass class s → prefix_len class s ≡ length s
run-all class s all = prefix_len_is class s (length s) 0 (omega arith) (λ k h. all k 0 h) (λ h. absurd (omega arith))

-- a byte of a class that '/' is not in is no '/'
pub is_slash-class : (class : ℕ → Bool) → class 47 ≡ false → (b : ℕ) → class b ≡ true → is_slash b ≡ false
is_slash-class class out b is = grind (arith, nat_tests)

-- the bytes of such a class that begin a text stand before its first '/'
pub run-le-piece : (class : ℕ → Bool) → class 47 ≡ false → (s : List ℕ)
    → prefix_len class s ≤ position_or_len is_slash s
run-le-piece class out [] = omega arith
run-le-piece class out (x ∷ s) =
    let h : prefix_len class s ≤ position_or_len is_slash s = run-le-piece class out s in
    let k : class x ≡ true → is_slash x ≡ false = is_slash-class class out x in
    grind (arith, nat_tests)

-- so up to that '/' as many begin the text as in all of it
pub run-piece : (class : ℕ → Bool) → class 47 ≡ false → (s : List ℕ)
    → prefix_len class (before_first is_slash s) ≡ prefix_len class s
run-piece class out s =
    let within = run-le-piece class out s in
    let fits = prefix_len-le-length (λ b. not (is_slash b)) s in
    let len : length (before_first is_slash s) ≡ position_or_len is_slash s = length-prefix_len _ s in
    prefix_len_is class (before_first is_slash s) (prefix_len class s) 0 (omega arith)
    (λ k h. rw (get_or-take (position_or_len is_slash s) s k 0 (omega arith)) (prefix_len_passes class s k 0 h))
    (λ h. rw (get_or-take (position_or_len is_slash s) s (prefix_len class s) 0 (omega arith)) (prefix_len_stops class s 0 (omega arith)))

-- where they end at the '/' or at the text's end, the '/' stands there
pub piece_stops : (class : ℕ → Bool) → class 47 ≡ false → (s : List ℕ)
    → (prefix_len class s < length s → get_or s (prefix_len class s) 0 ≡ 47)
    → position_or_len is_slash s ≡ prefix_len class s
piece_stops class out s at_end =
    position_or_len_is is_slash s (prefix_len class s) 0 (prefix_len-le-length class s)
    (λ k h. is_slash-class class out _ (prefix_len_passes class s k 0 h))
    (λ h. rw (at_end h) refl)

-- where they end at another byte, the '/' stands behind it
pub piece_goes_on : (class : ℕ → Bool) → class 47 ≡ false → (s : List ℕ) → prefix_len class s < length s
    → get_or s (prefix_len class s) 0 ≢ 47 → prefix_len class s < position_or_len is_slash s
piece_goes_on class out s more other =
    let within = run-le-piece class out s in
    let met : position_or_len is_slash s < length s → is_slash (get_or s (position_or_len is_slash s) 0) ≡ true = passes_at_first is_slash s 0 in
    grind (arith, nat_tests)

pub length-piece : (s : List ℕ) → length (before_first is_slash s) ≡ position_or_len is_slash s
length-piece s = length-prefix_len _ s

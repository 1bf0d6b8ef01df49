-- Numbers as bytes.
use Rattle.std.proofs.Common.{inl, inr, ap, ◌∙◌, ◌-◌, ◌^◌, ltb-true, ◌≡◌, ◌≤◌, ◌<◌, ℕ, suc, ◌+◌, ◌*◌, List, [], ◌∷◌, Some, None, false, length, drop, get_or, drop-cons, arith, refl, sym}
use Rattle.std.proofs.Math.Nat.{mul-le-mul_right}
use Rattle.std.proofs.lemmas.Bool.{cases_Bool, false≢true, le-ltb}
use Rattle.std.proofs.lemmas.List.Elements.{All-head, All-tail}
use Rattle.std.proofs.lemmas.Nat.{leading_top, pow-add}
use Rattle.std.specs.Prelude.{All, IsTrue, fold, nat_lt, slice_index, if◌then◌else◌}
use Rattle.std.specs.Int.Count.{count_leading_zeros}
use Rattle.svid_spki.specs.Der.{positive}
use Rattle.svid_spki.specs.Number.{bits, is_number, value, with_byte}

-- more bytes make no number less
pub fold-least : (number : ℕ) (bytes : List ℕ) → number ≤ fold with_byte number bytes
fold-least number [] = omega arith
fold-least number (byte ∷ bytes) = omega (arith, fold-least (with_byte number byte) bytes)

-- bytes of a number of 2^31 or more are no number below that
pub not_small : (bytes : List ℕ) (number index : ℕ) → index < length bytes → fold with_byte number (drop index bytes) ≡ value bytes
    → 2147483648 ≤ number * 256 + get_or bytes index 0 → None ≡ (if nat_lt (value bytes) 2147483648 then Some (value bytes) else None)
not_small bytes number index within whole great =
    let left = drop-cons bytes index 0 within in
    let more : value bytes ≡ fold with_byte (with_byte number (get_or bytes index 0)) (drop (suc index) bytes) = rw left at (sym whole) in
    let least : with_byte number (get_or bytes index 0) ≤ value bytes = rw more (fold-least (with_byte number (get_or bytes index 0)) (drop (suc index) bytes)) in
    let tested : nat_lt (value bytes) 2147483648 ≡ false = le-ltb _ _ (omega arith) in
    rw tested refl

-- a number below 2^31 has at most four bytes
pub short : (bytes : List ℕ) → IsTrue (is_number bytes) → value bytes < 2147483648 → length bytes ≤ 4
short [] number small = omega arith
short (a ∷ []) number small = omega arith
short (a ∷ b ∷ []) number small = omega arith
short (a ∷ b ∷ c ∷ []) number small = omega arith
short (a ∷ b ∷ c ∷ d ∷ []) number small = omega arith
short (a ∷ b ∷ c ∷ d ∷ e ∷ more) number small =
    let first : 0 < a = ltb-true _ _ number in
    let least = fold-least (with_byte (with_byte (with_byte (with_byte (with_byte 0 a) b) c) d) e) more in
    absurd (omega arith)

-- a byte more is eight bits more
eight : (len : ℕ) → 2 ^ (8 * suc len) ≡ 256 * 2 ^ (8 * len)
eight len =
    let bits : 8 * suc len ≡ 8 + 8 * len = omega arith in
    ap (λ k. 2 ^ k) bits ∙ pow-add 2 8 (8 * len)

-- the number that bytes make of the bytes before them
fold-between : (number : ℕ) (bytes : List ℕ) → All (λ byte. byte < 256) bytes
    → (number * 2 ^ (8 * length bytes) ≤ fold with_byte number bytes) × (fold with_byte number bytes < (number + 1) * 2 ^ (8 * length bytes))
fold-between number [] all = (omega arith, omega arith)
fold-between number (byte ∷ bytes) all =
    let small : byte < 256 = All-head (λ byte. byte < 256) byte bytes all in
    let rest = fold-between (with_byte number byte) bytes (All-tail (λ byte. byte < 256) byte bytes all) in
    let p = 2 ^ (8 * length bytes) in
    let more : 2 ^ (8 * suc (length bytes)) ≡ 256 * p = eight (length bytes) in
    let bound : byte * p ≤ 255 * p = mul-le-mul_right p (omega arith) in
    (rw more (omega (arith, rest.0)), rw more (omega (arith, rest.1, bound)))

between_powers : (zeros j len first number : ℕ) → zeros + suc j ≡ 8 → 2 ^ j ≤ first → first < 2 ^ suc j
    → first * 2 ^ (8 * len) ≤ number → number < (first + 1) * 2 ^ (8 * len)
    → (2 ^ (8 - zeros + 8 * len - 1) ≤ number) × (number < 2 ^ (8 - zeros + 8 * len))
between_powers zeros j len first number sum least most low high =
    let p = 2 ^ (8 * len) in
    let bits_are : 8 - zeros + 8 * len ≡ suc j + 8 * len = omega arith in
    let fewer_are : 8 - zeros + 8 * len - 1 ≡ j + 8 * len = omega arith in
    let bits_power : 2 ^ (8 - zeros + 8 * len) ≡ 2 ^ suc j * p = ap (λ k. 2 ^ k) bits_are ∙ pow-add 2 (suc j) (8 * len) in
    let fewer_power : 2 ^ (8 - zeros + 8 * len - 1) ≡ 2 ^ j * p = ap (λ k. 2 ^ k) fewer_are ∙ pow-add 2 j (8 * len) in
    let from_least : 2 ^ j * p ≤ first * p = mul-le-mul_right p least in
    let from_most : (first + 1) * p ≤ 2 ^ suc j * p = mul-le-mul_right p (let up : first + 1 ≤ 2 ^ suc j = omega arith in up) in
    (rw fewer_power (omega (arith, from_least, low)), rw bits_power (omega (arith, from_most, high)))

-- a number lies between the powers of 2 that its bits say
pub bits-are : (bytes : List ℕ) → All (λ byte. byte < 256) bytes → IsTrue (is_number bytes)
    → (2 ^ (bits bytes - 1) ≤ value bytes) × (value bytes < 2 ^ bits bytes)
bits-are [] all number = absurd (false≢true number)
bits-are (first ∷ more) all number =
    let above : 0 < first = ltb-true _ _ number in
    let below : first < 256 = All-head (λ byte. byte < 256) first more all in
    let top = leading_top 8 first above below in
    let rest = fold-between (with_byte 0 first) more (All-tail (λ byte. byte < 256) first more all) in
    between_powers (count_leading_zeros 8 first) top.0 (length more) first (fold with_byte (with_byte 0 first) more) top.1 top.2 top.3
    (omega (arith, rest.0)) (omega (arith, rest.1))

-- the contents of a number are that number, and their first bit is 0
pub positive-value : (number : List ℕ) → (value (positive number) ≡ value number) × (slice_index (positive number) 0 < 128)
unfolding positive
positive-value number = elim (cases_Bool (nat_lt (slice_index number 0) 128)) [
  | inl small ↦ rw small (refl, ltb-true _ _ small)
  | inr great ↦ rw great (refl, omega arith)
]

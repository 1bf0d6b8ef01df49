-- What the bytes of a key say.
use Rattle.std.proofs.Common.{eq-eqb, ◌≡◌, ◌≢◌, ◌≤◌, ◌<◌, ℕ, suc, ◌+◌, ◌/◌, ◌%◌, List, [], ◌∷◌, ◌++◌, length, append_assoc, ltb-true, ltb-false, arith, refl, inl, inr, sym, ap, ◌∙◌}
use Rattle.std.proofs.lemmas.Bool.{cases_Bool, false≢true}
use Rattle.std.specs.Prelude.{IsTrue, false, nat_eq, nat_lt, slice_index}
use Rattle.svid_spki.specs.Der.{bit_string, der, der_length, integer, positive, sequence}
use Rattle.svid_spki.specs.Number.{is_number}
use Rattle.svid_spki.specs.Spki.{coordinate_len, ec_public_key, ec_spki, named_curve, rsa_encryption, rsa_spki, spki}
use Rattle.svid_spki.specs.declared.curve.Curve.{Curve}
use Rattle.svid_spki.specs.declared.curve.Curve.TheVariants.{P256, P384, P521}

-- two rows that begin with as many bytes are the same piece by piece
append_pieces : (a b c d : List ℕ) → length a ≡ length c → a ++ b ≡ c ++ d → (a ≡ c) × (b ≡ d)
append_pieces [] b [] d long same = (refl, same)
append_pieces [] b (y ∷ c) d long same = absurd (omega arith)
append_pieces (x ∷ a) b [] d long same = absurd (omega arith)
append_pieces (x ∷ a) b (y ∷ c) d long same =
    let rest : a ++ b ≡ c ++ d = cc in
    let first : x ≡ y = cc in
    let pieces = append_pieces a b c d (omega arith) rest in
    (cc, pieces.1)

unlike : (n m : ℕ) → nat_eq n m ≡ false → n ≢ m
unlike n m other same = false≢true (sym other ∙ eq-eqb n m same)

-- the forms of a length
data Form (n : ℕ) (l : List ℕ) : Type 0 where
  one : n < 128 → l ≡ n ∷ [] → Form n l
  two : l ≡ 0x81 ∷ n ∷ [] → Form n l
  three : l ≡ 0x82 ∷ (n / 256) ∷ (n % 256) ∷ [] → Form n l

form : (n : ℕ) → Form n (der_length n)
form n = elim (cases_Bool (nat_lt n 128)) [
  | inl short ↦ one (ltb-true _ _ short) (rw short refl)
  | inr long ↦ elim (cases_Bool (nat_lt n 256)) [
    | inl byte ↦ two (rw long (rw byte refl))
    | inr bytes ↦ three (rw long (rw bytes refl))
  ]
]

same_form : (n m : ℕ) (k l x y : List ℕ) → Form n k → Form m l → k ++ x ≡ l ++ y → (n ≡ m) × (x ≡ y)
same_form n m k l x y (one small is) (one little are) same =
    let both : n ∷ x ≡ m ∷ y = rw is at (rw are at same) in (cc, cc)
same_form n m k l x y (one small is) (two are) same =
    let both : n ∷ x ≡ 0x81 ∷ m ∷ y = rw is at (rw are at same) in
    let first : n ≡ 0x81 = cc in absurd (omega arith)
same_form n m k l x y (one small is) (three are) same =
    let both : n ∷ x ≡ 0x82 ∷ (m / 256) ∷ (m % 256) ∷ y = rw is at (rw are at same) in
    let first : n ≡ 0x82 = cc in absurd (omega arith)
same_form n m k l x y (two is) (one little are) same =
    let both : 0x81 ∷ n ∷ x ≡ m ∷ y = rw is at (rw are at same) in
    let first : m ≡ 0x81 = cc in absurd (omega arith)
same_form n m k l x y (two is) (two are) same =
    let both : 0x81 ∷ n ∷ x ≡ 0x81 ∷ m ∷ y = rw is at (rw are at same) in (cc, cc)
same_form n m k l x y (two is) (three are) same =
    let both : 0x81 ∷ n ∷ x ≡ 0x82 ∷ (m / 256) ∷ (m % 256) ∷ y = rw is at (rw are at same) in
    absurd (unlike 0x81 0x82 refl (ap (λ l. slice_index l 0) both))
same_form n m k l x y (three is) (one little are) same =
    let both : 0x82 ∷ (n / 256) ∷ (n % 256) ∷ x ≡ m ∷ y = rw is at (rw are at same) in
    let first : m ≡ 0x82 = cc in absurd (omega arith)
same_form n m k l x y (three is) (two are) same =
    let both : 0x82 ∷ (n / 256) ∷ (n % 256) ∷ x ≡ 0x81 ∷ m ∷ y = rw is at (rw are at same) in
    absurd (unlike 0x82 0x81 refl (ap (λ l. slice_index l 0) both))
same_form n m k l x y (three is) (three are) same =
    let both : 0x82 ∷ (n / 256) ∷ (n % 256) ∷ x ≡ 0x82 ∷ (m / 256) ∷ (m % 256) ∷ y = rw is at (rw are at same) in
    let high : n / 256 ≡ m / 256 = cc in
    let low : n % 256 ≡ m % 256 = cc in
    (omega arith, cc)

-- bytes begin with one value alone
pub der-unique : (s t : ℕ) (a b x y : List ℕ) → der s a ++ x ≡ der t b ++ y → (s ≡ t) × (a ≡ b) × (x ≡ y)
unfolding der
der-unique s t a b x y same =
    let tags : s ≡ t = cc in
    let tails : (der_length (length a) ++ a) ++ x ≡ (der_length (length b) ++ b) ++ y = cc in
    let apart : der_length (length a) ++ (a ++ x) ≡ der_length (length b) ++ (b ++ y) =
    sym (append_assoc (der_length (length a)) a x) ∙ (tails ∙ append_assoc (der_length (length b)) b y) in
    let lengths = same_form (length a) (length b) _ _ (a ++ x) (b ++ y) (form (length a)) (form (length b)) apart in
    let pieces = append_pieces a x b y lengths.0 lengths.1 in
    (tags, pieces.0, pieces.1)

-- the same where nothing stands behind
pub der-same : (s t : ℕ) (a b : List ℕ) → der s a ≡ der t b → a ≡ b
der-same s t a b same = (der-unique s t a b [] [] (ap (λ l. l ++ []) same)).1

-- a number is one row of contents
pub positive-same : (n m : List ℕ) → IsTrue (is_number n) → IsTrue (is_number m) → positive n ≡ positive m → n ≡ m
unfolding positive
positive-same n m is_n is_m same = elim (cases_Bool (nat_lt (slice_index n 0) 128)) [
  | inl small ↦ elim (cases_Bool (nat_lt (slice_index m 0) 128)) [
    | inl little ↦ rw small at (rw little at same)
    | inr great ↦
        let both : n ≡ 0 ∷ m = rw small at (rw great at same) in
        let above = ltb-true _ _ is_n in
        let first : slice_index n 0 ≡ 0 = ap (λ l. slice_index l 0) both in
        absurd (omega arith)
  ]
  | inr great ↦ elim (cases_Bool (nat_lt (slice_index m 0) 128)) [
    | inl little ↦
        let both : 0 ∷ n ≡ m = rw great at (rw little at same) in
        let above = ltb-true _ _ is_m in
        let first : 0 ≡ slice_index m 0 = ap (λ l. slice_index l 0) both in
        absurd (omega arith)
    | inr more ↦
        let both : 0 ∷ n ≡ 0 ∷ m = rw great at (rw more at same) in cc
  ]
]

-- a key's bytes say what it is for, and the key
spki-same : (a b k l : List ℕ) → spki a k ≡ spki b l → (a ≡ b) × (k ≡ l)
spki-same a b k l same =
    let parts = der-same 0x30 0x30 _ _ same in
    let both = der-unique 0x30 0x30 a b (bit_string k) (bit_string l) parts in
    let bits : 0 ∷ k ≡ 0 ∷ l = der-same 0x03 0x03 _ _ both.2 in
    (both.1, cc)

-- two RSA keys with the same bytes are the same
pub rsa-same : (n e m f : List ℕ) → IsTrue (is_number n) → IsTrue (is_number e) → IsTrue (is_number m) → IsTrue (is_number f)
    → rsa_spki n e ≡ rsa_spki m f → (n ≡ m) × (e ≡ f)
rsa-same n e m f is_n is_e is_m is_f same =
    let keys = (spki-same _ _ _ _ same).1 in
    let numbers = der-same 0x30 0x30 _ _ keys in
    let both = der-unique 0x02 0x02 (positive n) (positive m) (integer e) (integer f) numbers in
    (positive-same n m is_n is_m both.1, positive-same e f is_e is_f (der-same 0x02 0x02 _ _ both.2))

-- the curve that a key is for
curve-same : (c d : Curve) → ec_public_key ++ named_curve c ≡ ec_public_key ++ named_curve d → c ≡ d
unfolding der
curve-same P256 P256 same = refl
curve-same P256 P384 same = absurd (unlike 8 5 refl (ap (λ l. slice_index l 10) same))
curve-same P256 P521 same = absurd (unlike 8 5 refl (ap (λ l. slice_index l 10) same))
curve-same P384 P256 same = absurd (unlike 5 8 refl (ap (λ l. slice_index l 10) same))
curve-same P384 P384 same = refl
curve-same P384 P521 same = absurd (unlike 0x22 0x23 refl (ap (λ l. slice_index l 15) same))
curve-same P521 P256 same = absurd (unlike 5 8 refl (ap (λ l. slice_index l 10) same))
curve-same P521 P384 same = absurd (unlike 0x23 0x22 refl (ap (λ l. slice_index l 15) same))
curve-same P521 P521 same = refl

-- two EC keys with the same bytes are the same
pub ec-same : (c d : Curve) (x y u v : List ℕ) → length x ≡ coordinate_len c → length u ≡ coordinate_len d
    → ec_spki c x y ≡ ec_spki d u v → (c ≡ d) × (x ≡ u) × (y ≡ v)
ec-same c d x y u v long wide same =
    let keys = spki-same _ _ _ _ same in
    let curves = curve-same c d keys.0 in
    let points : x ++ y ≡ u ++ v = let all = keys.1 in cc in
    let lengths : length x ≡ length u = long ∙ (ap coordinate_len curves ∙ sym wide) in
    let pieces = append_pieces x y u v lengths points in
    (curves, pieces.0, pieces.1)

-- no RSA key has the bytes of an EC key
apart : (c : Curve) → rsa_encryption ≢ ec_public_key ++ named_curve c
unfolding der
apart P256 same = unlike 9 7 refl (ap (λ l. slice_index l 1) same)
apart P384 same = unlike 9 7 refl (ap (λ l. slice_index l 1) same)
apart P521 same = unlike 9 7 refl (ap (λ l. slice_index l 1) same)

pub rsa-apart : (n e x y : List ℕ) (c : Curve) → rsa_spki n e ≢ ec_spki c x y
rsa-apart n e x y c same = apart c (spki-same _ _ _ _ same).0

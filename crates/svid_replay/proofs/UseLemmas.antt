use Rattle.std.proofs.Common.{◌≡◌, ℕ, ◌+◌, ◌/◌, ◌%◌, ◌^◌, ◌<◌, zero, suc, Bool, true, false, List, [], ◌∷◌, ◌++◌, length, length-append, pow-suc, take, get_or, refl, sym, ◌∙◌, ap, subst, arith}
use Rattle.std.proofs.Math.Nat.{div-div-eq-div-mul}
use Rattle.std.proofs.lemmas.List.{take_all}
use Rattle.std.proofs.lemmas.List.Elements.{All-from_get_or}
use Rattle.std.proofs.lemmas.Bool.Decides.{nat_tests}
use Rattle.std.specs.Cmp.{IsTotalOrder, bool_cmp_total}
use Rattle.std.specs.FinMap.{IsAntisymmetric, nat_cmp-IsAntisymmetric, slice_cmp-IsAntisymmetric}
use Rattle.std.proofs.lemmas.Cmp.{then_total, on_total, nat_cmp_total, nat_list_cmp_total}
use Rattle.std.specs.Ordering.{nat_cmp, bool_cmp, ordering_then}
use Rattle.std.specs.declared.cmp.Ordering.{Ordering}
use Rattle.std.specs.declared.cmp.Ordering.TheVariants.{Less, Equal, Greater}
use Rattle.std.specs.Int.{from_bool, to_be_bytes, w64}
use Rattle.svid_replay.specs.declared.token_use.Use.{Use}
use Rattle.svid_replay.specs.Use.{IsBytes, IsUse, front_text, text_of, use_cmp, bytes_cmp, OrderIsTextOrder}

-- a use whose fields have their types' ranges, by index, is within them
pub use_of_fields : (u : Use) → u.exp < 2 ^ 64 → length u.key ≡ 32 → ((i : ℕ) → get_or u.key i 0 < 256) → length u.validator_id ≡ 16 → ((i : ℕ) → get_or u.validator_id i 0 < 256) → u.at < 2 ^ 64 → IsUse u
use_of_fields u exp long_key key long_validator_id validator_id at =
    let bytes = λ (n : ℕ) (bs : List ℕ) (long : length bs ≡ n) (each : (i : ℕ) → get_or bs i 0 < 256). let found : IsBytes n bs = record { size = long; each = All-from_get_or (λ b. b < 256) bs 0 (λ i _. each i) } in found in
    record { exp = exp; key = bytes 32 u.key long_key key; validator_id = bytes 16 u.validator_id long_validator_id validator_id; at = at }

-- five pieces, one after the other, fill a text of 65 bytes
pub pieces_fill : (t1 t2 t3 t4 t5 a b c d : List ℕ) (k : ℕ) (u : Use) → a ≡ to_be_bytes w64 u.exp → b ≡ u.key → c ≡ u.validator_id → d ≡ to_be_bytes w64 u.at → k ≡ from_bool u.withdrawn → length b ≡ 32 → length c ≡ 16 → take (0 + length a) t1 ≡ a → take (8 + length b) t2 ≡ take 8 t1 ++ b → take (40 + length c) t3 ≡ take 40 t2 ++ c → take (56 + length d) t4 ≡ take 56 t3 ++ d → take 65 t5 ≡ take 64 t4 ++ k ∷ [] → length t5 ≡ 65 → t5 ≡ text_of u
unfolding text_of front_text
pieces_fill t1 t2 t3 t4 t5 a b c d k u ea eb ec ed ek lb lc p1 p2 p3 p4 p5 l5 =
    let e1 : take 8 t1 ≡ a = subst (λ (n : ℕ). take (0 + n) t1 ≡ a) (ap length ea) p1 in
    let e2 : take 40 t2 ≡ a ++ b = subst (λ (n : ℕ). take (8 + n) t2 ≡ take 8 t1 ++ b) lb p2 ∙ ap (λ x. x ++ b) e1 in
    let e3 : take 56 t3 ≡ a ++ b ++ c = subst (λ (n : ℕ). take (40 + n) t3 ≡ take 40 t2 ++ c) lc p3 ∙ ap (λ x. x ++ c) e2 in
    let e4 : take 64 t4 ≡ a ++ b ++ c ++ d = subst (λ (n : ℕ). take (56 + n) t4 ≡ take 56 t3 ++ d) (ap length ed) p4 ∙ ap (λ x. x ++ d) e3 in
    let e5 : take 65 t5 ≡ a ++ b ++ c ++ d ++ k ∷ [] = p5 ∙ ap (λ x. x ++ k ∷ []) e4 in
    sym (take_all 65 t5 (omega arith)) ∙ e5 ∙ rw (ea, eb, ec, ed, ek)

ordering_then-assoc : (a b c : Ordering) → ordering_then (ordering_then a b) c ≡ ordering_then a (ordering_then b c)
ordering_then-assoc Less b c = refl
ordering_then-assoc Equal b c = refl
ordering_then-assoc Greater b c = refl

ordering_then-Equal : (a : Ordering) → ordering_then a Equal ≡ a
ordering_then-Equal Less = refl
ordering_then-Equal Equal = refl
ordering_then-Equal Greater = refl

-- rows that begin with parts of equal length are compared by these parts, and then by the rest
pub bytes_cmp-append : (a b c d : List ℕ) → length a ≡ length b → bytes_cmp (a ++ c) (b ++ d) ≡ ordering_then (bytes_cmp a b) (bytes_cmp c d)
bytes_cmp-append [] [] c d e = refl
bytes_cmp-append [] (y ∷ ys) c d e = absurd (omega arith)
bytes_cmp-append (x ∷ xs) [] c d e = absurd (omega arith)
bytes_cmp-append (x ∷ xs) (y ∷ ys) c d e = ap (ordering_then (nat_cmp x y)) (bytes_cmp-append xs ys c d (omega arith)) ∙ sym (ordering_then-assoc (nat_cmp x y) (bytes_cmp xs ys) (bytes_cmp c d))

-- numbers are compared by their quotients by 256, and then by their remainders
nat_cmp-div : (x y : ℕ) → nat_cmp x y ≡ ordering_then (nat_cmp (x / 256) (y / 256)) (nat_cmp (x % 256) (y % 256))
nat_cmp-div x y = grind (arith, nat_tests)

-- the last k base-256 digits of a number, most significant first
digits : ℕ → ℕ → List ℕ
digits zero n = []
digits (suc k) n = digits k (n / 256) ++ n % 256 ∷ []

length-digits : (k n : ℕ) → length (digits k n) ≡ k
unfolding digits
length-digits zero n = refl
length-digits (suc k) n = omega (arith, length-append (digits k (n / 256)) (n % 256 ∷ []), length-digits k (n / 256))

-- numbers of so many digits are compared as their digits are
nat_cmp-digits : (k x y : ℕ) → x < 256 ^ k → y < 256 ^ k → nat_cmp x y ≡ bytes_cmp (digits k x) (digits k y)
unfolding digits
nat_cmp-digits zero x y h g = let a : x ≡ 0 = omega arith in let b : y ≡ 0 = omega arith in rw (a, b)
nat_cmp-digits (suc k) x y h g =
    let below : (n : ℕ) → n < 256 ^ suc k → n / 256 < 256 ^ k = λ n l. omega (arith, pow-suc 256 k) in
    nat_cmp-div x y ∙ rw (nat_cmp-digits k (x / 256) (y / 256) (below x h) (below y g), bytes_cmp-append (digits k (x / 256)) (digits k (y / 256)) (x % 256 ∷ []) (y % 256 ∷ []) (length-digits k (x / 256) ∙ sym (length-digits k (y / 256))), ordering_then-Equal (nat_cmp (x % 256) (y % 256)))

to_be_bytes-digits : (n : ℕ) → to_be_bytes w64 n ≡ digits 8 n
unfolding digits
to_be_bytes-digits n = simp div-div-eq-div-mul

-- numbers of 64 bits are compared as their eight bytes are
nat_cmp-to_be_bytes : (x y : ℕ) → x < 2 ^ 64 → y < 2 ^ 64 → nat_cmp x y ≡ bytes_cmp (to_be_bytes w64 x) (to_be_bytes w64 y)
nat_cmp-to_be_bytes x y h g =
    nat_cmp-digits 8 x y h g ∙ sym (ap (λ (a : List ℕ). bytes_cmp a (to_be_bytes w64 y)) (to_be_bytes-digits x) ∙ ap (bytes_cmp (digits 8 x)) (to_be_bytes-digits y))

-- the bytes 0 and 1 are compared as the values that they encode
bool_cmp-bytes : (x y : Bool) → bool_cmp x y ≡ bytes_cmp (from_bool x ∷ []) (from_bool y ∷ [])
bool_cmp-bytes false false = refl
bool_cmp-bytes false true = refl
bool_cmp-bytes true false = refl
bool_cmp-bytes true true = refl

-- rows of five parts of equal lengths are compared part by part
bytes_cmp-parts : (e f k l p q a b c d : List ℕ) → length e ≡ length f → length k ≡ length l → length p ≡ length q → length a ≡ length b → bytes_cmp (e ++ k ++ p ++ a ++ c) (f ++ l ++ q ++ b ++ d) ≡ ordering_then (bytes_cmp e f) (ordering_then (bytes_cmp k l) (ordering_then (bytes_cmp p q) (ordering_then (bytes_cmp a b) (bytes_cmp c d))))
bytes_cmp-parts e f k l p q a b c d le lk lp la =
    let two : length (e ++ k) ≡ length (f ++ l) = omega (arith, length-append e k, length-append f l) in
    let three : length (e ++ k ++ p) ≡ length (f ++ l ++ q) = omega (arith, length-append (e ++ k) p, length-append (f ++ l) q) in
    let four : length (e ++ k ++ p ++ a) ≡ length (f ++ l ++ q ++ b) = omega (arith, length-append (e ++ k ++ p) a, length-append (f ++ l ++ q) b) in
    rw (bytes_cmp-append (e ++ k ++ p ++ a) (f ++ l ++ q ++ b) c d four, bytes_cmp-append (e ++ k ++ p) (f ++ l ++ q) a b three, bytes_cmp-append (e ++ k) (f ++ l) p q two, bytes_cmp-append e f k l le)
    (ordering_then-assoc _ (bytes_cmp a b) (bytes_cmp c d) ∙ ordering_then-assoc _ (bytes_cmp p q) _ ∙ ordering_then-assoc (bytes_cmp e f) (bytes_cmp k l) _)

pub order_is_text_order : OrderIsTextOrder
unfolding text_of front_text
order_is_text_order u v a b =
    let exps = to_be_bytes w64 u.exp in
    let others = to_be_bytes w64 v.exp in
    sym (bytes_cmp-parts exps others u.key v.key u.validator_id v.validator_id (to_be_bytes w64 u.at) (to_be_bytes w64 v.at) (from_bool u.withdrawn ∷ []) (from_bool v.withdrawn ∷ []) refl (a.key.size ∙ sym b.key.size) (a.validator_id.size ∙ sym b.validator_id.size) refl
    ∙ sym (ap (λ (o : Ordering). ordering_then o (ordering_then (bytes_cmp u.key v.key) (ordering_then (bytes_cmp u.validator_id v.validator_id) (ordering_then (nat_cmp u.at v.at) (bool_cmp u.withdrawn v.withdrawn))))) (nat_cmp-to_be_bytes u.exp v.exp a.exp b.exp)
    ∙ ap (λ (o : Ordering). ordering_then (bytes_cmp exps others) (ordering_then (bytes_cmp u.key v.key) (ordering_then (bytes_cmp u.validator_id v.validator_id) (ordering_then o (bool_cmp u.withdrawn v.withdrawn))))) (nat_cmp-to_be_bytes u.at v.at a.at b.at)
    ∙ ap (λ (o : Ordering). ordering_then (bytes_cmp exps others) (ordering_then (bytes_cmp u.key v.key) (ordering_then (bytes_cmp u.validator_id v.validator_id) (ordering_then (bytes_cmp (to_be_bytes w64 u.at) (to_be_bytes w64 v.at)) o)))) (bool_cmp-bytes u.withdrawn v.withdrawn)))

pub use_total : IsTotalOrder use_cmp
use_total =
    then_total (on_total (λ (u : Use). u.exp) nat_cmp_total) (then_total (on_total (λ (u : Use). u.key) nat_list_cmp_total) (then_total (on_total (λ (u : Use). u.validator_id) nat_list_cmp_total) (then_total (on_total (λ (u : Use). u.at) nat_cmp_total) (on_total (λ (u : Use). u.withdrawn) bool_cmp_total))))

pub both_equal : (a b : Ordering) → ordering_then a b ≡ Equal → (a ≡ Equal) × (b ≡ Equal)
both_equal Less b e = cc
both_equal Equal b e = (refl, e)
both_equal Greater b e = cc

pub exact_kinds : IsAntisymmetric bool_cmp
exact_kinds false false e = refl
exact_kinds true true e = refl
exact_kinds false true e = cc
exact_kinds true false e = cc

-- uses that compare as equal are the same
pub use_exact : IsAntisymmetric use_cmp
use_exact u v e =
    let one = both_equal (nat_cmp u.exp v.exp) _ e in
    let two = both_equal (bytes_cmp u.key v.key) _ one.1 in
    let three = both_equal (bytes_cmp u.validator_id v.validator_id) _ two.1 in
    let exp = nat_cmp-IsAntisymmetric u.exp v.exp one.0 in
    let key = slice_cmp-IsAntisymmetric nat_cmp-IsAntisymmetric u.key v.key two.0 in
    let validator_id = slice_cmp-IsAntisymmetric nat_cmp-IsAntisymmetric u.validator_id v.validator_id three.0 in
    let four = both_equal (nat_cmp u.at v.at) _ three.1 in
    let at = nat_cmp-IsAntisymmetric u.at v.at four.0 in
    let withdrawn = exact_kinds u.withdrawn v.withdrawn four.1 in
    λ i. record { exp = exp i; key = key i; validator_id = validator_id i; at = at i; withdrawn = withdrawn i }

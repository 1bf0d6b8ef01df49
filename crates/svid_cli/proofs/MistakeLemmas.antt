-- What a line has for the first of some bytes, and for the others.
use Rattle.std.proofs.Common.{◌≡◌, ℕ, ◌+◌, ◌-◌, ◌<◌, ◌≤◌, ◌&&◌, ◌==◌, List, [], ◌∷◌, ◌++◌, length, get_or, drop, codes, Bool, true, false, not, ◌||◌, nat_le, nat_lt, if◌then◌else◌, Result, Ok, Err, IfOk, refl, sym, ap, ◌∙◌, append_assoc, append-nil, arith}
use Rattle.std.proofs.lemmas.Bool.{and_from, and_parts, eqb-true, le-ltb, leb-true, lt-ltb, ltb-true, ne_eqb}
use Rattle.std.proofs.lemmas.List.{drop_all, drop_more}
use Rattle.svid_cli.specs.Mistake.{HasWords, hides_tokens, is_control, is_of_token, is_one_line, left_after, mistake_text, most_of_token, shown, shown_from}

shown_next : (line : List ℕ) (left byte : ℕ) (rest : List ℕ) → line ++ shown left byte ++ shown_from (left_after left byte) rest ≡ line ++ shown_from left (byte ∷ rest)
unfolding shown_from
shown_next line left byte rest = append_assoc line (shown left byte) (shown_from (left_after left byte) rest)

-- a line that got the output for one more byte ends as before
pub shown_more : (bytes line new all : List ℕ) (i left after : ℕ) → i < length bytes
    → new ≡ line ++ shown left (get_or bytes i 0) → after ≡ left_after left (get_or bytes i 0)
    → line ++ shown_from left (drop i bytes) ≡ all → new ++ shown_from after (drop (i + 1) bytes) ≡ all
shown_more bytes line new all i left after within pushed then_left before =
    rw (pushed, then_left) (shown_next line left (get_or bytes i 0) (drop (i + 1) bytes) ∙ ap (λ bs. line ++ shown_from left bs) (sym (drop_more bytes i 0 within)) ∙ before)

-- a line that got the output for all bytes is whole
pub shown_all : (bytes line all : List ℕ) (i left : ℕ) → length bytes ≤ i → line ++ shown_from left (drop i bytes) ≡ all → line ≡ all
unfolding shown_from
shown_all bytes line all i left end before = sym (append-nil line) ∙ ap (λ bs. line ++ shown_from left bs) (sym (drop_all i bytes end)) ∙ before

-- a line that may show more bytes also hides tokens
more_than : (of : Bool) (n m : ℕ) (rest : List ℕ) → n ≤ m → ((a b : ℕ) → a ≤ b → hides_tokens a rest ≡ true → hides_tokens b rest ≡ true)
    → (if of then nat_lt 0 n && hides_tokens (n - 1) rest else hides_tokens most_of_token rest) ≡ true
    → (if of then nat_lt 0 m && hides_tokens (m - 1) rest else hides_tokens most_of_token rest) ≡ true
more_than true n m rest le behind hides =
    let parts = and_parts (nat_lt 0 n) (hides_tokens (n - 1) rest) hides in
    and_from (nat_lt 0 m) (hides_tokens (m - 1) rest) (lt-ltb 0 m (omega (arith, ltb-true 0 n parts.0, le))) (behind (n - 1) (m - 1) (omega (arith, le)) parts.1)
more_than false n m rest le behind hides = hides

hides_more : (n m : ℕ) (line : List ℕ) → n ≤ m → hides_tokens n line ≡ true → hides_tokens m line ≡ true
unfolding hides_tokens
hides_more n m [] le hides = refl
hides_more n m (byte ∷ rest) le hides = more_than (is_of_token byte) n m rest le (λ a b within. hides_more a b rest within) hides

-- a byte that no token has, followed by bytes that hide tokens
hides_other : (left byte : ℕ) (rest : List ℕ) → is_of_token byte ≡ false → hides_tokens most_of_token rest ≡ true → hides_tokens left (byte ∷ rest) ≡ true
unfolding hides_tokens
hides_other left byte rest other hides = rw other hides

-- a byte that a token has, where so many may be shown, followed by bytes that hide tokens
hides_one : (some : Bool) (left byte : ℕ) (rest : List ℕ) → is_of_token byte ≡ true → nat_lt 0 left ≡ some
    → hides_tokens (left - 1) rest ≡ true → hides_tokens left ((if some then byte ∷ [] else []) ++ rest) ≡ true
unfolding hides_tokens
hides_one true left byte rest is some hides = rw is (and_from (nat_lt 0 left) (hides_tokens (left - 1) rest) some hides)
hides_one false left byte rest is some hides = hides_more (left - 1) left rest (omega arith) hides

hides_first : (of ends controls : Bool) (left byte : ℕ) (rest : List ℕ) → is_of_token byte ≡ of → left ≤ most_of_token
    → ((n : ℕ) → n ≤ most_of_token → hides_tokens n (shown_from n rest) ≡ true)
    → hides_tokens left ((if of then if nat_lt 0 left then byte ∷ [] else [] else if ends then codes "; " else if controls then [] else byte ∷ [])
    ++ shown_from (if of then left - 1 else if controls then left else most_of_token) rest) ≡ true
hides_first true ends controls left byte rest is le behind =
    hides_one (nat_lt 0 left) left byte (shown_from (left - 1) rest) is refl (behind (left - 1) (omega (arith, le)))
hides_first false true true left byte rest is le behind =
    hides_other left 59 (32 ∷ shown_from left rest) refl (hides_other most_of_token 32 (shown_from left rest) refl (hides_more left most_of_token (shown_from left rest) le (behind left le)))
hides_first false true false left byte rest is le behind =
    hides_other left 59 (32 ∷ shown_from most_of_token rest) refl (hides_other most_of_token 32 (shown_from most_of_token rest) refl (behind most_of_token (omega arith)))
hides_first false false true left byte rest is le behind = behind left le
hides_first false false false left byte rest is le behind = hides_other left byte (shown_from most_of_token rest) is (behind most_of_token (omega arith))

-- what a line has for bytes hides tokens
pub hides_shown : (left : ℕ) (bytes : List ℕ) → left ≤ most_of_token → hides_tokens left (shown_from left bytes) ≡ true
unfolding shown_from hides_tokens
hides_shown left [] le = refl
hides_shown left (byte ∷ rest) le = hides_first (is_of_token byte) (byte == 10) (is_control byte) left byte rest refl le (λ n within. hides_shown n rest within)

-- a byte between these is no control character
no_control_between : (byte : ℕ) → 45 ≤ byte → byte ≤ 122 → is_control byte ≡ false
no_control_between byte low high = rw (le-ltb byte 32 (omega (arith, low))) (rw (ne_eqb byte 127 (λ e. omega (arith, high, e))) refl)

no_control_in : (byte low high : ℕ) → 45 ≤ low → high ≤ 122 → (nat_le low byte && nat_le byte high) ≡ true → is_control byte ≡ false
no_control_in byte low high least most both =
    let parts = and_parts (nat_le low byte) (nat_le byte high) both in
    let above : low ≤ byte = leb-true low byte parts.0 in
    let below : byte ≤ high = leb-true byte high parts.1 in
    no_control_between byte (omega (arith, least, above)) (omega (arith, most, below))

no_control_at : (byte at : ℕ) → 45 ≤ at → at ≤ 122 → (byte == at) ≡ true → is_control byte ≡ false
no_control_at byte at least most same =
    let is : byte ≡ at = eqb-true byte at same in
    no_control_between byte (omega (arith, least, is)) (omega (arith, most, is))

either : (byte : ℕ) (a b : Bool) → (a ≡ true → is_control byte ≡ false) → (b ≡ true → is_control byte ≡ false) → (a || b) ≡ true → is_control byte ≡ false
either byte true b f g h = f refl
either byte false b f g h = g h

-- a byte of a token is no control character
no_control : (byte : ℕ) → is_of_token byte ≡ true → is_control byte ≡ false
no_control byte of =
    let digit = nat_le 48 byte && nat_le byte 57 in
    let large = nat_le 65 byte && nat_le byte 90 in
    let small = nat_le 97 byte && nat_le byte 122 in
    either byte (digit || large || small || (byte == 45) || (byte == 95)) (byte == 46)
    (either byte (digit || large || small || (byte == 45)) (byte == 95)
    (either byte (digit || large || small) (byte == 45)
    (either byte (digit || large) small
    (either byte digit large (no_control_in byte 48 57 (omega arith) (omega arith)) (no_control_in byte 65 90 (omega arith) (omega arith)))
    (no_control_in byte 97 122 (omega arith) (omega arith)))
    (no_control_at byte 45 (omega arith) (omega arith)))
    (no_control_at byte 95 (omega arith) (omega arith)))
    (no_control_at byte 46 (omega arith) (omega arith))
    of

-- the output for one byte, followed by one line, is one line
one_first : (of some ends controls : Bool) (byte : ℕ) (rest : List ℕ) → (of ≡ true → is_control byte ≡ false) → is_control byte ≡ controls → is_one_line rest ≡ true
    → is_one_line ((if of then if some then byte ∷ [] else [] else if ends then codes "; " else if controls then [] else byte ∷ []) ++ rest) ≡ true
unfolding is_one_line
one_first true true ends controls byte rest free is one = rw (free refl) one
one_first true false ends controls byte rest free is one = one
one_first false some true controls byte rest free is one = one
one_first false some false true byte rest free is one = one
one_first false some false false byte rest free is one = rw is one

-- what a line has for bytes is one line
pub one_shown : (left : ℕ) (bytes : List ℕ) → is_one_line (shown_from left bytes) ≡ true
unfolding shown_from is_one_line
one_shown left [] = refl
one_shown left (byte ∷ rest) = one_first (is_of_token byte) (nat_lt 0 left) (byte == 10) (is_control byte) byte (shown_from (left_after left byte) rest) (no_control byte) refl (one_shown (left_after left byte) rest)

-- so are they of a line that is that, where there is one
pub hides_line : {T E : Type 0} (items : T → List ℕ) (made : Result T E) (bytes : List ℕ)
    → IfOk made (λ line. items line ≡ shown_from most_of_token bytes) → IfOk made (λ line. hides_tokens most_of_token (items line) ≡ true)
hides_line items (Ok line) bytes is = rw is (hides_shown most_of_token bytes (omega arith))
hides_line items (Err e) bytes is = tt

pub one_of_line : {T E : Type 0} (items : T → List ℕ) (made : Result T E) (bytes : List ℕ)
    → IfOk made (λ line. items line ≡ shown_from most_of_token bytes) → IfOk made (λ line. is_one_line (items line) ≡ true)
one_of_line items (Ok line) bytes is = rw is (one_shown most_of_token bytes)
one_of_line items (Err e) bytes is = tt

-- and it has the words that it was made of
pub words_of_line : {T E : Type 0} (items : T → List ℕ) (made : Result T E) (bytes told help : List ℕ) → bytes ≡ mistake_text told help
    → IfOk made (λ line. items line ≡ shown_from most_of_token bytes) → IfOk made (λ line. HasWords help (items line))
words_of_line items (Ok line) bytes told help of is = (told, is ∙ ap (shown_from most_of_token) of)
words_of_line items (Err e) bytes told help of is = tt

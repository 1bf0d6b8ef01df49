-- Lemmas about specs/Scan.antt: the scan finds exactly the pieces that a value is spelled from.
use Rattle.std.proofs.Common.{◌≡◌, ℕ, ◌+◌, ◌-◌, ◌<◌, Bool, true, false, List, [], ◌∷◌, ◌++◌, length, map, take, drop, get_or, refl, sym, ◌∙◌, arith, subst, take-add}
use Rattle.std.specs.Char.{to_ascii_lowercase}
use Rattle.std.specs.List.{AllPass, list_all, prefix_len}
use Rattle.std.proofs.Math.Seq.{drop-append_seam, take-append_seam}
use Rattle.std.proofs.lemmas.Bool.Decides.{nat_tests}
use Rattle.std.proofs.lemmas.List.{length-append, length-drop, length-map, length-take-le, get_or-take, take-append-drop, append_assoc}
use Rattle.std.proofs.lemmas.List.Folds.{list_all-map, prefix_len-append}
use Rattle.std.proofs.lemmas.List.Sums.{AllPass-from_list_all, list_all-from_AllPass, prefix_len-le-length, prefix_len_is, prefix_len_passes}
use Rattle.svid_bearer.specs.Scan.{behind_word, has_token, offset_of, rest_of, token_len, token_of, unblank, unspace}
use Rattle.svid_bearer.specs.Value.{Carries, IsBearer, is_blank, is_equals, is_space, is_token_byte, is_word_byte, scheme_of}

pub ruleset runs_fit = (prefix_len-le-length)

-- what a class is counted in passes
pub front-passes : (p : ℕ → Bool) (xs : List ℕ) → AllPass p (take (prefix_len p xs) xs)
front-passes p xs = λ k d h.
    let fits = prefix_len-le-length p xs in
    let len = length-take-le (prefix_len p xs) xs fits in
    rw (get_or-take (prefix_len p xs) xs k d (omega arith)) (prefix_len_passes p xs k d (omega arith))

-- a run of a class is counted whole, where none of it follows
pub run-count : (p : ℕ → Bool) (xs ys : List ℕ) → AllPass p xs → prefix_len p ys ≡ 0 → prefix_len p (xs ++ ys) ≡ length xs
run-count p xs ys all none =
    let whole : prefix_len p xs ≡ length xs = prefix_len_is p xs (length xs) 0 (omega arith) (λ k h. all k 0 h) (λ h. absurd (omega arith)) in
    let joined = prefix_len-append p xs ys in
    grind (arith, nat_tests)

-- none of a class is in front of a run of another one, where none of it follows the run
pub run-none : (p q : ℕ → Bool) → ((b : ℕ) → q b ≡ true → p b ≡ false) → (xs ys : List ℕ)
    → AllPass q xs → prefix_len p ys ≡ 0 → prefix_len p (xs ++ ys) ≡ 0
run-none p q apart [] ys all none = none
run-none p q apart (x ∷ xs) ys all none =
    let other : p x ≡ false = apart x (all 0 0 (omega arith)) in
    rw other refl

-- nor, whatever follows it, where the run has a byte
pub run-apart : (p q : ℕ → Bool) → ((b : ℕ) → q b ≡ true → p b ≡ false) → (xs ys : List ℕ)
    → AllPass q xs → 0 < length xs → prefix_len p (xs ++ ys) ≡ 0
run-apart p q apart [] ys all some = absurd (omega arith)
run-apart p q apart (x ∷ xs) ys all some =
    let other : p x ≡ false = apart x (all 0 0 (omega arith)) in
    rw other refl

-- what stands behind a run that is counted whole
pub behind-run : (p : ℕ → Bool) (xs ys : List ℕ) → AllPass p xs → prefix_len p ys ≡ 0
    → drop (prefix_len p (xs ++ ys)) (xs ++ ys) ≡ ys
behind-run p xs ys all none = rw (run-count p xs ys all none) (drop-append_seam xs ys)

-- a byte is blank exactly if it is in the other case
pub word-lower : (b : ℕ) → is_word_byte (to_ascii_lowercase b) ≡ true → is_word_byte b ≡ true
word-lower b is = grind (arith, nat_tests)

-- the scheme has no blank
pub scheme-word : (scheme : List ℕ) → IsBearer scheme → AllPass is_word_byte scheme
scheme-word scheme is =
    let lower : list_all is_word_byte (map to_ascii_lowercase scheme) ≡ true = rw is refl in
    let each = AllPass-from_list_all _ scheme (sym (list_all-map is_word_byte to_ascii_lowercase scheme) ∙ lower) in
    λ k d h. word-lower (get_or scheme k d) (each k d h)

-- classes that have no byte in common
pub word-blank : (b : ℕ) → is_word_byte b ≡ true → is_blank b ≡ false
word-blank b is = grind (arith, nat_tests)

pub space-word : (b : ℕ) → is_space b ≡ true → is_word_byte b ≡ false
space-word b is = grind (arith, nat_tests)

pub token-space : (b : ℕ) → is_token_byte b ≡ true → is_space b ≡ false
token-space b is = grind (arith, nat_tests)

pub equals-token : (b : ℕ) → is_equals b ≡ true → is_token_byte b ≡ false
equals-token b is = grind (arith, nat_tests)

pub blank-token : (b : ℕ) → is_blank b ≡ true → is_token_byte b ≡ false
blank-token b is = grind (arith, nat_tests)

pub blank-equals : (b : ℕ) → is_blank b ≡ true → is_equals b ≡ false
blank-equals b is = grind (arith, nat_tests)

-- none of a class is in front of a text of another one
pub none-of : (p q : ℕ → Bool) → ((b : ℕ) → q b ≡ true → p b ≡ false) → (xs : List ℕ) → AllPass q xs → prefix_len p xs ≡ 0
none-of p q apart [] all = refl
none-of p q apart (x ∷ xs) all =
    let other : p x ≡ false = apart x (all 0 0 (omega arith)) in
    rw other refl

-- a token and blanks behind it are scanned as that
pub scan-token : (bytes equals after : List ℕ) → AllPass is_token_byte bytes → AllPass is_equals equals → AllPass is_blank after
    → (prefix_len is_token_byte (bytes ++ (equals ++ after)) ≡ length bytes)
    × (token_len (bytes ++ (equals ++ after)) ≡ length bytes + length equals)
scan-token bytes equals after of_bytes of_equals blank =
    let no_byte = run-none is_token_byte is_equals equals-token equals after of_equals (none-of is_token_byte is_blank blank-token after blank) in
    let count = run-count is_token_byte bytes (equals ++ after) of_bytes no_byte in
    let behind = behind-run is_token_byte bytes (equals ++ after) of_bytes no_byte in
    let more = run-count is_equals equals after of_equals (none-of is_equals is_blank blank-equals after blank) in
    (count, rw count (rw (drop-append_seam bytes (equals ++ after)) (rw more refl)))

-- what a scan of a value finds, where it is a token in its place
pub record Scans (value : List ℕ) (offset : ℕ) (token : List ℕ) : Type 0 where
  pub scheme : IsBearer (scheme_of value)
  pub has : has_token (rest_of value) ≡ true
  pub token_is : token_of value ≡ token
  pub offset_is : offset_of value ≡ offset

-- what a text behind a scheme scans as
pub scan-rest : (spaces bytes equals after : List ℕ) → AllPass is_space spaces → 0 < length spaces → 0 < length bytes
    → AllPass is_token_byte bytes → AllPass is_equals equals → AllPass is_blank after
    → let rest = spaces ++ ((bytes ++ equals) ++ after) in
    (prefix_len is_space rest ≡ length spaces) × (has_token rest ≡ true)
    × (take (token_len (unspace rest)) (unspace rest) ≡ bytes ++ equals)
scan-rest spaces bytes equals after of_space some_space some_byte of_bytes of_equals blank =
    let assoc : (bytes ++ equals) ++ after ≡ bytes ++ (equals ++ after) = append_assoc bytes equals after in
    let apart : prefix_len is_space ((bytes ++ equals) ++ after) ≡ 0 =
    rw assoc (run-apart is_space is_token_byte token-space bytes (equals ++ after) of_bytes some_byte) in
    let count = run-count is_space spaces ((bytes ++ equals) ++ after) of_space apart in
    let behind : unspace (spaces ++ ((bytes ++ equals) ++ after)) ≡ (bytes ++ equals) ++ after =
    behind-run is_space spaces ((bytes ++ equals) ++ after) of_space apart in
    let (byte_count, len) = scan-token bytes equals after of_bytes of_equals blank in
    let len_is : token_len ((bytes ++ equals) ++ after) ≡ length (bytes ++ equals) =
    rw assoc (rw (length-append bytes equals) len) in
    let count_is : prefix_len is_token_byte ((bytes ++ equals) ++ after) ≡ length bytes = rw assoc byte_count in
    let blanks : list_all is_blank after ≡ true = list_all-from_AllPass is_blank after blank in
    let tail : drop (length (bytes ++ equals)) ((bytes ++ equals) ++ after) ≡ after = drop-append_seam (bytes ++ equals) after in (
      count,
      rw behind (rw count (rw len_is (rw tail (rw count_is (rw blanks (grind (arith, nat_tests))))))),
      rw behind (rw len_is (take-append_seam (bytes ++ equals) after)),
    )

-- the same of a whole value
pub scan-value : (before scheme spaces bytes equals after : List ℕ)
    → AllPass is_blank before → IsBearer scheme → AllPass is_space spaces → 0 < length spaces → 0 < length bytes
    → AllPass is_token_byte bytes → AllPass is_equals equals → AllPass is_blank after
    → Scans (before ++ (scheme ++ (spaces ++ ((bytes ++ equals) ++ after)))) (length before + (length scheme + length spaces)) (bytes ++ equals)
scan-value before scheme spaces bytes equals after is_before is_scheme of_space some_space some_byte of_bytes of_equals blank =
    let rest = spaces ++ ((bytes ++ equals) ++ after) in
    let word = scheme-word scheme is_scheme in
    let some : 0 < length scheme =
    let six : length (map to_ascii_lowercase scheme) ≡ 6 = rw is_scheme refl in
    let same = length-map scheme to_ascii_lowercase in omega arith in
    let unblanked : unblank (before ++ (scheme ++ rest)) ≡ scheme ++ rest =
    behind-run is_blank before (scheme ++ rest) is_before (run-apart is_blank is_word_byte word-blank scheme rest word some) in
    let ends : prefix_len is_word_byte rest ≡ 0 = run-apart is_word_byte is_space space-word spaces ((bytes ++ equals) ++ after) of_space some_space in
    let count = run-count is_word_byte scheme rest word ends in
    let behind : behind_word (scheme ++ rest) ≡ rest = behind-run is_word_byte scheme rest word ends in
    let named : scheme_of (before ++ (scheme ++ rest)) ≡ scheme = rw unblanked (rw count (take-append_seam scheme rest)) in
    let found : rest_of (before ++ (scheme ++ rest)) ≡ rest = rw unblanked behind in
    let (spaced, has, taken) = scan-rest spaces bytes equals after of_space some_space some_byte of_bytes of_equals blank in
    let long : length (before ++ (scheme ++ rest)) ≡ length before + (length scheme + length rest) =
    rw (length-append before (scheme ++ rest)) (rw (length-append scheme rest) refl) in
    record {
      scheme = rw named is_scheme;
      has = rw found has;
      token_is = rw found taken;
      offset_is = rw found (rw spaced (rw long (omega arith)));
    }

-- a value that carries a token scans as it
pub Scans-Carries : (value : List ℕ) (offset : ℕ) (token : List ℕ) → Carries value offset token → Scans value offset token
Scans-Carries value offset token c =
    let t = c.is_token in
    let scanned : Scans (c.before ++ (c.scheme ++ (c.spaces ++ ((t.bytes ++ t.equals) ++ c.after)))) (length c.before + (length c.scheme + length c.spaces)) (t.bytes ++ t.equals) =
    scan-value c.before c.scheme c.spaces t.bytes t.equals c.after c.is_before c.is_scheme c.is_spaces c.some_space t.not_empty t.of_token t.of_equals c.is_after in
    let spelled : value ≡ c.before ++ (c.scheme ++ (c.spaces ++ ((t.bytes ++ t.equals) ++ c.after))) = rw (sym t.spelled) c.spelled in
    subst (λ (v : List ℕ). Scans v offset token) (sym spelled)
    (subst (λ (n : ℕ). Scans (c.before ++ (c.scheme ++ (c.spaces ++ ((t.bytes ++ t.equals) ++ c.after)))) n token) (sym c.placed)
    (subst (λ (x : List ℕ). Scans (c.before ++ (c.scheme ++ (c.spaces ++ ((t.bytes ++ t.equals) ++ c.after)))) (length c.before + (length c.scheme + length c.spaces)) x) (sym t.spelled) scanned))

-- and what scans as a token carries it
pub Carries-scan : (value : List ℕ) → IsBearer (scheme_of value) → has_token (rest_of value) ≡ true
    → Carries value (offset_of value) (token_of value)
Carries-scan value is_scheme has =
    let text = unblank value in
    let rest = rest_of value in
    let inner = unspace rest in
    let bytes = prefix_len is_token_byte inner in
    let tail = drop bytes inner in
    let equals = prefix_len is_equals tail in
    let blanks = prefix_len is_blank value in
    let word = prefix_len is_word_byte text in
    let spaces = prefix_len is_space rest in
    let some_space : 0 < spaces = grind (arith, nat_tests) in
    let some_byte : 0 < bytes = grind (arith, nat_tests) in
    let blank : list_all is_blank (drop (bytes + equals) inner) ≡ true = grind (arith, nat_tests) in
    let fit_value = prefix_len-le-length is_blank value in
    let fit_text = prefix_len-le-length is_word_byte text in
    let fit_rest = prefix_len-le-length is_space rest in
    let fit_inner = prefix_len-le-length is_token_byte inner in
    let fit_tail = prefix_len-le-length is_equals tail in
    let long_text = length-drop blanks value in
    let long_rest = length-drop word text in
    let long_inner = length-drop spaces rest in
    let long_tail = length-drop bytes inner in
    let len_before = length-take-le blanks value fit_value in
    let len_scheme = length-take-le word text fit_text in
    let len_spaces = length-take-le spaces rest fit_rest in
    let len_bytes = length-take-le bytes inner fit_inner in
    record {
      before = take blanks value;
      scheme = take word text;
      spaces = take spaces rest;
      after = drop (bytes + equals) inner;
      spelled = sym (rw (take-append-drop (bytes + equals) inner) (rw (take-append-drop spaces rest) (rw (take-append-drop word text) (take-append-drop blanks value))));
      placed = omega arith;
      is_before = front-passes is_blank value;
      is_scheme = is_scheme;
      is_spaces = front-passes is_space rest;
      some_space = omega arith;
      is_token = record {
        bytes = take bytes inner;
        equals = take equals tail;
        spelled = take-add bytes equals inner;
        not_empty = omega arith;
        of_token = front-passes is_token_byte inner;
        of_equals = front-passes is_equals tail;
      };
      is_after = AllPass-from_list_all is_blank (drop (bytes + equals) inner) blank;
    }

-- a value carries at most one token, in one place
pub Carries-unique : (value : List ℕ) (offset other_offset : ℕ) (token other : List ℕ)
    → Carries value offset token → Carries value other_offset other → (offset ≡ other_offset) × (token ≡ other)
Carries-unique value offset other_offset token other c d =
    let a = Scans-Carries value offset token c in
    let b = Scans-Carries value other_offset other d in
    (sym a.offset_is ∙ b.offset_is, sym a.token_is ∙ b.token_is)

-- one that scans as no token carries none
pub Carries-none : (value : List ℕ) → has_token (rest_of value) ≡ false → (offset : ℕ) (token : List ℕ) → ¬ Carries value offset token
Carries-none value none offset token c =
    let a = Scans-Carries value offset token c in
    let has = a.has in
    absurd (cc)

-- the steps by which a value is cut at its scheme
pub cut-steps : (value text scheme rest : List ℕ) (blanks word : ℕ) → blanks ≡ prefix_len is_blank value → text ≡ drop blanks value
    → word ≡ prefix_len is_word_byte text → scheme ≡ take word text → rest ≡ drop word text
    → (scheme ≡ scheme_of value) × (rest ≡ rest_of value)
cut-steps value text scheme rest blanks word b t w s r =
    let text_is : text ≡ unblank value = rw t (rw b refl) in
    let word_is : word ≡ prefix_len is_word_byte (unblank value) = rw (sym text_is) w in
    (rw s (rw word_is (rw text_is refl)), rw r (rw word_is (rw text_is refl)))

-- a token that was found in what follows the scheme
pub found-Carries : (value scheme rest token : List ℕ) (offset : ℕ) → (scheme ≡ scheme_of value) × (rest ≡ rest_of value)
    → IsBearer scheme → has_token rest ≡ true → token ≡ take (token_len (unspace rest)) (unspace rest)
    → offset ≡ length value - length rest + prefix_len is_space rest → Carries value offset token
found-Carries value scheme rest token offset (scheme_is, rest_is) is has taken placed =
    let scanned = Carries-scan value (subst (λ (s : List ℕ). IsBearer s) scheme_is is) (subst (λ (r : List ℕ). has_token r ≡ true) rest_is has) in
    let at : offset ≡ offset_of value = rw (sym rest_is) placed in
    let here : token ≡ token_of value = rw (sym rest_is) taken in
    subst (λ (n : ℕ). Carries value n token) (sym at) (subst (λ (x : List ℕ). Carries value (offset_of value) x) (sym here) scanned)

-- and where none was found
pub none-Carries : (value scheme rest : List ℕ) → (scheme ≡ scheme_of value) × (rest ≡ rest_of value) → IsBearer scheme
    → has_token rest ≡ false → IsBearer (scheme_of value) × ((offset : ℕ) (token : List ℕ) → ¬ Carries value offset token)
none-Carries value scheme rest (scheme_is, rest_is) is none =
    (subst (λ (s : List ℕ). IsBearer s) scheme_is is, Carries-none value (subst (λ (r : List ℕ). has_token r ≡ false) rest_is none))

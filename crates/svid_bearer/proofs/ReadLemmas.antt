-- Lemmas about specs/Read.antt: one answer is due, and what is written is read.
use Rattle.std.proofs.Common.{◌≡◌, ℕ, ◌≤◌, true, List, [], ◌++◌, length, codes, get_or, Result, Ok, Err, refl, sym, arith, ap, subst}
use Rattle.std.specs.List.{AllPass, list_all}
use Rattle.std.proofs.lemmas.Bool.Decides.{nat_tests}
use Rattle.std.proofs.lemmas.List.{append-nil}
use Rattle.std.proofs.lemmas.List.Folds.{list_all-append}
use Rattle.std.proofs.lemmas.List.Sums.{AllPass-from_list_all, list_all-from_AllPass}
use Rattle.svid_bearer.specs.Read.{Found, IsAnswer}
use Rattle.svid_bearer.specs.Value.{Carries, IsBearer, IsToken, is_equals, is_no_separator, is_space, is_token_byte, scheme_of}
use Rattle.svid_bearer.specs.declared.no_bearer.NoBearer.{NoBearer}
use Rattle.svid_bearer.specs.declared.no_bearer.NoBearer.TheVariants.{Absent, Several, Scheme, Spelling, TooLong}
use Rattle.svid_bearer.proofs.ScanLemmas.{Carries-unique, Scans-Carries}

-- a token that is carried has its scheme
pub Carries-scheme : (value : List ℕ) (offset : ℕ) (token : List ℕ) → Carries value offset token → IsBearer (scheme_of value)
Carries-scheme value offset token c = (Scans-Carries value offset token c).scheme

-- one offset and one token are one thing found
pub found-same : (p q : ℕ) (t u : List ℕ) → p ≡ q → t ≡ u → (let a : Found = record { offset = p; token = t } in let b : Found = record { offset = q; token = u } in a ≡ b)
found-same p q t u at is = rw at (rw is refl)

-- of a value no two tokens are found
pub same-found : (value : List ℕ) (one other : Found) → Carries value one.offset one.token → Carries value other.offset other.token → one ≡ other
same-found value one other c d =
    let (offset, token) = Carries-unique value one.offset other.offset one.token other.token c d in
    found-same one.offset other.offset one.token other.token offset token

pub IsAnswer-unique : (fields : ℕ) (value : List ℕ) (one other : Result Found NoBearer)
    → IsAnswer fields value one → IsAnswer fields value other → one ≡ other
IsAnswer-unique fields value (Ok a) (Ok b) (_, c, _) (_, d, _) = ap Ok (same-found value a b c d)
IsAnswer-unique fields value (Ok a) (Err Absent) (n, _, _) m = absurd (omega arith)
IsAnswer-unique fields value (Ok a) (Err Several) (n, _, _) m = absurd (omega arith)
IsAnswer-unique fields value (Ok a) (Err Scheme) (_, c, _) (_, never) = absurd (never (Carries-scheme value a.offset a.token c))
IsAnswer-unique fields value (Ok a) (Err Spelling) (_, c, _) (_, _, never) = absurd (never a.offset a.token c)
IsAnswer-unique fields value (Ok a) (Err TooLong) (_, c, short) (_, (offset, token, d, long)) =
    let (_, same) = Carries-unique value a.offset offset a.token token c d in
    let len = ap length same in absurd (omega arith)
IsAnswer-unique fields value (Err Absent) (Ok b) m (n, _, _) = absurd (omega arith)
IsAnswer-unique fields value (Err Several) (Ok b) m (n, _, _) = absurd (omega arith)
IsAnswer-unique fields value (Err Scheme) (Ok b) (_, never) (_, c, _) = absurd (never (Carries-scheme value b.offset b.token c))
IsAnswer-unique fields value (Err Spelling) (Ok b) (_, _, never) (_, c, _) = absurd (never b.offset b.token c)
IsAnswer-unique fields value (Err TooLong) (Ok b) (_, (offset, token, d, long)) (_, c, short) =
    let (_, same) = Carries-unique value b.offset offset b.token token c d in
    let len = ap length same in absurd (omega arith)
IsAnswer-unique fields value (Err Absent) (Err Absent) m n = refl
IsAnswer-unique fields value (Err Absent) (Err Several) m n = absurd (omega arith)
IsAnswer-unique fields value (Err Absent) (Err Scheme) m (n, _) = absurd (omega arith)
IsAnswer-unique fields value (Err Absent) (Err Spelling) m (n, _, _) = absurd (omega arith)
IsAnswer-unique fields value (Err Absent) (Err TooLong) m (n, _) = absurd (omega arith)
IsAnswer-unique fields value (Err Several) (Err Absent) m n = absurd (omega arith)
IsAnswer-unique fields value (Err Several) (Err Several) m n = refl
IsAnswer-unique fields value (Err Several) (Err Scheme) m (n, _) = absurd (omega arith)
IsAnswer-unique fields value (Err Several) (Err Spelling) m (n, _, _) = absurd (omega arith)
IsAnswer-unique fields value (Err Several) (Err TooLong) m (n, _) = absurd (omega arith)
IsAnswer-unique fields value (Err Scheme) (Err Absent) (n, _) m = absurd (omega arith)
IsAnswer-unique fields value (Err Scheme) (Err Several) (n, _) m = absurd (omega arith)
IsAnswer-unique fields value (Err Scheme) (Err Scheme) m n = refl
IsAnswer-unique fields value (Err Scheme) (Err Spelling) (_, never) (_, is, _) = absurd (never is)
IsAnswer-unique fields value (Err Scheme) (Err TooLong) (_, never) (_, (offset, token, c, _)) = absurd (never (Carries-scheme value offset token c))
IsAnswer-unique fields value (Err Spelling) (Err Absent) (n, _, _) m = absurd (omega arith)
IsAnswer-unique fields value (Err Spelling) (Err Several) (n, _, _) m = absurd (omega arith)
IsAnswer-unique fields value (Err Spelling) (Err Scheme) (_, is, _) (_, never) = absurd (never is)
IsAnswer-unique fields value (Err Spelling) (Err Spelling) m n = refl
IsAnswer-unique fields value (Err Spelling) (Err TooLong) (_, _, never) (_, (offset, token, c, _)) = absurd (never offset token c)
IsAnswer-unique fields value (Err TooLong) (Err Absent) (n, _) m = absurd (omega arith)
IsAnswer-unique fields value (Err TooLong) (Err Several) (n, _) m = absurd (omega arith)
IsAnswer-unique fields value (Err TooLong) (Err Scheme) (_, (offset, token, c, _)) (_, never) = absurd (never (Carries-scheme value offset token c))
IsAnswer-unique fields value (Err TooLong) (Err Spelling) (_, (offset, token, c, _)) (_, _, never) = absurd (never offset token c)
IsAnswer-unique fields value (Err TooLong) (Err TooLong) m n = refl

-- a header as it is mostly written carries its token
pub Carries-written : (token : List ℕ) → IsToken token → Carries (codes "Bearer " ++ token) 7 token
Carries-written token is = record {
  before = [];
  scheme = codes "Bearer";
  spaces = codes " ";
  after = [];
  spelled = ap (λ (t : List ℕ). codes "Bearer " ++ t) (sym (append-nil token));
  placed = refl;
  is_before = λ k d h. absurd (omega arith);
  is_scheme = refl;
  is_spaces = AllPass-from_list_all is_space (codes " ") refl;
  some_space = omega arith;
  is_token = is;
  is_after = λ k d h. absurd (omega arith);
}

pub IsAnswer-written : (token : List ℕ) (answer : Result Found NoBearer) → IsToken token → length token ≤ 65536
    → IsAnswer 1 (codes "Bearer " ++ token) answer → answer ≡ Ok (record { offset = 7; token = token })
IsAnswer-written token answer is short due =
    let found : Found = record { offset = 7; token = token } in
    IsAnswer-unique 1 (codes "Bearer " ++ token) answer (Ok found) due (refl, Carries-written token is, short)

-- bytes of a token are no separators
pub token-separator : (b : ℕ) → is_token_byte b ≡ true → is_no_separator b ≡ true
token-separator b is = grind (arith, nat_tests)

pub equals-separator : (b : ℕ) → is_equals b ≡ true → is_no_separator b ≡ true
equals-separator b is = grind (arith, nat_tests)

pub IsToken-separators : (token : List ℕ) → IsToken token → AllPass is_no_separator token
IsToken-separators token t =
    let a : list_all is_no_separator t.bytes ≡ true = list_all-from_AllPass _ t.bytes (λ k d h. token-separator (get_or t.bytes k d) (t.of_token k d h)) in
    let b : list_all is_no_separator t.equals ≡ true = list_all-from_AllPass _ t.equals (λ k d h. equals-separator (get_or t.equals k d) (t.of_equals k d h)) in
    let both : list_all is_no_separator (t.bytes ++ t.equals) ≡ true = rw (list_all-append is_no_separator t.bytes t.equals) (rw a (rw b refl)) in
    subst (λ (x : List ℕ). AllPass is_no_separator x) (sym t.spelled) (AllPass-from_list_all is_no_separator (t.bytes ++ t.equals) both)

-- Lemmas about specs/Domain.antt.
use Rattle.std.proofs.Common.{◌≡◌, ℕ, ◌+◌, ◌<◌, ◌==◌, ◌&&◌, not, nat_lt, if◌then◌else◌, List, length, get_or, Some, None, Result, Ok, Err, is_ok, true, IsTrue, ◌↔◌, ◌∙◌, refl, sym, arith}
use Rattle.std.specs.List.{before_first, position_or_len, prefix_len}
use Rattle.std.proofs.lemmas.Bool.Decides.{nat_tests}
use Rattle.std.proofs.lemmas.List.Sums.{prefix_len-le-length, prefix_len_passes}
use Rattle.std.specs.Result.{result_err}
use Rattle.std.specs.Str.{IsUtf8}
use Rattle.std.proofs.lemmas.Str.{IsUtf8-from_ascii}
use Rattle.std.proofs.lemmas.Str.Ascii.{IsAscii-from_all}
use Rattle.svid_id.specs.Domain.{IsDomain, domain_fault, is_domain_byte}
use Rattle.svid_id.specs.Path.{is_slash}
use Rattle.svid_id.specs.declared.id_fault.IdFault.{IdFault}
use Rattle.svid_id.specs.declared.id_fault.IdFault.TheVariants.{DomainEmpty, DomainByte, DomainLong}
use Rattle.svid_id.proofs.PieceLemmas.{run-all, run-piece, length-piece, piece_stops, piece_goes_on}

-- the fault of the trust domain name that a text begins with, by the bytes that it begins with
pub domain_fault-run : (at : ℕ) (s : List ℕ)
    → domain_fault at (before_first is_slash s) ≡ (
    let run = prefix_len is_domain_byte s in
    if nat_lt run (length s) && not (is_slash (get_or s run 0)) then Some (DomainByte (at + run))
    else if run == 0 then Some DomainEmpty
    else if nat_lt 255 run then Some DomainLong
    else None
    )
domain_fault-run at s =
    let run = run-piece is_domain_byte refl s in
    let len = length-piece s in
    let on = piece_goes_on is_domain_byte refl s in
    let stop = piece_stops is_domain_byte refl s in
    grind (arith, nat_tests)

-- where the bytes of a name end at a '/' or at the text's end, the name ends
pub domain_stops : (s : List ℕ)
    → (prefix_len is_domain_byte s < length s → get_or s (prefix_len is_domain_byte s) 0 ≡ 47)
    → position_or_len is_slash s ≡ prefix_len is_domain_byte s
domain_stops = piece_stops is_domain_byte refl

pub ruleset domain_runs = (domain_fault-run, domain_stops, nat_tests)

-- a trust domain name has no fault
pub domain_fault-IsDomain : (at : ℕ) (name : List ℕ) → IsDomain name → domain_fault at name ≡ None
domain_fault-IsDomain at name is =
    let some = is.not_empty in
    let short = is.not_long in
    let all : prefix_len is_domain_byte name ≡ length name = run-all is_domain_byte name is.bytes in
    grind (arith, nat_tests)

-- what has none is one
pub IsDomain-from_fault : (at : ℕ) (name : List ℕ) → domain_fault at name ≡ None → IsDomain name
IsDomain-from_fault at name none =
    let fits = prefix_len-le-length is_domain_byte name in
    let all : prefix_len is_domain_byte name ≡ length name = grind (arith, nat_tests) in
    record {
      not_empty = grind (arith, nat_tests);
      not_long = grind (arith, nat_tests);
      bytes = λ k d h. prefix_len_passes is_domain_byte name k d (omega arith);
    }

-- bytes of a name are ASCII
pub domain_byte_ascii : (b : ℕ) → is_domain_byte b ≡ true → b < 128
domain_byte_ascii b small = grind (arith, nat_tests)

-- a check that finds its fault passes exactly at names
pub passes-IsDomain : (found : Result (Unit {0}) IdFault) (name : List ℕ) → result_err found ≡ domain_fault 0 name
    → IsTrue (is_ok found) ↔ IsDomain name
passes-IsDomain (Ok done) name fault = (λ _. IsDomain-from_fault 0 name (sym fault), λ _. refl)
passes-IsDomain (Err found) name fault =
    (λ passed. absurd (cc), λ is. let none = fault ∙ domain_fault-IsDomain 0 name is in absurd (cc))

-- a name is UTF-8
pub IsUtf8-IsDomain : (name : List ℕ) → IsDomain name → IsUtf8 name
IsUtf8-IsDomain name is =
    IsUtf8-from_ascii name (IsAscii-from_all name (λ k d h. domain_byte_ascii _ (is.bytes k d h)))

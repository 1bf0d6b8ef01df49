-- What a part spells, by what the strict engine of `base64` answers.
use Rattle.std.proofs.Common.{◌≡◌, ◌≤◌, ◌↔◌, ℕ, ◌+◌, ◌*◌, ◌/◌, List, Some, None, Result, Ok, Err, length, sym, ap, ◌∙◌, arith, refl}
use Rattle.std.proofs.lemmas.List.{append-nil}
use Rattle.std.specs.Result.{result_ok}
use Rattle.base64.proofs.EngineFacts.{decode_of_iff}
use Rattle.base64.proofs.RoundTrip.{length-encode_symbols}
use Rattle.base64.specs.Engines.{url_safe_no_pad}
use Rattle.base64.specs.GeneralPurpose.{IsBytes, decode_of, decoded_of, encode_of}
use Rattle.base64.specs.declared.decode.DecodeError.{DecodeError}
use Rattle.svid_token.specs.Part.{Spells, SpellsNothing, part_bytes}

pub spells : (part bytes : List ℕ) → part ≡ encode_of url_safe_no_pad bytes → Spells part bytes
unfolding Spells
spells part bytes e = e

pub part_bytes-ok : (part bytes : List ℕ) → decode_of url_safe_no_pad part ≡ Ok bytes → part_bytes part ≡ Some bytes
unfolding part_bytes decoded_of
part_bytes-ok part bytes e = rw e refl

pub part_bytes-err : (part : List ℕ) (fault : DecodeError) → decode_of url_safe_no_pad part ≡ Err fault → part_bytes part ≡ None
unfolding part_bytes decoded_of
part_bytes-err part fault e = rw e refl

pub nothing_spelled : (part : List ℕ) (fault : DecodeError) → decode_of url_safe_no_pad part ≡ Err fault
    → ((bytes : List ℕ) → IsBytes bytes → part ≡ encode_of url_safe_no_pad bytes → decode_of url_safe_no_pad part ≡ Ok bytes)
    → SpellsNothing part
unfolding Spells
nothing_spelled part fault refused decodes bytes are e = let both = sym refused ∙ decodes bytes are e in cc

-- bytes are no more than the symbols that spell them
pub length-spelled : (part bytes : List ℕ) → part ≡ encode_of url_safe_no_pad bytes → length bytes ≤ length part
length-spelled part bytes e =
    let symbols : length part ≡ (4 * length bytes + 2) / 3 =
    ap length e ∙ (ap length (append-nil _) ∙ length-encode_symbols _ bytes) in
    omega arith

ok_value : (r : Result (List ℕ) DecodeError) (bytes : List ℕ) → result_ok r ≡ Some bytes → r ≡ Ok bytes
ok_value (Ok x) bytes e = cc
ok_value (Err fault) bytes e = cc

pub part_bytes-iff : (part bytes : List ℕ) → IsBytes part → IsBytes bytes → (part_bytes part ≡ Some bytes) ↔ Spells part bytes
unfolding part_bytes decoded_of Spells
part_bytes-iff part bytes of_part of_bytes =
    let decodes = decode_of_iff url_safe_no_pad part bytes (refl, refl) of_part of_bytes in
    (λ e. decodes.0 (ok_value _ bytes e), λ e. rw (decodes.1 e) refl)

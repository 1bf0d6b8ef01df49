use Rattle.std.proofs.Common.{refl, arith}
use Rattle.svid_token.proofs.PartLemmas.{length-spelled, nothing_spelled, part_bytes-err, part_bytes-ok, spells}
use Rattle.svid_token.proofs.part.decode_part.Goals as goal

pub returns-in-Ok-clause-accepted : goal.returns-in-Ok-clause-accepted
returns-in-Ok-clause-accepted c = spells _ _ (c.in-Ok.ensures.exact (refl, refl))

pub returns-in-Ok-clause-value : goal.returns-in-Ok-clause-value
returns-in-Ok-clause-value c = part_bytes-ok _ _ c.in-Ok.ensures.ok

pub returns-in-Ok-clause-len : goal.returns-in-Ok-clause-len
returns-in-Ok-clause-len c = omega (arith, length-spelled _ _ (c.in-Ok.ensures.exact (refl, refl)))

pub returns-in-Err-DecodeError-clause-refused : goal.returns-in-Err-DecodeError-clause-refused
returns-in-Err-DecodeError-clause-refused c =
    let undecoded = rw c.in-Err-DecodeError.field-0-is at c.in-Err-DecodeError.ensures.err in
    (nothing_spelled _ _ undecoded (λ bytes are. (c.decode.ensures.strict (refl, refl) bytes are).1), part_bytes-err _ _ undecoded)

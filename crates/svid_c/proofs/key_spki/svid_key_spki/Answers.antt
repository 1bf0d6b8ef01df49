use Rattle.std.proofs.Common.{Ok, Some, ap, refl, sym, ◌∙◌}
use Rattle.svid_c.specs.Spki.{key_put, unusable}
use Rattle.svid_c.proofs.key_spki.svid_key_spki.Goals as goal

pub returns-in-Ok : goal.returns-in-Ok
returns-in-Ok c =
    key_put c.in-Some.alg c.deref.result.now (sym c.in-Some.ensures) (c.in-Ok.ensures.value ∙ ap (λ der. Ok (Some der)) (sym c.deref.ensures.value))
    c.put.ensures.put c.put.ensures.told

pub returns-in-Err : goal.returns-in-Err
returns-in-Err c =
    unusable c.in-Some.alg c.in-Err.fault (sym c.in-Some.ensures) c.in-Err.ensures.value
    (c.only-in-Err.ensures.status ∙ c.key_number.ensures) c.only-in-Err.ensures.told refl

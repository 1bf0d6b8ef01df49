use Rattle.std.proofs.Common.{◌≡◌, Some, refl}
use Rattle.std.proofs.lemmas.Result.{err_from_is_err_and}
use Rattle.serde_json.specs.View.{view}
use Rattle.svid_token.specs.Json.{object_of}
use Rattle.svid_token.proofs.ObjectLemmas.{object_due-some, refuses_object}
use Rattle.svid_token.proofs.object.read_object.Goals as goal

pub returns-in_err-bytes : goal.returns-in_err-bytes
returns-in_err-bytes c =
    let p = err_from_is_err_and c.from_residual.result c.from_residual.ensures.1 in
    rw (p.1, p.2) (refuses_object c.args.spelling c.args.not_object _ c.args.part.now c.in_err-bytes.ensures.value)

pub returns-in-Some : goal.returns-in-Some
returns-in-Some c =
    let some : object_of c.in_ok-bytes.bytes.items ≡ Some (view c.in-Some.object) =
    rw (← c.deref.ensures.value, ← c.in_ok-object.ensures, c.in-Some.is) refl in
    object_due-some _ _ c.args.part.now _ _ c.in_ok-bytes.ensures.value some

use Rattle.std.proofs.Common.{refl, subst, sym}
use Rattle.svid_documents.specs.Join.{IsJoined}
use Rattle.svid_c.specs.Documents.{bundles_joined, bundles_unjoined, documents_in}
use Rattle.svid_c.proofs.bundles_join.svid_bundles_join.Goals as goal

pub returns-in-Ok : goal.returns-in-Ok
returns-in-Ok c =
    bundles_joined c.deref.result.now (c.if-not-add_up.ensures.0 refl)
    (subst (IsJoined (documents_in c.args.bytes.now c.args.documents.now)) (sym c.deref.ensures.value) c.in-Ok.ensures.ok) c.put.ensures.put c.put.ensures.told

pub returns-in-Err : goal.returns-in-Err
returns-in-Err c =
    bundles_unjoined c.in-Err.fault (c.if-not-add_up.ensures.0 refl) c.in-Err.ensures.fault c.refuse_documents.ensures.number c.refuse_documents.ensures.told refl

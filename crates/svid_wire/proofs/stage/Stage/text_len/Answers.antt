use Rattle.std.proofs.Common.{◌≡◌, ◌*◌, length, arith}
use Rattle.svid_wire.specs.Versions.{use_len_of}
use Rattle.svid_wire.specs.Stage.{IsStage}
use Rattle.svid_wire.specs.declared.stage.Stage.TheVariants.{Uses, Digests}
use Rattle.svid_wire.proofs.FeedLemmas.{length-begun, length-are_begun}
use Rattle.svid_wire.proofs.stage.Stage.text_len.Goals as goal

pub returns-in-Uses-clause-value : goal.returns-in-Uses-clause-value
returns-in-Uses-clause-value c =
    let begun : IsStage (Uses c.in-Uses.version c.in-Uses.moment c.in-Uses.count c.in-Uses.uses) = rw c.in-Uses.is at c.requires in
    let many : c.len.result ≡ length c.in-Uses.uses.items = omega (arith, c.len.ensures, c.in-Uses.uses.ok.0) in
    let product : c.use_len.result * c.len.result ≡ use_len_of c.in-Uses.version * length c.in-Uses.uses.items = λ i. c.use_len.ensures i * many i in
    rw c.in-Uses.is (omega (arith, product, length-begun c.in-Uses.version c.in-Uses.moment c.in-Uses.count c.in-Uses.uses.items begun.fields))

pub returns-in-Digests-clause-value : goal.returns-in-Digests-clause-value
returns-in-Digests-clause-value c =
    let begun : IsStage (Digests c.in-Digests.moment c.in-Digests.digests) = rw c.in-Digests.is at c.requires in
    rw c.in-Digests.is (omega (arith, c.len-in-Digests.ensures, length-are_begun c.in-Digests.moment c.in-Digests.digests.items begun.fields))

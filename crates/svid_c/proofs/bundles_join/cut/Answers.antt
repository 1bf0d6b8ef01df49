use Rattle.std.proofs.Common.{◌∙◌, ◌∷◌, ◌++◌, [], ap, map}
use Rattle.svid_documents.specs.Document.{data_of}
use Rattle.svid_c.proofs.DocumentsLemmas.{is_unreadable, one_more}
use Rattle.svid_c.proofs.bundles_join.cut.Goals as goal

pub returns-in_default-clause-fault : goal.returns-in_default-clause-fault
returns-in_default-clause-fault c =
    is_unreadable c.args.bytes.now c.args.documents.now _ c.loop-index.rest.now c.split_at.result.0.now c.loop-index.index _ c.no_name.result
    c.loop-index-test.true c.loop-index.invariant c.split_at.ensures.front c.in_default.ensures.cases.0 c.no_name.ensures

pub loop-index-preserved : goal.loop-index-preserved
loop-index-preserved c =
    one_more c.args.bytes.now c.args.documents.now _ _ c.loop-index.rest.now c.in-Ok.name.now c.split_at-in-loop-index.result.0.now c.split_at.result.1.now
    c.split_at-in-loop-index.result.1.now c.loop-index.index _ c.loop-index-test.true c.loop-index.invariant
    (c.in-Ok.ensures.cases.0 ∙ c.split_at.ensures.front) c.split_at.ensures.back c.split_at-in-loop-index.ensures.front c.split_at-in-loop-index.ensures.back
    (c.in_default-push_document.ensures ∙ ap (λ d. map data_of c.loop-index.cut.items ++ d ∷ []) c.document_of.ensures)

use Rattle.std.proofs.lemmas.Result.{err_from_is_err_and}
use Rattle.svid_documents.specs.Document.{of_many, of_one}
use Rattle.svid_documents.specs.Uses.{mended}
use Rattle.svid_documents.proofs.object.bundles_of.Goals as goal

pub returns-in_err-value_in-in-Bundles-clause-fault : goal.returns-in_err-value_in-in-Bundles-clause-fault
returns-in_err-value_in-in-Bundles-clause-fault c =
    let p = err_from_is_err_and c.from_residual.result c.from_residual.ensures.1 in
    rw (p.1, p.2, c.in-Bundles.is) (c.in_err-value_in-in-Bundles.ensures.fault of_many)

pub returns-in_err-value_in-in-Bundle-clause-fault : goal.returns-in_err-value_in-in-Bundle-clause-fault
returns-in_err-value_in-in-Bundle-clause-fault c =
    let p = err_from_is_err_and c.from_residual-in_err-value_in-in-Bundle.result c.from_residual-in_err-value_in-in-Bundle.ensures.1 in
    rw (p.1, p.2, c.in-Bundle.is) (c.in_err-value_in-in-Bundle.ensures.fault (of_one c.in-Bundle.domain.now))

pub returns-in_err-set-in-Keys-clause-fault : goal.returns-in_err-set-in-Keys-clause-fault
returns-in_err-set-in-Keys-clause-fault c =
    let p = err_from_is_err_and c.from_residual-in_err-set-in-Keys.result c.from_residual-in_err-set-in-Keys.ensures.1 in
    rw (p.1, p.2, c.in-Keys.is) (c.in_err-set-in-Keys.ensures.fault (λ d. of_one c.in-Keys.domain.now (mended d)))

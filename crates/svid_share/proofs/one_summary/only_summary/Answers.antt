use Rattle.std.proofs.Common.{refl}
use Rattle.svid_share.proofs.OneSummaryLemmas.{not_one}
use Rattle.svid_share.proofs.one_summary.only_summary.Goals as goal

pub returns-then-count-ne1-clause-fault : goal.returns-then-count-ne1-clause-fault
returns-then-count-ne1-clause-fault c = (refl, λ told long last asked. not_one told c.args.count asked long c.if-count-ne1.true)

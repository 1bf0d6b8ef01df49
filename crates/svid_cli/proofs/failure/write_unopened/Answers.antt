use Rattle.svid_cli.proofs.FailureLemmas.{told_both}
use Rattle.svid_cli.proofs.failure.write_unopened.Goals as goal

pub returns : goal.returns
returns g c = told_both _ _ _ _ _ _ c.in_ok-write_all.ensures.bytes c.write_all-2.ensures.bytes

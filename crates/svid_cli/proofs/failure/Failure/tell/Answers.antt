use Rattle.svid_cli.proofs.FailureLemmas.{told_behind}
use Rattle.svid_cli.proofs.failure.Failure.tell.Goals as goal

pub returns-in-Some : goal.returns-in-Some
returns-in-Some g c = rw c.in-Some.is (told_behind _ _ _ _ _ _ c.in_ok-write_line.ensures c.writeln.ensures.bytes)

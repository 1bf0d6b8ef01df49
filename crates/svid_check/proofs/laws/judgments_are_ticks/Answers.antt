use Rattle.svid_check.proofs.EventsLemmas.{judgments_again_are_ticks, judgments_are_ticks}
use Rattle.svid_check.proofs.laws.judgments_are_ticks.Goals as goal

pub returns : goal.returns
returns c = record { judged = judgments_are_ticks; judged_again = judgments_again_are_ticks }

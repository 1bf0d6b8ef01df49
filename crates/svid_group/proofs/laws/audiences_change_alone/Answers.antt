use Rattle.svid_group.proofs.AudiencesLemmas.{audiences_alone, records_are_taken_over, successors_go_on}
use Rattle.svid_group.proofs.laws.audiences_change_alone.Goals as goal

pub returns : goal.returns
returns c = record { alone = audiences_alone; records = records_are_taken_over; successors = successors_go_on }

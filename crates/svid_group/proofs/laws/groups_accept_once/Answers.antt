use Rattle.svid_group.proofs.OnceLemmas.{accepted_once, later_in_log_is_past, position_is_accepted_once}
use Rattle.svid_group.proofs.laws.groups_accept_once.Goals as goal

pub returns : goal.returns
returns c = record { once = accepted_once; position = position_is_accepted_once; later = later_in_log_is_past }

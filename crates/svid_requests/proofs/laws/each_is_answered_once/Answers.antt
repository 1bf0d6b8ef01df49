use Rattle.svid_requests.proofs.OnceLemmas.{each_once, first_is_due_first, overdue_are_answered}
use Rattle.svid_requests.proofs.SoundLemmas.{accepted_in_time}
use Rattle.svid_requests.proofs.laws.each_is_answered_once.Goals as goal

pub returns : goal.returns
returns c = record { once = each_once; overdue = overdue_are_answered; first = first_is_due_first; timely = accepted_in_time }

use Rattle.svid_requests.proofs.ClaimsLemmas.{first_in_line_is_next, next_is_judged_again, none_waits_in_vain, nothing_is_left_over, one_has_a_claim}
use Rattle.svid_requests.proofs.laws.one_claims_a_token.Goals as goal

pub returns : goal.returns
returns c = record { one = one_has_a_claim; waits = none_waits_in_vain; kept = nothing_is_left_over; next = next_is_judged_again; first = first_in_line_is_next }

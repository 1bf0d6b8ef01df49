use Rattle.svid_c.proofs.LogLemmas.{left_by_look}
use Rattle.svid_c.proofs.validator_check_token.judged.Goals as goal

pub returns-in-Some-clause-left : goal.returns-in-Some-clause-left
returns-in-Some-clause-left c = left_by_look _ _ _ c.in-Some.member c.judge_claim_read.new.member _ c.in-Some.is c.judge_claim_read.ensures.state c.judge_claim_read.ensures.looked

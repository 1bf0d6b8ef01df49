use Rattle.svid_check.proofs.SaidLemmas.{read_tokens_have_their_form}
use Rattle.svid_check.proofs.VerdictLemmas.{read_tokens_have_their_verdict}
use Rattle.svid_check.proofs.laws.read_tokens_are_checked_alike.Goals as goal

pub returns : goal.returns
returns c = record { verdict = read_tokens_have_their_verdict; form = read_tokens_have_their_form }

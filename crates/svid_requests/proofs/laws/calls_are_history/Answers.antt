use Rattle.svid_requests.proofs.OnceLemmas.{calls_are_history}
use Rattle.svid_requests.proofs.laws.calls_are_history.Goals as goal

pub returns : goal.returns
returns c = calls_are_history

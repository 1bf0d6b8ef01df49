use Rattle.std.proofs.Common.{rules}
use Rattle.svid_requests.proofs.ListsLemmas.{set_value_absent}
use Rattle.svid_member.proofs.withdrawals.put.Goals as goal

pub returns-in_default : goal.returns-in_default
returns-in_default c = search (rules, set_value_absent)

use Rattle.svid_check.proofs.WalksLemmas.{walks_tell_all}
use Rattle.svid_check.proofs.laws.walks_tell_all.Goals as goal

pub returns : goal.returns
returns c = walks_tell_all

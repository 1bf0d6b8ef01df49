use Rattle.svid_check.proofs.HistoryLemmas.{every_kind_happens}
use Rattle.svid_check.proofs.laws.every_kind_happens.Goals as goal

pub returns : goal.returns
returns c = every_kind_happens

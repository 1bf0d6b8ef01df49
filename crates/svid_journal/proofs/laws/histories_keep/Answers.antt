use Rattle.svid_journal.proofs.DiskLemmas.{crashes_may_come}
use Rattle.svid_journal.proofs.HistoryLemmas.{acknowledged_is_read}
use Rattle.svid_journal.proofs.FitLemmas.{numbers_stay_fit}
use Rattle.svid_journal.proofs.IdLemmas.{id_is_read}
use Rattle.svid_journal.proofs.PromisesLemmas.{damage_is_seen, ended_acknowledges_nothing, failures_end, torn_is_as_written, example_is_allowed, journals_are_read, nothing_else_is_read}
use Rattle.svid_journal.proofs.laws.histories_keep.Goals as goal

pub returns : goal.returns
returns c = record { acknowledged = acknowledged_is_read; in_order = journals_are_read; nothing_else = nothing_else_is_read; torn = torn_is_as_written; damage = damage_is_seen; ended = ended_acknowledges_nothing; failures = failures_end; id = id_is_read; fit = numbers_stay_fit; crashes = crashes_may_come; example = example_is_allowed }

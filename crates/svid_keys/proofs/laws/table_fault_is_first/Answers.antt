use Rattle.svid_keys.proofs.TableLemmas.{table_fault-first, table_fault-from_first}
use Rattle.svid_keys.proofs.laws.table_fault_is_first.Goals as goal

pub returns : goal.returns
returns c = λ text fault. (table_fault-first text fault, table_fault-from_first text fault)

use Rattle.std.proofs.Common.{rules, arith}
use Rattle.svid_replay.proofs.UseLemmas.{use_of_fields}
use Rattle.svid_replay.proofs.token_use.Use.is_live.Goals as goal

pub returns-clause-fields : goal.returns-clause-fields
returns-clause-fields c = use_of_fields _ (omega arith) (omega arith) (search rules) (omega arith) (search rules) (omega arith)

use Rattle.std.proofs.Common.{arith, rules, ◌<◌}
use Rattle.std.proofs.lemmas.List.Elements.{All-from_get_or}
use Rattle.svid_wire.proofs.field.digest_of.Goals as goal

pub returns-clause-fields : goal.returns-clause-fields
returns-clause-fields c = record { size = omega arith; each = All-from_get_or (λ b. b < 256) c.array_of.result 0 (λ i _. search rules) }

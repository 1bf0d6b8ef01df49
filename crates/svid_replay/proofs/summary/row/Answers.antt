use Rattle.std.proofs.Common.{arith, rules, ◌<◌}
use Rattle.std.proofs.lemmas.List.Elements.{All-from_get_or}
use Rattle.svid_replay.proofs.summary.row.Goals as goal

pub returns : goal.returns
returns c = record { size = omega (arith); each = All-from_get_or (λ b. b < 256) c.args.digest 0 (λ i _. search rules) }

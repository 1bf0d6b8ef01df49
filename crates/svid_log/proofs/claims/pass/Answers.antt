use Rattle.std.proofs.Common.{arith}
use Rattle.svid_log.proofs.StepsLemmas.{passing_is_same, raised_past}
use Rattle.svid_log.proofs.claims.pass.Goals as goal

pub returns-then-used-moment-clause-passed : goal.returns-then-used-moment-clause-passed
returns-then-used-moment-clause-passed g c = passing_is_same c.args.held.now c.args.far c.args.used.now c.moment.ensures.is_record (omega (arith, c.moment.ensures.value, c.if-used-moment.true))

pub returns-clause-made : goal.returns-clause-made
returns-clause-made g c = λ early. raised_past c.args.held.now c.raise.new.self c.args.used.now.at c.raise.ensures.joined

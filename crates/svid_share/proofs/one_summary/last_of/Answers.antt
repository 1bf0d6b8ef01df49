use Rattle.std.proofs.Common.{arith}
use Rattle.svid_share.proofs.OneSummaryLemmas.{last_behind, none_behind}
use Rattle.svid_share.proofs.one_summary.last_of.Goals as goal

pub returns-in-Some : goal.returns-in-Some
returns-in-Some c = λ told before. last_behind told c.args.messages.now.items c.pop.new.self.items c.in-Some.message c.in-Some.ensures.items

pub returns-in-None : goal.returns-in-None
returns-in-None c = λ told before. none_behind told c.args.messages.now.items _ (omega (arith, c.in-None.ensures.cases)) before

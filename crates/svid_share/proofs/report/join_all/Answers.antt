use Rattle.std.proofs.Common.{ap}
use Rattle.svid_replay.specs.Sets.{rising}
use Rattle.svid_share.specs.Report.{report_text}
use Rattle.svid_share.proofs.WrittenLemmas.{reported}
use Rattle.svid_share.proofs.report.join_all.Goals as goal

pub returns-clause-ok : goal.returns-clause-ok
returns-clause-ok g c = reported _ _ _ _ _ c.in_ok-record.ensures.ok c.raise_to.ensures (ap (report_text c.raise_to.new.target.moment (rising c.raise_to.new.target.uses)) c.in_ok-twice.ensures.value)

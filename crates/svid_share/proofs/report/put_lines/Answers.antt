use Rattle.std.proofs.Common.{[], ◌++◌, length, arith, codes}
use Rattle.std.proofs.lemmas.Grind.{common_steps}
use Rattle.std.specs.List.{flat_map}
use Rattle.svid_replay.specs.Sets.{rising}
use Rattle.svid_replay.proofs.RecordsLemmas.{on_err}
use Rattle.svid_share.specs.Report.{number_line, report_text, twice_line, use_line}
use Rattle.svid_share.proofs.PagesLemmas.{passed_none, passed_both, passed_in_part, passed_whole, stopped_in}
use Rattle.svid_share.proofs.report.put_lines.Goals as goal

pub returns-in_err-put_number-clause-part : goal.returns-in_err-put_number-clause-part
unfolding report_text
returns-in_err-put_number-clause-part g c =
    on_err _ _ (stopped_in g.K.Sink.told g.K.Sink.stops _ _ _ _ _ _ _ (number_line (codes "uses") (length (rising c.args.state.now.uses)) ++ flat_map use_line (rising c.args.state.now.uses) ++ number_line (codes "twice") (length c.args.twice.now) ++ flat_map twice_line c.args.twice.now) _ c.new-page.ensures (grind (arith, common_steps, c.moment.ensures.value)) (passed_none g.K.Sink.told g.K.Sink.stops _ _) c.in_err-put_number.ensures.part)

pub returns-in_err-put_number-2-clause-part : goal.returns-in_err-put_number-2-clause-part
unfolding report_text
returns-in_err-put_number-2-clause-part g c =
    on_err _ _ (stopped_in g.K.Sink.told g.K.Sink.stops _ _ _ _ _ _ _ (flat_map use_line (rising c.args.state.now.uses) ++ number_line (codes "twice") (length c.args.twice.now) ++ flat_map twice_line c.args.twice.now) _ c.new-page.ensures (grind (arith, common_steps, c.moment.ensures.value, c.len.ensures)) c.in_ok-put_number.ensures.ok c.in_err-put_number-2.ensures.part)

pub returns-in_err-put_uses-clause-part : goal.returns-in_err-put_uses-clause-part
unfolding report_text
returns-in_err-put_uses-clause-part g c =
    on_err _ _ (stopped_in g.K.Sink.told g.K.Sink.stops _ _ _ _ _ _ _ (number_line (codes "twice") (length c.args.twice.now) ++ flat_map twice_line c.args.twice.now) _ c.new-page.ensures (grind (arith, common_steps, c.moment.ensures.value, c.len.ensures)) (passed_both g.K.Sink.told g.K.Sink.stops _ _ _ _ _ _ _ _ c.in_ok-put_number.ensures.ok c.in_ok-put_number-2.ensures.ok) c.in_err-put_uses.ensures.part)

pub returns-in_err-put_number-3-clause-part : goal.returns-in_err-put_number-3-clause-part
unfolding report_text
returns-in_err-put_number-3-clause-part g c =
    on_err _ _ (stopped_in g.K.Sink.told g.K.Sink.stops _ _ _ _ _ _ _ (flat_map twice_line c.args.twice.now) _ c.new-page.ensures (grind (arith, common_steps, c.moment.ensures.value, c.len.ensures)) (passed_both g.K.Sink.told g.K.Sink.stops _ _ _ _ _ _ _ _ (passed_both g.K.Sink.told g.K.Sink.stops _ _ _ _ _ _ _ _ c.in_ok-put_number.ensures.ok c.in_ok-put_number-2.ensures.ok) c.in_ok-put_uses.ensures.ok) c.in_err-put_number-3.ensures.part)

pub returns-in_err-put_twice-clause-part : goal.returns-in_err-put_twice-clause-part
unfolding report_text
returns-in_err-put_twice-clause-part g c =
    on_err _ _ (stopped_in g.K.Sink.told g.K.Sink.stops _ _ _ _ _ _ _ [] _ c.new-page.ensures (grind (arith, common_steps, c.moment.ensures.value, c.len.ensures)) (passed_both g.K.Sink.told g.K.Sink.stops _ _ _ _ _ _ _ _ (passed_both g.K.Sink.told g.K.Sink.stops _ _ _ _ _ _ _ _ (passed_both g.K.Sink.told g.K.Sink.stops _ _ _ _ _ _ _ _ c.in_ok-put_number.ensures.ok c.in_ok-put_number-2.ensures.ok) c.in_ok-put_uses.ensures.ok) c.in_ok-put_number-3.ensures.ok) c.in_err-put_twice.ensures.part)

pub returns-in_err-flush-clause-part : goal.returns-in_err-flush-clause-part
unfolding report_text
returns-in_err-flush-clause-part g c =
    on_err _ _ (passed_in_part g.K.Sink.told g.K.Sink.stops _ _ _ _ _ _ (report_text c.args.state.now.moment (rising c.args.state.now.uses) c.args.twice.now) (passed_both g.K.Sink.told g.K.Sink.stops _ _ _ _ _ _ _ _ (passed_both g.K.Sink.told g.K.Sink.stops _ _ _ _ _ _ _ _ (passed_both g.K.Sink.told g.K.Sink.stops _ _ _ _ _ _ _ _ (passed_both g.K.Sink.told g.K.Sink.stops _ _ _ _ _ _ _ _ c.in_ok-put_number.ensures.ok c.in_ok-put_number-2.ensures.ok) c.in_ok-put_uses.ensures.ok) c.in_ok-put_number-3.ensures.ok) c.in_ok-put_twice.ensures.ok) c.in_err-flush.ensures.part c.new-page.ensures (grind (arith, common_steps, c.moment.ensures.value, c.len.ensures)))

pub returns-clause-ok : goal.returns-clause-ok
unfolding report_text
returns-clause-ok g c =
    passed_whole g.K.Sink.told g.K.Sink.stops _ _ _ _ _ _ (report_text c.args.state.now.moment (rising c.args.state.now.uses) c.args.twice.now) (passed_both g.K.Sink.told g.K.Sink.stops _ _ _ _ _ _ _ _ (passed_both g.K.Sink.told g.K.Sink.stops _ _ _ _ _ _ _ _ (passed_both g.K.Sink.told g.K.Sink.stops _ _ _ _ _ _ _ _ (passed_both g.K.Sink.told g.K.Sink.stops _ _ _ _ _ _ _ _ c.in_ok-put_number.ensures.ok c.in_ok-put_number-2.ensures.ok) c.in_ok-put_uses.ensures.ok) c.in_ok-put_number-3.ensures.ok) c.in_ok-put_twice.ensures.ok) c.in_ok-flush.ensures.ok c.new-page.ensures (grind (arith, common_steps, c.moment.ensures.value, c.len.ensures))

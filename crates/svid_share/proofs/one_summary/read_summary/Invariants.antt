use Rattle.svid_wire.specs.Streams.{drawn}
use Rattle.svid_share.proofs.OneSummaryLemmas.{HasLast}
use Rattle.svid_share.proofs.one_summary.read_summary.Given as goal

abbrev pub invariant-loop-last : goal.invariant-loop-last
invariant-loop-last g l = HasLast (drawn g.S.Source.left g.S.Source.stops l.fn.source l.source) l.reader l.fn.input l.last

abbrev pub decreases-loop-last : goal.decreases-loop-last
decreases-loop-last g l = l.reader.still

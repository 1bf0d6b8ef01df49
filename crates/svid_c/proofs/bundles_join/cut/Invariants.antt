use Rattle.std.proofs.Common.{map}
use Rattle.svid_documents.specs.Document.{data_of}
use Rattle.svid_c.proofs.DocumentsLemmas.{IsCutSoFar}
use Rattle.svid_c.proofs.bundles_join.cut.Given as goal

-- so many documents are cut off, and the rest of the bytes stands behind them
abbrev pub invariant-loop-index : goal.invariant-loop-index
invariant-loop-index l = IsCutSoFar l.bytes l.documents (map data_of l.cut.items) l.rest l.index

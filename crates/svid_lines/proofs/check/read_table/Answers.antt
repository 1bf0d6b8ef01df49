use Rattle.std.proofs.Common.{ℕ, List, sym, subst}
use Rattle.svid_wire.specs.Streams.{IsRead, drawn}
use Rattle.svid_share.specs.Inputs.{most_bytes}
use Rattle.svid_lines.proofs.CheckLemmas.{table_of}
use Rattle.svid_lines.proofs.check.read_table.Goals as goal

pub returns-clause-ok : goal.returns-clause-ok
returns-clause-ok g c =
    table_of _ c.deref.result.now _
    (subst (λ (text : List ℕ). IsRead (drawn g.S.Source.left g.S.Source.stops c.args.source.now c.read_input.new.source) most_bytes text) (sym c.deref.ensures.value) c.in_ok-bytes.ensures.ok)
    c.in_ok-read.ensures.accepted c.in_ok-read.ensures.value

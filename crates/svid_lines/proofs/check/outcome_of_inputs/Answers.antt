use Rattle.std.proofs.Common.{ℕ, List, sym, subst}
use Rattle.svid_wire.specs.Streams.{IsRead, drawn}
use Rattle.svid_share.specs.Inputs.{most_bytes}
use Rattle.svid_lines.proofs.CheckLemmas.{checks_want, comes_to}
use Rattle.svid_lines.proofs.MemoryLemmas.{where_wanted}
use Rattle.svid_lines.proofs.check.outcome_of_inputs.Goals as goal

pub returns-clause-ok : goal.returns-clause-ok
returns-clause-ok g c =
    comes_to c.args.given _ c.in_ok-bundles.bundles c.in_ok-table.table c.deref.result.now c.in_ok-begun.begun _
    c.in_ok-bundles.ensures.ok c.in_ok-table.ensures.ok
    (subst (λ (text : List ℕ). IsRead (drawn g.L.Source.left g.L.Source.stops c.args.tokens.now c.read_input.new.source) most_bytes text) (sym c.deref.ensures.value) c.in_ok-text.ensures.ok)
    c.in_ok-begun.ensures.ok c.in_ok-check_all.ensures

pub returns-in_err-check_all-clause-memory : goal.returns-in_err-check_all-clause-memory
returns-in_err-check_all-clause-memory g c =
    where_wanted _ _
    (checks_want _ _ _ _ c.in_ok-bundles.bundles c.in_ok-table.table c.in_ok-text.text.items c.in_ok-begun.begun
    c.in_ok-bundles.ensures.ok c.in_ok-table.ensures.ok c.in_ok-text.ensures.ok c.in_ok-begun.ensures.ok)

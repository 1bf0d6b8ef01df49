use Rattle.std.proofs.Common.{◌≡◌, ℕ, List, ◌++◌, drop, sym, ap, ◌∙◌}
use Rattle.std.proofs.lemmas.List.{drop_at}
use Rattle.svid_journal.specs.Payloads.{position_text}
use Rattle.svid_journal.proofs.PayloadsLemmas.{length-position_text}
use Rattle.svid_c.specs.Payloads.{bears_position}
use Rattle.svid_c.proofs.journal_bears.svid_journal_bears.Goals as goal

pub returns-in-Some : goal.returns-in-Some
returns-in-Some c =
    let text = position_text c.in-Some.position in
    let behind : drop 28 c.args.payload.now ≡ c.in-Some.field-0-1.now = ap (drop 28) c.in-Some.ensures ∙ drop_at text c.in-Some.field-0-1.now 28 (length-position_text c.in-Some.position) in
    bears_position c.in-Some.position (c.in-Some.ensures ∙ ap (λ (x : List ℕ). text ++ x) (sym behind)) (λ i. record { mark = c.mark_of.ensures i; marked = 1; messages = 28 })

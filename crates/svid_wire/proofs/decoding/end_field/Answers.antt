use Rattle.std.proofs.Common.{◌≡◌, ◌∙◌, List, ℕ, [], ◌∷◌, ◌++◌, ap, sym, append_assoc}
use Rattle.svid_wire.specs.Messages.{batch_in, summary}
use Rattle.svid_wire.specs.declared.message.Message.TheVariants.{Summary}
use Rattle.svid_wire.proofs.MessagesLemmas.{came_whole}
use Rattle.svid_wire.proofs.decoding.end_field.Goals as goal

-- a field whose last bytes came follows the good ones
behind : (good begun last field part : List ℕ) → field ≡ part → part ≡ begun ++ last → good ++ field ≡ (good ++ begun) ++ last
behind good begun last field part is parts = ap (λ x. good ++ x) (is ∙ parts) ∙ sym (append_assoc good begun last)

pub returns-in_ok-append_batch-in-Ok-Batch-clause-ok : goal.returns-in_ok-append_batch-in-Ok-Batch-clause-ok
returns-in_ok-append_batch-in-Ok-Batch-clause-ok c =
    let (good, is) = rw c.in-Ok-Batch.field-0-is at c.in-Ok-Batch.ensures in
    (c.start.ensures.partial, came_whole _ _ _ (batch_in _ _) _ _ good is (behind _ _ _ _ _ c.split_at.ensures.front c.put_behind.ensures) c.in_ok-append_batch-in-Ok-Batch.ensures.ok c.start.ensures.held)

pub returns-in_ok-append_summary-in-Ok-Summary-clause-ok : goal.returns-in_ok-append_summary-in-Ok-Summary-clause-ok
returns-in_ok-append_summary-in-Ok-Summary-clause-ok c =
    let (good, is) = rw c.in-Ok-Summary.field-0-is at c.in-Ok-Summary.ensures in
    let grown = c.in_ok-append_summary-in-Ok-Summary.ensures.ok ∙ ap (λ digests. c.args.out.now.items ++ Summary (record { moment = c.in-Ok-Summary.moment; digests = digests }) ∷ []) c.deref.ensures.value in
    (c.start-in-Ok-Summary.ensures.partial, came_whole _ _ _ (summary _) _ _ good is (behind _ _ _ _ _ c.split_at.ensures.front c.put_behind.ensures) grown c.start-in-Ok-Summary.ensures.held)

use Rattle.std.proofs.Common.{◌++◌, ap, ◌∙◌}
use Rattle.svid_log.proofs.ValuesLemmas.{no_batch_is, pass_summary, push_batch}
use Rattle.svid_log.proofs.value.append_uses.Goals as goal
use Rattle.svid_log.proofs.value.append_uses.Goals.{in-Batch+in_ok-extend_from_slice-in-Batch, in-Summary}

pub loop-message-preserved : goal.loop-message-preserved
loop-message-preserved c =
    elim c.match-message.branch [
      | in-Batch+in_ok-extend_from_slice-in-Batch w ↦
          rw w.uses-is (push_batch _ _ _ _ _ _ _ c.loop-message-test.true c.message-item.is w.in-Batch.is c.loop-message.invariant
          (w.in_ok-extend_from_slice-in-Batch.ensures.items ∙ ap (λ us. c.loop-message.uses.items ++ us) w.uses.ensures.value))
      | in-Summary w ↦
          rw w.uses-is (pass_summary _ _ _ c.message-item.result _ c.loop-message-test.true c.message-item.is (λ b e. no_batch_is _ _ b w.in-Summary.is e) c.loop-message.invariant)
    ]

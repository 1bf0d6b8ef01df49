use Rattle.std.proofs.Common.{◌∙◌, ◌∷◌, [], ap, take}
use Rattle.svid_replay.specs.Parts.{join_all}
use Rattle.svid_wire.specs.Messages.{batches_of}
use Rattle.svid_share.proofs.JoinedLemmas.{joins-message}
use Rattle.svid_share.proofs.inputs.join_messages.Goals as goal

pub loop-message-preserved : goal.loop-message-preserved
loop-message-preserved g c =
    c.in_ok-join_message.ensures ∙ ap (λ r. join_all r (batches_of (c.message-item.result ∷ []))) c.loop-message.invariant ∙ ap (λ m. join_all (join_all c.args.target.now (batches_of (take c.loop-message.message-index c.args.messages.now))) (batches_of (m ∷ []))) c.message-item.is ∙ joins-message c.args.target.now c.args.messages.now c.loop-message.message-index _ c.loop-message-test.true

use Rattle.std.proofs.Common.{◌≡◌, take}
use Rattle.svid_replay.specs.Parts.{join_all}
use Rattle.svid_wire.specs.Messages.{batches_of}
use Rattle.svid_share.proofs.inputs.join_messages.Given as goal

abbrev pub invariant-loop-message : goal.invariant-loop-message
invariant-loop-message g l = l.target ≡ join_all l.fn.target (batches_of (take l.message-index l.messages))

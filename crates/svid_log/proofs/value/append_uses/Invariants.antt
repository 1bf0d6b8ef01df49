use Rattle.std.proofs.Common.{◌≡◌, ◌++◌, take}
use Rattle.svid_wire.specs.Messages.{batches_of}
use Rattle.svid_log.specs.Values.{uses_in}
use Rattle.svid_log.proofs.value.append_uses.Given as goal

abbrev pub invariant-loop-message : goal.invariant-loop-message
invariant-loop-message l = l.uses.items ≡ l.fn.uses.items ++ uses_in (batches_of (take l.message-index l.messages))

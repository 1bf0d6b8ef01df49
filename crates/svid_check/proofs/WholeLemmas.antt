-- To take a whole record is to take one batch.
use Rattle.std.proofs.Common.{ℕ, sym, ◌∙◌, ap}
use Rattle.std.specs.Prelude.{Result, Ok, Err}
use Rattle.svid_replay.specs.Records.{State, join}
use Rattle.svid_replay.specs.Uses.{Uses}
use Rattle.svid_replay.proofs.UsesLemmas.{uses_in-rising}
use Rattle.svid_check.specs.declared.take_fault.TakeFault.{TakeFault}
use Rattle.svid_check.specs.declared.take_fault.TakeFault.TheVariants.{OutOfMemory, TooFarAhead}
use Rattle.svid_check.specs.Changes.{RecordTakesAreTakes, Takes, TakesRecord, batch_of}

-- a record joined is its batch joined
abbrev joined : State → State → Uses → State
joined x r uses = join x (record { moment = r.moment; uses = uses })

pub as_batch : (x : State) (far : ℕ) (r : State) (answer : Result (Unit {0}) TakeFault) (y : State) → TakesRecord x far r answer y → Takes x far (batch_of r) answer y
as_batch x far r (Ok taken) y h = (h.0, h.1 ∙ ap (joined x r) (sym (uses_in-rising r.uses)))
as_batch x far r (Err TooFarAhead) y h = h
as_batch x far r (Err OutOfMemory) y h = h

of_batch : (x : State) (far : ℕ) (r : State) (answer : Result (Unit {0}) TakeFault) (y : State) → Takes x far (batch_of r) answer y → TakesRecord x far r answer y
of_batch x far r (Ok taken) y h = (h.0, h.1 ∙ ap (joined x r) (uses_in-rising r.uses))
of_batch x far r (Err TooFarAhead) y h = h
of_batch x far r (Err OutOfMemory) y h = h

pub record_takes_are_takes : RecordTakesAreTakes
record_takes_are_takes x far r answer y = (as_batch x far r answer y, of_batch x far r answer y)

use Rattle.std.proofs.Common.{◌≡◌, ◌≤◌, ◌+◌, ◌-◌, length, take, vec_len, vec_capacity}
use Rattle.svid_check.specs.Runs.{terms_of}
use Rattle.svid_check.specs.Setting.{with_state}
use Rattle.svid_check.proofs.RunsLemmas.{HasRun}
use Rattle.svid_check.proofs.validator.Validator.run.Given as goal

-- the events so far have run, the validator has kept all but its record, and there is room for the other answers
abbrev pub invariant-loop-event : goal.invariant-loop-event
invariant-loop-event g l =
    HasRun (terms_of g.V.Verifier.says l.fn.self) l.fn.self.state l.self.state (take l.event-index l.events) l.fn.answers.items l.answers.items
    × (l.self ≡ with_state l.fn.self l.self.state)
    × (vec_len l.answers + (length l.events - l.event-index) ≤ vec_capacity l.answers)

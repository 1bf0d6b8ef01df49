use Rattle.std.proofs.Common.{◌≡◌, length}
use Rattle.svid_keys.specs.Candidates.{candidates_left}
use Rattle.svid_keys.proofs.candidates.CandidatesIterator.next.Given as goal

-- no candidate was passed over
abbrev pub invariant-loop-key : goal.invariant-loop-key
invariant-loop-key l = candidates_left l.self ≡ candidates_left l.initial.self

abbrev pub decreases-loop-key : goal.decreases-loop-key
decreases-loop-key l = length l.self.keys.now

use Rattle.std.proofs.Common.{drop}
use Rattle.svid_c.specs.Peers.{AllowedBy}
use Rattle.svid_c.proofs.callers.is_allowed.Given as goal

-- if one of all patterns allows the ID, one of those that are left does
abbrev pub invariant-loop-pattern : goal.invariant-loop-pattern
invariant-loop-pattern l = AllowedBy l.patterns l.id → AllowedBy (drop l.pattern-index l.patterns) l.id

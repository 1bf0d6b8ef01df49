use Rattle.std.proofs.Common.{◌≡◌, drop, map, string_bytes}
use Rattle.svid_check.specs.Verdict.{is_own}
use Rattle.svid_check.proofs.judging.is_own.Given as goal

-- the name is one of those that are left exactly if it is one of all
abbrev pub invariant-loop-mine : goal.invariant-loop-mine
invariant-loop-mine l = is_own (map string_bytes (drop l.mine-index l.own)) l.name ≡ is_own (map string_bytes l.own) l.name

use Rattle.std.proofs.Common.{◌≡◌, drop, map, string_bytes}
use Rattle.std.specs.List.{list_any}
use Rattle.svid_check.specs.Verdict.{is_own}
use Rattle.svid_check.proofs.judging.is_for.Given as goal

-- an audience that is left is one of the validator's own exactly if one of all is
abbrev pub invariant-loop-name : goal.invariant-loop-name
invariant-loop-name l = list_any (is_own (map string_bytes l.own)) (map string_bytes (drop l.name-index l.aud)) ≡ list_any (is_own (map string_bytes l.own)) (map string_bytes l.aud)

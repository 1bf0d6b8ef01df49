use Rattle.std.proofs.Common.{◌≡◌, ◌≢◌, ℕ, ◌+◌, ◌-◌, ◌<◌, ◌≤◌, List, ◌++◌, Option, length, take, ◌∙◌, arith, length-append}
use Rattle.std.proofs.lemmas.List.{length-take-le}
use Rattle.std.proofs.lemmas.Result.{err_from_is_err_and}
use Rattle.std.specs.Io.KnownBytes.{Consumes}
use Rattle.std.proofs.KnownBytes.{Consumes-trans}
use Rattle.svid_wire.specs.Streams.{GaveTooMuch, GaveWithin}
use Rattle.svid_wire.proofs.reading.read_up_to.Goals as goal

-- as many bytes as came before and came now
length-more : (bytes room : List ℕ) (k : ℕ) → k ≤ length room → length (bytes ++ take k room) ≡ length bytes + k
length-more bytes room k fits = omega (arith, length-append bytes (take k room), length-take-le k room fits)

too_much : (a b c : Option (List ℕ)) (bytes room : List ℕ) (k limit first before after : ℕ) → Consumes a b bytes → Consumes b c (take k room) → k ≤ length room → limit - length bytes < k → before ≡ first → after ≡ before → GaveTooMuch (record { left_before = a; left_after = c; stops_before = first; stops_after = after }) limit
too_much a b c bytes room k limit first before after came now fits many same unstopped = record {
  bytes = bytes ++ take k room;
  given = Consumes-trans a b c bytes (take k room) came now;
  beyond = omega (arith, length-more bytes room k fits);
  unstopped = unstopped ∙ same;
}

no_more : (a b c : Option (List ℕ)) (bytes room : List ℕ) (k limit first before after : ℕ) → Consumes a b bytes → Consumes b c (take k room) → k ≢ 0 → k ≤ length room → length bytes + k ≤ limit → before ≡ first → after ≡ before → GaveWithin (record { left_before = a; left_after = c; stops_before = first; stops_after = after }) limit
no_more a b c bytes room k limit first before after came now more fits few same unstopped = record {
  bytes = bytes ++ take k room;
  some = omega (arith, length-more bytes room k fits);
  given = Consumes-trans a b c bytes (take k room) came now;
  within = omega (arith, length-more bytes room k fits);
  unstopped = unstopped ∙ same;
}

pub returns-then-limit-len-clause-fault : goal.returns-then-limit-len-clause-fault
returns-then-limit-len-clause-fault g c =
    let (_, before, unstopped) = c.loop-given.invariant in
    too_much _ _ _ _ _ _ _ _ _ _ before c.in-Ok.ensures.bytes.0 c.in-Ok.ensures.count (omega arith) unstopped c.in-Ok.ensures.faults

pub returns-in_err-extend_from_slice-clause-fault : goal.returns-in_err-extend_from_slice-clause-fault
returns-in_err-extend_from_slice-clause-fault g c =
    let (_, before, unstopped) = c.loop-given.invariant in
    let p = err_from_is_err_and c.from_residual.result c.from_residual.ensures.1 in
    rw (p.1, p.2) (no_more _ _ _ _ _ _ _ _ _ _ before c.in-Ok.ensures.bytes.0 (omega arith) c.in-Ok.ensures.count (omega arith) unstopped c.in-Ok.ensures.faults)

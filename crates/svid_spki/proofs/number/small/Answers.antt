use Rattle.std.proofs.Common.{◌≡◌, ◌≤◌, ◌<◌, ◌^◌, ℕ, drop, length, refl, arith}
use Rattle.std.specs.Prelude.{fold, nat_lt}
use Rattle.svid_spki.proofs.NumberLemmas.{not_small}
use Rattle.svid_spki.proofs.number.small.Goals as goal

pub returns-then-number-ge2147483648 : goal.returns-then-number-ge2147483648
returns-then-number-ge2147483648 c = not_small c.args.bytes.now c.loop-byte.number c.loop-byte.byte-index c.loop-byte-test.true c.loop-byte.invariant.0 (omega (arith, c.from.ensures, c.if-number-ge2147483648.true))

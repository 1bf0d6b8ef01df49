use Rattle.std.proofs.Common.{◌≡◌, ℕ, ◌+◌, List, ◌++◌, Option, take, drop, subst, sym, arith, ◌∙◌, ap}
use Rattle.std.proofs.Math.Seq.{take-add}
use Rattle.std.specs.Io.KnownBytes.{Appends}
use Rattle.std.proofs.KnownBytes.{Appends-trans}
use Rattle.svid_wire.proofs.writing.put_all.Goals as goal

-- the first bytes of the rest follow those that went out before
Appends-next : (a b c : Option (List ℕ)) (piece rest : List ℕ) (n k : ℕ) → Appends a b (take n piece) → rest ≡ drop n piece → Appends b c (take k rest) → Appends a c (take (n + k) piece)
Appends-next a b c piece rest n k before is_rest next =
    subst (Appends a c) (ap (λ r. take n piece ++ take k r) is_rest ∙ sym (take-add n k piece)) (Appends-trans a b c _ _ before next)

pub loop-written-preserved : goal.loop-written-preserved
loop-written-preserved g c =
    let (_, before, unstopped) = c.loop-written.invariant in (
      omega (arith, c.split_at.ensures.back_len, c.in-Ok.ensures.count),
      Appends-next _ _ _ _ _ _ _ before c.split_at.ensures.back c.in-Ok.ensures.bytes,
      c.in-Ok.ensures.faults ∙ unstopped,
    )

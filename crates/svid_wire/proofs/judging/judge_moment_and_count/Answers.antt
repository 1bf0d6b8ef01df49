use Rattle.std.proofs.Common.{inl, refl, arith, rules}
use Rattle.svid_wire.proofs.StageLemmas.{IsCountFault-last}
use Rattle.svid_wire.proofs.judging.judge_moment_and_count.Goals as goal

pub returns-then-count-most_uses : goal.returns-then-count-most_uses
returns-then-count-most_uses c =
    let numbers = c.moment_and_count_of-moment in
    inl ((refl, IsCountFault-last c.args.version numbers.result.0 numbers.result.1 _ numbers.ensures (search rules) (search rules) (omega arith)), λ e. cc)

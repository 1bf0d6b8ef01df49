use Rattle.std.proofs.Common.{refl, sym, subst, arith}
use Rattle.svid_share.specs.Inputs.{IsInputFault}
use Rattle.svid_share.proofs.PiecesLemmas.{beyond, broken, few_piece, few_pushed, more_came, none_came, stopped}
use Rattle.svid_share.proofs.reader.Reader.next.Goals as goal

pub returns-in_default-clause-fault : goal.returns-in_default-clause-fault
returns-in_default-clause-fault g c = λ first told come. (refl, stopped _ _ _ _ _ _ _ told come c.in_default.ensures.bytes c.in_default.ensures.faults)

pub returns-then-given-eq0-clause-came : goal.returns-then-given-eq0-clause-came
returns-then-given-eq0-clause-came g c = λ first told come. rw c.clear.ensures.items (none_came _ _ _ _ _ _ _ told c.in-Ok.given c.get.new.room come c.in-Ok.ensures.bytes.0 c.in-Ok.ensures.faults c.if-given-eq0.true)

pub overflow_add-self : goal.overflow_add-self
overflow_add-self g c =
    omega (arith, c.len.ensures, few_piece _ c.args.self.now _ c.split_at.result.0.now c.push.new.out.items _ c.requires.begun.come (rw c.clear.ensures.items at c.in-Err.ensures.fault) (omega (arith, c.split_at.ensures.front_len, c.min.ensures)))

pub overflow_add-self-in-Err : goal.overflow_add-self-in-Err
overflow_add-self-in-Err g c =
    omega (arith, c.len.ensures, few_piece _ c.args.self.now _ c.split_at.result.0.now c.push.new.out.items _ c.requires.begun.come (rw c.clear.ensures.items at c.in-Err.ensures.fault) (omega (arith, c.split_at.ensures.front_len, c.min.ensures)))

pub returns-in-Err-clause-fault : goal.returns-in-Err-clause-fault
returns-in-Err-clause-fault g c = λ first told come.
    subst (IsInputFault c.args.self.now.number _) (sym c.wire_fault.ensures)
    (broken _ _ _ _ _ _ c.args.self.now told c.in-Ok.given c.min.result c.len.result c.get.new.room c.split_at.result.0.now c.push.new.out.items _ come c.in-Ok.ensures.bytes.0 c.in-Ok.ensures.faults c.split_at.ensures.front c.min.ensures (omega (arith, c.split_at.ensures.front_len)) (omega (arith, c.if-given-eq0.false)) (omega (arith, c.len.ensures)) (rw c.clear.ensures.items at c.in-Err.ensures.fault))

pub returns-then-self-given-clause-fault : goal.returns-then-self-given-clause-fault
returns-then-self-given-clause-fault g c = λ first told come.
    (refl, beyond _ _ _ _ _ _ c.args.self.now c.push.new.self told c.in-Ok.given c.min.result c.get.new.room c.split_at.result.0.now c.push.new.out.items come c.in-Ok.ensures.bytes.0 c.in-Ok.ensures.faults c.split_at.ensures.front (omega (arith, c.min.ensures, c.if-self-given.true)) c.if-self-given.true c.in-Ok.ensures.count (rw c.clear.ensures.items at c.in_default-push.ensures.ok))

pub overflow_add-self-2 : goal.overflow_add-self-2
overflow_add-self-2 g c =
    omega (arith, c.len-2.ensures, few_pushed _ c.args.self.now _ c.push.new.self c.split_at.result.0.now c.push.new.out.items c.requires.begun.come (rw c.clear.ensures.items at c.in_default-push.ensures.ok) (omega (arith, c.split_at.ensures.front_len, c.min.ensures)))

pub returns-clause-came : goal.returns-clause-came
returns-clause-came g c = λ first told come.
    more_came _ _ _ _ _ _ c.args.self.now _ told c.in-Ok.given c.min.result c.get.new.room c.split_at.result.0.now c.push.new.out.items come c.in-Ok.ensures.bytes.0 c.in-Ok.ensures.faults c.split_at.ensures.front (omega (arith, c.min.ensures, c.if-self-given.false)) (omega (arith, c.split_at.ensures.front_len)) c.if-self-given.false (rw c.clear.ensures.items at c.in_default-push.ensures.ok) (omega (arith, c.if-self-given.false)) (omega (arith, c.len-2.ensures))

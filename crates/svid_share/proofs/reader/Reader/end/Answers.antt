use Rattle.std.proofs.Common.{sym, subst, ◌∙◌, arith}
use Rattle.svid_share.specs.Inputs.{IsInputFault}
use Rattle.svid_share.proofs.PiecesLemmas.{ended, ended_within, few_whole}
use Rattle.svid_share.proofs.reader.Reader.end.Goals as goal

pub overflow_add-self : goal.overflow_add-self
overflow_add-self c = omega (arith, few_whole c.requires.begun.0 c.args.self c.requires.begun.1 c.requires.begun.2)

pub returns-in-Ok : goal.returns-in-Ok
returns-in-Ok c = λ input told come end. ended input _ told come end (sym c.finish.ensures ∙ c.in-Ok.is)

pub returns-in-Err : goal.returns-in-Err
returns-in-Err c = λ input told come end. subst (IsInputFault c.args.self.number input) (sym c.wire_fault.ensures) (ended_within input _ told _ _ come end (sym c.finish.ensures ∙ c.in-Err.is))

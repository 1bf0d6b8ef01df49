use Rattle.std.proofs.Common.{refl, sym, map}
use Rattle.std.specs.String.{string_bytes}
use Rattle.svid_c.specs.Alone.{not_judged}
use Rattle.svid_c.specs.Trust.{reads}
use Rattle.svid_c.proofs.AloneLemmas.{verdict_told}
use Rattle.svid_c.proofs.bundles_judge.judge.Goals as goal

pub returns-in_default-read-clause-does : goal.returns-in_default-read-clause-does
returns-in_default-read-clause-does c = reads c.in-Some.bundles (sym c.in-Some.ensures.value) (not_judged c.only-in_default-read.ensures.status c.only-in_default-read.ensures.told refl refl)

pub returns-clause-does : goal.returns-clause-does
returns-clause-does c =
    reads c.in-Some.bundles (sym c.in-Some.ensures.value)
    (verdict_told c.args.setting.now (map string_bytes c.args.own.items) c.in-Some.bundles c.args.yes.now c.args.token.now c.judge_new-answer.result.answer
    c.tell.result c.tell.new.told c.args.out.now c.tell.new.out c.args.used.now c.tell.new.used
    c.judge_new-answer.ensures.answer c.judge_new-answer.ensures.early c.tell.ensures)

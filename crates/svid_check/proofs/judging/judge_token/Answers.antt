use Rattle.svid_check.specs.Said.{said_in}
use Rattle.svid_check.specs.Setting.{given_setting}
use Rattle.svid_check.proofs.VerdictLemmas.{answers_on, refused_reading}
use Rattle.svid_check.proofs.judging.judge_token.Goals as goal

pub returns-in-Err-clause-answer : goal.returns-in-Err-clause-answer
returns-in-Err-clause-answer g c = refused_reading (given_setting (g.V.Verifier.says c.args.verifier.now) c.args.given.now) c.args.replay.now.moment c.args.replay.now.uses c.args.token.now c.in-Err.refusal c.in-Err.ensures.value

pub returns-in-Ok-clause-answer : goal.returns-in-Ok-clause-answer
returns-in-Ok-clause-answer g c = answers_on (given_setting (g.V.Verifier.says c.args.verifier.now) c.args.given.now) c.args.replay.now.moment c.args.replay.now.uses c.args.token.now (said_in c.in-Ok.reading) c.judge.result c.in-Ok.ensures.value c.judge.ensures.answer

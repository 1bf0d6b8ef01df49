use Rattle.std.proofs.Common.{Ok, Some, false, sym, ◌∙◌}
use Rattle.svid_check.specs.Said.{said_in}
use Rattle.svid_check.specs.Setting.{given_setting}
use Rattle.svid_check.proofs.VerdictLemmas.{accepted_on, lives, refused_on}
use Rattle.svid_check.proofs.judging.judge.Goals as goal

pub returns-in-Some-clause-answer : goal.returns-in-Some-clause-answer
returns-in-Some-clause-answer g c =
    refused_on (given_setting (g.V.Verifier.says c.args.verifier.now) c.args.given.now) c.args.replay.now.moment c.args.replay.now.uses (said_in c.args.reading.now) c.in-Some.refusal (sym c.in-Some.ensures)

pub returns-clause-answer : goal.returns-clause-answer
returns-clause-answer g c =
    accepted_on (given_setting (g.V.Verifier.says c.args.verifier.now) c.args.given.now) c.args.replay.now.moment c.args.replay.now.uses (said_in c.args.reading.now) (sym c.in_default.ensures)
    ∙ (λ i. Ok (Some (record { id = sym c.in-Ok.ensures.cases i; used = record { exp = c.args.reading.now.claims.exp; key = sym c.key-key.ensures i; validator_id = c.args.given.now.validator_id; at = sym c.moment.ensures.value i; withdrawn = false } })))

pub returns-clause-live : goal.returns-clause-live
returns-clause-live g c = lives (given_setting (g.V.Verifier.says c.args.verifier.now) c.args.given.now) c.args.replay.now.moment c.args.replay.now.uses (said_in c.args.reading.now) (sym c.in_default.ensures)

use Rattle.std.proofs.Common.{sym, subst, ap, ◌∙◌}
use Rattle.std.specs.Prelude.{Some}
use Rattle.svid_token.specs.Rows.{Answers}
use Rattle.svid_replay.specs.Buckets.{raised_to}
use Rattle.svid_replay.specs.Records.{State}
use Rattle.svid_check.specs.Verdict.{verdict}
use Rattle.svid_check.specs.World.{answer_at, happen, start, setting_at}
use Rattle.svid_check.proofs.AnswersLemmas.{answers_verdict, with_memory}
use Rattle.svid_check.proofs.RunsLemmas.{told_now}
use Rattle.svid_check.proofs.SoundLemmas.{is_sound}
use Rattle.svid_check.proofs.laws.records_are_told.Goals as goal

pub returns-clause-records : goal.returns-clause-records
returns-clause-records c group events v = ((is_sound group events).members v).is_told

pub returns-clause-checks : goal.returns-clause-checks
returns-clause-checks c group events v now token refused =
    let w = happen group start events in
    let x = w.members v in
    let s = setting_at group w v in
    let told = told_now x.told x.held now (sym ((is_sound group events).members v).is_told) in
    let answers = answers_verdict s (raised_to x.held now) token refused in
    (subst (λ (r : State). Answers Some (answer_at group w v now token refused) (verdict s r.moment r.uses token)) (sym told) answers.0, answers.1)

pub returns-clause-verdicts : goal.returns-clause-verdicts
returns-clause-verdicts c group events v now token =
    let w = happen group start events in
    let x = w.members v in
    let s = setting_at group w v in
    let told = told_now x.told x.held now (sym ((is_sound group events).members v).is_told) in
    with_memory s (raised_to x.held now) token ∙ sym (ap (λ (r : State). verdict s r.moment r.uses token) told)

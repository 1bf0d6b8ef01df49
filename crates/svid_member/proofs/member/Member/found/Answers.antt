use Rattle.std.proofs.Common.{◌≡◌, ◌∙◌, Option, Some, subst}
use Rattle.svid_replay.specs.declared.token_use.Use.{Use}
use Rattle.svid_check.specs.Said.{said_in}
use Rattle.svid_check.specs.Setting.{setting_by}
use Rattle.svid_member.specs.Claiming.{Finds, FindsBy}
use Rattle.svid_member.specs.Members.{MemberData}
use Rattle.svid_member.proofs.member.Member.found.Goals as goal

same_use : (v u : Use) → ◌≡◌ {A = Option Use} (Some v) (Some u) → v ≡ u
same_use v u e = cc

pub returns-clause-claimed : goal.returns-clause-claimed
returns-clause-claimed g c = λ u is.
    let a = c.args in
    let s = setting_by (g.W.Verifier.says a.verifier.now) a.validator.now in
    let same = same_use c.in-Some.used u (c.in-Some.ensures ∙ is) in
    subst (λ (v : Use). Finds s a.now a.up a.number v a.caller.now a.found.now (said_in a.reading.now) a.validator.now c.by_outcome.new.validator a.self.now c.by_outcome.new.self c.by_outcome.result) same
    (subst (λ o. FindsBy o s a.now a.up a.number c.in-Some.used (said_in a.reading.now) a.validator.now c.by_outcome.new.validator a.self.now c.by_outcome.new.self c.by_outcome.result) c.outcome-outcome.ensures.outcome
    (subst (λ (m : MemberData). FindsBy c.outcome-outcome.result s a.now a.up a.number c.in-Some.used (said_in a.reading.now) a.validator.now c.by_outcome.new.validator m c.by_outcome.new.self c.by_outcome.result) c.outcome-outcome.ensures.same c.by_outcome.ensures))

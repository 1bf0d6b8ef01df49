use Rattle.std.proofs.Common.{subst}
use Rattle.svid_wire.specs.Stage.{Reaches}
use Rattle.svid_wire.specs.SummaryText.{summary_head}
use Rattle.svid_wire.proofs.StageLemmas.{AllBytes-push, digests-more}
use Rattle.svid_wire.proofs.judging.judge_digest.Goals as goal

pub next_digest-requires-clause-fields : goal.next_digest-requires-clause-fields
next_digest-requires-clause-fields c =
    AllBytes-push c.args.digests.items _ _ c.in_ok-push.ensures.items c.requires.begun.fields c.digest_of.ensures.fields

pub returns : goal.returns
returns c =
    subst (λ x. Reaches x c.next_digest.result) (digests-more (summary_head c.args.moment) c.args.digests.items _ _ _ c.in_ok-push.ensures.items c.digest_of.ensures.value) c.next_digest.ensures

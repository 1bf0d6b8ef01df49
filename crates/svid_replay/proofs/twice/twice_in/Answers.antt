use Rattle.std.proofs.Common.{◌∙◌, ap, inl}
use Rattle.std.proofs.lemmas.Result.{IfOk-weaker}
use Rattle.svid_replay.specs.Twice.{uses_of}
use Rattle.svid_replay.proofs.TwiceLemmas.{same-twice_of}
use Rattle.svid_replay.proofs.twice.twice_in.Goals as goal

pub returns : goal.returns
returns c = IfOk-weaker c.list_groups.result _ _ (λ v e. e ∙ same-twice_of _ _ (λ key. inl (ap (uses_of key) c.deref.ensures.value ∙ c.in_ok-sorted.ensures.stable key))) c.list_groups.ensures

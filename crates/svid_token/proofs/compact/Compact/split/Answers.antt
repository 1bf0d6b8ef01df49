use Rattle.std.proofs.Common.{sym, ◌∙◌}
use Rattle.svid_token.proofs.CompactLemmas.{parts_of-three, take-input}
use Rattle.svid_token.proofs.compact.Compact.split.Goals as goal

pub returns-in_default-clause-not_three : goal.returns-in_default-clause-not_three
returns-in_default-clause-not_three c _ header payload signature is =
    let both = sym (parts_of-three _ header payload signature is) ∙ c.in_default.ensures in
    cc both

pub returns-clause-input : goal.returns-clause-input
returns-clause-input c = c.split_at.ensures.front ∙ take-input _ _ _ _ c.in-Some.ensures.0

use Rattle.std.proofs.Common.{◌∙◌, ap, not, sym, subst}
use Rattle.std.proofs.lemmas.List.Kept.{IsStrictlySortedBy-filter}
use Rattle.std.proofs.lemmas.Result.{IfOk-weaker}
use Rattle.std.specs.List.{filter}
use Rattle.svid_replay.specs.Prefixes.{is_among}
use Rattle.svid_replay.specs.Sets.{rising}
use Rattle.svid_replay.specs.Twice.{IsTwice, used}
use Rattle.svid_replay.specs.Use.{use_cmp}
use Rattle.svid_replay.proofs.PrefixesLemmas.{reported}
use Rattle.svid_replay.proofs.SetsLemmas.{rising_rises}
use Rattle.svid_replay.proofs.TwiceLemmas.{is_twice}
use Rattle.svid_replay.proofs.record.Record.report.Goals as goal

pub returns-clause-value : goal.returns-clause-value
returns-clause-value g c =
    let us = rising c.args.self.now.uses in
    IfOk-weaker c.twice_in.result _ _ (λ v e. e ∙ reported us _ _ _ c.in_ok-prefixes.ensures c.in_order-prefixes.ensures.same (c.in_ok-uses.ensures ∙ ap (λ ns. filter (is_among ns) us) c.deref.ensures.value)) c.twice_in.ensures

pub returns-clause-relation : goal.returns-clause-relation
returns-clause-relation g c =
    let us = rising c.args.self.now.uses in
    IfOk-weaker c.twice_in.result _ _ (λ v e. subst (IsTwice (used us)) (sym (e ∙ reported us _ _ _ c.in_ok-prefixes.ensures c.in_order-prefixes.ensures.same (c.in_ok-uses.ensures ∙ ap (λ ns. filter (is_among ns) us) c.deref.ensures.value)))
    (is_twice (used us) (IsStrictlySortedBy-filter use_cmp (λ u. not u.withdrawn) us (rising_rises use_cmp _)))) c.twice_in.ensures

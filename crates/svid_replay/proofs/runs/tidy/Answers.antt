use Rattle.std.proofs.Common.{◌≡◌, ◌<◌, ◌∙◌, List, ap, filter, length, nat_eq, not, rules, subst, sym}
use Rattle.std.proofs.lemmas.Fn.{filter_same}
use Rattle.std.specs.List.{AllByRecursion}
use Rattle.svid_replay.specs.Runs.{all_of}
use Rattle.svid_replay.specs.declared.token_use.Use.{Use}
use Rattle.svid_replay.proofs.RunsLemmas.{all_filled, each_filled}
use Rattle.svid_replay.proofs.runs.tidy.Goals as goal

pub returns-clause-same : goal.returns-clause-same
returns-clause-same c =
    let kept : c.loop-i.runs.items ≡ filter (λ (run : List Use). not (nat_eq (length run) 0)) c.args.runs.now.items = c.loop-i.invariant ∙ filter_same _ _ _ (λ x b f' k. search rules) _ _ c.retain.ensures.filtered in
    ap all_of kept ∙ all_filled c.args.runs.now.items

pub returns-clause-filled : goal.returns-clause-filled
returns-clause-filled c =
    let kept : c.loop-i.runs.items ≡ filter (λ (run : List Use). not (nat_eq (length run) 0)) c.args.runs.now.items = c.loop-i.invariant ∙ filter_same _ _ _ (λ x b f' k. search rules) _ _ c.retain.ensures.filtered in
    subst (AllByRecursion (λ run. 0 < length run)) (sym kept) (each_filled c.args.runs.now.items)

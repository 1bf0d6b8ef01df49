use Rattle.std.proofs.Common.{rules, ◌∙◌, ap, take, drop}
use Rattle.std.proofs.lemmas.Iterator.{YieldsList-from_slice}
use Rattle.std.proofs.lemmas.Iterator.Consumers.{count_from_yields_List}
use Rattle.std.proofs.lemmas.Iterator.Search.{YieldsList-from_take_while}
use Rattle.std.proofs.lemmas.List.{take_min}
use Rattle.std.proofs.lemmas.List.Folds.{length-prefix_len}
use Rattle.std.specs.List.{prefix_len}
use Rattle.svid_uses.specs.Batched.{made_at}
use Rattle.svid_uses.proofs.cutting.split_moment.Goals as goal

pub returns-clause-front : goal.returns-clause-front
returns-clause-front c =
    c.split_at-2.ensures.front ∙ ap (λ n. take n c.args.uses.now) ((count_from_yields_List c.take_while.result _ c.count-count.ensures.ran (YieldsList-from_take_while _ (made_at c.args.moment) (YieldsList-from_slice c.split_at.result.0.now (cc)) c.take_while.ensures.closure c.take_while.ensures.done (λ x b q k. search rules)) ∙ length-prefix_len (made_at c.args.moment) c.split_at.result.0.now)
    ∙ ap (prefix_len (made_at c.args.moment)) (c.split_at.ensures.front ∙ (ap (λ n. take n c.args.uses.now) c.min.ensures ∙ take_min 65536 c.args.uses.now)))

pub returns-clause-rest : goal.returns-clause-rest
returns-clause-rest c =
    c.split_at-2.ensures.back ∙ ap (λ n. drop n c.args.uses.now) ((count_from_yields_List c.take_while.result _ c.count-count.ensures.ran (YieldsList-from_take_while _ (made_at c.args.moment) (YieldsList-from_slice c.split_at.result.0.now (cc)) c.take_while.ensures.closure c.take_while.ensures.done (λ x b q k. search rules)) ∙ length-prefix_len (made_at c.args.moment) c.split_at.result.0.now)
    ∙ ap (prefix_len (made_at c.args.moment)) (c.split_at.ensures.front ∙ (ap (λ n. take n c.args.uses.now) c.min.ensures ∙ take_min 65536 c.args.uses.now)))

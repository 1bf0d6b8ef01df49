use Rattle.std.proofs.Common.{rules, ◌∙◌, ap, take, drop}
use Rattle.std.proofs.lemmas.Iterator.{YieldsList-from_slice}
use Rattle.std.proofs.lemmas.Iterator.Consumers.{count_from_yields_List}
use Rattle.std.proofs.lemmas.Iterator.Search.{YieldsList-from_take_while}
use Rattle.std.proofs.lemmas.List.Folds.{length-prefix_len}
use Rattle.svid_replay.specs.Twice.{has_key}
use Rattle.svid_replay.proofs.twice.split_key.Goals as goal

pub returns-clause-front : goal.returns-clause-front
returns-clause-front c =
    c.split_at.ensures.front ∙ ap (λ n. take n c.args.uses.now) (count_from_yields_List c.take_while.result _ c.count-count.ensures.ran (YieldsList-from_take_while _ (has_key c.args.key.now) (YieldsList-from_slice c.args.uses.now (cc)) c.take_while.ensures.closure c.take_while.ensures.done (λ x b q k. search rules)) ∙ length-prefix_len (has_key c.args.key.now) c.args.uses.now)

pub returns-clause-rest : goal.returns-clause-rest
returns-clause-rest c =
    c.split_at.ensures.back ∙ ap (λ n. drop n c.args.uses.now) (count_from_yields_List c.take_while.result _ c.count-count.ensures.ran (YieldsList-from_take_while _ (has_key c.args.key.now) (YieldsList-from_slice c.args.uses.now (cc)) c.take_while.ensures.closure c.take_while.ensures.done (λ x b q k. search rules)) ∙ length-prefix_len (has_key c.args.key.now) c.args.uses.now)

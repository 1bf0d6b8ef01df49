use Rattle.std.proofs.Common.{◌∙◌, ap, drop, filter, sym}
use Rattle.std.proofs.lemmas.List.{take_rest}
use Rattle.svid_replay.specs.Batches.{is_after}
use Rattle.svid_replay.proofs.UsesLemmas.{filter_is_rest, walk_none}
use Rattle.svid_replay.proofs.sorted.rest_near.Goals as goal

pub returns-in_default : goal.returns-in_default
returns-in_default c = (walk_none c.args.uses.now).parts ∙ ap (λ o. filter (is_after o) c.args.uses.now) (sym c.in_default.is)

pub returns : goal.returns
returns c =
    let us = c.args.uses.now in
    take_rest us c.count_near-index.result ∙ ap (λ n. drop n us) c.count_near-index.ensures.value ∙ filter_is_rest c.in-Some.last us c.requires ∙ ap (λ o. filter (is_after o) us) (sym c.in-Some.is)

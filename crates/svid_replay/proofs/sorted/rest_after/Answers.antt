use Rattle.std.proofs.Common.{◌∙◌, ap, drop, filter, sym}
use Rattle.std.proofs.lemmas.List.{take_rest}
use Rattle.svid_replay.specs.Batches.{is_after}
use Rattle.svid_replay.proofs.UsesLemmas.{filter_is_rest, walk_none}
use Rattle.svid_replay.proofs.sorted.rest_after.Goals as goal

pub returns-in-None : goal.returns-in-None
returns-in-None c = (walk_none c.args.uses.now).parts ∙ ap (λ o. filter (is_after o) c.args.uses.now) (sym c.in-None.is)

pub returns-in-Some : goal.returns-in-Some
returns-in-Some c =
    let us = c.args.uses.now in
    take_rest us c.count_up_to.result ∙ ap (λ n. drop n us) c.count_up_to.ensures.value ∙ filter_is_rest c.in-Some.last us c.requires ∙ ap (λ o. filter (is_after o) us) (sym c.in-Some.is)

use Rattle.std.proofs.Common.{◌≡◌, ◌∙◌, List, Option, arith, ap, cond, get_or, map, None, sym}
use Rattle.std.proofs.lemmas.List.{take_all}
use Rattle.svid_replay.specs.Walks.{exp_if_any}
use Rattle.svid_replay.specs.declared.token_use.Use.{Use}
use Rattle.svid_shards.specs.Shards.{AreHeads, is_before, least_in}
use Rattle.svid_shards.proofs.ShardsLemmas.{first_least, least_more, second_at}
use Rattle.svid_shards.proofs.shards.least.Goals.{then-is_before, else-is_before}
use Rattle.svid_shards.proofs.shards.least.Goals as goal

pub loop-i-init : goal.loop-i-init
loop-i-init c = record { within = omega arith; least = λ next are same. first_least next }

pub loop-i-preserved : goal.loop-i-preserved
loop-i-preserved c =
    let heads = c.args.heads.now in
    let i = c.loop-i.i in
    let at = c.loop-i.at in
    let more = λ (next : List (Option Use)) (are : AreHeads next) (same : heads ≡ map exp_if_any next). least_more next i at c.is_before.result are c.loop-i-test.true c.loop-i.invariant.within (c.loop-i.invariant.least next are same) (c.is_before.ensures ∙ (λ j. is_before (second_at next heads i same j) (second_at next heads at same j))) in
    elim c.if-is_before.branch [
      | then-is_before w ↦ record { within = omega (arith, w.at-is); least = λ next are same. ap (λ n. get_or next n None) w.at-is ∙ ap (λ b. cond b (get_or next i None) (get_or next at None)) (sym w.if-is_before.true) ∙ more next are same }
      | else-is_before w ↦ record { within = omega (arith, w.at-is, c.loop-i.invariant.within); least = λ next are same. ap (λ n. get_or next n None) w.at-is ∙ ap (λ b. cond b (get_or next i None) (get_or next at None)) (sym w.if-is_before.false) ∙ more next are same }
    ]

pub returns-clause-least : goal.returns-clause-least
returns-clause-least c = λ next are same. c.loop-i.invariant.least next are same ∙ ap (least_in None) (take_all c.loop-i.i next (omega (arith, are.long, c.loop-i-test.false)))

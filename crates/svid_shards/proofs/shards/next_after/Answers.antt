use Rattle.std.proofs.Common.{◌∙◌, arith, map}
use Rattle.std.proofs.lemmas.List.{length-map}
use Rattle.svid_shards.specs.Shards.{heads_of}
use Rattle.svid_shards.proofs.ShardsLemmas.{head_at, heads_are, next_all}
use Rattle.svid_shards.proofs.shards.next_after.Goals as goal

pub returns : goal.returns
returns g c =
    let f = g.S.UseStore.content in
    let stores = c.args.shards.now in
    let ss = map f stores in
    head_at f stores c.least.result _ c.args.after _ (omega (arith, c.requires.long, c.least.ensures.bound)) c.index-shards-least.is c.next_after.ensures
    ∙ c.least.ensures.least (heads_of ss c.args.after) (heads_are ss c.args.after c.requires.apart (omega (arith, c.requires.long, length-map stores f))) c.heads_of.ensures ∙ next_all ss c.args.after

use Rattle.std.proofs.Common.{◌∙◌, arith, map}
use Rattle.std.proofs.lemmas.List.{length-map}
use Rattle.svid_shards.specs.Shards.{heads_of}
use Rattle.svid_shards.proofs.ShardsLemmas.{head_at, heads_are, heads_behind, next_all}
use Rattle.svid_shards.proofs.shards.next_in.Goals as goal

pub returns-clause-next : goal.returns-clause-next
returns-clause-next g c =
    let f = g.S.UseStore.content in
    let stores = c.args.shards.now in
    let ss = map f stores in
    let last = c.args.ahead.now.after in
    head_at f stores c.least_behind-at.result c.index-shards-at.result last _ (omega (arith, c.requires.long, c.least_behind-at.ensures.bound)) c.index-shards-at.is c.next_near.ensures
    ∙ c.least_behind-at.ensures.least (heads_of ss last) (heads_are ss last c.requires.apart (omega (arith, c.requires.long, length-map stores f))) (heads_behind ss last) c.requires.heads ∙ next_all ss last

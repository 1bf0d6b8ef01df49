use Rattle.std.proofs.Common.{◌∙◌, ◌++◌, None, ap, sym}
use Rattle.svid_replay.specs.Walks.{uses_behind}
use Rattle.svid_replay.proofs.UsesLemmas.{walk_none}
use Rattle.svid_shards.proofs.store_walk.StoreWalk.of.Goals as goal

pub returns : goal.returns
returns g c = ap (λ us. us ++ uses_behind (g.S.UseStore.content c.args.store.now) None) c.new.ensures ∙ sym (walk_none _).parts

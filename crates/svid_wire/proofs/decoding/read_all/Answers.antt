use Rattle.svid_wire.proofs.FeedLemmas.{ended}
use Rattle.svid_wire.proofs.decoding.read_all.Goals as goal

pub returns-clause-fault : goal.returns-clause-fault
returns-clause-fault c =
    rw c.finish.ensures (ended c.push.new.self c.args.out.now.items c.push.new.out.items c.args.bytes.now (rw c.new-feed.ensures at c.in_ok-push.ensures.ok))

use Rattle.svid_wire.proofs.feed.Feed.finish.Goals as goal

pub len-requires : goal.len-requires
len-requires c = c.self.invariant c.in-Some.state c.in-Some.is

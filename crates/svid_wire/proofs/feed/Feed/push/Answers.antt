use Rattle.std.proofs.Common.{ap, sym, ◌∙◌}
use Rattle.std.specs.Option.{option_map}
use Rattle.svid_wire.specs.Partial.{held_of}
use Rattle.svid_wire.proofs.FeedLemmas.{Pushed-piece}
use Rattle.svid_wire.proofs.feed.Feed.push.Goals as goal

pub take_piece-requires : goal.take_piece-requires
take_piece-requires c = c.self.invariant c.in-Some.state (sym c.in-Some.ensures.value)

pub returns-clause-ok : goal.returns-clause-ok
returns-clause-ok c =
    let was = ap (option_map held_of) c.in-Some.ensures.value ∙ c.self.view_is in
    Pushed-piece _ c.in-Some.state c.in_ok-next.next _ _ _ was c.in_ok-next.ensures.ok.0 c.in_ok-next.ensures.ok.1

use Rattle.std.proofs.Common.{refl, rules}
use Rattle.svid_c.specs.Asks.{goes_on, has_no_number, stays_away}
use Rattle.svid_c.proofs.peer.Peer.ask.Goals as goal

pub returns-then-came-ne0 : goal.returns-then-came-ne0
returns-then-came-ne0 c = stays_away c.come-came.new.deed c.come-came.ensures (search rules) c.told_length.ensures refl refl

pub returns-then-deed-ne1 : goal.returns-then-deed-ne1
returns-then-deed-ne1 c = has_no_number c.come-came.result c.come-came.new.deed c.come-came.ensures (search rules) (search rules) c.only.ensures.status c.only.ensures.told (search rules) refl

pub returns : goal.returns
returns c = goes_on c.come-came.result c.come-came.new.deed c.come-came.new.self _ c.come-came.ensures (search rules) (search rules) c.go_on-status.ensures (search rules)

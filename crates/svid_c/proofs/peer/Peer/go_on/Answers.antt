use Rattle.std.proofs.Common.{rules}
use Rattle.svid_c.specs.Asks.{is_found, is_judged}
use Rattle.svid_c.proofs.peer.Peer.go_on.Goals as goal

pub returns-then-not-is_known : goal.returns-then-not-is_known
returns-then-not-is_known c = is_judged c.judge-status.ensures (search rules)

pub returns : goal.returns
returns c = is_found c.judge-status.result c.judge-status.new.told _ c.judge-status.new.self c.judge-status.new.validator c.judge-status.ensures (search rules) c.find.ensures

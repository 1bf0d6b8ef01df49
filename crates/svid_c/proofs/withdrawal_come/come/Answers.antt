use Rattle.std.proofs.Common.{refl}
use Rattle.svid_c.specs.Peers.{has_one}
use Rattle.svid_c.proofs.withdrawal_come.come.Goals as goal

pub returns : goal.returns
returns c = has_one c.in-Some.peer c.send_withdrawal.new.self c.in-Some.is refl c.send_withdrawal.ensures

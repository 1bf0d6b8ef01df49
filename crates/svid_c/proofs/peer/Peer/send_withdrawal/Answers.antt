use Rattle.std.proofs.Common.{refl}
use Rattle.svid_c.specs.Withdrawn.{goes_out}
use Rattle.svid_c.proofs.peer.Peer.send_withdrawal.Goals as goal

pub returns-in-Ok : goal.returns-in-Ok
returns-in-Ok c = goes_out c.in-Ok.number c.come.new.self c.in-Ok.ensures.ok refl c.under_way.ensures refl

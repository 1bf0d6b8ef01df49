use Rattle.std.proofs.Common.{refl, ap}
use Rattle.svid_c.specs.Peers.{arrives, no_memory_to_come, with_member_data}
use Rattle.svid_c.proofs.peer.Peer.come.Goals as goal

pub returns-in-Ok : goal.returns-in-Ok
returns-in-Ok c = arrives c.in-Ok.coming c.come.new.self c.in-Ok.ensures.ok refl c.tell_coming.ensures

pub returns-in-Err : goal.returns-in-Err
returns-in-Err c = no_memory_to_come (ap (with_member_data c.args.self.now) c.in-Err.ensures.err) refl refl

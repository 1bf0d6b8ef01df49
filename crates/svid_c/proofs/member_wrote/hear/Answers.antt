use Rattle.std.proofs.Common.{refl}
use Rattle.svid_c.specs.Peers.{has_one}
use Rattle.svid_c.proofs.member_wrote.hear.Goals as goal

pub returns : goal.returns
returns c = has_one c.in-Some.peer c.hear.new.self c.in-Some.is refl (c.hear.ensures, refl)

use Rattle.svid_c.specs.Trust.{unopened}
use Rattle.std.proofs.Common.{refl}
use Rattle.svid_c.proofs.bundles_open.open.Goals as goal

pub returns-in-Err : goal.returns-in-Err
returns-in-Err c = unopened refl c.requires c.refuse_bundles.ensures

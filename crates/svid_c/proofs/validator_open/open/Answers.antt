use Rattle.svid_c.specs.Live.{begun, not_begun}
use Rattle.svid_c.proofs.validator_open.open.Goals as goal

pub returns-in-Ok : goal.returns-in-Ok
returns-in-Ok c = begun c.in-Ok.live.value c.put.ensures c.in-Ok.ensures.ok c.only.ensures.status c.only.ensures.told

pub returns-in-Err : goal.returns-in-Err
returns-in-Err c = not_begun c.requires c.refuse_bundles.ensures

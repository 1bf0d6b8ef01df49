use Rattle.std.proofs.Common.{refl}
use Rattle.svid_c.specs.Buckets.{summary_unread}
use Rattle.svid_c.proofs.summary_read.svid_summary_read.Goals as goal

pub returns-in-Err : goal.returns-in-Err
returns-in-Err c = summary_unread c.in-Err.fault c.in-Err.ensures.fault c.refuse.ensures.number c.refuse.ensures.told refl

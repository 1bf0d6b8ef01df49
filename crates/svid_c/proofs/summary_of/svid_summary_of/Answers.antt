use Rattle.std.proofs.Common.{◌∙◌}
use Rattle.svid_c.specs.Buckets.{summary_written}
use Rattle.svid_c.proofs.summary_of.svid_summary_of.Goals as goal

pub returns-in-Ok : goal.returns-in-Ok
returns-in-Ok c = summary_written c.bytes.result.now (c.bytes.ensures ∙ c.in-Ok.ensures) c.put.ensures.put c.put.ensures.told

use Rattle.std.proofs.Common.{refl, subst, sym, ◌∙◌}
use Rattle.svid_c.specs.Buckets.{bucket_told}
use Rattle.svid_c.specs.Entries.{AreWritten}
use Rattle.svid_c.proofs.validator_bucket.tell_bucket.Goals as goal

pub returns-in-Ok-messages_of : goal.returns-in-Ok-messages_of
returns-in-Ok-messages_of c =
    bucket_told c.bytes.result.now
    (subst (λ us. AreWritten us c.bytes.result.now) (c.deref.ensures.value ∙ c.in-Ok.ensures)
    (subst (AreWritten c.deref.result.now) (sym c.bytes.ensures) c.in-Ok-messages_of.ensures.ok))
    c.put.ensures.put c.put.ensures.told refl

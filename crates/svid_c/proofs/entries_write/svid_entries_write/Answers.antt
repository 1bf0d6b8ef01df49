use Rattle.std.proofs.Common.{refl, subst, sym, ◌∙◌}
use Rattle.svid_uses.specs.Time.{IsUsesFault}
use Rattle.svid_uses.specs.declared.uses_fault.UsesFault.TheVariants.{OutOfMemory}
use Rattle.svid_c.specs.Entries.{AreWritten, entries_refused, entries_told}
use Rattle.svid_c.proofs.entries_write.svid_entries_write.Goals as goal

pub returns-in-Err : goal.returns-in-Err
returns-in-Err c = entries_refused OutOfMemory tt c.refuse_uses.ensures.number c.refuse_uses.ensures.told refl

pub returns-in-Ok-messages_of : goal.returns-in-Ok-messages_of
returns-in-Ok-messages_of c =
    entries_told c.bytes.result.now
    (subst (λ us. AreWritten us c.bytes.result.now) (c.deref.ensures.value ∙ c.in-Ok.ensures) (subst (AreWritten c.deref.result.now) (sym c.bytes.ensures) c.in-Ok-messages_of.ensures.ok))
    c.put.ensures.put c.put.ensures.told

pub returns : goal.returns
returns c =
    entries_refused c.in-Err-messages_of.fault (subst (λ us. IsUsesFault us c.in-Err-messages_of.fault) (c.deref.ensures.value ∙ c.in-Ok.ensures) c.in-Err-messages_of.ensures.fault)
    c.refuse_uses-in-Err-messages_of.ensures.number c.refuse_uses-in-Err-messages_of.ensures.told refl

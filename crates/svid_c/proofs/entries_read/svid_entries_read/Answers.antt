use Rattle.std.proofs.Common.{◌++◌, List, ap, arith, drop, length, map, refl, ◌∙◌}
use Rattle.svid_replay.specs.declared.token_use.Use.{Use}
use Rattle.svid_c.specs.Entries.{entries_long, entries_put, entry_seen, no_entries}
use Rattle.svid_c.specs.Status.{told_length}
use Rattle.svid_c.proofs.entries_read.svid_entries_read.Goals as goal

pub returns-in-Err : goal.returns-in-Err
returns-in-Err c = no_entries c.in-Err.fault c.in-Err.ensures.fault c.refuse.ensures.number c.refuse.ensures.told refl

pub returns-then-uses-out : goal.returns-then-uses-out
returns-then-uses-out c =
    entries_long c.in-Ok.uses.items c.in-Ok.ensures.ok (omega (arith, ap length c.deref-uses.ensures.value, c.if-uses-out.true)) refl (c.told_length.ensures ∙ ap (λ (us : List Use). told_length (length us)) c.deref-uses.ensures.value) refl

pub returns : goal.returns
returns c =
    entries_put c.in-Ok.uses.items c.in-Ok.ensures.ok (omega (arith, ap length c.deref-uses.ensures.value, c.if-uses-out.false)) refl (c.told_length.ensures ∙ ap (λ (us : List Use). told_length (length us)) c.deref-uses.ensures.value)
    (c.put_entries.ensures ∙ ap (λ (us : List Use). map entry_seen us ++ drop (length us) c.args.out.now) c.deref-uses.ensures.value)

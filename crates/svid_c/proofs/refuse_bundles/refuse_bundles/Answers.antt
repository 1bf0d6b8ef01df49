use Rattle.std.proofs.Common.{◌≡◌, refl, sym, ◌∙◌}
use Rattle.svid_c.proofs.RefusedBundlesLemmas.{no_memory, none_unnamed}
use Rattle.svid_c.proofs.refuse_bundles.refuse_bundles.Goals as goal

pub returns-in-Ok-false : goal.returns-in-Ok-false
returns-in-Ok-false c =
    let lacks = c.in-Ok-false.ensures in
    let none = c.in-Ok-false.field-0-test in
    none_unnamed c.args.text.now c.args.fault c.refuse.result c.refuse.new.told c.requires (cc) c.refuse.ensures.number c.refuse.ensures.told

pub returns-in-Err : goal.returns-in-Err
returns-in-Err c = no_memory c.args.text.now c.refuse-in-Err.result c.refuse-in-Err.new.told c.refuse-in-Err.ensures.number c.refuse-in-Err.ensures.told

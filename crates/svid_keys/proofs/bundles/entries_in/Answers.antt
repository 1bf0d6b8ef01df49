use Rattle.std.proofs.Common.{Some, ap, sym}
use Rattle.svid_keys.proofs.BundlesLemmas.{items_list_view}
use Rattle.svid_keys.proofs.bundles.entries_in.Goals as goal

pub returns-in-Some : goal.returns-in-Some
returns-in-Some c =
    rw (c.as_slice.ensures.value, ← c.in_ok-keys.ensures, ← c.in-Some.ensures) (ap Some (sym (items_list_view c.in-Some.entries.now.items)))

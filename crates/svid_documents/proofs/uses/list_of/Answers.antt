use Rattle.std.proofs.Common.{sym}
use Rattle.serde_json.proofs.Views.{view-Array}
use Rattle.svid_keys.proofs.BundlesLemmas.{items_list_view}
use Rattle.svid_documents.proofs.uses.list_of.Goals as goal

pub returns-in-Array : goal.returns-in-Array
returns-in-Array c = rw (c.in-Array.is, view-Array c.in-Array.entries) (sym (items_list_view c.in-Array.entries.items))

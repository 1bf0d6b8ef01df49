use Rattle.std.proofs.Common.{◌≡◌, ◌≤◌, Some, Ok, map, length, subst, arith}
use Rattle.std.proofs.lemmas.Str.{is_utf8-from_IsUtf8}
use Rattle.serde_json.specs.Data.{depth}
use Rattle.serde_json.specs.Read.{read}
use Rattle.serde_json.specs.View.{members_view}
use Rattle.serde_json.proofs.Views.{view-Object}
use Rattle.svid_documents.specs.Document.{data_of}
use Rattle.svid_documents.specs.Join.{joined}
use Rattle.svid_documents.proofs.JoinLemmas.{joining_all, reads_joined}
use Rattle.svid_documents.proofs.joined.join.Goals as goal

pub returns-in-Ok-clause-ok : goal.returns-in-Ok-clause-ok
returns-in-Ok-clause-ok c =
    let now = members_view c.loop-index.joined.entries in
    let all : length c.args.documents.now ≤ c.loop-index.index = omega (arith, c.loop-index-test.false) in
    let joins : joined (map data_of c.args.documents.now) ≡ Ok now = joining_all c.args.documents.now now c.loop-index.index all c.loop-index.invariant in
    let reads = subst (λ d. depth d ≤ 127 → read c.in-Ok.text.items ≡ Some d) (view-Object c.loop-index.joined) c.in-Ok.ensures.reads_back in
    record { bundles = now; joins = joins; read = reads_joined (map data_of c.args.documents.now) now c.in-Ok.text.items joins (is_utf8-from_IsUtf8 c.in-Ok.text.items c.in-Ok.ensures.utf8) reads }

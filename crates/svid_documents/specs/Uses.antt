-- Keys for JWT-SVIDs that don't say what they are for (SPIFFE Workload API, section 6.2.2).
use Rattle.std.specs.Prelude.{List, codes, if◌then◌else◌, is_some, map, Option, Some, None}
use Rattle.serde_json.specs.Data.{Data, string, array, object, no_members, member, put}
use Rattle.serde_json.specs.Find.{get_member}
use Rattle.serde_json.specs.View.{items_of}
use Rattle.svid_keys.specs.Bundles.{entries_in}

-- a key with the use of JWT-SVIDs, unless it has one
abbrev pub with_use : Data → Data
with_use (object ms) = if is_some (get_member (codes "use") ms) then object ms else object (put (codes "use") (string (codes "jwt-svid")) ms)
with_use entry = entry

-- a JWK Set of these entries
abbrev pub set_of : List Data → Data
set_of entries = object (member (codes "keys") (array (items_of entries)) no_members)

-- the same for its entries, where there are some
abbrev pub mended_by : Data → Option (List Data) → Data
mended_by set None = set
mended_by set (Some entries) = set_of (map with_use entries)

-- a JWK Set whose keys all have a use; what is no JWK Set stays
abbrev pub mended : Data → Data
mended set = mended_by set (entries_in set)

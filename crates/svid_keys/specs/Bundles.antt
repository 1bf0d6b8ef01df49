-- Trust bundles: a JSON object of trust domain names and their JWK Sets (RFC 7517, section 5).
use Rattle.std.specs.Prelude.{◌≡◌, ℕ, ◌+◌, not, is_none, if◌then◌else◌, IsSome, List, [], ◌∷◌, codes, filter_map, Option, Some, None, option_and_then, option_map, unwrap_or, string_bytes, String, Vec}
use Rattle.std.specs.declared.alloc.Global.{Global}
use Rattle.std.specs.Option.{option_or}
use Rattle.serde_json.specs.Data.{Data, Items, no_items, item, Members, no_members, member}
use Rattle.serde_json.specs.Find.{as_array, as_null, as_object, get}
use Rattle.svid_id.specs.Domain.{IsDomain, is_domain}
use Rattle.svid_token.specs.Json.{json_of}
use Rattle.svid_keys.specs.First.{IsFirstBad}
use Rattle.svid_keys.specs.Key.{KeyData, kept_key}
use Rattle.svid_keys.specs.declared.bundle_fault.BundleFault.{BundleFault}
use Rattle.svid_keys.specs.declared.bundle_fault.BundleFault.TheVariants.{NotObject, Domain, Keys, OutOfMemory}

-- the keys of a trust domain
pub record Bundle : Type 0 where
  pub name : List ℕ
  pub keys : List KeyData

-- the items of a JSON list
abbrev pub items_list : Items → List Data
items_list no_items = []
items_list (item d ds) = d ∷ items_list ds

-- a `keys` list (RFC 7517, section 5.1); null stands for an empty one
abbrev pub as_entries : Data → Option (List Data)
as_entries keys = option_or (option_map items_list (as_array keys)) (option_map (λ _. []) (as_null keys))

-- the entries of a JWK Set, none where it is no object with such a list
abbrev pub entries_in : Data → Option (List Data)
entries_in set = option_and_then as_entries (get (codes "keys") set)

-- the bundle of a trust domain: of the entries of its JWK Set, those that are keys, in the order of the list
abbrev pub bundle_of : List ℕ → List Data → Bundle
bundle_of name entries = record { name = name; keys = filter_map (kept_key name) entries }

-- a member of the object is a bundle: a trust domain name and a JWK Set
pub record IsBundle (name : List ℕ) (set : Data) : Type 0 where
  pub domain : IsDomain name
  pub entries : IsSome (entries_in set)

-- each member is a bundle
abbrev pub AreBundles : Members → Type 0
AreBundles no_members = Unit {0}
AreBundles (member name set ms) = IsBundle name set × AreBundles ms

-- the members of the object that a text is, in rising order of their names, if it is one
abbrev pub members_in : List ℕ → Option Members
members_in text = option_and_then as_object (json_of text)

-- a text is bundles
abbrev pub IsBundles : List ℕ → Type 0
IsBundles text = (ms : Members) × (members_in text ≡ Some ms) × AreBundles ms

-- the bundles that members are
abbrev pub bundles_of : Members → List Bundle
bundles_of no_members = []
bundles_of (member name set ms) = bundle_of name (unwrap_or (entries_in set) []) ∷ bundles_of ms

-- the first fault of members, the first of them at an index
abbrev pub members_fault : ℕ → Members → Option BundleFault
members_fault at no_members = None
members_fault at (member name set ms) =
    if not (is_domain name) then Some (Domain at)
    else if is_none (entries_in set) then Some (Keys at)
    else members_fault (at + 1) ms

-- a member of an object: a name and what stands under it
pub record Named : Type 0 where
  pub name : List ℕ
  pub set : Data

-- the members of an object, in rising order of their names
abbrev pub members_list : Members → List Named
members_list no_members = []
members_list (member name set ms) = record { name = name; set = set } ∷ members_list ms

-- the members before a index are bundles, and the one at the index is bad in this way
abbrev pub IsFirstBadMember : (Named → Type 0) → List ℕ → ℕ → Type 0
IsFirstBadMember Bad text index = (ms : Members) × (members_in text ≡ Some ms)
    × IsFirstBad (λ m. IsBundle m.name m.set) Bad (members_list ms) index

-- the first fault of a text as bundles, by what stands before it: it is no object; the names before this one are bundles,
-- and this one is no trust domain name; or it is one, and has no list of keys
abbrev pub IsFirstBundleFault : List ℕ → BundleFault → Type 0
IsFirstBundleFault text NotObject = members_in text ≡ None
IsFirstBundleFault text (Domain index) = IsFirstBadMember (λ m. ¬ IsDomain m.name) text index
IsFirstBundleFault text (Keys index) = IsFirstBadMember (λ m. IsDomain m.name × (entries_in m.set ≡ None)) text index
IsFirstBundleFault text OutOfMemory = ⊥

-- the first fault of members that may not be there
abbrev pub object_fault : Option Members → Option BundleFault
object_fault None = Some NotObject
object_fault (Some ms) = members_fault 0 ms

-- the fault of a text as bundles
abbrev pub bundles_fault : List ℕ → Option BundleFault
bundles_fault text = object_fault (members_in text)

-- the bundles that a text is, none where it has a fault
abbrev pub bundles_in : List ℕ → Option (List Bundle)
bundles_in text = if is_none (bundles_fault text) then option_map bundles_of (members_in text) else None

-- a refusal is the fault that was found, if memory did not run out
abbrev pub IsRefusal : Option BundleFault → BundleFault → Type 0
IsRefusal found NotObject = found ≡ Some NotObject
IsRefusal found (Domain index) = found ≡ Some (Domain index)
IsRefusal found (Keys index) = found ≡ Some (Keys index)
IsRefusal found OutOfMemory = Unit {0}

-- what contracts see of a trust domain beside its keys
abbrev pub bundle_view : String Global × Vec KeyData Global → Bundle
bundle_view entry = record { name = string_bytes entry.0; keys = entry.1.items }

-- Objects and lists of JSON values, beside the members and entries that they stand for.
use Rattle.std.proofs.Common.{◌≡◌, ℕ, List, [], String, string_bytes, is_some, option_map, unwrap_or, Option, Some, None, refl, sym, ap, ◌∙◌, rules}
use Rattle.std.specs.declared.alloc.Global.{Global}
use Rattle.std.specs.Cmp.Lexicographic.{slice_cmp}
use Rattle.std.specs.Ordering.{nat_cmp}
use Rattle.std.specs.BTreeMap.{is_at}
use Rattle.std.specs.Map.{lookup}
use Rattle.serde_json.specs.Data.{Data, null, array, string}
use Rattle.serde_json.specs.Find.{as_array, get_member}
use Rattle.serde_json.specs.View.{members_view, view}
use Rattle.serde_json.specs.declared.value.Value.{Value, String as StringValue, the_lemmas}
use Rattle.serde_json.proofs.Views.{view-lookup}
use Rattle.svid_keys.specs.Bundles.{as_entries, items_list}

pub view-String : (s : String Global) → view (StringValue s) ≡ string (string_bytes s)
view-String s = search (rules, the_lemmas)

is_some-view : (found : Option Value) → is_some (option_map view found) ≡ is_some found
is_some-view None = refl
is_some-view (Some value) = refl

-- a map has a name exactly if the object has
pub has_member : (name : List ℕ) (es : List (String Global × Value)) → is_some (lookup (is_at (λ k. slice_cmp nat_cmp name (string_bytes k))) es) ≡ is_some (get_member name (members_view es))
has_member name es = sym (is_some-view _) ∙ ap is_some (view-lookup name es)

-- the entries of `keys` are those of a list, or none
pub unwrap_or-as_entries : (keys : Data) → unwrap_or (as_entries keys) [] ≡ unwrap_or (option_map items_list (as_array keys)) []
unwrap_or-as_entries (array items) = refl
unwrap_or-as_entries null = refl
unwrap_or-as_entries _ = refl

-- The bundle of one trust domain, which is no object of trust domains.
use Rattle.std.proofs.Common.{◌≡◌, ℕ, is_some, List, IsSome, Option, Some, None, codes, option_and_then, true, false, Ordering, Less, Equal, Greater, refl, sym, ◌∙◌}
use Rattle.std.proofs.lemmas.Bool.{false≢true}
use Rattle.std.specs.Ordering.{match_ordering, nat_cmp}
use Rattle.std.specs.Cmp.Lexicographic.{slice_cmp}
use Rattle.serde_json.specs.Data.{Data, null, boolean, number, string, array, object, Members, no_members, member}
use Rattle.serde_json.specs.Find.{as_object, get_member}
use Rattle.svid_token.specs.Json.{json_of}
use Rattle.svid_keys.specs.Bundles.{AreBundles, IsBundles, as_entries, bundles_fault, bundles_in, entries_in, members_in}
use Rattle.svid_keys.specs.declared.bundle_fault.BundleFault.{BundleFault}
use Rattle.svid_keys.proofs.BundlesLemmas.{IsBundles-from_fault}
use Rattle.svid_documents.specs.Document.{is_unnamed}

-- a JWK Set is no list, and not null
no_list : (set : Data) → IsSome (entries_in set) → as_entries set ≡ None
no_list (object ms) some = refl
no_list null some = cc
no_list (boolean b) some = cc
no_list (number n) some = cc
no_list (string s) some = cc
no_list (array ds) some = cc

found_at : (o : Ordering) (set : Data) (rest : Option Data) → as_entries set ≡ None → option_and_then as_entries rest ≡ None
    → option_and_then as_entries (match_ordering o rest (Some set) rest) ≡ None
found_at Less set rest here behind = behind
found_at Equal set rest here behind = here
found_at Greater set rest here behind = behind

-- of bundles none has a list as its value, nor null
no_keys : (name : List ℕ) (ms : Members) → AreBundles ms → option_and_then as_entries (get_member name ms) ≡ None
no_keys name no_members are = refl
no_keys name (member other set ms) are =
    found_at (slice_cmp nat_cmp name other) set (get_member name ms) (no_list set are.0.entries) (no_keys name ms are.1)

keys_of : (d : Option Data) (ms : Members) → option_and_then as_object d ≡ Some ms
    → option_and_then entries_in d ≡ option_and_then as_entries (get_member (codes "keys") ms)
keys_of None ms is = cc
keys_of (Some (object all)) ms is = let same : all ≡ ms = cc in rw same refl
keys_of (Some null) ms is = cc
keys_of (Some (boolean b)) ms is = cc
keys_of (Some (number n)) ms is = cc
keys_of (Some (string s)) ms is = cc
keys_of (Some (array ds)) ms is = cc

named : (text : List ℕ) → IsBundles text → is_unnamed text ≡ false
named text is = rw (keys_of (json_of text) is.0 is.1, no_keys (codes "keys") is.0 is.2) refl

unread_for : (text : List ℕ) (found : Option BundleFault) → bundles_fault text ≡ found → is_unnamed text ≡ true → bundles_in text ≡ None
unread_for text (Some fault) is alone = rw is refl
unread_for text None is alone = absurd (false≢true (sym (named text (IsBundles-from_fault text is)) ∙ alone))

-- no bundles are read from the bundle of one trust domain
pub unread : (text : List ℕ) → is_unnamed text ≡ true → bundles_in text ≡ None
unread text alone = unread_for text (bundles_fault text) refl alone

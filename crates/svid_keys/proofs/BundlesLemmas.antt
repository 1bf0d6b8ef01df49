-- Bundles that are read one after the other, in rising order of their names.
use Rattle.std.proofs.Common.{◌≡◌, ◌+◌, ℕ, if◌then◌else◌, Bool, true, false, not, List, [], ◌∷◌, ◌++◌, map, filter_map, length, string_bytes, string_cmp, String, Vec, Option, Some, None, IsSome, is_none, unwrap_or, inl, inr, refl, ap, subst, sym, ◌∙◌, arith}
use Rattle.std.proofs.lemmas.Bool.{cases_Bool, false≢true}
use Rattle.std.proofs.lemmas.List.{append-nil, length-append}
use Rattle.std.proofs.lemmas.Map.Keys.{sorted_head, sorted_tail}
use Rattle.std.specs.declared.alloc.Global.{Global}
use Rattle.std.specs.declared.cmp.Ordering.TheVariants.{Less, Greater}
use Rattle.std.specs.BTreeMap.{insert_entry}
use Rattle.std.specs.Cmp.Lexicographic.{nat_list_cmp_total, slice_cmp}
use Rattle.std.specs.List.{AllByRecursion}
use Rattle.std.specs.List.Sorted.{IsStrictlySortedBy}
use Rattle.std.specs.Ordering.{nat_cmp, ordering_reverse}
use Rattle.serde_json.specs.View.{items_view, view}
use Rattle.serde_json.specs.declared.value.Value.{Value}
use Rattle.serde_json.specs.Data.{Data, Members, no_members, member}
use Rattle.serde_json.specs.View.{members_view}
use Rattle.svid_id.specs.Domain.{IsDomain, domain_fault, is_domain}
use Rattle.svid_id.specs.declared.id_fault.IdFault.{IdFault}
use Rattle.svid_id.proofs.DomainLemmas.{IsDomain-from_fault, domain_fault-IsDomain}
use Rattle.svid_keys.specs.Bundles.{AreBundles, IsBundle, IsBundles, IsFirstBundleFault, IsRefusal, Named, bundle_of, bundle_view, bundles_fault, bundles_in, bundles_of, entries_in, items_list, members_fault, members_in, members_list, object_fault}
use Rattle.svid_keys.specs.First.{IsFirstBad}
use Rattle.svid_keys.specs.Key.{KeyData, kept_key}
use Rattle.svid_keys.proofs.FirstLemmas.{first_here, first_later, first_or_later, none_first}
use Rattle.svid_keys.specs.declared.bundle_fault.BundleFault.{BundleFault}
use Rattle.svid_keys.specs.declared.bundle_fault.BundleFault.TheVariants.{NotObject, Domain, Keys, OutOfMemory}

-- a JSON list of values, as a list of values
pub items_list_view : (entries : List Value) → items_list (items_view entries) ≡ map view entries
items_list_view [] = refl
items_list_view (entry ∷ entries) = ap (λ more. view entry ∷ more) (items_list_view entries)

-- names rise in byte order
abbrev pub AreRising : List (List ℕ) → Type 0
AreRising = IsStrictlySortedBy (slice_cmp nat_cmp)

-- the names of a map's entries
abbrev pub names_of : {X : Type 0} → List (String Global × X) → List (List ℕ)
names_of entries = map (λ e. string_bytes e.0) entries

less_names : {X : Type 0} (name : String Global) (entries : List (String Global × X))
    → AllByRecursion (λ y. string_cmp name y ≡ Less) (map (λ e. e.0) entries)
    → AllByRecursion (λ y. slice_cmp nat_cmp (string_bytes name) y ≡ Less) (names_of entries)
less_names name [] below = tt
less_names name (e ∷ entries) below = (below.0, less_names name entries below.1)

-- the names of an ordered map rise
pub rising_names : {X : Type 0} (entries : List (String Global × X))
    → IsStrictlySortedBy string_cmp (map (λ e. e.0) entries) → AreRising (names_of entries)
unfolding IsStrictlySortedBy
rising_names [] up = tt
rising_names (e ∷ entries) up = (less_names e.0 entries up.0, rising_names entries up.1)

less_than_next : (name : List ℕ) (front : List (List ℕ)) (next : List ℕ) (rest : List (List ℕ))
    → AllByRecursion (λ y. slice_cmp nat_cmp name y ≡ Less) (front ++ next ∷ rest) → slice_cmp nat_cmp name next ≡ Less
less_than_next name [] next rest below = below.0
less_than_next name (x ∷ front) next rest below = less_than_next name front next rest below.1

greater : (a b : List ℕ) → slice_cmp nat_cmp a b ≡ Less → slice_cmp nat_cmp b a ≡ Greater
greater a b less = nat_list_cmp_total.antisymm b a ∙ ap ordering_reverse less

-- an entry whose name is greater than those before goes to the end
pub insert_last : {X : Type 0} (entries : List (String Global × X)) (name : String Global) (x : X) (rest : List (List ℕ))
    → AreRising (names_of entries ++ string_bytes name ∷ rest) → insert_entry string_cmp entries name x ≡ entries ++ (name, x) ∷ []
insert_last [] name x rest up = refl
insert_last (e ∷ entries) name x rest up =
    let after : slice_cmp nat_cmp (string_bytes name) (string_bytes e.0) ≡ Greater =
    greater (string_bytes e.0) (string_bytes name) (less_than_next _ (names_of entries) _ rest (sorted_head _ _ _ up)) in
    rw after (ap (λ more. e ∷ more) (insert_last entries name x rest (sorted_tail _ _ _ up)))

-- one more element before others
map_more : {A B : Type 0} (f : A → B) (xs : List A) (x : A) (ys : List B) → map f (xs ++ x ∷ []) ++ ys ≡ map f xs ++ f x ∷ ys
map_more f [] x ys = refl
map_more f (first ∷ xs) x ys = ap (λ more. f first ∷ more) (map_more f xs x ys)

-- of the members of an object these entries were read, and these members are left
pub record IsReading (all : Members) (read : List (String Global × Vec KeyData Global)) (left : List (String Global × Value)) : Type 0 where
  pub bundles : bundles_of all ≡ map bundle_view read ++ bundles_of (members_view left)
  pub fault : members_fault 0 all ≡ members_fault (length read) (members_view left)
  pub accepted : AreBundles (members_view left) → AreBundles all
  pub rising : AreRising (names_of read ++ names_of left)

-- nothing was read yet
pub reading_none : (members : List (String Global × Value)) (read : List (String Global × Vec KeyData Global)) (left : List (String Global × Value))
    → read ≡ [] → left ≡ members → IsStrictlySortedBy string_cmp (map (λ e. e.0) members) → IsReading (members_view members) read left
reading_none members read left none all up = rw (none, all) (record {
  bundles = refl;
  fault = refl;
  accepted = λ are. are;
  rising = rising_names members up;
})

-- one more member was read
pub reading_more : (all : Members) (old new : List (String Global × Vec KeyData Global)) (left rest : List (String Global × Value))
    → (name copy : String Global) (set : Value) (keys : Vec KeyData Global) (said : List ℕ) (index : ℕ)
    → IsReading all old left → left ≡ (name, set) ∷ rest → said ≡ string_bytes name → index ≡ length old → string_bytes copy ≡ said
    → new ≡ insert_entry string_cmp old copy keys → IsBundle said (view set)
    → keys.items ≡ filter_map (kept_key said) (unwrap_or (entries_in (view set)) [])
    → ((ms : Members) → members_fault index (member said (view set) ms) ≡ members_fault (index + 1) ms)
    → IsReading all new rest
reading_more all old new left rest name copy set keys said index is before named at copied inserted good kept next =
    let spelled : string_bytes copy ≡ string_bytes name = copied ∙ named in
    let up : AreRising (names_of old ++ string_bytes copy ∷ names_of rest) = rw spelled (rw before at is.rising) in
    let placed : new ≡ old ++ (copy, keys) ∷ [] = inserted ∙ insert_last old copy keys (names_of rest) up in
    let same : bundle_view (copy, keys) ≡ bundle_of (string_bytes name) (unwrap_or (entries_in (view set)) []) =
    rw (spelled, kept, named) refl in
    let longer : length new ≡ length old + 1 = omega (arith, ap length placed, length-append old ((copy, keys) ∷ [])) in
    record {
      bundles = rw (placed, map_more bundle_view old (copy, keys) (bundles_of (members_view rest)), same) (rw before at is.bundles);
      fault = rw longer (rw before at is.fault ∙ (rw (named, at) at (next (members_view rest))));
      accepted = λ are. is.accepted (rw before (rw named at good, are));
      rising = rw (placed, map_more (λ (e : String Global × Vec KeyData Global). string_bytes e.0) old (copy, keys) (names_of rest)) up;
    }

-- the fault of the next member is that of all
pub fault_next : (all : Members) (old : List (String Global × Vec KeyData Global)) (left rest : List (String Global × Value))
    → (name : String Global) (set : Value) (said : List ℕ) (index : ℕ) (fault : BundleFault)
    → IsReading all old left → left ≡ (name, set) ∷ rest → said ≡ string_bytes name → index ≡ length old
    → ((ms : Members) → IsRefusal (members_fault index (member said (view set) ms)) fault) → IsRefusal (members_fault 0 all) fault
fault_next all old left rest name set said index fault is before named at refused =
    rw (is.fault, before, ← named, ← at) (refused (members_view rest))

-- all members were read
pub reading_all : (all : Members) (read : List (String Global × Vec KeyData Global)) (left : List (String Global × Value))
    → IsReading all read left → left ≡ [] → (map bundle_view read ≡ bundles_of all) × AreBundles all
reading_all all read left is none =
    (sym (rw none at is.bundles ∙ append-nil (map bundle_view read)), is.accepted (rw none tt))

has_entries : (at : ℕ) (entries : Option (List Data)) (ms : Members) → IsSome entries
    → (if is_none entries then Some (Keys at) else members_fault (at + 1) ms) ≡ members_fault (at + 1) ms
has_entries at None ms some = cc
has_entries at (Some entries) ms some = refl

-- a member that is a bundle has no fault
members_fault-IsBundle : (at : ℕ) (name : List ℕ) (set : Data) (ms : Members) → IsBundle name set
    → members_fault at (member name set ms) ≡ members_fault (at + 1) ms
members_fault-IsBundle at name set ms is =
    let named : domain_fault 0 name ≡ None = domain_fault-IsDomain 0 name is.domain in
    rw named (has_entries at (entries_in set) ms is.entries)

-- bundles have no fault
pub no_fault : (at : ℕ) (ms : Members) → AreBundles ms → members_fault at ms ≡ None
no_fault at no_members are = refl
no_fault at (member name set ms) are = members_fault-IsBundle at name set ms are.0 ∙ no_fault (at + 1) ms are.1

-- a text that is bundles has no fault
pub bundles_fault-IsBundles : (text : List ℕ) → IsBundles text → bundles_fault text ≡ None
bundles_fault-IsBundles text is = rw is.1 (no_fault 0 is.0 is.2)

is_bundle : (named : Bool) (entries : Option (List Data)) (at : ℕ) (ms : Members)
    → (if not named then Some (Domain at) else if is_none entries then Some (Keys at) else members_fault (at + 1) ms) ≡ None
    → (named ≡ true) × IsSome entries × (members_fault (at + 1) ms ≡ None)
is_bundle false entries at ms none = cc
is_bundle true None at ms none = cc
is_bundle true (Some entries) at ms none = (refl, refl, none)

no_id_fault : (found : Option IdFault) → is_none found ≡ true → found ≡ None
no_id_fault None is = refl
no_id_fault (Some fault) is = cc

-- members without a fault are bundles
pub AreBundles-from_fault : (at : ℕ) (ms : Members) → members_fault at ms ≡ None → AreBundles ms
AreBundles-from_fault at no_members none = tt
AreBundles-from_fault at (member name set ms) none =
    let good = is_bundle (is_domain name) (entries_in set) at ms none in
    (record { domain = IsDomain-from_fault 0 name (no_id_fault _ good.0); entries = good.1 }, AreBundles-from_fault (at + 1) ms good.2)

of_object : (text : List ℕ) (found : Option Members) → members_in text ≡ found → object_fault found ≡ None → IsBundles text
of_object text None is none = absurd (cc)
of_object text (Some ms) is none = (ms, is, AreBundles-from_fault 0 ms none)

-- a text without a fault is bundles
pub IsBundles-from_fault : (text : List ℕ) → bundles_fault text ≡ None → IsBundles text
IsBundles-from_fault text none = of_object text (members_in text) refl none

whole : (text : List ℕ) (fault : BundleFault) → bundles_fault text ≡ Some fault → IsBundles text → ⊥
whole text fault found is =
    let none = bundles_fault-IsBundles text is in cc

-- bundles whose members were all read
pub bundles_in-members : (text : List ℕ) (ms : Members) → members_in text ≡ Some ms → AreBundles ms → bundles_in text ≡ Some (bundles_of ms)
bundles_in-members text ms found are = rw (found, no_fault 0 ms are) refl

-- a text that is bundles is refused only if out of memory
pub memory_alone : (text : List ℕ) (fault : BundleFault) → IsRefusal (bundles_fault text) fault → IsBundles text → fault ≡ OutOfMemory
memory_alone text NotObject refused is = absurd (whole text _ refused is)
memory_alone text (Domain index) refused is = absurd (whole text _ refused is)
memory_alone text (Keys index) refused is = absurd (whole text _ refused is)
memory_alone text OutOfMemory refused is = refl

-- a member that is a bundle, and the two ways of one that is none
abbrev Good : Named → Type 0
Good m = IsBundle m.name m.set

abbrev BadDomain : Named → Type 0
BadDomain m = ¬ IsDomain m.name

abbrev BadKeys : Named → Type 0
BadKeys m = IsDomain m.name × (entries_in m.set ≡ None)

-- the fault of members, the first of them at an index, is that of the first bad one
abbrev IsFirstOf : ℕ → Members → BundleFault → Type 0
IsFirstOf at ms NotObject = ⊥
IsFirstOf at ms (Domain index) = (before : ℕ) × (index ≡ at + before) × IsFirstBad Good BadDomain (members_list ms) before
IsFirstOf at ms (Keys index) = (before : ℕ) × (index ≡ at + before) × IsFirstBad Good BadKeys (members_list ms) before
IsFirstOf at ms OutOfMemory = ⊥

first_of_rest : (at : ℕ) (name : List ℕ) (set : Data) (ms : Members) (fault : BundleFault) → IsBundle name set
    → IsFirstOf (at + 1) ms fault → IsFirstOf at (member name set ms) fault
first_of_rest at name set ms NotObject good first = first
first_of_rest at name set ms (Domain index) good first =
    (first.0 + 1, omega (arith, first.1), first_later Good BadDomain _ (members_list ms) first.0 good first.2)
first_of_rest at name set ms (Keys index) good first =
    (first.0 + 1, omega (arith, first.1), first_later Good BadKeys _ (members_list ms) first.0 good first.2)
first_of_rest at name set ms OutOfMemory good first = first

some_is : (a b : BundleFault) → Some a ≡ Some b → a ≡ b
some_is a b e = cc

no_domain : (name : List ℕ) → is_domain name ≡ false → IsDomain name → ⊥
no_domain name bad is = let none : domain_fault 0 name ≡ None = domain_fault-IsDomain 0 name is in false≢true (sym (rw none at bad))

by_member : (at : ℕ) (name : List ℕ) (set : Data) (ms : Members) (fault : BundleFault) (named : Bool) (entries : Option (List Data))
    → is_domain name ≡ named → entries_in set ≡ entries → (members_fault (at + 1) ms ≡ Some fault → IsFirstOf (at + 1) ms fault)
    → (if not named then Some (Domain at) else if is_none entries then Some (Keys at) else members_fault (at + 1) ms) ≡ Some fault
    → IsFirstOf at (member name set ms) fault
by_member at name set ms fault false entries bad is rest e =
    let here : IsFirstOf at (member name set ms) (Domain at) = (0, omega arith, first_here Good BadDomain _ (members_list ms) (no_domain name bad)) in
    subst (IsFirstOf at (member name set ms)) (some_is _ _ e) here
by_member at name set ms fault true None good is rest e =
    let domain : IsDomain name = IsDomain-from_fault 0 name (no_id_fault _ good) in
    let here : IsFirstOf at (member name set ms) (Keys at) = (0, omega arith, first_here Good BadKeys _ (members_list ms) (domain, is)) in
    subst (IsFirstOf at (member name set ms)) (some_is _ _ e) here
by_member at name set ms fault true (Some entries) good is rest e =
    let one : IsBundle name set = record { domain = IsDomain-from_fault 0 name (no_id_fault _ good); entries = rw is refl } in
    first_of_rest at name set ms fault one (rest e)

members_fault-first : (at : ℕ) (ms : Members) (fault : BundleFault) → members_fault at ms ≡ Some fault → IsFirstOf at ms fault
members_fault-first at no_members fault e = absurd (cc)
members_fault-first at (member name set ms) fault e =
    by_member at name set ms fault (is_domain name) (entries_in set) refl refl (members_fault-first (at + 1) ms fault) e

of_members : (text : List ℕ) (ms : Members) (fault : BundleFault) → members_in text ≡ Some ms → IsFirstOf 0 ms fault → IsFirstBundleFault text fault
of_members text ms NotObject is first = absurd first
of_members text ms (Domain index) is first =
    let counted : first.0 ≡ index = omega (arith, first.1) in
    (ms, is, subst (IsFirstBad Good BadDomain (members_list ms)) counted first.2)
of_members text ms (Keys index) is first =
    let counted : first.0 ≡ index = omega (arith, first.1) in
    (ms, is, subst (IsFirstBad Good BadKeys (members_list ms)) counted first.2)
of_members text ms OutOfMemory is first = absurd first

of_found : (text : List ℕ) (found : Option Members) (fault : BundleFault) → members_in text ≡ found → object_fault found ≡ Some fault
    → IsFirstBundleFault text fault
of_found text None NotObject is e = is
of_found text None (Domain index) is e = absurd (cc)
of_found text None (Keys index) is e = absurd (cc)
of_found text None OutOfMemory is e = absurd (cc)
of_found text (Some ms) fault is e = of_members text ms fault is (members_fault-first 0 ms fault e)

-- the fault of bundles is the first
pub bundles_fault-first : (text : List ℕ) (fault : BundleFault) → bundles_fault text ≡ Some fault → IsFirstBundleFault text fault
bundles_fault-first text fault e = of_found text (members_in text) fault refl e

from_first : (Bad : Named → Type 0) (faulty : ℕ → BundleFault)
    → ((at : ℕ) (name : List ℕ) (set : Data) (ms : Members) → Bad (record { name = name; set = set })
    → members_fault at (member name set ms) ≡ Some (faulty at))
    → (at before : ℕ) (ms : Members) → IsFirstBad Good Bad (members_list ms) before → members_fault at ms ≡ Some (faulty (at + before))
from_first Bad faulty here at before no_members is = absurd (none_first Good Bad before is)
from_first Bad faulty here at before (member name set ms) is =
    elim (first_or_later Good Bad (record { name = name; set = set }) (members_list ms) before is) [
      | inl first ↦
          let counted : at ≡ at + before = omega (arith, first.0) in
          here at name set ms first.1 ∙ ap (λ n. Some (faulty n)) counted
      | inr later ↦
          let counted : at + 1 + later.0 ≡ at + before = omega (arith, later.1) in
          members_fault-IsBundle at name set ms later.2
          ∙ (from_first Bad faulty here (at + 1) later.0 ms later.3 ∙ ap (λ n. Some (faulty n)) counted)
    ]

bad_domain : (at : ℕ) (name : List ℕ) (set : Data) (ms : Members) → ¬ IsDomain name → members_fault at (member name set ms) ≡ Some (Domain at)
bad_domain at name set ms bad = elim (cases_Bool (is_domain name)) [
  | inl good ↦ absurd (bad (IsDomain-from_fault 0 name (no_id_fault _ good)))
  | inr none ↦ rw none refl
]

bad_keys : (at : ℕ) (name : List ℕ) (set : Data) (ms : Members) → IsDomain name × (entries_in set ≡ None)
    → members_fault at (member name set ms) ≡ Some (Keys at)
bad_keys at name set ms bad = rw (domain_fault-IsDomain 0 name bad.0, bad.1) refl

-- and the first is the fault of bundles
pub bundles_fault-from_first : (text : List ℕ) (fault : BundleFault) → IsFirstBundleFault text fault → bundles_fault text ≡ Some fault
bundles_fault-from_first text NotObject is = rw is refl
bundles_fault-from_first text (Domain index) is = rw is.1 (from_first BadDomain Domain bad_domain 0 index is.0 is.2 ∙ ap (λ n. Some (Domain n)) (omega arith))
bundles_fault-from_first text (Keys index) is = rw is.1 (from_first BadKeys Keys bad_keys 0 index is.0 is.2 ∙ ap (λ n. Some (Keys n)) (omega arith))
bundles_fault-from_first text OutOfMemory is = absurd is

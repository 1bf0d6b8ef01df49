-- What a look-up by the name of a trust domain finds.
use Rattle.std.proofs.Common.{◌≡◌, ℕ, cond, true, false, List, [], ◌∷◌, map, bytes_eq, string_bytes, String, Vec, Option, Some, None, is_some, option_map, refl, ap, sym, ◌∙◌}
use Rattle.std.proofs.lemmas.Map.Text.{is_eq-slice_cmp}
use Rattle.std.specs.declared.alloc.Global.{Global}
use Rattle.std.specs.BTreeMap.{is_at}
use Rattle.std.specs.Cmp.Lexicographic.{slice_cmp}
use Rattle.std.specs.Map.{lookup}
use Rattle.std.specs.Ordering.{nat_cmp}
use Rattle.svid_keys.specs.Bundles.{Bundle, bundle_view}
use Rattle.svid_keys.specs.Candidates.{bundle_at}
use Rattle.svid_keys.specs.Key.{KeyData}

-- a map's entry, by the name of its trust domain
abbrev pub entry_at : List ℕ → List (String Global × Vec KeyData Global) → Option (Vec KeyData Global)
entry_at domain entries = lookup (is_at (λ name. slice_cmp nat_cmp domain (string_bytes name))) entries

-- the keys of a bundle are those of the entry that a look-up finds
pub bundle_at-entry : (domain : List ℕ) (entries : List (String Global × Vec KeyData Global))
    → option_map (λ bundle. bundle.keys) (bundle_at domain (map bundle_view entries)) ≡ option_map (λ keys. keys.items) (entry_at domain entries)
bundle_at-entry domain [] = refl
bundle_at-entry domain (e ∷ entries) = rw (is_eq-slice_cmp domain (string_bytes e.0))
    (elim (bytes_eq domain (string_bytes e.0)) as
    (λ b. option_map (λ (bundle : Bundle). bundle.keys) (cond b (Some (bundle_view e)) (bundle_at domain (map bundle_view entries)))
    ≡ option_map (λ (keys : Vec KeyData Global). keys.items) (cond b (Some e.1) (entry_at domain entries))) [
      | true ↦ refl
      | false ↦ bundle_at-entry domain entries
    ])

is_some-mapped : {A B : Type 0} (f : A → B) (found : Option A) → is_some (option_map f found) ≡ is_some found
is_some-mapped f None = refl
is_some-mapped f (Some x) = refl

-- there is a bundle where a look-up finds an entry
pub is_some-bundle_at : (domain : List ℕ) (entries : List (String Global × Vec KeyData Global))
    → is_some (bundle_at domain (map bundle_view entries)) ≡ is_some (entry_at domain entries)
is_some-bundle_at domain entries =
    sym (is_some-mapped (λ (bundle : Bundle). bundle.keys) (bundle_at domain (map bundle_view entries)))
    ∙ ap is_some (bundle_at-entry domain entries) ∙ is_some-mapped (λ (keys : Vec KeyData Global). keys.items) (entry_at domain entries)

-- Keys and kinds of uses, each with its expiry.
use Rattle.std.specs.Prelude.{◌≡◌, ◌&&◌, ℕ, Bool, true, false, List, Option, None, Some, filter, max, nat_lt, not}
use Rattle.std.specs.List.{list_any}
use Rattle.std.specs.List.Sorted.{IsStrictlySortedBy}
use Rattle.std.specs.Ordering.{bool_cmp, is_eq, nat_cmp, ordering_then}
use Rattle.std.specs.declared.cmp.Ordering.{Ordering}
use Rattle.std.specs.declared.cmp.Ordering.TheVariants.{Less, Equal, Greater}
use Rattle.svid_replay.specs.declared.token_use.Use.{Use}
use Rattle.svid_replay.specs.declared.expiry.KeyKind.{KeyKind}
use Rattle.svid_replay.specs.declared.expiry.Expiry.{Expiry}
use Rattle.svid_replay.specs.Use.{bytes_cmp}

-- the order of marks: by key, then withdrawals after uses
abbrev pub kind_cmp : KeyKind → KeyKind → Ordering
kind_cmp a b = ordering_then (bytes_cmp a.key b.key) (bool_cmp a.withdrawn b.withdrawn)

-- a key and a kind
abbrev pub kind_of : List ℕ → Bool → KeyKind
kind_of key withdrawn = record { key = key; withdrawn = withdrawn }

-- by key and kind, then by exp
abbrev pub expiry_cmp : Expiry → Expiry → Ordering
expiry_cmp a b = ordering_then (kind_cmp a.kind b.kind) (nat_cmp a.exp b.exp)

-- the key and the kind of a use, and its expiry
abbrev pub expiry_of : Use → Expiry
expiry_of u = record { kind = kind_of u.key u.withdrawn; exp = u.exp }

-- whether an entry with this expiry is left after everything that expired by a moment was dropped, if anything was
abbrev pub is_left : Option ℕ → ℕ → Bool
is_left None exp = true
is_left (Some moment) exp = nat_lt moment exp

-- up to when entries are dropped, once those that expired by one moment more are dropped
abbrev pub expired_by_then : Option ℕ → ℕ → Option ℕ
expired_by_then None moment = Some moment
expired_by_then (Some before) moment = Some (max before moment)

-- the entry comes before those of the key and kind that are left, by how it compares to them and whether it is left
abbrev pub in_front_by : Ordering → Bool → Bool
in_front_by Less left = false
in_front_by Equal left = not left
in_front_by Greater left = true

-- the entry comes before those of the key and kind that are left
abbrev pub is_in_front_of : KeyKind → Option ℕ → Expiry → Bool
is_in_front_of kind expired_by e = in_front_by (kind_cmp kind e.kind) (is_left expired_by e.exp)

-- it has the key and kind, and is left
abbrev pub is_held : KeyKind → Option ℕ → Expiry → Bool
is_held kind expired_by e = is_eq (kind_cmp kind e.kind) && is_left expired_by e.exp

-- those that are left
abbrev pub left_of : Option ℕ → List Expiry → List Expiry
left_of expired_by keys = filter (λ e. is_left expired_by e.exp) keys

-- entries stand for the uses: they pass each test alike
abbrev pub TellUses : List Expiry → List Use → Type 0
TellUses keys us = (p : Expiry → Bool) → list_any p keys ≡ list_any (λ u. p (expiry_of u)) us

-- each is less than those after it
abbrev pub AreKeys : List Expiry → Type 0
AreKeys = IsStrictlySortedBy expiry_cmp

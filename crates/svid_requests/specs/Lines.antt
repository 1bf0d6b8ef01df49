-- The lines of requests that wait for a claim of their token.
use Rattle.std.specs.Prelude.{ℕ, List, [], ◌∷◌, Option, Some, None, if◌then◌else◌}
use Rattle.std.specs.List.{filter}
use Rattle.std.specs.Ordering.{is_eq, nat_cmp, ordering_then}
use Rattle.std.specs.Cmp.Lexicographic.{slice_cmp}
use Rattle.std.specs.BTreeMap.Range.{range_contains}
use Rattle.std.specs.declared.cmp.Ordering.{Ordering}
use Rattle.std.specs.declared.ops.Bound.TheVariants.{Included, Unbounded}
use Rattle.svid_requests.specs.declared.waiter.Waiter.{Waiter}

-- keys in order, and waiters by key, then by number
abbrev pub key_cmp : List ℕ → List ℕ → Ordering
key_cmp j k = slice_cmp nat_cmp j k

abbrev pub waiter_cmp : Waiter → Waiter → Ordering
waiter_cmp v w = ordering_then (key_cmp v.key w.key) (nat_cmp v.number w.number)

-- a waiter's number, if it waits for a claim of this key
abbrev pub number_at : List ℕ → List Waiter → Option ℕ
number_at key [] = None
number_at key (w ∷ ws) = if is_eq (key_cmp key w.key) then Some w.number else None

-- the number of the first that waits for a claim of a key
abbrev pub first_of : List ℕ → List Waiter → Option ℕ
first_of key ws = number_at key (filter (range_contains waiter_cmp (Included (record { key = key; number = 0 })) Unbounded) ws)

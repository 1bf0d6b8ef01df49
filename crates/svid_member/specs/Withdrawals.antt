-- The withdrawals of a member, on their way to all places that are to have them.
use Rattle.std.specs.Prelude.{◌≡◌, ℕ, ◌+◌, ◌-◌, ◌^◌, min, Bool, true, false, not, ◌&&◌, nat_le, nat_lt, List, [], ◌∷◌, Option, Some, None, if◌then◌else◌}
use Rattle.std.specs.Ordering.{nat_cmp}
use Rattle.std.specs.Map.{lookup, remove_entry, set_value}
use Rattle.std.specs.BTreeMap.{insert_entry, is_at}
use Rattle.svid_member.specs.declared.part.Part.{Part}
use Rattle.svid_member.specs.declared.part.Part.TheVariants.{Waits, Done, Failed}
use Rattle.svid_member.specs.declared.place.Place.{Place}
use Rattle.svid_member.specs.declared.place.Place.TheVariants.{Disk, Store, Log}
use Rattle.svid_member.specs.declared.withdrawal.Withdrawal.{Withdrawal}

-- it is on its way there
abbrev pub waits : Part → Bool
waits Waits = true
waits Done = false
waits Failed = false

-- what becomes of it once it is known whether it is there: who comes first counts
abbrev pub told : Bool → Part → Part
told ok Waits = if ok then Done else Failed
told ok Done = Done
told ok Failed = Failed

abbrev pub told_at : Place → Bool → Withdrawal → Withdrawal
told_at Disk ok w = record { deadline = w.deadline; disk = told ok w.disk; store = w.store; log = w.log }
told_at Store ok w = record { deadline = w.deadline; disk = w.disk; store = told ok w.store; log = w.log }
told_at Log ok w = record { deadline = w.deadline; disk = w.disk; store = w.store; log = told ok w.log }

-- nobody waits any longer
abbrev pub given_up : Withdrawal → Withdrawal
given_up w = record { deadline = w.deadline; disk = told false w.disk; store = told false w.store; log = told false w.log }

-- it waits for no place
abbrev pub is_over : Withdrawal → Bool
is_over w = not (waits w.disk) && not (waits w.store) && not (waits w.log)

-- places that are to have each withdrawal
abbrev pub part_of : Bool → Part
part_of has = if has then Waits else Done

abbrev pub in_parts : (disk store log : Bool) → Withdrawal
in_parts disk store log = record { deadline = 0; disk = part_of disk; store = part_of store; log = part_of log }

-- How long each waits, how each begins, the number of the next one, and those that are under way, by their numbers.
pub record Table : Type 0 where
  pub wait : ℕ
  pub parts : Withdrawal
  pub next : ℕ
  pub under_way : List (ℕ × Withdrawal)

abbrev pub with_under_way : Table → List (ℕ × Withdrawal) → Table
with_under_way t these = record { wait = t.wait; parts = t.parts; next = t.next; under_way = these }

-- one begins
abbrev pub with_deadline : ℕ → Withdrawal → Withdrawal
with_deadline d w = record { deadline = d; disk = w.disk; store = w.store; log = w.log }

abbrev pub begun : ℕ → Table → Withdrawal
begun up t = with_deadline (min (up + t.wait) (2 ^ 64 - 1)) t.parts

abbrev pub entered : ℕ → Table → Table
entered up t = record { wait = t.wait; parts = t.parts; next = t.next + 1; under_way = insert_entry nat_cmp t.under_way t.next (begun up t) }

abbrev pub HasComeBy : Bool → ℕ → Table → Option ℕ → Table → Type 0
HasComeBy true up t number after = (number ≡ Some t.next) × (after ≡ entered up t)
HasComeBy false up t number after = (number ≡ None) × (after ≡ t)

-- a number is left for it
abbrev pub HasCome : ℕ → Table → Option ℕ → Table → Type 0
HasCome up t number after = HasComeBy (nat_lt t.next (2 ^ 64 - 1)) up t number after

-- it goes on, or ends if it waits for no place any more
abbrev pub kept : ℕ → Withdrawal → Table → Table
kept n w t = with_under_way t (if is_over w then remove_entry (is_at (nat_cmp n)) t.under_way else set_value (is_at (nat_cmp n)) t.under_way w)

abbrev pub ended : ℕ → Withdrawal → Option (ℕ × Withdrawal)
ended n w = if is_over w then Some (n, w) else None

-- A place has it, or may not have it: what is left, and what ends.
abbrev pub after_place : ℕ → Place → Bool → Option Withdrawal → Table → Table
after_place n place ok None t = t
after_place n place ok (Some w) t = kept n (told_at place ok w) t

abbrev pub ended_by_place : ℕ → Place → Bool → Option Withdrawal → Option (ℕ × Withdrawal)
ended_by_place n place ok None = None
ended_by_place n place ok (Some w) = ended n (told_at place ok w)

abbrev pub find : ℕ → Table → Option Withdrawal
find n t = lookup (is_at (nat_cmp n)) t.under_way

-- the one that came first
abbrev pub first : List (ℕ × Withdrawal) → Option (ℕ × Withdrawal)
first [] = None
first (e ∷ es) = Some e

-- Its time is over: what is left, and what ends.
abbrev pub after_time : ℕ → Option (ℕ × Withdrawal) → Table → Table
after_time up None t = t
after_time up (Some p) t = if nat_le p.1.deadline up then with_under_way t (remove_entry (is_at (nat_cmp p.0)) t.under_way) else t

abbrev pub ended_by_time : ℕ → Option (ℕ × Withdrawal) → Option (ℕ × Withdrawal)
ended_by_time up None = None
ended_by_time up (Some p) = if nat_le p.1.deadline up then Some (p.0, given_up p.1) else None

-- when the one that came first is due
abbrev pub due_of : Option (ℕ × Withdrawal) → Option ℕ
due_of None = None
due_of (Some p) = Some p.1.deadline

-- Uses in the order of the times at which they were made.
use Rattle.std.specs.Prelude.{◌≡◌, ◌↔◌, ◌<◌, ◌≤◌, ℕ, List, ◌∷◌, ◌++◌, length, Contains}
use Rattle.std.specs.List.{AllByRecursion}
use Rattle.std.specs.List.Sorted.{IsStrictlySortedBy}
use Rattle.std.specs.Ordering.{nat_cmp, ordering_then}
use Rattle.std.specs.declared.cmp.Ordering.{Ordering}
use Rattle.svid_replay.specs.declared.token_use.Use.{Use}
use Rattle.svid_replay.specs.Use.{IsUse, use_cmp}
use Rattle.svid_uses.specs.declared.uses_fault.UsesFault.{UsesFault}
use Rattle.svid_uses.specs.declared.uses_fault.UsesFault.TheVariants.{Expired, OutOfMemory}

-- the order of uses by the time at which they were made; uses of one time in the order of uses
abbrev pub time_cmp : Use → Use → Ordering
time_cmp u v = ordering_then (nat_cmp u.at v.at) (use_cmp u v)

-- uses in this order, none of them twice
abbrev pub IsInTime : List Use → Type 0
IsInTime = IsStrictlySortedBy time_cmp

-- the second list has the uses of the first, and no others
abbrev pub HasSameUses : List Use → List Use → Type 0
HasSameUses us vs = (u : Use) → Contains us u ↔ Contains vs u

-- a batch of the time at which a use was made can have it: the use expires after that
pub record IsTellable (u : Use) : Type 0 where
  pub fields : IsUse u
  pub later : u.at < u.exp

-- the use at this index is the first that no batch can have: it expires when it was made, or before
pub record IsFirstExpired (uses : List Use) (index : ℕ) : Type 0 where
  pub front : List Use
  pub bad : Use
  pub rest : List Use
  pub parts : uses ≡ front ++ bad ∷ rest
  pub counted : length front ≡ index
  pub good : AllByRecursion IsTellable front
  pub expired : bad.exp ≤ bad.at

-- why uses make no batches: no batch can have one of them, and which is the first; or memory was refused
abbrev pub IsUsesFault : List Use → UsesFault → Type 0
IsUsesFault uses (Expired index) = IsFirstExpired uses index
IsUsesFault uses OutOfMemory = Unit {0}

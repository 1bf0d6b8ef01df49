use Rattle.std.specs.Prelude.{◌≡◌, ℕ, ◌<◌, ◌≤◌, ◌^◌, Bool, true, List, [], ◌∷◌, ◌++◌, length, Option, None, Some, not, nat_lt, if◌then◌else◌}
use Rattle.std.specs.List.{AllByRecursion}
use Rattle.std.specs.Ordering.{is_lt}
use Rattle.svid_replay.specs.Use.{IsUse, use_cmp}
use Rattle.svid_replay.specs.declared.token_use.Use.{Use}
use Rattle.svid_replay.specs.declared.flaw.Flaw.{Flaw}
use Rattle.svid_replay.specs.declared.flaw.Flaw.TheVariants.{Expired, Future, Order}
use Rattle.svid_replay.specs.declared.batch_fault.BatchFault.{BatchFault}
use Rattle.svid_replay.specs.declared.batch_fault.BatchFault.TheVariants as fault

-- the content of a batch: a moment, and uses
pub record BatchData : Type 0 where
  pub moment : ℕ
  pub uses : List Use

-- the use is greater than the one before it, where there is one
abbrev pub is_after : Option Use → Use → Bool
is_after None u = true
is_after (Some before) u = is_lt (use_cmp before u)

-- what is wrong with a use in a batch of this moment, after the use before it: it is expired, it is from the future, or it is not
-- greater
unfoldable pub flaw : ℕ → Option Use → Use → Option Flaw
flaw moment before u = if not (nat_lt moment u.exp) then Some Expired else if nat_lt moment u.at then Some Future else if is_after before u then None else Some Order

-- nothing is wrong with any of the uses, each after the one before it
abbrev pub AllGood : ℕ → Option Use → List Use → Type 0
AllGood moment before [] = Unit {0}
AllGood moment before (u ∷ us) = (flaw moment before u ≡ None) × AllGood moment (Some u) us

-- the last of the uses, or the one before them
abbrev pub last_of : Option Use → List Use → Option Use
last_of before [] = before
last_of before (u ∷ us) = last_of (Some u) us

-- what a batch may have: at most 65,536 uses, nothing wrong with any, all within the ranges of their fields
pub record IsBatch (b : BatchData) : Type 0 where
  pub few : length b.uses ≤ 65536
  pub moment : b.moment < 2 ^ 64
  pub fields : AllByRecursion IsUse b.uses
  pub good : AllGood b.moment None b.uses

-- the use at this index is the first with a flaw, and this is its flaw
pub record IsFirstFlaw (moment : ℕ) (uses : List Use) (index : ℕ) (found : Flaw) : Type 0 where
  pub front : List Use
  pub bad : Use
  pub rest : List Use
  pub parts : uses ≡ front ++ bad ∷ rest
  pub counted : length front ≡ index
  pub good : AllGood moment None front
  pub flawed : flaw moment (last_of None front) bad ≡ Some found

-- the fault that names a flaw and the index of its use
abbrev pub fault_of : Flaw → ℕ → BatchFault
fault_of Expired index = fault.Expired index
fault_of Future index = fault.Future index
fault_of Order index = fault.Order index

-- why such uses are no batch of this moment: they are too many, or else the flaw of the first bad one
abbrev pub IsBatchFault : ℕ → List Use → BatchFault → Type 0
IsBatchFault moment uses fault.TooMany = 65536 < length uses
IsBatchFault moment uses (fault.Expired index) = (length uses ≤ 65536) × IsFirstFlaw moment uses index Expired
IsBatchFault moment uses (fault.Future index) = (length uses ≤ 65536) × IsFirstFlaw moment uses index Future
IsBatchFault moment uses (fault.Order index) = (length uses ≤ 65536) × IsFirstFlaw moment uses index Order

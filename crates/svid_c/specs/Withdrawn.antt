-- What the calls on the withdrawals of a member that C keeps do.
use Rattle.std.specs.Prelude.{◌≡◌, ℕ, ◌-◌, ◌^◌, ◌==◌, Option, Some, None, unwrap_or, if◌then◌else◌}
use Rattle.svid_member.specs.Withdrawals.{HasCome, Table, after_place, after_time, ended_by_place, ended_by_time, find, first}
use Rattle.svid_member.specs.declared.part.Part.{Part}
use Rattle.svid_member.specs.declared.part.Part.TheVariants.{Waits, Done, Failed}
use Rattle.svid_member.specs.declared.place.Place.{Place}
use Rattle.svid_member.specs.declared.place.Place.TheVariants.{Disk, Store, Log}
use Rattle.svid_member.specs.declared.withdrawal.Withdrawal.{Withdrawal}
use Rattle.svid_c.specs.Peers.{CallsPeer, is_set}
use Rattle.svid_c.specs.declared.live.Live.{Live}
use Rattle.svid_c.specs.declared.withdrawal_come.SvidWithdrawal.{SvidWithdrawal}
use Rattle.svid_c.specs.declared.peer.Peer.{Peer}

-- how far a withdrawal is at a keeper, as C has it
abbrev pub part_number : Part → ℕ
part_number Waits = 0
part_number Done = 1
part_number Failed = 2

-- the keeper of a number
abbrev pub keeper_in : ℕ → Place
keeper_in n = if n == 0 then Disk else if n == 1 then Store else Log

-- a withdrawal that has ended, if one has, as C has it; none has the last number
abbrev pub ended_seen : Option (ℕ × Withdrawal) → SvidWithdrawal
ended_seen None = record { number = 2 ^ 64 - 1; disk = 0; store = 0; log = 0 }
ended_seen (Some p) = record { number = p.0; disk = part_number p.1.disk; store = part_number p.1.store; log = part_number p.1.log }

-- a withdrawal that is under way
abbrev pub under_way : Option ℕ → SvidWithdrawal
under_way number = record { number = unwrap_or number (2 ^ 64 - 1); disk = 0; store = 0; log = 0 }

-- the same peer with other withdrawals
abbrev pub with_withdrawals : Peer → Table → Peer
with_withdrawals p t = record { member = p.member; withdrawals = t; callers = p.callers }

-- A withdrawal is on its way; or memory was refused, and it is not.
pub data Out (up status : ℕ) (old_made new_made : SvidWithdrawal) (p q : Peer) : Type 0 where
  goes_out : (number : Option ℕ) (t : Table) → HasCome up p.withdrawals number t → q ≡ with_withdrawals p t → new_made ≡ under_way number → status ≡ 0 → Out up status old_made new_made p q
  no_memory_to_go : q ≡ p → new_made ≡ old_made → status ≡ 2 → Out up status old_made new_made p q

abbrev pub GoesOut : ℕ → ℕ → SvidWithdrawal → SvidWithdrawal → Live → Live → Type 0
GoesOut up status old_made new_made old new = CallsPeer (new_made ≡ old_made) (Out up status old_made new_made) status old new

-- a keeper has a withdrawal, or may not have it
abbrev pub Has : (number keeper ok : ℕ) → Peer → SvidWithdrawal → Peer → Type 0
Has number keeper ok p made q =
    let found = find number p.withdrawals in
    (made ≡ ended_seen (ended_by_place number (keeper_in keeper) (is_set ok) found)) × (q ≡ with_withdrawals p (after_place number (keeper_in keeper) (is_set ok) found p.withdrawals))

abbrev pub HasIt : (number keeper ok status : ℕ) → SvidWithdrawal → SvidWithdrawal → Live → Live → Type 0
HasIt number keeper ok status old_made new_made old new = CallsPeer (new_made ≡ old_made) (λ p q. Has number keeper ok p new_made q × (status ≡ 0)) status old new

-- the time of a withdrawal is over
abbrev pub Ends : ℕ → Peer → SvidWithdrawal → Peer → Type 0
Ends up p made q = let it = first p.withdrawals.under_way in (made ≡ ended_seen (ended_by_time up it)) × (q ≡ with_withdrawals p (after_time up it p.withdrawals))

abbrev pub EndsByTime : (up status : ℕ) → SvidWithdrawal → SvidWithdrawal → Live → Live → Type 0
EndsByTime up status old_made new_made old new = CallsPeer (new_made ≡ old_made) (λ p q. Ends up p new_made q × (status ≡ 0)) status old new

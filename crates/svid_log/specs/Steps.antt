-- One member reads the log, use by use: its state then, and the fate of each use.
use Rattle.std.specs.Prelude.{◌≡◌, ℕ, ◌+◌, ◌-◌, ◌^◌, ◌<◌, min, Bool, true, false, not, nat_lt, ◌&&◌, List, [], ◌∷◌, Option, Some, None, IsTrue, if◌then◌else◌}
use Rattle.svid_replay.specs.declared.token_use.Use.{Use}
use Rattle.svid_replay.specs.Buckets.{raised_to}
use Rattle.svid_replay.specs.Records.{State, join, state_of}
use Rattle.svid_replay.specs.Sets.{holds, with}
use Rattle.svid_replay.specs.Use.{IsUse}
use Rattle.svid_replay.specs.Uses.{Uses, has_use_of, has_withdrawal_of, live}
use Rattle.svid_log.specs.declared.fate.Fate.{Fate}
use Rattle.svid_log.specs.declared.fate.Fate.TheVariants.{Accepted, First, Expired, TooFarAhead, Withdrawal, Withdrawn, Replayed}

-- a use that expires after it was made, as each use of a batch does
pub record IsSound (u : Use) : Type 0 where
  pub fields : IsUse u
  pub sound : u.at < u.exp

-- each use of a set is such a use
abbrev pub AreSound : Uses → Type 0
AreSound s = (u : Use) → IsTrue (holds s u) → IsSound u

-- the latest time of a use that is trusted: so many seconds after now, and at most the greatest time
abbrev pub horizon : ℕ → ℕ → ℕ
horizon now ahead = min (now + ahead) (2 ^ 64 - 1)

-- a use's time lies after a record's moment and after the horizon
abbrev pub is_early : State → ℕ → Use → Bool
is_early x far c = nat_lt x.moment c.at && nat_lt far c.at

-- a record advances to the time of a use, unless the use is early
abbrev pub passing : State → ℕ → Use → State
passing x far c = if is_early x far c then x else raised_to x c.at

-- the record at the moment at which it judges a use
abbrev pub reached : State → ℕ → ℕ → Use → State
reached x now far c = passing (raised_to x now) far c

-- a use is live at a moment, and expires after it was made
abbrev pub counts : ℕ → Use → Bool
counts moment c = nat_lt moment c.exp && nat_lt c.at c.exp

-- the fate of a use: the first row whose condition holds
abbrev pub fate_by : (counts early withdrawal withdrawn used claimed : Bool) → Fate
fate_by counts early withdrawal withdrawn used claimed =
    if not counts then Expired
    else if early then TooFarAhead
    else if withdrawal then Withdrawal
    else if withdrawn then Withdrawn
    else if used then Replayed
    else if claimed then Replayed
    else First

-- the fate of a use that is early or not, by a record at its moment and the uses beside it
abbrev pub fate_of : State → Uses → Bool → Use → Fate
fate_of x beside early c = fate_by (counts x.moment c) early c.withdrawn (has_withdrawal_of x.uses c.key) (has_use_of x.uses c.key) (has_use_of beside c.key)

-- the fate of the next use of the log, by the record, the uses beside it, and the caller's time and horizon
abbrev pub fate_at : State → Uses → ℕ → ℕ → Use → Fate
fate_at x beside now far c = let y = reached x now far c in fate_of y (live beside y.moment) (is_early (raised_to x now) far c) c

-- the record gains the first claim of a token, and withdrawals
abbrev pub gains_by : Fate → State → Use → State
gains_by First x c = join x (state_of x.moment (c ∷ []))
gains_by Withdrawal x c = join x (state_of x.moment (c ∷ []))
gains_by Accepted x c = x
gains_by Expired x c = x
gains_by TooFarAhead x c = x
gains_by Withdrawn x c = x
gains_by Replayed x c = x

-- a use is put beside the record, if it is live and expires after it was made
abbrev pub put_beside : ℕ → Uses → Use → Uses
put_beside moment beside c = if counts moment c then with beside c else beside

-- each such use that the record did not gain is put beside the record
abbrev pub beside_by : Fate → ℕ → Uses → Use → Uses
beside_by TooFarAhead moment beside c = put_beside moment beside c
beside_by Withdrawn moment beside c = put_beside moment beside c
beside_by Replayed moment beside c = put_beside moment beside c
beside_by Accepted moment beside c = beside
beside_by First moment beside c = beside
beside_by Expired moment beside c = beside
beside_by Withdrawal moment beside c = beside

-- the record after the next use was read
abbrev pub held_after : State → Uses → ℕ → ℕ → Use → State
held_after x beside now far c = gains_by (fate_at x beside now far c) (reached x now far c) c

-- the uses beside it then
abbrev pub beside_after : State → Uses → ℕ → ℕ → Use → Uses
beside_after x beside now far c = let y = reached x now far c in beside_by (fate_at x beside now far c) y.moment (live beside y.moment) c

-- a first claim is accepted where the member may accept
abbrev pub decided : Fate → Bool → Fate
decided First true = Accepted
decided First false = First
decided Accepted accepts = Accepted
decided Expired accepts = Expired
decided TooFarAhead accepts = TooFarAhead
decided Withdrawal accepts = Withdrawal
decided Withdrawn accepts = Withdrawn
decided Replayed accepts = Replayed

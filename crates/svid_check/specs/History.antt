-- A history in which each kind of event happens, and what is to be seen of each.
use Rattle.std.specs.Prelude.{◌≡◌, ℕ, ◌<◌, false, List, [], ◌∷◌, length, Some, None, IsTrue}
use Rattle.std.specs.List.{Contains}
use Rattle.svid_replay.specs.Sets.{holds}
use Rattle.svid_check.specs.declared.accepted.Accepted.{Accepted}
use Rattle.svid_check.specs.Changes.{withdrawal}
use Rattle.svid_check.specs.Forgetful.{AcceptsNew}
use Rattle.svid_check.specs.Runs.{Terms}
use Rattle.svid_check.specs.Setting.{Renewal}
use Rattle.svid_check.specs.World.{Answer, Check, Event, OldSend, Piece, Renew, Restart, Save, Send, Sum, Take, Tick, Took, Withdraw, World, happen, new_member, start}

-- validator 0 accepts a token, takes what validator 1 sends in version 1, withdraws, and answers 1's summary; validator 1 is saved first, sends its record whole and a piece of it, ticks, is renewed, and is put back
abbrev pub every_kind : ℕ → List ℕ → List ℕ → ℕ → Renewal → List Event
every_kind now token key exp renewal =
    Check 0 now token false ∷ Save 1 ∷ OldSend 1 ∷ Take 0 now 0 0 None ∷ Withdraw 0 now key exp false ∷ Send 1 ∷ Sum 1 ∷ Answer 0 now 2 false
    ∷ Piece 1 None 1 ∷ Tick 1 now ∷ Renew 1 renewal ∷ Restart 1 0 ∷ []

-- what can be seen of these: validator 0 has learned the acceptance and the withdrawal, and noted what it took; five messages and a save are there;
-- validator 1 is as it was saved, under the renewal
pub record AllHappened (t : Terms) (now : ℕ) (first : Accepted) (key : List ℕ) (exp : ℕ) (renewal : Renewal) (w : World) : Type 0 where
  pub accepted : IsTrue (holds (w.members 0).told.uses first.used)
  pub withdrawn : IsTrue (holds (w.members 0).told.uses (withdrawal t.setting.validator_id now key exp))
  pub taken : Contains (w.members 0).log (Took 0 0)
  pub posted : length w.pool ≡ 5
  pub saved : length w.saves ≡ 1
  pub put_back : ((w.members 1).held ≡ new_member.held) × ((w.members 1).log ≡ [])
  pub renewed : (w.members 1).renewal ≡ Some renewal

-- so the laws of a group speak of such histories
abbrev pub EveryKindHappens : Type 0
EveryKindHappens = (t : Terms) (now : ℕ) (token : List ℕ) (first : Accepted) (key : List ℕ) (exp : ℕ) (renewal : Renewal) → AcceptsNew t now token first → now < exp
    → AllHappened t now first key exp renewal (happen (λ v. t) start (every_kind now token key exp renewal))

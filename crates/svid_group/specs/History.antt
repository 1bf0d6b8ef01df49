-- A history in which each kind of event happens, and what is to be seen of each.
use Rattle.std.specs.Prelude.{◌≡◌, ℕ, ◌<◌, ◌++◌, false, List, [], ◌∷◌, map, IsTrue}
use Rattle.svid_replay.specs.declared.token_use.Use.{Use}
use Rattle.svid_replay.specs.Sets.{holds}
use Rattle.svid_check.specs.declared.accepted.Accepted.{Accepted}
use Rattle.svid_check.specs.Forgetful.{AcceptsNew}
use Rattle.svid_check.specs.History as check
use Rattle.svid_check.specs.Runs.{Terms}
use Rattle.svid_check.specs.Setting.{Renewal}
use Rattle.svid_check.specs.World.{Tick}
use Rattle.svid_group.specs.World.{Accepts, Anew, Call, Event, Look, Miss, Put, Read, World, happen, start}

-- a new validator judges a token, which is a tick, and the token's claim is put into the log
abbrev pub judge_and_put : (v now : ℕ) → Use → List Event
judge_and_put v now claim = Call (Tick v now) ∷ Put claim ∷ []

-- in any group, it then accepts the claim
abbrev pub OwnClaimIsAccepted : Type 0
OwnClaimIsAccepted = (group : ℕ → Terms) (v now : ℕ) (token : List ℕ) (a : Accepted) → AcceptsNew (group v) now token a
    → Accepts group (happen group start (judge_and_put v now a.used)) v now a.used

-- each kind of event of a group without a log, and then those
abbrev pub in_front : ℕ → List ℕ → List ℕ → ℕ → Renewal → Use → List Event
in_front now token key exp renewal claim = map Call (check.every_kind now token key exp renewal) ++ judge_and_put 2 now claim

-- validator 2 reads its claim and looks at what stands beside its record; 3 misses the claim, and 4 begins afresh after it
abbrev pub behind : ℕ → Use → List Event
behind now claim = Read 2 now false ∷ Look 2 ∷ Miss 3 1 claim.exp ∷ Anew 4 1 claim.exp ∷ []

-- what can be seen of these: everything as without a log; the claim is in the log; 2 has read and learned it; 3 and 4 are past it, and accept nothing
-- until it expires
pub record AllHappened (t : Terms) (now : ℕ) (first : Accepted) (key : List ℕ) (exp : ℕ) (renewal : Renewal) (claim : Use) (w : World) : Type 0 where
  pub group : check.AllHappened t now first key exp renewal w.group
  pub log : w.log ≡ claim ∷ []
  pub read : ((w.asides 2).read ≡ 1) × IsTrue (holds (w.group.members 2).told.uses claim)
  pub missed : ((w.asides 3).read ≡ 1) × ((w.asides 3).deaf ≡ claim.exp)
  pub begun : ((w.asides 4).read ≡ 1) × ((w.asides 4).deaf ≡ claim.exp)

-- so the laws of a group with a log speak of such histories, in which a claim is accepted
abbrev pub EveryKindHappens : Type 0
EveryKindHappens = (t : Terms) (now : ℕ) (token other : List ℕ) (first second : Accepted) (key : List ℕ) (exp : ℕ) (renewal : Renewal)
    → let w = happen (λ v. t) start (in_front now token key exp renewal second.used) in
    AcceptsNew t now token first → AcceptsNew t now other second → now < exp
    → Accepts (λ v. t) w 2 now second.used × AllHappened t now first key exp renewal second.used (happen (λ v. t) w (behind now second.used))

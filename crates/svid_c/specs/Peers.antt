-- What the calls on a member that C keeps do.
use Rattle.std.specs.Prelude.{◌≡◌, ◌⊎◌, ℕ, min, Bool, false, not, ◌==◌, List, [], ◌∷◌, Option, Some, None, if◌then◌else◌}
use Rattle.svid_id.specs.Id.{IdParts}
use Rattle.svid_allow.specs.Allows.{Allows}
use Rattle.svid_allow.specs.Pattern.{PatternParts}
use Rattle.svid_log.specs.Members.{MemberState}
use Rattle.svid_requests.specs.Tables.{at_moment, begun, due}
use Rattle.svid_requests.specs.declared.deed.Deed.{Deed}
use Rattle.svid_requests.specs.declared.event.Event.TheVariants.{Wrote as wrote, Send as send, Leave as leave, Overdue as overdue}
use Rattle.svid_member.specs.Members.{Comes, Hears, MemberData, with_kept, with_known, with_requests}
use Rattle.svid_member.specs.Modes.{needs_of}
use Rattle.svid_member.specs.Readiness.{blocks, doubts}
use Rattle.svid_member.specs.Withdrawals.{due_of, first, in_parts}
use Rattle.svid_member.specs.declared.coming.Coming.{Coming}
use Rattle.svid_member.specs.declared.coming.Coming.TheVariants.{Comes as Arrives, Waits}
use Rattle.svid_member.specs.declared.mode.Mode.{Mode}
use Rattle.svid_member.specs.declared.mode.Mode.TheVariants.{Once, Strict, Bound, Reuse}
use Rattle.svid_member.specs.declared.readiness.Readiness.{Readiness}
use Rattle.svid_member.specs.declared.unready.Unready.{Unready}
use Rattle.svid_member.specs.declared.unready.Unready.TheVariants.{Ended, NoBundle, Loading, StoreUnreached, WithdrawalsUnread, BrokerUnreached, GroupUnread, Draining, Jumped, KeepsNothing, StoreAway, Deaf}
use Rattle.svid_c.specs.Deeds.{deed_seen, next_number}
use Rattle.svid_c.specs.declared.deed.SvidDeed.{SvidDeed}
use Rattle.svid_c.specs.declared.live.Live.{Live}
use Rattle.svid_c.specs.declared.member_wrote.Heard.{Heard}
use Rattle.svid_c.specs.declared.member_wrote.Heard.TheVariants.{Wrote, Send, Leave, Overdue}
use Rattle.svid_c.specs.declared.member_know.SvidKnown.{SvidKnown}
use Rattle.svid_c.specs.declared.member_due.SvidDeadline.{SvidDeadline}
use Rattle.svid_c.specs.declared.member_open.SvidMemberTerms.{SvidMemberTerms}
use Rattle.svid_c.specs.declared.peer.Peer.{Peer}

-- one of these patterns allows an ID
abbrev pub AllowedBy : List PatternParts → IdParts → Type 0
AllowedBy [] id = ⊥
AllowedBy (p ∷ patterns) id = Allows p id ⊎ AllowedBy patterns id

-- who may call: all, or who is allowed by one of some patterns
abbrev pub MayCall : Option (List PatternParts) → IdParts → Type 0
MayCall None id = Unit {0}
MayCall (Some patterns) id = AllowedBy patterns id

-- the same handle with another member, or none
abbrev pub with_peer : Live → Option Peer → Live
with_peer live peer = record { validator = live.validator; step = live.step; member = live.member; peer = peer }

-- A call on a handle: where that is closed, 5 says so; else the call does what it is for to what the handle holds.
pub data CallsHandle (Does : Live → Live → Type 0) (status : ℕ) (old new : Option Live) : Type 0 where
  was_closed : old ≡ None → new ≡ None → status ≡ 5 → CallsHandle Does status old new
  did : (a b : Live) → old ≡ Some a → new ≡ Some b → Does a b → CallsHandle Does status old new

-- the mode of a number
abbrev pub mode_in : ℕ → Option Mode
mode_in n = if n == 0 then Some Once else if n == 1 then Some Strict else if n == 2 then Some Bound else if n == 3 then Some Reuse else None

-- a number that is not 0 says yes
abbrev pub is_set : ℕ → Bool
is_set n = not (n == 0)

-- what a member knows at first
abbrev pub known_at_first : Readiness
known_at_first = record { bundled = false; loaded = false; opened = false; heard = false; joined = false; caught_up = false; draining = false; jumped = false; unkept = false; full = false; away = false; deaf = false; ended = false }

-- a member that begins: it has no requests and no withdrawals, and all may call
abbrev pub peer_of : Mode → SvidMemberTerms → Peer
peer_of mode t = record {
  member = record { mode = mode; life = t.life; ahead = t.ahead; lasts = t.lasts; readiness = known_at_first; requests = begun (needs_of mode (is_set t.disk)) t.wait };
  withdrawals = record { wait = t.wait; parts = in_parts (is_set t.disk) (is_set t.store) (is_set t.log); next = 0; under_way = [] };
  callers = None;
}

-- a validator is given a member; or it reads a log, or has a member, or the mode is none, and nothing happens
pub data BeginsMember (terms : SvidMemberTerms) (status : ℕ) (old new : Live) : Type 0 where
  reads_log_already : (m : MemberState) → old.member ≡ Some m → new ≡ old → status ≡ 10 → BeginsMember terms status old new
  has_member : (p : Peer) → old.member ≡ None → old.peer ≡ Some p → new ≡ old → status ≡ 6 → BeginsMember terms status old new
  has_no_mode : old.member ≡ None → old.peer ≡ None → mode_in terms.mode ≡ None → new ≡ old → status ≡ 30 → BeginsMember terms status old new
  begins_member : (mode : Mode) → old.member ≡ None → old.peer ≡ None → mode_in terms.mode ≡ Some mode → new ≡ with_peer old (Some (peer_of mode terms)) → status ≡ 0 → BeginsMember terms status old new

-- A call on the member of a handle: there is none, and nothing happens; or the call does what it is for to the member, and leaves all else as it was.
pub data CallsPeer (IsAsBefore : Type 0) (Does : Peer → Peer → Type 0) (status : ℕ) (old new : Live) : Type 0 where
  has_none : old.peer ≡ None → new ≡ old → status ≡ 20 → IsAsBefore → CallsPeer IsAsBefore Does status old new
  has_one : (p q : Peer) → old.peer ≡ Some p → new ≡ with_peer old (Some q) → Does p q → CallsPeer IsAsBefore Does status old new

-- a call on a handle, as `CallsHandle`, that leaves its output as it was where the handle is closed
pub data CallsDeed (Does : Live → Live → Type 0) (IsAsBefore : Type 0) (status : ℕ) (old new : Option Live) : Type 0 where
  was_shut : old ≡ None → new ≡ None → status ≡ 5 → IsAsBefore → CallsDeed Does IsAsBefore status old new
  did_deed : (a b : Live) → old ≡ Some a → new ≡ Some b → Does a b → CallsDeed Does IsAsBefore status old new

-- the same peer with another member in it
abbrev pub with_member_data : Peer → MemberData → Peer
with_member_data p m = record { member = m; withdrawals = p.withdrawals; callers = p.callers }

-- a member's readiness by these facts; the member itself keeps whether the state folder took the last acceptance
abbrev pub known_in : SvidKnown → Readiness
known_in k = record {
  bundled = is_set k.bundled;
  loaded = is_set k.loaded;
  opened = is_set k.opened;
  heard = is_set k.heard;
  joined = is_set k.joined;
  caught_up = is_set k.caught_up;
  draining = is_set k.draining;
  jumped = is_set k.jumped;
  unkept = false;
  full = is_set k.full;
  away = is_set k.away;
  deaf = is_set k.deaf;
  ended = is_set k.ended;
}

-- a member gets the facts that it is to know
abbrev pub Knows : SvidKnown → ℕ → Live → Live → Type 0
Knows known status old new = CallsPeer (Unit {0}) (λ p q. (status ≡ 0) × (q ≡ with_member_data p (with_known (known_in known) p.member))) status old new

-- the number of a reason
abbrev pub unready_number : Unready → ℕ
unready_number Ended = 211
unready_number NoBundle = 212
unready_number Loading = 213
unready_number StoreUnreached = 214
unready_number WithdrawalsUnread = 215
unready_number BrokerUnreached = 216
unready_number GroupUnread = 217
unready_number Draining = 218
unready_number Jumped = 219
unready_number KeepsNothing = 220
unready_number StoreAway = 221
unready_number Deaf = 222

-- the number of a reason, or 0
abbrev pub number_of_any : Option Unready → ℕ
number_of_any None = 0
number_of_any (Some reason) = unready_number reason

-- a member says why no tokens are to be sent to it
abbrev pub Doubts : ℕ → Live → Live → Type 0
Doubts status old new = CallsPeer (Unit {0}) (λ p q. (status ≡ number_of_any (doubts p.member.readiness p.member.mode)) × (q ≡ p)) status old new

-- a member says why no token is judged
abbrev pub Blocks : ℕ → Live → Live → Type 0
Blocks status old new = CallsPeer (Unit {0}) (λ p q. (status ≡ number_of_any (blocks p.member.readiness p.member.mode)) × (q ≡ p)) status old new

-- a member hears of something
abbrev pub Tells : ℕ → Heard → MemberData → Deed → MemberData → Type 0
Tells up (Wrote n ok) m deed after = Hears up (wrote n (is_set ok)) (with_kept (is_set ok) m) deed after
Tells up (Send n) m deed after = Hears up (send n) m deed after
Tells up (Leave n) m deed after = Hears up (leave n) m deed after
Tells up Overdue m deed after = Hears up overdue m deed after

-- the member of a handle hears of something, and says what is to be done
abbrev pub PeerHears : ℕ → Heard → Peer → SvidDeed → Peer → Type 0
PeerHears up heard p seen q = (deed : Deed) × (m : MemberData) × Tells up heard p.member deed m × (q ≡ with_member_data p m) × (seen ≡ deed_seen deed)

abbrev pub HearsOf : ℕ → Heard → ℕ → SvidDeed → SvidDeed → Live → Live → Type 0
HearsOf up heard status old_deed new_deed old new = CallsPeer (new_deed ≡ old_deed) (λ p q. PeerHears up heard p new_deed q × (status ≡ 0)) status old new

-- the answer for a request that arrives: what to do, or the reason against it
abbrev pub TellsComing : Coming → ℕ → SvidDeed → SvidDeed → Type 0
TellsComing (Arrives deed) status old_deed new_deed = (status ≡ 0) × (new_deed ≡ deed_seen deed)
TellsComing (Waits reason) status old_deed new_deed = (status ≡ unready_number reason) × (new_deed ≡ old_deed)

-- A request arrives at a member, and the call answers this; or memory was refused, and nothing arrived.
pub data Arrival (up status : ℕ) (old_deed new_deed : SvidDeed) (p q : Peer) : Type 0 where
  arrives : (coming : Coming) (m : MemberData) → Comes up p.member coming m → q ≡ with_member_data p m → TellsComing coming status old_deed new_deed → Arrival up status old_deed new_deed p q
  no_memory_to_come : q ≡ with_member_data p (with_requests p.member (at_moment p.member.requests up)) → new_deed ≡ old_deed → status ≡ 2 → Arrival up status old_deed new_deed p q

abbrev pub ComesTo : ℕ → ℕ → SvidDeed → SvidDeed → Live → Live → Type 0
ComesTo up status old_deed new_deed old new = CallsPeer (new_deed ≡ old_deed) (Arrival up status old_deed new_deed) status old new

-- a member says when a request or a withdrawal is due
abbrev pub TellsDue : ℕ → SvidDeadline → SvidDeadline → Live → Live → Type 0
TellsDue status old_due new_due old new =
    CallsPeer (new_due ≡ old_due)
    (λ p q. (status ≡ 0) × (q ≡ p) × (new_due ≡ record { at = min (next_number (due p.member.requests)) (next_number (due_of (first p.withdrawals.under_way))) })) status old new

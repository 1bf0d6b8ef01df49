-- A member: how it accepts tokens, and its requests.
use Rattle.std.specs.Prelude.{◌≡◌, ℕ, Bool, not, List, Option, Some, None}
use Rattle.svid_member.specs.declared.mode.Mode.{Mode}
use Rattle.svid_member.specs.declared.coming.Coming.{Coming}
use Rattle.svid_member.specs.declared.coming.Coming.TheVariants.{Comes as Arrives, Waits}
use Rattle.svid_member.specs.declared.readiness.Readiness.{Readiness as Known}
use Rattle.svid_member.specs.declared.unready.Unready.{Unready as Reason}
use Rattle.svid_member.specs.Readiness.{blocks}
use Rattle.svid_requests.specs.Tables.{State, at_moment, came, come_deed, heard, heard_deed}
use Rattle.svid_requests.specs.declared.event.Event.{Event}
use Rattle.svid_requests.specs.declared.deed.Deed.{Deed}

-- A member: its mode, its life, how far the store's time may be ahead of its own, how long past the store's time a token may expire, what it knows,
-- and its requests.
pub record MemberData : Type 0 where
  pub mode : Mode
  pub life : List ℕ
  pub ahead : ℕ
  pub lasts : ℕ
  pub readiness : Known
  pub requests : State

-- the same member with other requests
abbrev pub with_requests : MemberData → State → MemberData
with_requests m s = record { mode = m.mode; life = m.life; ahead = m.ahead; lasts = m.lasts; readiness = m.readiness; requests = s }

-- the same member, which knows this
abbrev pub with_readiness : MemberData → Known → MemberData
with_readiness m r = record { mode = m.mode; life = m.life; ahead = m.ahead; lasts = m.lasts; readiness = r; requests = m.requests }

-- the same knowledge, but for whether the state folder took the last use
abbrev pub knows_unkept : Bool → Known → Known
knows_unkept unkept r = record {
  bundled = r.bundled;
  loaded = r.loaded;
  opened = r.opened;
  heard = r.heard;
  joined = r.joined;
  caught_up = r.caught_up;
  draining = r.draining;
  jumped = r.jumped;
  unkept = unkept;
  full = r.full;
  away = r.away;
  deaf = r.deaf;
  ended = r.ended;
}

-- the same member, whose state folder took the last use, or did not
abbrev pub with_kept : Bool → MemberData → MemberData
with_kept ok m = with_readiness m (knows_unkept (not ok) m.readiness)

-- the same member, which knows this from now on; it knows by itself whether the state folder took the last use
abbrev pub with_known : Known → MemberData → MemberData
with_known r m = with_readiness m (knows_unkept m.readiness.unkept r)

-- a request comes at a moment, unless a reason speaks against it
abbrev pub ComesBy : ℕ → Option Reason → MemberData → Coming → MemberData → Type 0
ComesBy up None m coming after = let s = at_moment m.requests up in (coming ≡ Arrives (come_deed s)) × (after ≡ with_requests m (came s))
ComesBy up (Some reason) m coming after = (coming ≡ Waits reason) × (after ≡ m)

abbrev pub Comes : ℕ → MemberData → Coming → MemberData → Type 0
Comes up m coming after = ComesBy up (blocks m.readiness m.mode) m coming after

-- A member hears of an event at a moment: what is to be done, and what is left. Memory may be refused.
abbrev pub Hears : ℕ → Event → MemberData → Deed → MemberData → Type 0
Hears up e m deed after = let s = at_moment m.requests up in (refused : Bool) × (deed ≡ heard_deed refused s e) × (after ≡ with_requests m (heard refused s e))

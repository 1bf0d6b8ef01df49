-- What a request does that comes with its token, and with what is known of the token's claim.
use Rattle.std.specs.Prelude.{◌≡◌, ℕ, ◌-◌, ◌^◌, Bool, true, false, ◌==◌, ◌&&◌, List, if◌then◌else◌}
use Rattle.std.specs.Ordering.{is_eq, nat_cmp}
use Rattle.std.specs.Cmp.Lexicographic.{slice_cmp}
use Rattle.svid_check.specs.Said.{Said}
use Rattle.svid_check.specs.Setting.{Says}
use Rattle.svid_c.specs.Deeds.{deed_by}
use Rattle.svid_c.specs.Judged.{ForRequest, PeerFinds, PeerJudges, Room}
use Rattle.svid_c.specs.Live.{Kept}
use Rattle.svid_c.specs.Peers.{Arrival}
use Rattle.svid_c.specs.Status.{told_length}
use Rattle.svid_c.specs.declared.deed.SvidDeed.{SvidDeed}
use Rattle.svid_c.specs.declared.live.Live.{Live}
use Rattle.svid_c.specs.declared.member_ask.SvidKnownClaim.{SvidKnownClaim}
use Rattle.svid_c.specs.declared.peer.Peer.{Peer}
use Rattle.svid_c.specs.declared.told.SvidTold.{SvidTold}

-- whether a deed is to put the claim that is known
abbrev pub is_known : SvidKnownClaim → SvidDeed → Bool
is_known k d = d.what == 3 && (d.used.exp == k.exp && is_eq (slice_cmp nat_cmp d.used.key k.key))

-- the same deed, with the number of its request if there is nothing to do
abbrev pub numbered : ℕ → SvidDeed → SvidDeed
numbered n d = if d.what == 0 then record { what = d.what; number = n; status = d.status; next = d.next; used = d.used } else d

-- the same room with another deed
abbrev pub with_deed : Room → SvidDeed → Room
with_deed r d = record { out = r.out; used = r.used; deed = d }

-- The token of a request that has come is judged. If that asks for the claim that is known, the request hears at once what the store answered to it.
pub data PeerGoesOn (says : Says) (now up n : ℕ) (caller : List ℕ) (known : SvidKnownClaim) (said : Said) (status : ℕ) (told : SvidTold) (old_room new_room : Room) (p q : Peer) (v w : Kept) : Type 0 where
  is_judged : PeerJudges says now up n said status told old_room new_room p q v w → is_known known new_room.deed ≡ false
      → PeerGoesOn says now up n caller known said status told old_room new_room p q v w
  is_found : (judged : ℕ) (told_judged : SvidTold) (room : Room) (between : Peer) (x : Kept)
      → PeerJudges says now up n said judged told_judged old_room room p between v x → is_known known room.deed ≡ true
      → PeerFinds says now up n caller known.found said status told room new_room between q x w
      → PeerGoesOn says now up n caller known said status told old_room new_room p q v w

-- A request comes, and goes on at once; or it does not come. If no number is left, the deed has that of no request.
pub data PeerAsks (says : Says) (now up : ℕ) (caller : List ℕ) (known : SvidKnownClaim) (said : Said) (status : ℕ) (told : SvidTold) (old_room new_room : Room) (p q : Peer) (v w : Kept) : Type 0 where
  stays_away : (seen : SvidDeed) → Arrival up status old_room.deed seen p q → (status == 0) ≡ false → told ≡ told_length 0 → new_room ≡ with_deed old_room seen → w ≡ v
      → PeerAsks says now up caller known said status told old_room new_room p q v w
  has_no_number : (came : ℕ) (seen : SvidDeed) → Arrival up came old_room.deed seen p q → (came == 0) ≡ true → (seen.what == 1) ≡ false → status ≡ 29 → told ≡ told_length 0 → new_room ≡ with_deed old_room (deed_by 0 (2 ^ 64 - 1)) → w ≡ v
      → PeerAsks says now up caller known said status told old_room new_room p q v w
  goes_on : (came : ℕ) (seen : SvidDeed) (come : Peer) (room : Room) → Arrival up came old_room.deed seen p come → (came == 0) ≡ true → (seen.what == 1) ≡ true
      → PeerGoesOn says now up seen.number caller known said status told (with_deed old_room seen) room come q v w → new_room ≡ with_deed room (numbered seen.number room.deed)
      → PeerAsks says now up caller known said status told old_room new_room p q v w

abbrev pub AsksRequest : Says → (now up : ℕ) → (caller : List ℕ) → SvidKnownClaim → Said → ℕ → SvidTold → Room → Room → Live → Live → Type 0
AsksRequest says now up caller known said status told old_room new_room = ForRequest (PeerAsks says now up caller known said status told old_room new_room) status told old_room new_room

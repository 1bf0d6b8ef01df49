-- A record that is saved piece by piece.
use Rattle.std.specs.Prelude.{◌≡◌, ℕ, ◌<◌, ◌≤◌, List, [], ◌∷◌, Option, None, IsTrue, length, min, take}
use Rattle.svid_replay.specs.declared.token_use.Use.{Use}
use Rattle.svid_replay.specs.Batches.{BatchData, last_of}
use Rattle.svid_replay.specs.Parts.{join_all}
use Rattle.svid_replay.specs.Records.{State, state_of}
use Rattle.svid_replay.specs.Sets.{holds}
use Rattle.svid_replay.specs.Uses.{Uses}
use Rattle.svid_replay.specs.Walks.{uses_behind}

-- of the uses of a set that are greater than the one given, or of all, the first so many
abbrev pub uses_after : Uses → Option Use → ℕ → List Use
uses_after s after most = take most (uses_behind s after)

-- a piece of a record: a batch of its moment with the uses behind the one given, so many of them at most, and at most 65,536
abbrev pub piece_of : State → Option Use → ℕ → BatchData
piece_of r after most = record { moment = r.moment; uses = uses_after r.uses after (min most 65536) }

-- a record at some later time: its moment is no less, and it has each use of the earlier one that is still live
pub record IsLater (a b : State) : Type 0 where
  pub moment : a.moment ≤ b.moment
  pub uses : (u : Use) → IsTrue (holds a.uses u) → b.moment < u.exp → IsTrue (holds b.uses u)

-- batches that save a record piece by piece, from record a, behind `after`, to record z: each is a piece behind the last use of the one before, of a record that is later by whatever came in between, and the last one has fewer uses than were asked for
abbrev pub IsSaved : State → Option Use → List BatchData → State → Type 0
IsSaved a after [] z = ⊥
IsSaved a after (b ∷ []) z = (most : ℕ) × (b ≡ piece_of a after most) × (length b.uses < min most 65536) × (z ≡ a)
IsSaved a after (b ∷ c ∷ more) z = (most : ℕ) × (next : State) × (b ≡ piece_of a after most) × IsLater a next × IsSaved next (last_of after b.uses) (c ∷ more) z

-- such batches together have each use that the record had when the first was made and that is live when the last is
abbrev pub SavesLoseNothing : Type 0
SavesLoseNothing = (a z : State) (batches : List BatchData) (u : Use) → IsSaved a None batches z → IsTrue (holds a.uses u) → z.moment < u.exp → IsTrue (holds (join_all (state_of 0 []) batches).uses u)

-- and they have its moment then, and no use that it does not have
abbrev pub SavesAddNothing : Type 0
SavesAddNothing = (a z : State) (batches : List BatchData) → IsSaved a None batches z
    → let s = join_all (state_of 0 []) batches in
    (s.moment ≡ z.moment) × ((u : Use) → IsTrue (holds s.uses u) → IsTrue (holds z.uses u))

-- later than later is later
abbrev pub LaterGoesOn : Type 0
LaterGoesOn = (a b c : State) → IsLater a b → IsLater b c → IsLater a c

-- A record that is saved piece by piece, as events: of one validator by itself, and of a group.
use Rattle.std.specs.Prelude.{◌≡◌, ◌≢◌, ℕ, ◌<◌, ◌^◌, List, [], ◌∷◌, ◌++◌, Option, None, length, min}
use Rattle.std.specs.List.{AllByRecursion}
use Rattle.svid_replay.specs.declared.token_use.Use.{Use}
use Rattle.svid_replay.specs.Batches.{BatchData, last_of}
use Rattle.svid_replay.specs.Parts.{join_all}
use Rattle.svid_replay.specs.Records.{state_of}
use Rattle.svid_check.specs.Alone.{Alone, Call, called}
use Rattle.svid_check.specs.Alone.{Restart as Back}
use Rattle.svid_check.specs.Runs.{Terms}
use Rattle.svid_check.specs.Saves.{IsLater, IsSaved, piece_of}
use Rattle.svid_check.specs.World.{Entry, Event, Piece, Restart, Save, Take, Took, World, happen, happens}

-- the call puts no save back
abbrev pub IsNoRestart : Call → Type 0
IsNoRestart (Back k) = ⊥
IsNoRestart _ = Unit {0}

-- what any other call leaves is the record at a later time
abbrev pub CallsLeaveLater : Type 0
CallsLeaveLater = (t : Terms) (w : Alone) (call : Call) → IsNoRestart call → IsLater w.held (called t w call).held

-- the event puts back no save of validator v
abbrev pub IsNoRestartOf : ℕ → Event → Type 0
IsNoRestartOf v (Restart n k) = n ≢ v
IsNoRestartOf v _ = Unit {0}

-- what any other event leaves is the record of validator v at a later time
abbrev pub EventsLeaveLater : Type 0
EventsLeaveLater = (group : ℕ → Terms) (w : World) (v : ℕ) (event : Event) → IsNoRestartOf v event → IsLater (w.members v).held ((happens group w event).members v).held

module _ (group : ℕ → Terms) (v : ℕ) where
  -- from world w to world z, validator v saves its record piece by piece, behind `after`: these are the numbers of the pieces in the pool, and these the pieces; events come in between that put back no save of v, and the last piece has fewer uses than were asked for
  abbrev pub IsSavedIn : World → Option Use → List ℕ → List BatchData → World → Type 0
  IsSavedIn w after (k ∷ []) (b ∷ []) z =
      (most : ℕ) × (k ≡ length w.pool) × (b ≡ piece_of (w.members v).held after most) × (length b.uses < min most 65536) × (z ≡ happens group w (Piece v after most))
  IsSavedIn w after (k ∷ j ∷ ks) (b ∷ c ∷ bs) z =
      (most : ℕ) × (between : List Event) × (k ≡ length w.pool) × (b ≡ piece_of (w.members v).held after most) × AllByRecursion (IsNoRestartOf v) between
      × IsSavedIn (happen group (happens group w (Piece v after most)) between) (last_of after b.uses) (j ∷ ks) (c ∷ bs) z
  IsSavedIn w after _ _ z = ⊥

-- so a record is saved, from what it was at the first piece to what it is at the last
abbrev pub PiecesAreSaved : Type 0
PiecesAreSaved = (group : ℕ → Terms) (w z : World) (v : ℕ) (indexes : List ℕ) (pieces : List BatchData)
    → IsSavedIn group v w None indexes pieces z → IsSaved (w.members v).held None pieces (z.members v).held

-- validator v takes these pieces, each at its own moment
abbrev pub takes_of : ℕ → List ℕ → List BatchData → List Event
takes_of v (k ∷ indexes) (b ∷ pieces) = Take v b.moment k 0 None ∷ takes_of v indexes pieces
takes_of v _ _ = []

-- the entries of these pieces
abbrev pub took_pieces : List ℕ → List Entry
took_pieces [] = []
took_pieces (k ∷ indexes) = Took k 0 ∷ took_pieces indexes

-- a restart from pieces, whenever it comes, is a restart from a save of when they began, and a take of each: it leaves the record that the pieces give, and the log of when they began with an entry for each
abbrev pub RestartsFromPieces : Type 0
RestartsFromPieces = (group : ℕ → Terms) (w z : World) (v : ℕ) (indexes : List ℕ) (pieces : List BatchData) (later : List Event)
    → (z.members v).held.moment < 2 ^ 64
    → IsSavedIn group v (happens group w (Save v)) None indexes pieces z
    → let x = (happen group (happen group z later) (Restart v (length w.saves) ∷ takes_of v indexes pieces)).members v in
    (x.held ≡ join_all (state_of 0 []) pieces) × (x.log ≡ (w.members v).log ++ took_pieces indexes)

-- What payloads of a state folder say if they are texts of batches: the pieces of a record, and everything that a start reads.
use Rattle.std.specs.Prelude.{◌≡◌, ℕ, Bool, true, List, [], ◌++◌, None, map}
use Rattle.std.specs.List.{list_any}
use Rattle.svid_replay.specs.declared.token_use.Use.{Use}
use Rattle.svid_replay.specs.Batches.{BatchData}
use Rattle.svid_replay.specs.Parts.{join_all}
use Rattle.svid_replay.specs.Records.{State, batch_state, state_of}
use Rattle.svid_wire.specs.BatchText.{batch_text}
use Rattle.svid_check.specs.Saves.{IsSaved}
use Rattle.svid_journal.specs.History.{IsAllowed, Titles, World}
use Rattle.svid_journal.specs.History.Event.{Piece}
use Rattle.svid_answers.specs.Records.{Knows}

-- a test finds each use in the text of a batch that the batch has, or that has expired by its time
abbrev pub Sees : (Use → List ℕ → Bool) → Type 0
Sees tells = (u : Use) (b : BatchData) → Knows (batch_state b) u → tells u (batch_text b) ≡ true

-- If the payloads of a snapshot are the pieces of a save, possibly after others, the mark that ends the snapshot is allowed for each use. The save
-- began with a record that knew the use if it was noted when the current journal began.
abbrev pub PiecesTell : Type 0
PiecesTell = (tells : Use → List ℕ → Bool) (t : Titles) (w : World) (u : Use) (a z : State) (front : List (List ℕ)) (batches : List BatchData) → Sees tells → (list_any (tells u) w.noted ≡ true → Knows a u) → IsSaved a None batches z
    → w.parts ≡ front ++ map batch_text batches → (ok : Bool) (landed : List ℕ) → IsAllowed (tells u) t w (Piece [] ok landed)

-- a test finds no more than that in the text of a batch
abbrev pub SeesNoMore : (Use → List ℕ → Bool) → Type 0
SeesNoMore tells = (u : Use) (b : BatchData) → tells u (batch_text b) ≡ true → Knows (batch_state b) u

-- If a start reads the texts of batches, the record that is joined with all of them knows each use in one of them.
abbrev pub StartsKnow : Type 0
StartsKnow = (tells : Use → List ℕ → Bool) (u : Use) (batches : List BatchData) → SeesNoMore tells → list_any (tells u) (map batch_text batches) ≡ true → Knows (join_all (state_of 0 []) batches) u

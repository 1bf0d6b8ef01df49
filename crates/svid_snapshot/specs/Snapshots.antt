-- A snapshot of a state folder that is made from the pieces of a record, and the content of its payloads.
use Rattle.std.specs.Prelude.{◌≡◌, ℕ, ◌<◌, Bool, true, List, [], ◌++◌, None, IsTrue, map}
use Rattle.std.specs.List.{list_any}
use Rattle.svid_replay.specs.declared.token_use.Use.{Use}
use Rattle.svid_replay.specs.Batches.{BatchData}
use Rattle.svid_replay.specs.Records.{State, batch_state}
use Rattle.svid_replay.specs.Sets.{holds}
use Rattle.svid_wire.specs.BatchText.{batch_text}
use Rattle.svid_wire.specs.Messages.{Splits}
use Rattle.svid_wire.specs.declared.message.Message.{Message}
use Rattle.svid_check.specs.Saves.{IsSaved}
use Rattle.svid_journal.specs.History.{IsAllowed, Titles, World}
use Rattle.svid_journal.specs.History.Event.{Piece}
use Rattle.svid_journal.specs.Payloads.{BeginsWithNoPosition}

-- a test of payloads sees a use in the text of each batch that has it
abbrev pub SeesIn : (List ℕ → Bool) → Use → Type 0
SeesIn has u = (b : BatchData) → IsTrue (holds (batch_state b).uses u) → has (batch_text b) ≡ true

-- Let the payloads of a snapshot be the pieces of a save, after others or none, of a record that had the use if the use was noted
-- when the journal that grows began. Then the mark that ends the snapshot is allowed, as long as the use is live.
abbrev pub PiecesAreAllowed : Type 0
PiecesAreAllowed =
    (has : List ℕ → Bool) (t : Titles) (w : World) (u : Use) (a z : State) (front : List (List ℕ)) (batches : List BatchData) → SeesIn has u → (list_any has w.noted ≡ true → IsTrue (holds a.uses u)) → IsSaved a None batches z → z.moment < u.exp
    → w.parts ≡ front ++ map batch_text batches → (ok : Bool) (landed : List ℕ) → IsAllowed has t w (Piece [] ok landed)

-- no messages begin with the position of a member in its log
abbrev pub MessagesBearNoPosition : Type 0
MessagesBearNoPosition = (bytes : List ℕ) (messages : List Message) → Splits bytes messages [] → BeginsWithNoPosition bytes

-- What a save of a member has, and how a member is restored from it.
use Rattle.std.specs.Prelude.{◌≡◌, ◌≤◌, ℕ, List, [], ◌∷◌, map, max}
use Rattle.std.specs.List.{AllByRecursion, flat_map}
use Rattle.svid_replay.specs.declared.token_use.Use.{Use}
use Rattle.svid_replay.specs.Batches.{BatchData, IsBatch}
use Rattle.svid_replay.specs.Records.{State, state_of}
use Rattle.svid_replay.specs.Sets.{rising}
use Rattle.svid_replay.specs.Uses.{Uses, live, no_uses}
use Rattle.svid_wire.specs.BatchText.{batch_text}
use Rattle.svid_log.specs.declared.mark.Mark.{Mark}
use Rattle.svid_log.specs.Calls.{IsMember, index_in}
use Rattle.svid_log.specs.Groups.{Reader, begins, looked, reader_behind}
use Rattle.svid_log.specs.Members.{MemberState}
use Rattle.svid_log.specs.Steps.{AreSound, put_beside}
use Rattle.svid_log.specs.Values.{IsValue, uses_in}

-- a batch of one use, of the moment at which the use was made
abbrev pub alone : Use → BatchData
alone u = record { moment = u.at; uses = u ∷ [] }

-- the uses beside a record in rising order, each as a batch
abbrev pub saved_of : Uses → List BatchData
saved_of s = map alone (rising s)

-- uses are put into a set, except those that expire before they were made
abbrev pub put_all : Uses → List Use → Uses
put_all s [] = s
put_all s (u ∷ us) = put_all (put_beside u.at s u) us

-- where a member is in the log
abbrev pub mark_of : MemberState → Mark
mark_of m = record { passed = m.passed; begun = m.begun; deaf = m.deaf }

-- the member that goes on from there, with these uses beside its record, where an earlier life may have read so many values
abbrev pub restored : (validator_id : List ℕ) (lasts : ℕ) → Mark → (ready : ℕ) → List Use → MemberState
restored validator_id lasts mark ready beside = record { beside = put_all no_uses beside; validator_id = validator_id; lasts = lasts; passed = mark.passed; begun = mark.begun; ready = ready; deaf = mark.deaf }

-- a member's uses are saved as batches, and the text of these is a value whose uses restore them
abbrev pub SavesPutBack : Type 0
SavesPutBack = (s : Uses) → AreSound s
    → AllByRecursion IsBatch (saved_of s) × IsValue (flat_map batch_text (saved_of s)) (uses_in (saved_of s)) × (put_all no_uses (uses_in (saved_of s)) ≡ s)

-- a restored member is one that starts again from its save, in the words of a group
abbrev pub RestartsAreEvents : Type 0
RestartsAreEvents = (values : List (List Use)) (m : MemberState) (x : State) (was before : Reader) (ready : ℕ)
    → AreSound m.beside → IsMember values m x was → before.read ≤ index_in values ready 0 → before.ready ≤ index_in values ready 0
    → IsMember values (restored m.validator_id m.lasts (mark_of m) ready (uses_in (saved_of m.beside))) x (begins before was)

-- a new member is one that starts without a save
abbrev pub NewAreEvents : Type 0
NewAreEvents = (values : List (List Use)) (validator_id : List ℕ) (lasts passed ready deaf : ℕ) (before : Reader)
    → before.read ≤ index_in values ready 0 → before.ready ≤ index_in values ready 0
    → IsMember values (record { beside = no_uses; validator_id = validator_id; lasts = lasts; passed = passed; begun = 0; ready = ready; deaf = deaf }) (state_of 0 []) (begins before (reader_behind (index_in values passed 0) deaf))

-- to ask for a key is to look
abbrev pub LooksAreEvents : Type 0
LooksAreEvents = (values : List (List Use)) (m : MemberState) (x : State) (r : Reader)
    → IsMember values m x r
    → IsMember values (record { beside = live m.beside x.moment; validator_id = m.validator_id; lasts = m.lasts; passed = m.passed; begun = m.begun; ready = m.ready; deaf = m.deaf }) x (looked r)

-- Messages that come in pieces.
use Rattle.std.specs.Prelude.{◌≡◌, ℕ, ◌≤◌, List, [], ◌∷◌, ◌++◌, length, Option, Some, None, Result, Ok, Err}
use Rattle.svid_wire.specs.Messages.{Appended, StopsIn}
use Rattle.svid_wire.specs.WireFault.{IsUnfinished}
use Rattle.svid_wire.specs.declared.message.Message.{Message}
use Rattle.svid_wire.specs.declared.reason.Reason.TheVariants.{Truncated, Failed}
use Rattle.svid_wire.specs.declared.wire_fault.WireFault.{WireFault}

-- what a feed returns that refused bytes before
abbrev pub failed : WireFault
failed = record { offset = 0; reason = Failed }

-- bytes that a feed may hold: each whole field is good, and another one is to come
pub record IsHeld (bytes : List ℕ) : Type 0 where
  pub unfinished : IsUnfinished bytes
  pub few : length bytes ≤ 4259856

-- the bytes held before, followed by the piece, are the messages that were appended, and the bytes held after
abbrev pub Pushed : Option (List ℕ) → Option (List ℕ) → List Message → List Message → List ℕ → Type 0
Pushed (Some before) (Some after) old new piece = Appended (before ++ piece) old new after × IsHeld after
Pushed _ _ old new piece = ⊥

-- why a push was refused: after the appended messages, the bytes held and the piece have a bad field, or memory was refused; or
-- bytes were refused before, and no message was appended
abbrev pub IsPushFault : Option (List ℕ) → List Message → List Message → List ℕ → WireFault → Type 0
IsPushFault (Some before) old new piece fault = StopsIn (before ++ piece) old new fault
IsPushFault None old new piece fault = (fault ≡ failed) × (new ≡ old)

-- how many bytes are held: none after a refusal
abbrev pub held_len : Option (List ℕ) → ℕ
held_len None = 0
held_len (Some bytes) = length bytes

-- what is returned where no more bytes come
abbrev pub end_of : Option (List ℕ) → Result Unit WireFault
end_of None = Err failed
end_of (Some []) = Ok tt
end_of (Some (b ∷ bytes)) = Err (record { offset = length (b ∷ bytes); reason = Truncated })

-- two pushes do what one push of both pieces together does
abbrev pub PushesJoin : Type 0
PushesJoin = (before between after : Option (List ℕ)) (old mid new : List Message) (first second : List ℕ) → Pushed before between old mid first → Pushed between after mid new second → Pushed before after old new (first ++ second)

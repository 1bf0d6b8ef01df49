-- What a call did to a source or to a sink. Where a stream does not give its bytes, these definitions say nothing of them either.
use Rattle.std.specs.Prelude.{◌≡◌, ℕ, ◌<◌, ◌≤◌, List, length, take, Option}
use Rattle.std.specs.Io.KnownBytes.{Appends, Consumes, IsAtEnd}
use Rattle.svid_wire.specs.Faults.{raised}
use Rattle.svid_wire.specs.declared.read_fault.ReadFault.{ReadFault}
use Rattle.svid_wire.specs.declared.read_fault.ReadFault.TheVariants.{Stopped, TooMuch, OutOfMemory}

-- what a source had left before and after a call, and how often it had stopped
pub record Drawn : Type 0 where
  pub left_before : Option (List ℕ)
  pub left_after : Option (List ℕ)
  pub stops_before : ℕ
  pub stops_after : ℕ

-- the same for a source, by its own definitions `left` and `stops`
abbrev pub drawn : {S : Type 0} → (S → Option (List ℕ)) → (S → ℕ) → S → S → Drawn
drawn left stops old new = record { left_before = left old; left_after = left new; stops_before = stops old; stops_after = stops new }

-- the source gave these bytes
abbrev pub Gave : Drawn → List ℕ → Type 0
Gave source bytes = Consumes source.left_before source.left_after bytes

-- the source was read to its end without a stop, and these were its bytes, at most so many
pub record IsRead (source : Drawn) (limit : ℕ) (bytes : List ℕ) : Type 0 where
  pub given : Gave source bytes
  pub ended : IsAtEnd source.left_after
  pub within : length bytes ≤ limit
  pub unstopped : source.stops_after ≡ source.stops_before

-- the source stopped, after at most so many bytes
pub record HasStopped (source : Drawn) (limit : ℕ) : Type 0 where
  pub bytes : List ℕ
  pub given : Gave source bytes
  pub within : length bytes ≤ limit
  pub stopped : source.stops_after ≡ raised source.stops_before

-- the source gave more bytes than so many, without a stop
pub record GaveTooMuch (source : Drawn) (limit : ℕ) : Type 0 where
  pub bytes : List ℕ
  pub given : Gave source bytes
  pub beyond : limit < length bytes
  pub unstopped : source.stops_after ≡ source.stops_before

-- the source gave bytes, at least one and at most so many, without a stop
pub record GaveWithin (source : Drawn) (limit : ℕ) : Type 0 where
  pub bytes : List ℕ
  pub some : 0 < length bytes
  pub given : Gave source bytes
  pub within : length bytes ≤ limit
  pub unstopped : source.stops_after ≡ source.stops_before

-- why a source was not read to its end: it stopped, it gave more bytes than the limit, or memory was refused for the
-- bytes that it gave
abbrev pub IsReadFault : Drawn → ℕ → ReadFault → Type 0
IsReadFault source limit Stopped = HasStopped source limit
IsReadFault source limit TooMuch = GaveTooMuch source limit
IsReadFault source limit OutOfMemory = GaveWithin source limit

-- what a sink had taken before and after a call, and how often it had stopped
pub record Taken : Type 0 where
  pub told_before : Option (List ℕ)
  pub told_after : Option (List ℕ)
  pub stops_before : ℕ
  pub stops_after : ℕ

-- the same for a sink, by its own definitions `told` and `stops`
abbrev pub taken : {K : Type 0} → (K → Option (List ℕ)) → (K → ℕ) → K → K → Taken
taken told stops old new = record { told_before = told old; told_after = told new; stops_before = stops old; stops_after = stops new }

-- the sink took the whole text, without a stop
pub record TookAll (sink : Taken) (text : List ℕ) : Type 0 where
  pub gained : Appends sink.told_before sink.told_after text
  pub unstopped : sink.stops_after ≡ sink.stops_before

-- the sink stopped after it took exactly so many bytes of the text, from the start, and not all
pub record StoppedAfter (sink : Taken) (text : List ℕ) (count : ℕ) : Type 0 where
  pub short : count < length text
  pub gained : Appends sink.told_before sink.told_after (take count text)
  pub stopped : sink.stops_after ≡ raised sink.stops_before

-- the sink stopped after it took a part of the text: its first bytes, and not all
pub record TookPart (sink : Taken) (text : List ℕ) : Type 0 where
  pub count : ℕ
  pub part : StoppedAfter sink text count

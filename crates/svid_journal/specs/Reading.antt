-- What a reader finds in the bytes of a file, and where it stops.
use Rattle.std.specs.Prelude.{◌≡◌, ◌≢◌, ◌⊎◌, ◌==◌, ◌&&◌, ℕ, zero, suc, ◌+◌, ◌-◌, ◌*◌, ◌/◌, ◌%◌, ◌^◌, ◌<◌, ◌≤◌, nat_lt, nat_le, if◌then◌else◌, Bool, true, false, List, [], ◌∷◌, ◌++◌, length, take, drop}
use Rattle.std.specs.Int.{from_be_bytes, w32, w64}
use Rattle.std.specs.List.{AllByRecursion, list_all}
use Rattle.svid_journal.specs.declared.title.File.{File}
use Rattle.svid_journal.specs.declared.title.File.TheVariants.{Journal, Snapshot}
use Rattle.svid_journal.specs.declared.title.Title.{Title}
use Rattle.svid_journal.specs.declared.reader.Reader.{Reader}
use Rattle.svid_journal.specs.declared.reader.Next.{Next}
use Rattle.svid_journal.specs.declared.reader.Next.TheVariants.{Payload, End, Tear, Damage, Other, Unfit}
use Rattle.svid_journal.specs.Titles.{bytes_of}
use Rattle.svid_journal.specs.Frames.{frame_in, frame_of, frames_of, frame_len, IsFormat, IsPayload, BeginsWithNone, IsReading}

-- bytes that begin with a frame, of any format, that may be so many cells of 8 bytes after the offset of the frame of this
-- number: each frame between takes at least four cells
pub record BeginsLater (title : List ℕ) (number cell : ℕ) (bytes : List ℕ) : Type 0 where
  pub format : ℕ
  pub later : ℕ
  pub payload : List ℕ
  pub rest : List ℕ
  pub is_format : IsFormat format
  pub is_later : number < later
  pub is_near : later ≤ number + cell / 4
  pub fits : later < 2 ^ 64
  pub bears : IsPayload payload
  pub stands : bytes ≡ frame_in format title later payload ++ rest

-- there is such a frame at a multiple of 8
abbrev pub HasLater : List ℕ → ℕ → List ℕ → Type 0
HasLater title number bytes = (cell : ℕ) × BeginsLater title number cell (drop (8 * cell) bytes)

-- the number, the format and the length of a payload in a head
abbrev pub number_in : List ℕ → ℕ
number_in head = from_be_bytes w64 (take 8 (drop 20 head))

abbrev pub format_in : List ℕ → ℕ
format_in head = from_be_bytes w32 (drop 28 head) / 16777216

abbrev pub len_in : List ℕ → ℕ
len_in head = from_be_bytes w32 (drop 28 head) % 16777216

-- a head announces a frame that may be so many cells of 8 bytes after the offset of the frame of this number, where there are so
-- many bytes
abbrev pub states_later : ℕ → ℕ → List ℕ → ℕ → Bool
states_later number cell head room = nat_lt number (number_in head) && nat_le (number_in head - number) (cell / 4) && nat_lt 0 (format_in head) && nat_lt (format_in head) 255 && nat_le (frame_len (len_in head)) room

-- how many cells the frame at the start of these bytes takes by its head, where it may be a later one; else 0
unfoldable pub later_cells : ℕ → ℕ → List ℕ → ℕ
later_cells number cell bytes = if states_later number cell (take 32 bytes) (length bytes) then frame_len (len_in (take 32 bytes)) / 8 else 0

-- how many cells all such frames take together that begin in so many of the first cells
abbrev pub crowd : ℕ → List ℕ → ℕ → ℕ
crowd number bytes zero = 0
crowd number bytes (suc cells) = crowd number bytes cells + later_cells number cells (drop (8 * cells) bytes)

-- heads announce so many overlapping later frames that they would take more than eight times the bytes: no program wrote that
abbrev pub IsCrowded : ℕ → List ℕ → Type 0
IsCrowded number bytes = length bytes < crowd number bytes (length bytes / 8)

-- the bytes there were not left by a write that was cut off
abbrev pub IsBroken : List ℕ → ℕ → List ℕ → Type 0
IsBroken title number bytes = IsCrowded number bytes ⊎ HasLater title number bytes

-- bytes that begin with a frame of this number, of another format than the one that is written
pub record IsOther (title : List ℕ) (number : ℕ) (bytes : List ℕ) (format : ℕ) : Type 0 where
  pub payload : List ℕ
  pub rest : List ℕ
  pub is_other : format ≢ 2
  pub is_format : IsFormat format
  pub bears : IsPayload payload
  pub stands : bytes ≡ frame_in format title number payload ++ rest

abbrev pub HasOther : List ℕ → ℕ → List ℕ → Type 0
HasOther title number bytes = (format : ℕ) × IsOther title number bytes format

-- bytes that were never written
abbrev pub is_blank : List ℕ → Bool
is_blank bytes = list_all (λ b. b == 0) bytes

-- Neither a frame of the next number nor one of another format is here. A journal ends where nothing was written. A snapshot was
-- written whole, so it ends with its bytes, after a mark.
abbrev pub IsEnd : File → Bool → List ℕ → ℕ → List ℕ → Type 0
IsEnd (Journal k) marked title number rest = (IsBroken title number rest → ⊥) × (is_blank rest ≡ true)
IsEnd Snapshot marked title number rest = (rest ≡ []) × (marked ≡ true)

-- a write was cut off: only the journal that grew can have that, at its end
abbrev pub IsTear : File → Bool → List ℕ → ℕ → List ℕ → Type 0
IsTear (Journal k) marked title number rest = (IsBroken title number rest → ⊥) × (is_blank rest ≡ false)
IsTear Snapshot marked title number rest = ⊥

-- bytes that were synced have changed: a frame is written only after the one before it was synced, and a snapshot is synced whole
abbrev pub IsDamage : File → Bool → List ℕ → ℕ → List ℕ → Type 0
IsDamage (Journal k) marked title number rest = IsBroken title number rest
IsDamage Snapshot marked title number rest = rest ≡ [] → marked ≡ true → ⊥

-- a reader whose numbers fit these bytes
abbrev pub IsFit : Reader → List ℕ → Type 0
IsFit r bytes = (r.count < 2 ^ 62) × (r.at ≤ length bytes)

-- the same reader after one payload more
abbrev pub read_on : Reader → List ℕ → Reader
read_on r payload = record { count = 1 + r.count; at = r.at + frame_len (length payload); marked = length payload == 0 }

-- there is a frame
pub record GoesOn (t : Title) (old new : Reader) (bytes payload : List ℕ) : Type 0 where
  pub fit : IsFit old bytes
  pub behind : List ℕ
  pub bears : IsPayload payload
  pub stands : drop old.at bytes ≡ frame_of (bytes_of t) (1 + old.count) payload ++ behind
  pub moved : new ≡ read_on old payload

-- there is no frame
pub record Stops (t : Title) (old new : Reader) (bytes : List ℕ) : Type 0 where
  pub fit : IsFit old bytes
  pub none : BeginsWithNone 2 (bytes_of t) (1 + old.count) (drop old.at bytes)
  pub same : new ≡ old

-- what a reader finds where there is no frame of the next number
abbrev pub IsEnding : Next → Title → Reader → List ℕ → Type 0
IsEnding (Payload p) t r rest = ⊥
IsEnding End t r rest = (HasOther (bytes_of t) (1 + r.count) rest → ⊥) × IsEnd t.file r.marked (bytes_of t) (1 + r.count) rest
IsEnding Tear t r rest = (HasOther (bytes_of t) (1 + r.count) rest → ⊥) × IsTear t.file r.marked (bytes_of t) (1 + r.count) rest
IsEnding Damage t r rest = (HasOther (bytes_of t) (1 + r.count) rest → ⊥) × IsDamage t.file r.marked (bytes_of t) (1 + r.count) rest
IsEnding (Other format) t r rest = IsOther (bytes_of t) (1 + r.count) rest format
IsEnding Unfit t r rest = ⊥

-- what a reader returns
abbrev pub IsNext : Next → Title → Reader → Reader → List ℕ → Type 0
IsNext (Payload p) t old new bytes = GoesOn t old new bytes p.now
IsNext End t old new bytes = Stops t old new bytes × IsEnding End t old (drop old.at bytes)
IsNext Tear t old new bytes = Stops t old new bytes × IsEnding Tear t old (drop old.at bytes)
IsNext Damage t old new bytes = Stops t old new bytes × IsEnding Damage t old (drop old.at bytes)
IsNext (Other format) t old new bytes = Stops t old new bytes × IsEnding (Other format) t old (drop old.at bytes)
IsNext Unfit t old new bytes = (IsFit old bytes → ⊥) × (new ≡ old)

-- the last payload is a mark
abbrev pub ends_marked : List (List ℕ) → Bool
ends_marked [] = false
ends_marked (p ∷ []) = length p == 0
ends_marked (p ∷ q ∷ ps) = ends_marked (q ∷ ps)

-- a reader has read these payloads of a file, and this rest follows them
pub record HasRead (r : Reader) (t : Title) (bytes : List ℕ) (payloads : List (List ℕ)) (rest : List ℕ) : Type 0 where
  pub whole : bytes ≡ frames_of (bytes_of t) 1 payloads ++ rest
  pub each : AllByRecursion IsPayload payloads
  pub count : r.count ≡ length payloads
  pub at : r.at ≡ length (frames_of (bytes_of t) 1 payloads)
  pub marked : r.marked ≡ ends_marked payloads

-- A reader after these payloads reads one more, or these are all.
abbrev pub ReadsOn : Next → Title → Reader → List ℕ → List (List ℕ) → List ℕ → Type 0
ReadsOn (Payload p) t new bytes payloads rest = (behind : List ℕ) × HasRead new t bytes (payloads ++ p.now ∷ []) behind
ReadsOn End t new bytes payloads rest = IsReading (bytes_of t) bytes payloads rest
ReadsOn Tear t new bytes payloads rest = IsReading (bytes_of t) bytes payloads rest
ReadsOn Damage t new bytes payloads rest = IsReading (bytes_of t) bytes payloads rest
ReadsOn (Other format) t new bytes payloads rest = IsReading (bytes_of t) bytes payloads rest
ReadsOn Unfit t new bytes payloads rest = 2 ^ 62 ≤ length payloads

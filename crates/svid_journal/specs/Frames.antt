-- The frames of a file: each a head of 32 bytes, a payload, and filler up to a multiple of 8 bytes.
use Rattle.std.specs.Prelude.{◌≡◌, ◌≢◌, ℕ, ◌+◌, ◌-◌, ◌*◌, ◌%◌, ◌^◌, ◌<◌, List, [], ◌∷◌, ◌++◌, length, take, replicate}
use Rattle.std.specs.Int.{to_be_bytes, w32, w64}
use Rattle.std.specs.List.{AllByRecursion}
use Rattle.sha2.specs.Sha256.{sha256}

-- a payload that fits into a frame
abbrev pub IsPayload : List ℕ → Type 0
IsPayload payload = length payload < 2 ^ 24

-- the numbers of formats; zeros and filler give no such number
abbrev pub IsFormat : ℕ → Type 0
IsFormat format = (0 < format) × (format < 255)

-- the tag of a text: the first 20 bytes of its SHA-256 digest
unfoldable pub tag_of : List ℕ → List ℕ
tag_of text = take 20 (sha256 text)

-- the number of a frame in its file, its format (1 byte), and the length of its payload (3), each with the most significant byte
-- first
unfoldable pub numbers_of : ℕ → ℕ → List ℕ → List ℕ
numbers_of format number payload = to_be_bytes w64 number ++ to_be_bytes w32 (format * 16777216 + length payload)

-- the bytes that a tag is computed from: the format, the title of the file, the numbers of the frame, and its payload
unfoldable pub sealed : ℕ → List ℕ → ℕ → List ℕ → List ℕ
sealed format title number payload = format ∷ (title ++ (numbers_of format number payload ++ payload))

-- the head of a frame: its tag and its numbers
unfoldable pub head_of : ℕ → List ℕ → ℕ → List ℕ → List ℕ
head_of format title number payload = tag_of (sealed format title number payload) ++ numbers_of format number payload

-- how many bytes are missing after so many up to a multiple of 8
unfoldable pub gap : ℕ → ℕ
gap count = (8 - count % 8) % 8

-- so many bytes FF
abbrev pub filler : ℕ → List ℕ
filler count = replicate count 255

-- a frame of any format
unfoldable pub frame_in : ℕ → List ℕ → ℕ → List ℕ → List ℕ
frame_in format title number payload = head_of format title number payload ++ (payload ++ filler (gap (length payload)))

-- a frame of format 2, the one that is written
abbrev pub frame_of : List ℕ → ℕ → List ℕ → List ℕ
frame_of title number payload = frame_in 2 title number payload

-- how long the frame of so many bytes of payload is
abbrev pub frame_len : ℕ → ℕ
frame_len count = 32 + (count + gap count)

-- frames one after the other, the first with this number
abbrev pub frames_of : List ℕ → ℕ → List (List ℕ) → List ℕ
frames_of title number [] = []
frames_of title number (payload ∷ payloads) = frame_of title number payload ++ frames_of title (number + 1) payloads

-- the bytes do not begin with a frame of this format and number
abbrev pub BeginsWithNone : ℕ → List ℕ → ℕ → List ℕ → Type 0
BeginsWithNone format title number bytes = (payload rest : List ℕ) → IsPayload payload → bytes ≢ frame_in format title number payload ++ rest

-- the bytes of a file are frames with these payloads, numbered from 1, as many as there are, and then the rest
pub record IsReading (title : List ℕ) (bytes : List ℕ) (payloads : List (List ℕ)) (rest : List ℕ) : Type 0 where
  pub whole : bytes ≡ frames_of title 1 payloads ++ rest
  pub each : AllByRecursion IsPayload payloads
  pub ended : BeginsWithNone 2 title (1 + length payloads) rest

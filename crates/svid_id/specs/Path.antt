-- Paths of SPIFFE IDs (SPIFFE-ID, section 2.2).
use Rattle.std.specs.Prelude.{◌≡◌, ◌≢◌, ℕ, ◌+◌, ◌<◌, Bool, ◌==◌, ◌||◌, nat_lt, if◌then◌else◌, List, [], ◌∷◌, ◌++◌, length, codes, Option, Some, None}
use Rattle.std.specs.Int.{is_in_range}
use Rattle.std.specs.List.{All, AllPass, prefix_len, slice_split}
use Rattle.std.specs.Option.{option_or}
use Rattle.std.specs.Str.{bytes_eq}
use Rattle.svid_id.specs.declared.id_fault.IdFault.{IdFault}
use Rattle.svid_id.specs.declared.id_fault.IdFault.TheVariants.{SegmentEmpty, SegmentDots, PathByte}

-- a byte of a path segment: a letter of either case, a digit, '-' (45), '.' (46) or '_' (95)
abbrev pub is_segment_byte : ℕ → Bool
is_segment_byte b =
    is_in_range 97 122 b || is_in_range 65 90 b || is_in_range 48 57 b || b == 45 || b == 46 || b == 95

-- a path segment: not empty, neither "." nor "..", each byte of its class
pub record IsSegment (segment : List ℕ) : Type 0 where
  pub not_empty : 0 < length segment
  pub not_dot : segment ≢ codes "."
  pub not_dots : segment ≢ codes ".."
  pub bytes : AllPass is_segment_byte segment

-- the text of a row of segments: each of them after one '/' (47)
abbrev pub slashed : List (List ℕ) → List ℕ
slashed [] = []
slashed (segment ∷ segments) = 47 ∷ (segment ++ slashed segments)

-- a path: empty, or the text of one or more segments
abbrev pub IsPath : List ℕ → Type 0
IsPath path = (segments : List (List ℕ)) × All IsSegment segments × (path ≡ slashed segments)

-- '/'
abbrev pub is_slash : ℕ → Bool
is_slash b = b == 47

-- whether a text is "." or ".."
abbrev pub is_dots : List ℕ → Bool
is_dots segment = bytes_eq segment (codes ".") || bytes_eq segment (codes "..")

-- the fault of a text as a segment that begins at a offset
abbrev pub segment_fault : ℕ → List ℕ → Option IdFault
segment_fault at segment =
    let good = prefix_len is_segment_byte segment in
    if length segment == 0 then Some (SegmentEmpty at)
    else if is_dots segment then Some (SegmentDots at)
    else if nat_lt good (length segment) then Some (PathByte (at + good))
    else None

-- the fault of the first faulty segment of a row that begins at a offset, with one '/' between each two
abbrev pub segments_fault : ℕ → List (List ℕ) → Option IdFault
segments_fault at [] = None
segments_fault at (segment ∷ segments) =
    option_or (segment_fault at segment) (segments_fault (at + length segment + 1) segments)

-- the first fault of a text as a path that begins at a offset: with its '/', where it is not empty
abbrev pub path_fault : ℕ → List ℕ → Option IdFault
path_fault at [] = None
path_fault at (slash ∷ rest) = segments_fault (at + 1) (slice_split is_slash rest)

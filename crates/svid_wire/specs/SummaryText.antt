-- The text of a summary.
use Rattle.std.specs.Prelude.{ℕ, List, [], ◌∷◌, ◌++◌}
use Rattle.std.specs.Int.{to_be_bytes, w64}
use Rattle.std.specs.List.{flat_map}
use Rattle.svid_replay.specs.Summary.{SummaryData}
use Rattle.svid_wire.specs.Versions.{magic_of}
use Rattle.svid_wire.specs.declared.version.Version.TheVariants.{Two}

-- the byte of a summary that follows the magic of version 2; a summary of version 1 has digests of other texts, and does not
-- count as one
abbrev pub summary_kind : ℕ
summary_kind = 2

-- the moment, with its most significant byte first
unfoldable pub moment_text : ℕ → List ℕ
moment_text moment = to_be_bytes w64 moment

-- the bytes before the first digest
abbrev pub summary_head : ℕ → List ℕ
summary_head moment = magic_of Two ++ summary_kind ∷ [] ++ moment_text moment

-- a digest is written as its bytes
abbrev pub digest_text : List ℕ → List ℕ
digest_text digest = digest

-- the head, and then the 32 bytes of each digest
abbrev pub summary_text : SummaryData → List ℕ
summary_text s = summary_head s.moment ++ flat_map digest_text s.digests

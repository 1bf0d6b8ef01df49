-- How the batches of the two versions differ.
use Rattle.std.specs.Prelude.{ℕ, List, [], ◌∷◌}
use Rattle.svid_replay.specs.declared.token_use.Use.{Use}
use Rattle.svid_replay.specs.Use.{text_of}
use Rattle.svid_wire.specs.Version1.{OldTells, old_magic, old_most, old_use_text}
use Rattle.svid_wire.specs.declared.version.Version.{Version}
use Rattle.svid_wire.specs.declared.version.Version.TheVariants.{One, Two}

-- what every message begins with: `JSR`, and the number of the version
abbrev pub magic_of : Version → List ℕ
magic_of One = old_magic
magic_of Two = 74 ∷ 83 ∷ 82 ∷ 2 ∷ []

-- the most uses that a batch may have
abbrev pub most_of : Version → ℕ
most_of One = old_most
most_of Two = 65536

-- how many bytes a use has
abbrev pub use_len_of : Version → ℕ
use_len_of One = 64
use_len_of Two = 65

-- the bytes of a use
abbrev pub use_text : Version → Use → List ℕ
use_text One u = old_use_text u
use_text Two u = text_of u

-- the version has a text for the use
abbrev pub CanTell : Version → Use → Type 0
CanTell One u = OldTells u
CanTell Two u = Unit {0}

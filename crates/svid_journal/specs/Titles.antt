-- The title of a file of a state folder, which no file holds.
use Rattle.std.specs.Prelude.{◌≡◌, ◌<◌, ◌^◌, ℕ, List, ◌++◌, codes, length}
use Rattle.std.specs.Int.{to_be_bytes, w64}
use Rattle.svid_journal.specs.declared.title.File.{File}
use Rattle.svid_journal.specs.declared.title.File.TheVariants.{Journal, Snapshot}
use Rattle.svid_journal.specs.declared.title.Title.{Title}

-- the kind of a file, in seven letters
abbrev pub kind_of : File → List ℕ
kind_of (Journal number) = codes "svidjnl"
kind_of Snapshot = codes "svidsnp"

-- the number of a journal, or 0
abbrev pub number_of : File → ℕ
number_of (Journal number) = number
number_of Snapshot = 0

-- 31 bytes: the kind, the number with its most significant byte first, and the folder
unfoldable pub bytes_of : Title → List ℕ
bytes_of title = kind_of title.file ++ (to_be_bytes w64 (number_of title.file) ++ title.folder)

-- a number of 64 bits, and a folder of 16 bytes
abbrev pub IsInRange : Title → Type 0
IsInRange title = (number_of title.file < 2 ^ 64) × (length title.folder ≡ 16)

-- two different files have different titles
abbrev pub TitlesDiffer : Type 0
TitlesDiffer = (one other : Title) → IsInRange one → IsInRange other → bytes_of one ≡ bytes_of other → one ≡ other

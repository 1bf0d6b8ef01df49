-- What a handle for C owns.
use Rattle.std.specs.Prelude.{ℕ, Option, None, Some}
use Rattle.std.specs.Coded.{Coded, coded_option}
use base.Fml.{Fml, ftrue}
use denote.RawPtr.{Ptr}
use Rattle.std.specs.Box.Ownership.{box_owns}
use Rattle.std.specs.Global.{Global}
use Rattle.std.specs.contracts.impls.GlobalAllocator.TheImpl.{ghosts}
use Rattle.svid_c.specs.contracts.live.Live.{the_row}

-- nothing where it is closed, and else the block with the validator, and the right to free it
abbrev pub handle_owns : Global → Ptr → Option the_row.Denot → Fml
handle_owns alloc at None = ftrue
handle_owns alloc at (Some live) = box_owns (ghosts.dealloc_token alloc) the_row at live

-- how the ghost value of a handle is stored
abbrev pub live_coded : Coded (Option the_row.Denot)
live_coded = coded_option the_row.coded

-- the word by which C tells whether a handle is open
abbrev pub open_word : Option the_row.Denot → ℕ
open_word None = 0
open_word (Some live) = 1

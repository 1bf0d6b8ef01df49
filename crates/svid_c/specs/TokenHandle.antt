-- What a handle of a token for C owns.
use Rattle.std.specs.Prelude.{ℕ, Option, None, Some}
use Rattle.std.specs.Coded.{Coded, coded_option}
use base.Fml.{Fml, ftrue}
use denote.RawPtr.{Ptr}
use Rattle.std.specs.Box.Ownership.{box_owns}
use Rattle.std.specs.Global.{Global}
use Rattle.std.specs.contracts.impls.GlobalAllocator.TheImpl.{ghosts}
use Rattle.svid_c.specs.contracts.token_read.TokenRead.{the_row}

-- nothing where it is closed, and else the block with what the token says, and the right to free it
abbrev pub read_owns : Global → Ptr → Option the_row.Denot → Fml
read_owns alloc at None = ftrue
read_owns alloc at (Some read) = box_owns (ghosts.dealloc_token alloc) the_row at read

-- how the ghost value of a handle is stored
abbrev pub read_coded : Coded (Option the_row.Denot)
read_coded = coded_option the_row.coded

-- the word by which C tells whether a handle is open
abbrev pub read_word : Option the_row.Denot → ℕ
read_word None = 0
read_word (Some read) = 1

-- What a handle of trust bundles for C owns.
use Rattle.std.specs.Prelude.{ℕ, Option, None, Some}
use Rattle.std.specs.Coded.{Coded, coded_option}
use base.Fml.{Fml, ftrue}
use denote.RawPtr.{Ptr}
use Rattle.std.specs.Box.Ownership.{box_owns}
use Rattle.std.specs.Global.{Global}
use Rattle.std.specs.contracts.impls.GlobalAllocator.TheImpl.{ghosts}
use Rattle.svid_c.specs.contracts.trust.Trust.{the_row}

-- nothing where it is closed, and else the block with the bundles, and the right to free it
abbrev pub trust_owns : Global → Ptr → Option the_row.Denot → Fml
trust_owns alloc at None = ftrue
trust_owns alloc at (Some trust) = box_owns (ghosts.dealloc_token alloc) the_row at trust

-- how the ghost value of a handle is stored
abbrev pub trust_coded : Coded (Option the_row.Denot)
trust_coded = coded_option the_row.coded

-- the word by which C tells whether a handle is open
abbrev pub trust_word : Option the_row.Denot → ℕ
trust_word None = 0
trust_word (Some trust) = 1

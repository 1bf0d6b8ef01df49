-- A handle that holds what a token says, and its two parts, own what a box of it owns.
use lib.Dec.{T, lit<}
use mir.Syntax.{impl, tnil, dnil, ty_ptr}
use mir.Val.{has_ty, WT}
use denote.RawPtr.{Ptr, block_ptr, null_ptr, ptr_val}
use mathlib.Core.List.{[]}
use denote.Signature.{Slot, plain}
use Rattle.std.proofs.BoxSteps.Form.{Bx}
use Rattle.std.specs.contracts.alloc.Global as Heap
use Rattle.std.specs.contracts.impls.GlobalAllocator.TheImpl.{ghosts, dict}
use Rattle.std.proofs.alloc.Global.TheLaws as heap
use Rattle.svid_c.specs.contracts.token_read.TokenRead as TokenRead
use Rattle.svid_c.proofs.token_read.TokenRead.TheLaws as read
use Rattle.svid_c.specs.contracts.handle.parts.Parts as Parts
use Rattle.svid_c.specs.contracts.token_handle.TokenHandle as Handle

abbrev pub E : Bx
E = record { row = TokenRead.the_row; laws = read.the_row_laws; al = record { row = Heap.the_row; laws = heap.the_row_laws; g = ghosts; d = dict; drops = impl [] tnil dnil } }

abbrev pub FromParts : Slot 0
FromParts = plain (λ _. Parts.the_row TokenRead.the_row Heap.the_row ghosts)

abbrev pub FromHandle : Slot 0
FromHandle = plain (λ _. Handle.the_row)

-- a pointer's machine value has its type
pub Ptr-Good : (p : Ptr) → T (has_ty ty_ptr (ptr_val p)) × WT (ptr_val p)
Ptr-Good (block_ptr b o) = (tt, tt)
Ptr-Good null_ptr = (tt, record { fits = lit< tt })

use Rattle.std.proofs.Common.{◌≡◌, ◌≤◌, ℕ, List, length, arith}
use Rattle.svid_id.specs.Id.{IdParts, IsId}
use Rattle.svid_c.specs.Written.{HasFirst, IsPut, put, too_short}

-- the text of an ID has room among 2,048 bytes
pub has_room : (text : List ℕ) (id : IdParts) (status : ℕ) (old new : List ℕ) → IsId text id → 2048 ≤ length old → IsPut text status old new → (status ≡ 0) × HasFirst text old new
has_room text id status old new is long (put done fits first) = (done, first)
has_room text id status old new is long (too_short done short kept) = absurd (omega (arith, is.not_long, long, short))

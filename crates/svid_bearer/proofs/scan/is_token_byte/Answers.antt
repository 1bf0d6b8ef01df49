use Rattle.std.proofs.Common.{ℕ, ◌/◌, ◌%◌, ◌^◌, Bool, nat_eq, refl, bit_and, slice_index_or}
use Rattle.std.proofs.lemmas.Bool.{agree_below_at}
use Rattle.svid_bearer.specs.Value.{is_token_byte}
use Rattle.svid_bearer.specs.declared.scan.TheConstants.{TOKEN_BYTES}
use Rattle.svid_bearer.proofs.scan.is_token_byte.Goals as goal

-- the bit of a byte
abbrev has_bit : ℕ → Bool
has_bit b = nat_eq (bit_and (slice_index_or TOKEN_BYTES (b / 64) 0 / 2 ^ (b % 64)) 1) 1

-- each of the 128 is looked at
pub returns-then-byte-lt128 : goal.returns-then-byte-lt128
returns-then-byte-lt128 c = agree_below_at has_bit is_token_byte 128 c.args.byte refl c.if-byte-lt128.true

use Rattle.std.proofs.Common.{ℕ, ◌∙◌, ◌*◌, ◌/◌, ◌%◌, ◌^◌, ap, take}
use Rattle.std.specs.Int.{from_be_bytes, w64}
use Rattle.std.specs.Int.Bits.{bit_or}
use Rattle.svid_replay.specs.Runs.{mask_of}
use Rattle.svid_replay.proofs.filter.mask.Goals as goal

pub returns : goal.returns
unfolding mask_of
returns c =
    ap (λ (h : ℕ). bit_or (bit_or (1 * 2 ^ (h % 64) % 2 ^ 64) (1 * 2 ^ (h / 64 % 64) % 2 ^ 64)) (1 * 2 ^ (h / 4096 % 64) % 2 ^ 64))
    (c.number-hash.ensures ∙ ap (λ bs. from_be_bytes w64 (take 8 bs)) c.split_at.ensures.back)

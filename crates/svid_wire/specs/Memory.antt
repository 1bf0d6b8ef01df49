-- How contracts see sinks and sources in memory.
use Rattle.std.specs.Prelude.{ℕ, ◌-◌, List, Option, option_map}

-- the calls that are left until the one that fails, after a call
abbrev pub counted_down : Option ℕ → Option ℕ
counted_down left = option_map (λ calls. calls - 1) left

-- A stream in memory: the bytes that it took or has left, the most that it moves a call, the number of the call
-- from now that fails, and how many failed.
pub record Stream : Type 0 where
  pub bytes : List ℕ
  pub step : ℕ
  pub calls_left : Option ℕ
  pub stops : ℕ

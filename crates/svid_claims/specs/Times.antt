-- What is computed of times, in whole seconds.
use Rattle.std.specs.Prelude.{ℕ, ◌+◌, ◌-◌, ◌^◌, max, min}

-- a time, or the greatest one of 64 bits
abbrev pub capped : ℕ → ℕ
capped time = min time (2 ^ 64 - 1)

-- the expiry up to which tokens may have been claimed by answers up to a time, or by what was so before
abbrev pub deaf_after : (time lasts before : ℕ) → ℕ
deaf_after time lasts before = max before (time + lasts)

-- the moment at which a member looks at an answer: `now`, or the store's time less `ahead`
abbrev pub moment_by : (now time ahead : ℕ) → ℕ
moment_by now time ahead = max now (time - ahead)

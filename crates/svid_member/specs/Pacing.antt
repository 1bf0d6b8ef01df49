-- When claims go out.
use Rattle.std.specs.Prelude.{ℕ, ◌+◌, ◌-◌, ◌*◌, ◌^◌, ◌==◌, min, Bool, ◌&&◌, ◌||◌, nat_le, nat_lt, Option, Some, None, if◌then◌else◌}
use Rattle.svid_member.specs.declared.pacing.Pacing.{Pacing as Paced}

abbrev pub new_pacing : Paced
new_pacing = record { calls = 0; at = 0; pause = 10 }

-- a moment so much later, in 64 bits
abbrev pub later : ℕ → ℕ → ℕ
later at ms = min (at + ms) (2 ^ 64 - 1)

-- claims have waited long enough for others, or enough of them wait
abbrev pub is_time : ℕ → ℕ → Paced → Bool
is_time up waiting p = (p.calls == 0) || (nat_le (later p.at 20) up || (nat_le 32 waiting && nat_lt p.calls 4))

abbrev pub may_send : ℕ → ℕ → Paced → Bool
may_send up waiting p = nat_lt 0 waiting && (nat_lt p.calls 64 && is_time up waiting p)

abbrev pub due : Paced → Option ℕ
due p = if nat_lt p.calls 64 then Some (later p.at 20) else None

abbrev pub after_send : ℕ → Paced → Paced
after_send up p = record { calls = later p.calls 1; at = up; pause = p.pause }

abbrev pub after_answer : Paced → Paced
after_answer p = record { calls = p.calls - 1; at = p.at; pause = 10 }

abbrev pub after_none : Paced → Paced
after_none p = record { calls = p.calls - 1; at = p.at; pause = min (min (p.pause * 2) (2 ^ 64 - 1)) 250 }

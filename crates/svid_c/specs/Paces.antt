-- When claims go out, as C has it.
use Rattle.std.specs.Prelude.{ℕ, Bool, true, false}
use Rattle.svid_member.specs.declared.pacing.Pacing.{Pacing}
use Rattle.svid_c.specs.declared.pacing_sent.SvidPacing.{SvidPacing}

-- a truth as a number
abbrev pub flag_of : Bool → ℕ
flag_of true = 1
flag_of false = 0

-- the numbers of C, and back
abbrev pub pacing_in : SvidPacing → Pacing
pacing_in p = record { calls = p.calls; at = p.at; pause = p.pause }

abbrev pub pacing_seen : Pacing → SvidPacing
pacing_seen p = record { calls = p.calls; at = p.at; pause = p.pause }

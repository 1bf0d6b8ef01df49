-- What a clause sees of a `Counted`.
use Rattle.std.specs.Prelude.{ℕ}
use Rattle.svid_wire.specs.declared.counted.Counted.{Counted}

-- the reader or writer inside
abbrev pub counted_inner : {T : Type 0} → Counted T → T
counted_inner c = c.inner

-- how many faults it counted
abbrev pub counted_faults : {T : Type 0} → Counted T → ℕ
counted_faults c = c.faults

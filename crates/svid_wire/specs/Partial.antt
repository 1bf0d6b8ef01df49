-- An unfinished message, as a reader keeps it.
use Rattle.std.specs.Prelude.{ℕ, ◌<◌, List, ◌++◌, take}
use Rattle.svid_wire.specs.Stage.{IsStage, field_len, stage_text}
use Rattle.svid_wire.specs.declared.partial.Partial.{Partial}

-- its bytes: those of the good fields, and the first bytes of the next one
abbrev pub held_of : Partial → List ℕ
held_of p = stage_text p.stage ++ take p.filled p.part

-- the fields before are good, and the next one is not whole
pub record IsPartial (p : Partial) : Type 0 where
  pub stage : IsStage p.stage
  pub short : p.filled < field_len p.stage

use Rattle.std.proofs.Common.{◌≡◌}
use Rattle.std.specs.Prelude.{Result, Ok, Err, IfErr}
use Rattle.svid_share.specs.declared.tool_fault.ToolFault.{ToolFault}
use Rattle.svid_share.specs.declared.tool_fault.ToolFault.TheVariants as tool

-- what holds for every result also holds when memory runs out
pub where_wanted : {T : Type 0} (r : Result T ToolFault) (P : Type 0) → P → IfErr r (λ fault. fault ≡ tool.OutOfMemory → P)
where_wanted (Ok made) P holds = tt
where_wanted (Err fault) P holds = λ _. holds

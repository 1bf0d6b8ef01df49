-- Which input memory was refused for, among those that are read whole before they are judged.
use Rattle.std.specs.Prelude.{ℕ, List, ◌⊎◌}
use Rattle.svid_wire.specs.Streams.{Drawn, IsRead}
use Rattle.svid_share.specs.Inputs.{IsUnread, most_bytes}
use Rattle.svid_share.specs.declared.tool_fault.ToolFault.TheVariants as tool

-- the input was read to its end
pub record WasRead (input : Drawn) : Type 0 where
  pub text : List ℕ
  pub read : IsRead input most_bytes text

-- memory was refused for the input with this number: for its bytes or, after it was read to its end, for its content
abbrev pub WantsMemoryFor : ℕ → Drawn → Type 0
WantsMemoryFor number input = IsUnread number input tool.OutOfMemory ⊎ WasRead input

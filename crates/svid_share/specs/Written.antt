-- What an engine does that joins its inputs, and then writes one text. `due` gives the text for the messages of each input.
use Rattle.std.specs.Prelude.{◌≡◌, ℕ, List}
use Rattle.svid_share.specs.declared.tool_fault.ToolFault.{ToolFault}
use Rattle.svid_share.specs.declared.tool_fault.ToolFault.TheVariants as tool
use Rattle.svid_share.specs.Inputs.{AreWhole, IsJoinFault, Sources, inputs_of}
use Rattle.svid_wire.specs.Streams.{Drawn, Taken, TookAll, TookPart}
use Rattle.svid_wire.specs.declared.message.Message.{Message}

-- all inputs are whole, and the text is due for their messages
pub record IsDue (due : List (List Message) → List ℕ) (inputs : List Drawn) (text : List ℕ) : Type 0 where
  pub told : List (List Message)
  pub whole : AreWhole inputs told
  pub is : text ≡ due told

-- the text that is due was written
pub record IsWritten (due : List (List Message) → List ℕ) (inputs : List Drawn) (out : Taken) : Type 0 where
  pub text : List ℕ
  pub is : IsDue due inputs text
  pub written : TookAll out text

-- a part of the text that is due was written
pub record IsPartlyWritten (due : List (List Message) → List ℕ) (inputs : List Drawn) (out : Taken) : Type 0 where
  pub text : List ℕ
  pub is : IsDue due inputs text
  pub part : TookPart out text

-- when the engine gives up: the sink stopped, an input was refused, or memory ran out when all inputs are whole
abbrev pub IsEngineFault : {S : Type 0} → (List (List Message) → List ℕ) → Sources S → Taken → ToolFault → Type 0
IsEngineFault due s out tool.Write = IsPartlyWritten due (inputs_of s) out
IsEngineFault due s out given = IsJoinFault s given

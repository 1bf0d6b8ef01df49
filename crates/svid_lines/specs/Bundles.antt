-- The first input of the engines that read trust bundles.
use Rattle.std.specs.Prelude.{◌≡◌, ℕ, List, Some}
use Rattle.svid_keys.specs.Bundles.{Bundle, bundles_fault, bundles_in}
use Rattle.svid_keys.specs.declared.bundle_fault.BundleFault.{BundleFault}
use Rattle.svid_wire.specs.Streams.{Drawn, IsRead}
use Rattle.svid_share.specs.Inputs.{IsUnread, most_bytes}
use Rattle.svid_lines.specs.Memory.{WantsMemoryFor}
use Rattle.svid_share.specs.declared.tool_fault.ToolFault.{ToolFault}
use Rattle.svid_share.specs.declared.tool_fault.ToolFault.TheVariants as tool

-- the input was read, and its bytes are these bundles
pub record AreBundlesRead (input : Drawn) (bundles : List Bundle) : Type 0 where
  pub text : List ℕ
  pub read : IsRead input most_bytes text
  pub are : bundles_in text ≡ Some bundles

-- the input was read, and its bytes are no bundles, with this fault
pub record AreBundlesRefused (input : Drawn) (fault : BundleFault) : Type 0 where
  pub text : List ℕ
  pub read : IsRead input most_bytes text
  pub why : bundles_fault text ≡ Some fault

-- why the first input is refused: its bytes are no bundles, it could not be read, or memory was refused for it
abbrev pub IsBundlesFault : Drawn → ToolFault → Type 0
IsBundlesFault input (tool.Bundles fault) = AreBundlesRefused input fault
IsBundlesFault input tool.OutOfMemory = WantsMemoryFor 1 input
IsBundlesFault input given = IsUnread 1 input given

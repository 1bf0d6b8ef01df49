-- Bytes that are refused as trust bundles, and what a call says of them.
use Rattle.std.proofs.Common.{◌≡◌, ◌≤◌, ◌&&◌, ℕ, List, length, true, false, refl}
use Rattle.std.proofs.lemmas.Bool.{and_parts}
use Rattle.svid_documents.specs.Document.{is_unnamed}
use Rattle.svid_share.specs.Inputs.{most_bytes}
use Rattle.svid_share.specs.declared.tool_fault.ToolFault.{ToolFault}
use Rattle.svid_share.specs.declared.tool_fault.ToolFault.TheVariants as tool
use Rattle.svid_c.specs.Inputs.{AreNoBundles, RefusesBundles, is_of_name, no_bundles, unnamed}
use Rattle.svid_c.specs.Status.{fault_number, told_fault, told_length}
use Rattle.svid_c.specs.declared.told.SvidTold.{SvidTold}

within : (bytes : List ℕ) (why : ToolFault) → AreNoBundles bytes why → is_of_name why ≡ true → length bytes ≤ most_bytes
within bytes (tool.Bundles given) are named = are.0
within bytes (tool.TooMuch input) are named = cc
within bytes tool.OutOfMemory are named = cc
within bytes (tool.Wire input message offset reason) are named = absurd are
within bytes tool.NotSummary are named = absurd are
within bytes (tool.Table line) are named = absurd are
within bytes (tool.Read input) are named = absurd are
within bytes tool.Write are named = absurd are

-- bytes that are refused for a name are the bundle of one trust domain
pub one_unnamed : (bytes : List ℕ) (why : ToolFault) (status : ℕ) (told : SvidTold) → AreNoBundles bytes why → (is_of_name why && is_unnamed bytes) ≡ true
    → status ≡ 37 → told ≡ told_length 0 → RefusesBundles bytes status told
one_unnamed bytes why status told are lacks number said =
    let both = and_parts (is_of_name why) (is_unnamed bytes) lacks in
    unnamed (within bytes why are both.0) both.1 number said

-- bytes are refused, and are no such bundle
pub none_unnamed : (bytes : List ℕ) (why : ToolFault) (status : ℕ) (told : SvidTold) → AreNoBundles bytes why → (is_of_name why && is_unnamed bytes) ≡ false
    → status ≡ fault_number why → told ≡ told_fault why → RefusesBundles bytes status told
none_unnamed bytes why status told are lacks number said = no_bundles why are lacks number said

-- memory was refused for the bytes
pub no_memory : (bytes : List ℕ) (status : ℕ) (told : SvidTold) → status ≡ fault_number tool.OutOfMemory → told ≡ told_fault tool.OutOfMemory
    → RefusesBundles bytes status told
no_memory bytes status told number said = no_bundles tool.OutOfMemory tt refl number said

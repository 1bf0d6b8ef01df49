-- Why a file is not the bundle of the one trust domain that the command line names.
use Rattle.std.specs.Prelude.{◌≡◌, ℕ, List, [], ◌∷◌, Err}
use Rattle.svid_documents.specs.Document.{DocumentData, bundle}
use Rattle.svid_documents.specs.Join.{joined}
use Rattle.svid_documents.specs.declared.document_fault.DocumentFault.{DocumentFault}
use Rattle.svid_documents.specs.declared.document_fault.DocumentFault.TheVariants as document
use Rattle.svid_keys.specs.declared.bundle_fault.BundleFault.{BundleFault}
use Rattle.svid_keys.specs.declared.bundle_fault.BundleFault.TheVariants as bundles

-- a fault of a document as one of bundles (the bundle of one trust domain always has a name, and no earlier document has it)
abbrev pub bundle_fault : DocumentFault → BundleFault
bundle_fault document.NotObject = bundles.NotObject
bundle_fault document.Unnamed = bundles.NotObject
bundle_fault (document.Domain index) = bundles.Domain index
bundle_fault (document.Keys index) = bundles.Keys index
bundle_fault (document.Twice index) = bundles.Domain index
bundle_fault document.OutOfMemory = bundles.OutOfMemory

-- the bundle of one trust domain
abbrev pub only : List ℕ → List ℕ → List DocumentData
only domain text = bundle domain text ∷ []

-- why a text is not the bundle of a trust domain: it is refused as that document; or memory was refused
abbrev pub IsNoBundleOf : List ℕ → List ℕ → BundleFault → Type 0
IsNoBundleOf domain text bundles.OutOfMemory = Unit {0}
IsNoBundleOf domain text fault = (given : DocumentFault) × (fault ≡ bundle_fault given) × (joined (only domain text) ≡ Err (record { document = 1; fault = given }))

use Rattle.std.proofs.Common.{◌≡◌, ℕ, List, Option, Some, sym, subst}
use Rattle.svid_keys.specs.Bundles.{Bundle}
use Rattle.svid_check.specs.Said.{Said}
use Rattle.svid_c.specs.Live.{Kept}
use Rattle.svid_c.specs.Own.{Named, named}
use Rattle.svid_c.specs.Trust.{Exchanges, ExchangesHeld, ReadsHeld, none_read, reads, trusted}
use Rattle.svid_c.specs.declared.own_fault.OwnFault.{OwnFault}
use Rattle.svid_c.specs.declared.bundles_question.SvidQuestion.{SvidQuestion}
use Rattle.svid_c.specs.declared.told.SvidTold.{SvidTold}
use Rattle.svid_c.specs.declared.trust.Trust.{Trust}

-- a question of these bytes, as C sees it
abbrev pub question_told : List ℕ → SvidQuestion
question_told bytes = record { bytes = bytes }

-- an exchange with what was taken out of a handle, and is put back, is one with what the handle holds
pub held_exchanges : (status : ℕ) (told : SvidTold) (old new : Option Trust) (a b : Trust) (x y : Kept)
    → old ≡ Some a → new ≡ Some b → Exchanges status told a.bundles b.bundles x y → ExchangesHeld status told old new x y
held_exchanges status told old new a b x y was is does =
    subst (λ (o : Option Trust). ExchangesHeld status told o new x y) (sym was) (subst (λ (n : Option Trust). ExchangesHeld status told (Some a) n x y) (sym is) does)

-- what a call does with what was taken out of a handle, it does with what the handle holds
pub held_reads : (B : Type 0) (D : List Bundle → Type 0) (status : ℕ) (told : SvidTold) (old : Option Trust) (a : Trust)
    → old ≡ Some a → ReadsHeld B D status told a.bundles → ReadsHeld B D status told (trusted old)
held_reads B D status told old a was does = subst (λ (o : Option Trust). ReadsHeld B D status told (trusted o)) (sym was) does

-- and so of a handle of a token
pub held_token : (B : Type 0) (D : Said → Type 0) (status : ℕ) (told : SvidTold) (old : Option Said) (t : Said)
    → old ≡ Some t → D t → ReadsHeld B D status told old
held_token B D status told old t was does = reads t was does

-- what a call does by audiences that were read, it does by those that a text has
pub held_named : (AreOwn : List (List ℕ) → Type 0) (IsOwnFault : OwnFault → Type 0) (B : Type 0) (D : List (List ℕ) → List Bundle → Type 0) (status : ℕ) (told : SvidTold)
    → (held : Option (List Bundle)) (names : List (List ℕ)) → AreOwn names → ReadsHeld B (D names) status told held
    → ReadsHeld B (λ bundles. Named AreOwn IsOwnFault B (λ (n : List (List ℕ)). D n bundles) status told) status told held
held_named AreOwn IsOwnFault B D status told held names are (none_read none number length before) = none_read none number length before
held_named AreOwn IsOwnFault B D status told held names are (reads bundles is does) = reads bundles is (named names are does)

-- Patterns of callers, in lines.
use Rattle.std.proofs.Common.{◌≡◌, ◌⊎◌, inl, inr, ℕ, zero, suc, ◌+◌, ◌<◌, List, [], ◌∷◌, Option, Some, None, ap, arith, drop, get_or, length, subst, sym}
use Rattle.std.proofs.lemmas.List.{drop_more}
use Rattle.std.specs.Prelude.{unwrap_or}
use Rattle.svid_id.specs.Id.{IdParts}
use Rattle.svid_id.specs.declared.id_fault.IdFault.{IdFault}
use Rattle.svid_id.specs.declared.id_fault.IdFault.TheVariants.{OutOfMemory}
use Rattle.svid_allow.specs.Allows.{Allows}
use Rattle.svid_allow.specs.Pattern.{PatternParts}
use Rattle.svid_c.specs.Peers.{AllowedBy}

-- one that allows an ID is among all
pub is_among : (ps : List PatternParts) (i : ℕ) (d : PatternParts) (id : IdParts) → i < length ps → Allows (get_or ps i d) id → AllowedBy ps id
is_among [] i d id within allows = absurd (omega arith)
is_among (p ∷ ps) zero d id within allows = inl allows
is_among (p ∷ ps) (suc i) d id within allows = inr (is_among ps i d id (omega arith) allows)

rest_allows : (p : PatternParts) (ps : List PatternParts) (id : IdParts) → ¬ Allows p id → AllowedBy (p ∷ ps) id → AllowedBy ps id
rest_allows p ps id not (inl allows) = absurd (not allows)
rest_allows p ps id not (inr rest) = rest

-- one that does not allow it may be left out
pub left_out : (ps : List PatternParts) (i : ℕ) (d : PatternParts) (id : IdParts) → i < length ps → ¬ Allows (get_or ps i d) id → AllowedBy (drop i ps) id → AllowedBy (drop (i + 1) ps) id
left_out ps i d id within not some = rest_allows (get_or ps i d) (drop (i + 1) ps) id not (subst (λ xs. AllowedBy xs id) (drop_more ps i d within) some)

-- the fault of a text is one of its own, or memory was refused
pub own_fault : (own : Option IdFault) (fault : IdFault) → fault ≡ unwrap_or own OutOfMemory → (fault ≡ OutOfMemory) ⊎ (own ≡ Some fault)
own_fault None fault is = inl is
own_fault (Some f) fault is = inr (ap Some (sym is))

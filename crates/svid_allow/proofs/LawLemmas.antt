-- What the laws say, from the lemmas about both specs.
use Rattle.std.proofs.Common.{◌≡◌, ◌↔◌, ◌<◌, ◌++◌, List, [], ℕ, ◌∷◌, codes, false, length, arith, refl, sym, subst, ◌∙◌}
use Rattle.svid_id.specs.Id.{IdParts, IsId}
use Rattle.svid_id.proofs.IdLemmas.{parts_of-IsId}
use Rattle.svid_allow.specs.Allows.{Allows, AllowsFrom, IsBelow, below}
use Rattle.svid_allow.specs.Pattern.{IsPattern, PatternParts, reach_of}
use Rattle.svid_allow.specs.declared.reach.Reach.{Reach}
use Rattle.svid_allow.specs.declared.reach.Reach.TheVariants.{Alone, Domain}
use Rattle.svid_allow.proofs.AllowsLemmas.{Allows-domain}
use Rattle.svid_allow.proofs.PatternLemmas.{IsPattern-below, IsPattern-id, IsPattern-unique, pattern-id, reach-none, reach-some}

-- a pattern that is known allows what its parts allow
known : (pattern made : PatternParts) (id : IdParts) → pattern ≡ made → Allows pattern id ↔ Allows made id
known pattern made id is =
    (subst (λ (p : PatternParts). Allows p id) is, subst (λ (p : PatternParts). Allows p id) (sym is))

pub alone-allows : (text : List ℕ) (one id : IdParts) (pattern : PatternParts) → IsId text one → 0 < length one.path
    → IsPattern text pattern → Allows pattern id ↔ (id ≡ one)
alone-allows text one id pattern is some also =
    known pattern (record { id = one; reach = Alone }) id (pattern-id text one Alone pattern is (reach-some one.path some) also)

pub domain-allows : (text : List ℕ) (one id : IdParts) (pattern : PatternParts) → IsId text one → one.path ≡ []
    → IsPattern text pattern → Allows pattern id ↔ (id.domain ≡ one.domain)
domain-allows text one id pattern is none also =
    known pattern (record { id = one; reach = Domain }) id (pattern-id text one Domain pattern is (reach-none one.path none) also)

pub below-allows : (text : List ℕ) (above id : IdParts) (pattern : PatternParts) → IsId text above
    → IsPattern (text ++ codes "/*") pattern → Allows pattern id ↔ ((id.domain ≡ above.domain) × IsBelow above.path id.path)
below-allows text above id pattern is also =
    known pattern (below above) id (IsPattern-unique (text ++ codes "/*") pattern (below above) also (IsPattern-below text above is))

-- an ID allows itself
itself : (path : List ℕ) (id : IdParts) → AllowsFrom (reach_of false path) id id
itself [] id = refl
itself (x ∷ path) id = subst (λ (r : Reach). AllowsFrom r id id) (sym (reach-some (x ∷ path) (omega arith))) refl

pub id-is-pattern : (text : List ℕ) (id : IdParts) → IsId text id
    → (pattern : PatternParts) × IsPattern text pattern × Allows pattern id
id-is-pattern text id is = (_, IsPattern-id text id is, itself id.path id)

pub same-domain : (pattern : PatternParts) (one other : IdParts) → Allows pattern one → Allows pattern other
    → one.domain ≡ other.domain
same-domain pattern one other is also =
    Allows-domain pattern.reach pattern.id one is ∙ sym (Allows-domain pattern.reach pattern.id other also)

pub by-texts : (text name : List ℕ) (one other : PatternParts) (id also : IdParts) → IsPattern text one
    → IsPattern text other → IsId name id → IsId name also → Allows one id → Allows other also
by-texts text name one other id also is is_too names names_too allowed =
    let same = sym (parts_of-IsId name id names) ∙ parts_of-IsId name also names_too in
    subst (λ (i : IdParts). Allows other i) same
    (subst (λ (p : PatternParts). Allows p id) (IsPattern-unique text one other is is_too) allowed)

-- Patterns of SPIFFE IDs.
use Rattle.std.specs.Prelude.{◌≡◌, ℕ, ◌-◌, ◌<◌, Bool, ◌&&◌, ◌==◌, nat_eq, nat_lt, true, false, if◌then◌else◌, List, [], ◌++◌, length, take, codes, Option, Some, None, is_none, ⊤}
use Rattle.std.specs.List.{ends_with}
use Rattle.svid_id.specs.Id.{IdParts, IsId, id_fault, id_text, parts_of}
use Rattle.svid_id.specs.declared.id_fault.IdFault.{IdFault}
use Rattle.svid_allow.specs.declared.reach.Reach.{Reach}
use Rattle.svid_allow.specs.declared.reach.Reach.TheVariants.{Alone, Below, Domain}

-- what a pattern is made of: an ID, and how far the pattern reaches from it
pub record PatternParts : Type 0 where
  pub id : IdParts
  pub reach : Reach

-- what stands behind the ID
abbrev pub mark : Reach → List ℕ
mark Alone = []
mark Below = codes "/*"
mark Domain = []

-- the text of a pattern of these parts
abbrev pub pattern_text : PatternParts → List ℕ
pattern_text pattern = id_text pattern.id ++ mark pattern.reach

-- a pattern of one ID has a path, and one of a whole trust domain has none
abbrev pub ReachesFrom : Reach → List ℕ → Type 0
ReachesFrom Alone path = 0 < length path
ReachesFrom Below path = ⊤
ReachesFrom Domain path = path ≡ []

-- a text is the pattern of these parts
pub record IsPattern (text : List ℕ) (pattern : PatternParts) : Type 0 where
  pub spelled : text ≡ pattern_text pattern
  pub id : IsId (id_text pattern.id) pattern.id
  pub reach : ReachesFrom pattern.reach pattern.id.path

-- whether a text ends in "/*" behind the scheme: in the ten bytes of "spiffe://*" the '/' is one of the scheme
abbrev pub has_mark : List ℕ → Bool
has_mark text = nat_lt 10 (length text) && ends_with nat_eq text (codes "/*")

-- a text without its mark, if it has one
abbrev pub unmarked : Bool → List ℕ → List ℕ
unmarked true text = take (length text - 2) text
unmarked false text = text

-- the ID in a pattern
abbrev pub id_in : List ℕ → List ℕ
id_in text = unmarked (has_mark text) text

-- how far a pattern with a mark reaches, or one without, by the path of its ID
abbrev pub reach_of : Bool → List ℕ → Reach
reach_of true path = Below
reach_of false path = if length path == 0 then Domain else Alone

-- the first fault of a text as a pattern: that of the ID in it, which the pattern begins with
abbrev pub pattern_fault : List ℕ → Option IdFault
pattern_fault text = id_fault (id_in text)

-- the parts of a text that begins with an ID
abbrev pub pattern_of : List ℕ → PatternParts
pattern_of text =
    let id = parts_of (id_in text) in
    record { id = id; reach = reach_of (has_mark text) id.path }

-- the parts of a text, if it is a pattern
abbrev pub pattern_parts : List ℕ → Option PatternParts
pattern_parts text = if is_none (pattern_fault text) then Some (pattern_of text) else None

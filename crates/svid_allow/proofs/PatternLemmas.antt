-- Lemmas about specs/Pattern.antt.
use Rattle.std.proofs.Common.{◌≡◌, ◌≢◌, ℕ, ◌-◌, ◌<◌, ◌≤◌, ◌==◌, ◌&&◌, Bool, true, false, nat_eq, nat_lt, if◌then◌else◌, List, [], ◌∷◌, ◌++◌, length, take, codes, Option, Some, None, is_none, refl, sym, ap, subst, ◌∙◌, inl, inr, append-nil, length-append, arith}
use Rattle.std.specs.List.{AllByRecursion, AllPass, ends_with, list_all}
use Rattle.std.specs.Str.{IsAscii, IsUtf8}
use Rattle.std.proofs.lemmas.Bool.{cases_Bool}
use Rattle.std.proofs.lemmas.Bool.Decides.{nat_tests, Decides-eqb}
use Rattle.std.proofs.lemmas.List.{take_at}
use Rattle.std.proofs.lemmas.List.Elements.{recursion_from_All}
use Rattle.std.proofs.lemmas.List.Folds.{list_all-append}
use Rattle.std.proofs.lemmas.List.Sums.{AllPass-from_list_all, list_all-from_AllPass}
use Rattle.std.proofs.lemmas.Slice.Eq.{ends_is}
use Rattle.std.proofs.lemmas.Str.{IsAscii-append, IsUtf8-from_ascii}
use Rattle.std.proofs.lemmas.Str.Ascii.{IsAscii-cons, IsAscii-nil}
use Rattle.svid_id.specs.Domain.{is_domain_byte}
use Rattle.svid_id.specs.Id.{IdParts, IsId, id_text, parts_of, scheme}
use Rattle.svid_id.specs.Path.{IsSegment, is_segment_byte, slashed}
use Rattle.svid_id.proofs.IdLemmas.{IsAscii-IsId, IsId-from_fault, id_fault-IsId, parts_of-IsId}
use Rattle.svid_id.specs.declared.id_fault.IdFault.{IdFault}
use Rattle.svid_allow.specs.Allows.{is_no_star}
use Rattle.svid_allow.specs.Pattern.{IsPattern, PatternParts, ReachesFrom, has_mark, id_in, mark, pattern_fault, pattern_of, pattern_parts, pattern_text, reach_of, unmarked}
use Rattle.svid_allow.specs.declared.reach.Reach.{Reach}
use Rattle.svid_allow.specs.declared.reach.Reach.TheVariants.{Alone, Below, Domain}

-- bytes of a class without '*' are none
no_star-class : (class : ℕ → Bool) → ((b : ℕ) → class b ≡ true → is_no_star b ≡ true) → (s : List ℕ) → AllPass class s
    → list_all is_no_star s ≡ true
no_star-class class out s all = list_all-from_AllPass is_no_star s (λ k d h. out _ (all k d h))

no_star-slashed : (ss : List (List ℕ)) → AllByRecursion IsSegment ss → list_all is_no_star (slashed ss) ≡ true
no_star-slashed [] all = refl
no_star-slashed (s ∷ ss) all =
    rw (list_all-append is_no_star s (slashed ss), no_star-class is_segment_byte (λ b is. grind (arith, nat_tests)) s all.0.bytes)
    (no_star-slashed ss all.1)

-- no byte of an ID is '*'
pub no_star-IsId : (text : List ℕ) (id : IdParts) → IsId text id → list_all is_no_star text ≡ true
no_star-IsId text id is =
    let name = no_star-class is_domain_byte (λ b in_class. grind (arith, nat_tests)) id.domain is.domain.bytes in
    let path : list_all is_no_star id.path ≡ true = rw is.path.2 (no_star-slashed is.path.0 (recursion_from_All IsSegment is.path.0 is.path.1)) in
    rw (is.spelled, list_all-append is_no_star scheme (id.domain ++ id.path), list_all-append is_no_star id.domain id.path, name, path) refl

pub AllPass-no_star : (text : List ℕ) (id : IdParts) → IsId text id → AllPass is_no_star text
AllPass-no_star text id is = AllPass-from_list_all is_no_star text (no_star-IsId text id is)

both : (a b : Bool) → (a && b) ≡ true → (a ≡ true) × (b ≡ true)
both true true holds = (refl, refl)
both true false holds = absurd (cc)
both false b holds = absurd (cc)

-- what has the mark is a text and the mark
has_mark-cut : (text : List ℕ) → has_mark text ≡ true → text ≡ take (length text - 2) text ++ codes "/*"
has_mark-cut text holds =
    let two = both (nat_lt 10 (length text)) (ends_with nat_eq text (codes "/*")) holds in
    (ends_is Decides-eqb text (codes "/*") _ refl).0 two.1

-- no ID ends in it
has_mark-IsId : (text : List ℕ) (id : IdParts) → IsId text id → has_mark text ≡ false
has_mark-IsId text id is =
    elim (cases_Bool (has_mark text)) [
      | inl found ↦
          let front = take (length text - 2) text in
          let passes : list_all is_no_star (front ++ codes "/*") ≡ true = subst (λ (s : List ℕ). list_all is_no_star s ≡ true) (has_mark-cut text found) (no_star-IsId text id is) in
          let parts = both (list_all is_no_star front) false (sym (list_all-append is_no_star front (codes "/*")) ∙ passes) in
          absurd (cc)
      | inr missing ↦ missing
    ]

-- an ID and the mark have it
has_mark-append : (front : List ℕ) (id : IdParts) → IsId front id → has_mark (front ++ codes "/*") ≡ true
has_mark-append front id is =
    let some = is.domain.not_empty in
    let len = ap length is.spelled in
    let size : 10 < length (front ++ codes "/*") = omega (arith, some, len, length-append front (codes "/*"), length-append id.domain id.path) in
    let long : nat_lt 10 (length (front ++ codes "/*")) ≡ true = grind (arith, nat_tests) in
    let ends : ends_with nat_eq (front ++ codes "/*") (codes "/*") ≡ true = (ends_is Decides-eqb (front ++ codes "/*") (codes "/*") _ refl).1 front refl in
    rw (long, ends) refl

-- how a path and the reach from it fit together, where there is no mark
reach-fits : (path : List ℕ) → ReachesFrom (reach_of false path) path × (mark (reach_of false path) ≡ [])
reach-fits [] = (refl, refl)
reach-fits (x ∷ path) =
    let some : (length (x ∷ path) == 0) ≡ false = grind (arith, nat_tests) in
    (rw some (omega arith), rw some refl)

reach-is : (reach : Reach) (path : List ℕ) → ReachesFrom reach path → reach ≢ Below → reach_of false path ≡ reach
reach-is Alone [] fits other = absurd (omega arith)
reach-is Alone (x ∷ path) fits other =
    let some : (length (x ∷ path) == 0) ≡ false = grind (arith, nat_tests) in rw some refl
reach-is Below path fits other = absurd (other refl)
reach-is Domain path fits other = rw fits refl

-- the ID in a pattern, and its reach
pub parts-IsPattern : (text : List ℕ) (id : IdParts) (reach : Reach) → IsPattern text (record { id = id; reach = reach })
    → (unmarked (has_mark text) text ≡ id_text id) × (reach_of (has_mark text) id.path ≡ reach)
parts-IsPattern text id Alone is =
    let whole : text ≡ id_text id = is.spelled ∙ append-nil (id_text id) in
    let missing : has_mark text ≡ false = rw whole (has_mark-IsId (id_text id) id is.id) in
    (rw missing whole, rw missing (reach-is Alone id.path is.reach (λ same. cc)))
parts-IsPattern text id Below is =
    let holds : has_mark text ≡ true = rw is.spelled (has_mark-append (id_text id) id is.id) in
    let len : length text - 2 ≡ length (id_text id) = omega (arith, ap length is.spelled, length-append (id_text id) (codes "/*")) in
    let front : take (length text - 2) text ≡ id_text id = subst (λ (s : List ℕ). take (length text - 2) s ≡ id_text id) (sym is.spelled) (take_at (id_text id) (codes "/*") (length text - 2) (sym len)) in
    (rw holds front, rw holds refl)
parts-IsPattern text id Domain is =
    let whole : text ≡ id_text id = is.spelled ∙ append-nil (id_text id) in
    let missing : has_mark text ≡ false = rw whole (has_mark-IsId (id_text id) id is.id) in
    (rw missing whole, rw missing (reach-is Domain id.path is.reach (λ same. cc)))

-- a pattern has no fault
pub pattern_fault-IsPattern : (text : List ℕ) (pattern : PatternParts) → IsPattern text pattern → pattern_fault text ≡ None
pattern_fault-IsPattern text pattern is =
    rw (parts-IsPattern text pattern.id pattern.reach is).0 (id_fault-IsId (id_text pattern.id) pattern.id is.id)

made : (marked : Bool) (cut : List ℕ) (x id : IdParts) (reach : Reach) → x ≡ id → reach_of marked id.path ≡ reach
    → (let a : PatternParts = record { id = x; reach = reach_of marked x.path } in
    let b : PatternParts = record { id = id; reach = reach } in a ≡ b)
made marked cut x id reach is far = rw (is, far) refl

-- its parts are found in its text
pub pattern_of-IsPattern : (text : List ℕ) (pattern : PatternParts) → IsPattern text pattern → pattern_of text ≡ pattern
pattern_of-IsPattern text pattern is =
    let (cut, far) = parts-IsPattern text pattern.id pattern.reach is in
    made (has_mark text) (id_in text) (parts_of (id_in text)) pattern.id pattern.reach
    (ap parts_of cut ∙ parts_of-IsId (id_text pattern.id) pattern.id is.id) far

pub pattern_parts-IsPattern : (text : List ℕ) (pattern : PatternParts) → IsPattern text pattern
    → pattern_parts text ≡ Some pattern
pattern_parts-IsPattern text pattern is =
    rw (pattern_fault-IsPattern text pattern is) (ap Some (pattern_of-IsPattern text pattern is))

-- so it has one row of parts
pub IsPattern-unique : (text : List ℕ) (one other : PatternParts) → IsPattern text one → IsPattern text other → one ≡ other
IsPattern-unique text one other is also = sym (pattern_of-IsPattern text one is) ∙ pattern_of-IsPattern text other also

cut-IsPattern : (marked : Bool) (text : List ℕ) (id : IdParts)
    → (marked ≡ true → text ≡ take (length text - 2) text ++ codes "/*") → IsId (unmarked marked text) id
    → IsPattern text (record { id = id; reach = reach_of marked id.path })
cut-IsPattern true text id cut is =
    record {
      spelled = cut refl ∙ ap (λ s. s ++ codes "/*") is.spelled;
      id = subst (λ (s : List ℕ). IsId s id) is.spelled is;
      reach = tt;
    }
cut-IsPattern false text id cut is =
    let fits = reach-fits id.path in
    record {
      spelled = rw fits.1 (is.spelled ∙ sym (append-nil (id_text id)));
      id = subst (λ (s : List ℕ). IsId s id) is.spelled is;
      reach = fits.0;
    }

-- what has an ID in it is a pattern
pub IsPattern-from_id : (text : List ℕ) (id : IdParts) (reach : Reach) → IsId (id_in text) id
    → reach ≡ reach_of (has_mark text) id.path → IsPattern text (record { id = id; reach = reach })
IsPattern-from_id text id reach is far = rw far (cut-IsPattern (has_mark text) text id (has_mark-cut text) is)

-- what has no fault is one
pub IsPattern-from_fault : (text : List ℕ) → pattern_fault text ≡ None → IsPattern text (pattern_of text)
IsPattern-from_fault text none =
    IsPattern-from_id text (parts_of (id_in text)) _ (IsId-from_fault (id_in text) none) refl

-- a mark is ASCII
IsAscii-mark : (reach : Reach) → IsAscii (mark reach)
IsAscii-mark Alone = IsAscii-nil
IsAscii-mark Below = IsAscii-cons 47 (42 ∷ []) (omega arith) (IsAscii-cons 42 [] (omega arith) IsAscii-nil)
IsAscii-mark Domain = IsAscii-nil

-- so a pattern is UTF-8
pub IsUtf8-IsPattern : (text : List ℕ) (pattern : PatternParts) → IsPattern text pattern → IsUtf8 text
IsUtf8-IsPattern text pattern is =
    IsUtf8-from_ascii text (rw is.spelled (IsAscii-append (id_text pattern.id) (mark pattern.reach) (IsAscii-IsId (id_text pattern.id) pattern.id is.id) (IsAscii-mark pattern.reach)))

-- what is read from a text is its pattern
some_if : (fault : Option IdFault) (x pattern : PatternParts) → (if is_none fault then Some x else None) ≡ Some pattern
    → (fault ≡ None) × (x ≡ pattern)
some_if None x pattern read = (refl, cc)
some_if (Some fault) x pattern read = absurd (cc)

pub IsPattern-from_parts : (text : List ℕ) (pattern : PatternParts) → pattern_parts text ≡ Some pattern → IsPattern text pattern
IsPattern-from_parts text pattern read =
    let known = some_if (pattern_fault text) (pattern_of text) pattern read in
    subst (λ (p : PatternParts). IsPattern text p) known.1 (IsPattern-from_fault text known.0)

-- it is read from the text of its parts again
pub IsPattern-again : (text : List ℕ) (pattern : PatternParts) → IsPattern text pattern
    → pattern_parts (pattern_text pattern) ≡ Some pattern
IsPattern-again text pattern is =
    subst (λ (s : List ℕ). pattern_parts s ≡ Some pattern) is.spelled (pattern_parts-IsPattern text pattern is)

short_mark : (reach : Reach) → length (mark reach) ≤ 2
short_mark Alone = omega arith
short_mark Below = omega arith
short_mark Domain = omega arith

-- it has two bytes more than an ID at the most
pub IsPattern-short : (text : List ℕ) (pattern : PatternParts) → IsPattern text pattern → length text ≤ 2050
IsPattern-short text pattern is =
    let id = is.id.not_long in
    omega (arith, id, short_mark pattern.reach, ap length is.spelled, length-append (id_text pattern.id) (mark pattern.reach))

-- an ID is a pattern
pub IsPattern-id : (text : List ℕ) (id : IdParts) → IsId text id
    → IsPattern text (record { id = id; reach = reach_of false id.path })
IsPattern-id text id is = cut-IsPattern false text id (λ holds. absurd (cc)) is

-- and so is an ID and the mark
pub IsPattern-below : (text : List ℕ) (id : IdParts) → IsId text id
    → IsPattern (text ++ codes "/*") (record { id = id; reach = Below })
IsPattern-below text id is =
    record {
      spelled = ap (λ s. s ++ codes "/*") is.spelled;
      id = subst (λ (s : List ℕ). IsId s id) is.spelled is;
      reach = tt;
    }

-- the pattern that an ID is, by its path
pub pattern-id : (text : List ℕ) (id : IdParts) (reach : Reach) (pattern : PatternParts) → IsId text id
    → reach_of false id.path ≡ reach → IsPattern text pattern → pattern ≡ record { id = id; reach = reach }
pattern-id text id reach pattern is far also =
    IsPattern-unique text pattern _ also (subst (λ (r : Reach). IsPattern text (record { id = id; reach = r })) far (IsPattern-id text id is))

pub reach-some : (path : List ℕ) → 0 < length path → reach_of false path ≡ Alone
reach-some path some = reach-is Alone path some (λ same. cc)

pub reach-none : (path : List ℕ) → path ≡ [] → reach_of false path ≡ Domain
reach-none path none = reach-is Domain path none (λ same. cc)

-- Lemmas about specs/Allows.antt.
use Rattle.std.proofs.Common.{◌≡◌, ◌≢◌, ◌↔◌, ◌⊎◌, inl, inr, ℕ, ◌+◌, ◌<◌, Bool, List, [], ◌∷◌, ◌++◌, length, drop, nat_eq, IsTrue, bytes_eq, refl, sym, ap, subst, ◌∙◌, append_assoc, append-nil, length-append, arith}
use Rattle.std.specs.List.{All, AllByRecursion, starts_with}
use Rattle.std.proofs.lemmas.List.Elements.{All-from_recursion, recursion_from_All}
use Rattle.std.proofs.lemmas.Slice.Eq.{bytes_eq-Decides, starts_is}
use Rattle.std.proofs.lemmas.Bool.Decides.{Decides-eqb}
use Rattle.svid_id.specs.Id.{IdParts, IsId, id_text, parts_of}
use Rattle.svid_id.specs.Path.{IsPath, IsSegment, slashed}
use Rattle.svid_id.proofs.IdLemmas.{parts_of-IsId}
use Rattle.svid_id.proofs.PathLemmas.{IsSegment-slash}
use Rattle.svid_allow.specs.Allows.{Allows, AllowsFrom, IsBelow, alone, below, child}
use Rattle.svid_allow.specs.declared.reach.Reach.{Reach}
use Rattle.svid_allow.specs.declared.reach.Reach.TheVariants.{Alone, Below, Domain}

-- two IDs are the same exactly if their texts are
pub id_answer : (r : Bool) (s t : List ℕ) (one id : IdParts) → IsId s one → IsId t id → r ≡ bytes_eq s t
    → IsTrue r ↔ (id ≡ one)
id_answer r s t one id is also tested =
    let decides = bytes_eq-Decides s t in (
      λ holds. let same : s ≡ t = decides.0 (sym tested ∙ holds) in
          sym (parts_of-IsId t id also) ∙ (ap parts_of (sym same) ∙ parts_of-IsId s one is),
      λ same. tested ∙ decides.1 (is.spelled ∙ (ap id_text (sym same) ∙ sym also.spelled)),
    )

-- no byte of a text is '/'
abbrev HasNoSlash : List ℕ → Type 0
HasNoSlash s = AllByRecursion (λ b. b ≢ 47) s

-- a text is empty or begins with '/'
abbrev GoesOn : List ℕ → Type 0
GoesOn [] = Unit {0}
GoesOn (x ∷ s) = x ≡ 47

-- texts that go on at a '/' after their first pieces are the same if the wholes are
same_piece : (s t u v : List ℕ) → HasNoSlash s → HasNoSlash t → GoesOn u → GoesOn v → s ++ u ≡ t ++ v
    → (s ≡ t) × (u ≡ v)
same_piece [] [] u v free clear on goes same = (refl, same)
same_piece [] (y ∷ t) [] v free clear on goes same = absurd (cc)
same_piece [] (y ∷ t) (x ∷ u) v free clear on goes same =
    let heads : x ≡ y = cc in absurd (clear.0 (sym heads ∙ on))
same_piece (x ∷ s) [] u [] free clear on goes same = absurd (cc)
same_piece (x ∷ s) [] u (y ∷ v) free clear on goes same =
    let heads : x ≡ y = cc in absurd (free.0 (heads ∙ goes))
same_piece (x ∷ s) (y ∷ t) u v free clear on goes same =
    let heads : x ≡ y = cc in
    let tails : s ++ u ≡ t ++ v = cc in
    let (piece, rest) = same_piece s t u v free.1 clear.1 on goes tails in
    (rw (heads, piece) refl, rest)

-- a segment has no '/'
slashless : (s : List ℕ) → IsSegment s → HasNoSlash s
slashless s is =
    recursion_from_All (λ b. b ≢ 47) s (λ k d h. λ slash. let other = IsSegment-slash s is k d h in absurd (cc))

-- a path goes on at a '/'
slashed-goes_on : (ss : List (List ℕ)) → GoesOn (slashed ss)
slashed-goes_on [] = tt
slashed-goes_on (s ∷ ss) = refl

append-goes_on : (s t : List ℕ) → GoesOn s → GoesOn (s ++ 47 ∷ t)
append-goes_on [] t on = refl
append-goes_on (x ∷ s) t on = on

rows_same : (s t : List ℕ) (ts row : List (List ℕ)) → s ≡ t → ts ≡ row → t ∷ ts ≡ s ∷ row
rows_same s t ts row same rest = rw (same, rest) refl

-- where the text of a row of segments begins with that of another one and a '/', the row begins with the other one
more_segments : (ss ts : List (List ℕ)) (rest : List ℕ) → AllByRecursion IsSegment ss → AllByRecursion IsSegment ts
    → slashed ts ≡ slashed ss ++ 47 ∷ rest
    → (more : List (List ℕ)) × (0 < length more) × (ts ≡ ss ++ more)
more_segments [] [] rest all each begins = absurd (cc)
more_segments [] (t ∷ ts) rest all each begins = (t ∷ ts, omega arith, refl)
more_segments (s ∷ ss) [] rest all each begins = absurd (cc)
more_segments (s ∷ ss) (t ∷ ts) rest all each begins =
    let inner : t ++ slashed ts ≡ (s ++ slashed ss) ++ 47 ∷ rest = cc in
    let two = same_piece t s (slashed ts) (slashed ss ++ 47 ∷ rest) (slashless t each.0) (slashless s all.0)
    (slashed-goes_on ts) (append-goes_on (slashed ss) rest (slashed-goes_on ss))
    (inner ∙ append_assoc s (slashed ss) (47 ∷ rest)) in
    let (more, some, is) = more_segments ss ts rest all.1 each.1 two.1 in
    (more, some, rows_same s t ts (ss ++ more) (sym two.0) is)

-- the text of two rows
pub slashed-append : (ss ts : List (List ℕ)) → slashed (ss ++ ts) ≡ slashed ss ++ slashed ts
slashed-append [] ts = refl
slashed-append (s ∷ ss) ts =
    ap (λ rest. 47 ∷ rest)
    (ap (λ rest. s ++ rest) (slashed-append ss ts) ∙ sym (append_assoc s (slashed ss) (slashed ts)))

-- a path is below another one exactly if it begins with it and a '/'
pub IsBelow-from_text : (above path : List ℕ) → IsPath above → IsPath path
    → (rest : List ℕ) × (path ≡ above ++ 47 ∷ rest) → IsBelow above path
IsBelow-from_text above path (ss, all, above_is) (ts, each, path_is) (rest, begins) =
    let texts : slashed ts ≡ slashed ss ++ 47 ∷ rest = sym path_is ∙ (begins ∙ ap (λ s. s ++ 47 ∷ rest) above_is) in
    let (more, some, is) = more_segments ss ts rest (recursion_from_All IsSegment ss all) (recursion_from_All IsSegment ts each) texts in
    record {
      first = ss;
      more = more;
      above_is = above_is;
      path_is = path_is ∙ ap slashed is;
      segments = subst (λ (row : List (List ℕ)). All IsSegment row) is each;
      some = some;
    }

begins-with : (first more : List (List ℕ)) → 0 < length more
    → (rest : List ℕ) × (slashed (first ++ more) ≡ slashed first ++ 47 ∷ rest)
begins-with first [] some = absurd (omega arith)
begins-with first (s ∷ more) some = (s ++ slashed more, slashed-append first (s ∷ more))

pub IsBelow-text : (above path : List ℕ) → IsBelow above path → (rest : List ℕ) × (path ≡ above ++ 47 ∷ rest)
IsBelow-text above path is =
    let (rest, begins) = begins-with is.first is.more is.some in
    (rest, is.path_is ∙ (begins ∙ ap (λ s. s ++ 47 ∷ rest) (sym is.above_is)))

-- so the test of the bytes tells it
pub below_answer : (r : Bool) (p a path above : List ℕ) → p ≡ path → a ≡ above → IsPath path → IsPath above
    → IsTrue r ↔ ((rest : List ℕ) × (p ≡ a ++ 47 ∷ rest)) → IsTrue r ↔ IsBelow above path
below_answer r p a path above p_is a_is is above_is tested = (
  λ holds. let (rest, begins) = tested.0 holds in
      IsBelow-from_text above path above_is is (rest, sym p_is ∙ (begins ∙ ap (λ s. s ++ 47 ∷ rest) a_is)),
  λ below. let (rest, begins) = IsBelow-text above path below in
      tested.1 (rest, p_is ∙ (begins ∙ ap (λ s. s ++ 47 ∷ rest) (sym a_is))),
)

append-cancel : (s t u : List ℕ) → s ++ t ≡ s ++ u → t ≡ u
append-cancel [] t u same = same
append-cancel (x ∷ s) t u same = append-cancel s t u (let tails : s ++ t ≡ s ++ u = cc in tails)

-- what the two steps of the test say
pub goes_answer : (r : Bool) (path above rest slash : List ℕ) → slash ≡ 47 ∷ [] → path ≡ above ++ rest
    → r ≡ starts_with nat_eq rest slash → IsTrue r ↔ ((tail : List ℕ) × (path ≡ above ++ 47 ∷ tail))
goes_answer r path above rest slash slash_is cut tested =
    let starts = starts_is Decides-eqb rest (47 ∷ []) r (subst (λ (s : List ℕ). r ≡ starts_with nat_eq rest s) slash_is tested) in (
      λ holds. (drop 1 rest, cut ∙ ap (λ s. above ++ s) (starts.0 holds)),
      λ (tail, is). starts.1 tail (append-cancel above rest (47 ∷ tail) (sym cut ∙ is)),
    )

-- a segment of a row of segments, and the rows at both ends of one
one_of : (first more : List (List ℕ)) (s : List ℕ) → AllByRecursion IsSegment (first ++ s ∷ more) → IsSegment s
one_of [] more s all = all.0
one_of (t ∷ first) more s all = one_of first more s all.1

front_of : (first more : List (List ℕ)) → AllByRecursion IsSegment (first ++ more) → AllByRecursion IsSegment first
front_of [] more all = tt
front_of (s ∷ first) more all = (all.0, front_of first more all.1)

both_of : (first more : List (List ℕ)) → AllByRecursion IsSegment first → AllByRecursion IsSegment more
    → AllByRecursion IsSegment (first ++ more)
both_of [] more all each = each
both_of (s ∷ first) more all each = (all.0, both_of first more all.1 each)

-- the text of a row with one segment more
slashed-one : (first : List (List ℕ)) (s : List ℕ) → slashed (first ++ s ∷ []) ≡ slashed first ++ 47 ∷ s
slashed-one first s =
    slashed-append first (s ∷ []) ∙ ap (λ t. slashed first ++ 47 ∷ t) (append-nil s)

-- what is below a path has one segment more, or is below a path that has
step_of : (first more : List (List ℕ)) (above path : List ℕ) → 0 < length more → All IsSegment (first ++ more)
    → above ≡ slashed first → path ≡ slashed (first ++ more)
    → (segment : List ℕ) × IsSegment segment × ((path ≡ above ++ 47 ∷ segment) ⊎ IsBelow (above ++ 47 ∷ segment) path)
step_of first [] above path some all above_is path_is = absurd (omega arith)
step_of first (s ∷ []) above path some all above_is path_is = (
  s,
  one_of first [] s (recursion_from_All IsSegment (first ++ s ∷ []) all),
  inl (path_is ∙ (slashed-one first s ∙ ap (λ t. t ++ 47 ∷ s) (sym above_is))),
)
step_of first (s ∷ t ∷ more) above path some all above_is path_is =
    let row : (first ++ s ∷ []) ++ t ∷ more ≡ first ++ s ∷ t ∷ more = append_assoc first (s ∷ []) (t ∷ more) in (
      s,
      one_of first (t ∷ more) s (recursion_from_All IsSegment (first ++ s ∷ t ∷ more) all),
      inr (record {
        first = first ++ s ∷ [];
        more = t ∷ more;
        above_is = ap (λ u. u ++ 47 ∷ s) above_is ∙ sym (slashed-one first s);
        path_is = path_is ∙ ap slashed (sym row);
        segments = subst (λ (ss : List (List ℕ)). All IsSegment ss) (sym row) all;
        some = omega arith;
      }),
    )

IsBelow-one : (above path s : List ℕ) → IsPath above → IsSegment s → path ≡ above ++ 47 ∷ s → IsBelow above path
IsBelow-one above path s (ss, all, above_is) is path_is =
    record {
      first = ss;
      more = s ∷ [];
      above_is = above_is;
      path_is = path_is ∙ (ap (λ t. t ++ 47 ∷ s) above_is ∙ sym (slashed-one ss s));
      segments = All-from_recursion IsSegment (ss ++ s ∷ []) (both_of ss (s ∷ []) (recursion_from_All IsSegment ss all) (is, tt));
      some = omega arith;
    }

IsBelow-more : (above path s : List ℕ) → IsPath above → IsBelow (above ++ 47 ∷ s) path → IsBelow above path
IsBelow-more above path s (ss, all, above_is) is =
    let texts : slashed is.first ≡ slashed ss ++ 47 ∷ s = sym is.above_is ∙ ap (λ t. t ++ 47 ∷ s) above_is in
    let each = recursion_from_All IsSegment (is.first ++ is.more) is.segments in
    let (more, some, first_is) = more_segments ss is.first s (recursion_from_All IsSegment ss all) (front_of is.first is.more each) texts in
    let row : is.first ++ is.more ≡ ss ++ (more ++ is.more) = ap (λ r. r ++ is.more) first_is ∙ append_assoc ss more is.more in
    record {
      first = ss;
      more = more ++ is.more;
      above_is = above_is;
      path_is = is.path_is ∙ ap slashed row;
      segments = subst (λ (r : List (List ℕ)). All IsSegment r) row is.segments;
      some = omega (arith, some, length-append more is.more);
    }

parts_same : (d e p q : List ℕ) → d ≡ e → p ≡ q
    → (let a : IdParts = record { domain = d; path = p } in let b : IdParts = record { domain = e; path = q } in a ≡ b)
parts_same d e p q domain path = rw (domain, path) refl

same_parts : (one other : IdParts) → one.domain ≡ other.domain → one.path ≡ other.path → one ≡ other
same_parts one other domain path = parts_same one.domain other.domain one.path other.path domain path

pub below-step : (above id : IdParts) → IsPath above.path → Allows (below above) id
    ↔ ((segment : List ℕ) × IsSegment segment
    × (Allows (alone (child above segment)) id ⊎ Allows (below (child above segment)) id))
below-step above id is = (
  λ (domain, deep).
      let (s, segment, either) = step_of deep.first deep.more above.path id.path deep.some deep.segments deep.above_is deep.path_is in (
        s,
        segment,
        elim either [
          | inl path ↦ inl (same_parts id (child above s) domain path)
          | inr lower ↦ inr (domain, lower)
        ],
      ),
  λ (s, segment, either). elim either [
    | inl same ↦ (ap (λ (i : IdParts). i.domain) same, IsBelow-one above.path id.path s is segment (ap (λ (i : IdParts). i.path) same))
    | inr lower ↦ (lower.0, IsBelow-more above.path id.path s is lower.1)
  ],
)

-- what is below a path is longer by more than a '/'
longer_than : (first more : List (List ℕ)) → 0 < length more → AllByRecursion IsSegment (first ++ more)
    → length (slashed first) + 1 < length (slashed (first ++ more))
longer_than first [] some all = absurd (omega arith)
longer_than first (s ∷ more) some all =
    let full = (one_of first more s all).not_empty in
    omega (arith, full, ap length (slashed-append first (s ∷ more)), length-append (slashed first) (slashed (s ∷ more)), length-append s (slashed more))

pub below-longer : (above id : IdParts) → Allows (below above) id → length above.path + 1 < length id.path
below-longer above id (domain, deep) =
    let more = longer_than deep.first deep.more deep.some (recursion_from_All IsSegment (deep.first ++ deep.more) deep.segments) in
    omega (arith, more, ap length deep.above_is, ap length deep.path_is)

-- a pattern has one trust domain
pub Allows-domain : (reach : Reach) (of id : IdParts) → AllowsFrom reach of id → id.domain ≡ of.domain
Allows-domain Alone of id is = ap (λ (i : IdParts). i.domain) is
Allows-domain Below of id is = is.0
Allows-domain Domain of id is = is

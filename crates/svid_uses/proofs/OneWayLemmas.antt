-- Uses are batched in one way.
use Rattle.std.proofs.Common.{◌≡◌, ◌⊎◌, ◌<◌, ◌≤◌, ℕ, zero, suc, Bool, true, false, List, [], ◌∷◌, ◌++◌, length, length-append, take, drop, get_or, refl, sym, ◌∙◌, ap, subst, arith, Contains, inl, inr}
use Rattle.std.proofs.lemmas.Bool.{cases_lt}
use Rattle.std.proofs.lemmas.List.{drop_at, take_at}
use Rattle.std.specs.List.{AllByRecursion, list_any}
use Rattle.std.specs.Ordering.{eq_by_cmp}
use Rattle.svid_replay.specs.declared.token_use.Use.{Use}
use Rattle.svid_replay.specs.Batches.{BatchData}
use Rattle.svid_replay.proofs.ListLemmas.{any_in, found}
use Rattle.svid_replay.proofs.SetsLemmas.{same_rising}
use Rattle.svid_log.specs.Values.{uses_in}
use Rattle.svid_uses.specs.Batched.{AreCut}
use Rattle.svid_uses.specs.Texts.{BatchedOneWay}
use Rattle.svid_uses.specs.Time.{HasSameUses, IsInTime, time_cmp}
use Rattle.svid_uses.proofs.TimeLemmas.{each_contained, time_exact, time_total}

any_also : (us vs : List Use) → ((u : Use) → Contains us u → Contains vs u) → (p : Use → Bool) → list_any p us ≡ true → list_any p vs ≡ true
any_also us vs has p any = found (Contains vs) p (list_any p vs ≡ true) us (each_contained (Contains vs) us has) any (λ x there e. any_in p vs x there e)

same_answer : (a b : Bool) → (a ≡ true → b ≡ true) → (b ≡ true → a ≡ true) → a ≡ b
same_answer true b f g = sym (f refl)
same_answer false false f g = refl
same_answer false true f g = g refl

-- lists in time that have the same uses are the same
same_in_time : (us vs : List Use) → IsInTime us → IsInTime vs → HasSameUses us vs → us ≡ vs
same_in_time us vs up up' same =
    same_rising time_total time_exact us vs up up' (λ q. same_answer (list_any (eq_by_cmp time_cmp q) us) (list_any (eq_by_cmp time_cmp q) vs)
    (any_also us vs (λ u. (same u).0) (eq_by_cmp time_cmp q)) (any_also vs us (λ u. (same u).1) (eq_by_cmp time_cmp q)))

-- a use of a batch was made at its moment
at_moment : (m : ℕ) (us : List Use) (i : ℕ) (d : Use) → i < length us → AllByRecursion (λ u. u.at ≡ m) us → (get_or us i d).at ≡ m
at_moment m [] i d lt own = absurd (omega arith)
at_moment m (u ∷ us) zero d lt own = own.0
at_moment m (u ∷ us) (suc i) d lt own = at_moment m us i d (omega arith) own.1

-- of two lists with equal prefixes, the use after the shorter prefix is in the longer one
behind_front : (xs ys more rest : List Use) (v : Use) → xs ++ (v ∷ more) ≡ ys ++ rest → length xs < length ys → get_or ys (length xs) v ≡ v
behind_front [] [] more rest v e lt = absurd (omega arith)
behind_front [] (y ∷ ys) more rest v e lt = ap (λ (us : List Use). get_or us 0 v) (sym e)
behind_front (x ∷ xs) [] more rest v e lt = absurd (omega arith)
behind_front (x ∷ xs) (y ∷ ys) more rest v e lt = behind_front xs ys more rest v (ap (λ (us : List Use). drop 1 us) e) (omega arith)

-- the first batch of one cut has no fewer uses than that of another
no_shorter : (us : List Use) (b c : BatchData) (bs cs : List BatchData) → b.moment ≡ c.moment → AreCut us (b ∷ bs) → AreCut us (c ∷ cs) → length b.uses < length c.uses → ⊥
no_shorter us b c bs cs same cut other lt = by_next bs cut
  where
    by_uses : (d : BatchData) (ds : List BatchData) (vs : List Use) → AreCut us (b ∷ d ∷ ds) → d.uses ≡ vs → ⊥
    by_uses d ds [] cuts is = let some : 0 < length d.uses = cuts.some.1.0 in omega (arith, ap length is)
    by_uses d ds (v ∷ vs) cuts is =
        let lists : b.uses ++ (v ∷ (vs ++ uses_in ds)) ≡ c.uses ++ uses_in cs = ap (λ (xs : List Use). b.uses ++ (xs ++ uses_in ds)) (sym is) ∙ (cuts.whole ∙ sym other.whole) in
        let here : get_or c.uses (length b.uses) v ≡ v = behind_front b.uses c.uses (vs ++ uses_in ds) (uses_in cs) v lists lt in
        let at : v.at ≡ c.moment = ap (λ (u : Use). u.at) (sym here) ∙ at_moment c.moment c.uses (length b.uses) v lt other.own.0 in
        let own : v.at ≡ d.moment = (subst (AllByRecursion (λ u. u.at ≡ d.moment)) is cuts.own.1.0).0 in
        let full : length b.uses ≡ 65536 = cuts.few.0 (same ∙ (sym at ∙ own)) in
        let few : length c.uses ≤ 65536 = other.good.0.few in
        omega arith

    by_next : (ds : List BatchData) → AreCut us (b ∷ ds) → ⊥
    by_next [] cuts = omega (arith, ap length (cuts.whole ∙ sym other.whole), length-append b.uses [], length-append c.uses (uses_in cs))
    by_next (d ∷ ds) cuts = by_uses d ds d.uses cuts refl

first_of : (us xs rest : List Use) → xs ++ rest ≡ us → 0 < length xs → (d : Use) → get_or xs 0 d ≡ get_or us 0 d
first_of us [] rest e some d = absurd (omega arith)
first_of us (x ∷ xs) rest e some d = ap (λ (ys : List Use). get_or ys 0 d) e

pub cut_once : (us : List Use) (bs cs : List BatchData) → AreCut us bs → AreCut us cs → bs ≡ cs
cut_once us [] [] cut other = refl
cut_once us [] (c ∷ cs) cut other = let some : 0 < length c.uses = other.some.0 in absurd (omega (arith, ap length (cut.whole ∙ sym other.whole), length-append c.uses (uses_in cs)))
cut_once us (b ∷ bs) [] cut other = let some : 0 < length b.uses = cut.some.0 in absurd (omega (arith, ap length (cut.whole ∙ sym other.whole), length-append b.uses (uses_in bs)))
cut_once us (b ∷ bs) (c ∷ cs) cut other =
    let rest = cut_once (uses_in bs) bs cs (record { whole = refl; good = cut.good.1; own = cut.own.1; some = cut.some.1; few = cut.few.1 })
    (record { whole = sym rests; good = other.good.1; own = other.own.1; some = other.some.1; few = other.few.1 }) in
    ap (λ (d : BatchData). d ∷ bs) same_batch ∙ ap (λ (ds : List BatchData). c ∷ ds) rest
  where
    moments_of : (xs : List Use) → b.uses ≡ xs → b.moment ≡ c.moment
    moments_of [] e = let some : 0 < length b.uses = cut.some.0 in absurd (omega (arith, ap length e))
    moments_of (u ∷ xs) e =
        let first : get_or b.uses 0 u ≡ get_or c.uses 0 u = first_of us b.uses (uses_in bs) cut.whole cut.some.0 u ∙ sym (first_of us c.uses (uses_in cs) other.whole other.some.0 u) in
        sym (at_moment b.moment b.uses 0 u cut.some.0 cut.own.0) ∙ (ap (λ (v : Use). v.at) first ∙ at_moment c.moment c.uses 0 u other.some.0 other.own.0)

    moments : b.moment ≡ c.moment
    moments = moments_of b.uses refl

    lengths : (length b.uses < length c.uses) ⊎ (length c.uses ≤ length b.uses) → (length c.uses < length b.uses) ⊎ (length b.uses ≤ length c.uses) → length b.uses ≡ length c.uses
    lengths (inl lt) other_way = absurd (no_shorter us b c bs cs moments cut other lt)
    lengths (inr ge) (inl lt) = absurd (no_shorter us c b cs bs (sym moments) other cut lt)
    lengths (inr ge) (inr le) = omega arith

    long : length b.uses ≡ length c.uses
    long = lengths (cases_lt (length b.uses) (length c.uses)) (cases_lt (length c.uses) (length b.uses))

    lists : b.uses ++ uses_in bs ≡ c.uses ++ uses_in cs
    lists = cut.whole ∙ sym other.whole

    same_uses : b.uses ≡ c.uses
    same_uses = sym (take_at b.uses (uses_in bs) (length c.uses) long) ∙ (ap (take (length c.uses)) lists ∙ take_at c.uses (uses_in cs) (length c.uses) refl)

    rests : uses_in bs ≡ uses_in cs
    rests = sym (drop_at b.uses (uses_in bs) (length c.uses) long) ∙ (ap (drop (length c.uses)) lists ∙ drop_at c.uses (uses_in cs) (length c.uses) refl)

    same_batch : b ≡ c
    same_batch = λ i. record { moment = moments i; uses = same_uses i }

pub batched_one_way : BatchedOneWay
batched_one_way uses others a b same one other =
    let sorted : one.sorted ≡ other.sorted = same_in_time one.sorted other.sorted one.in_time other.in_time
    (λ u. (λ has. (other.same u).0 ((same u).0 ((one.same u).1 has)), λ has. (one.same u).0 ((same u).1 ((other.same u).1 has)))) in
    cut_once other.sorted a b (subst (λ us. AreCut us a) sorted one.cut) other.cut

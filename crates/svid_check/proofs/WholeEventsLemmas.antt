-- A take of a whole record is the takes of the batches that it came of, or of fronts of them.
use Rattle.std.proofs.Common.{◌≡◌, ℕ, zero, suc, ◌≤◌, max, Bool, true, false, cond, ◌&&◌, ◌||◌, nat_lt, List, [], ◌∷◌, ◌++◌, map, take, Option, None, Some, refl, sym, ap, ◌∙◌, subst, arith, inl, inr, if◌then◌else◌}
use Rattle.std.specs.Prelude.{Ok, Err, slice_get}
use Rattle.std.specs.List.{AllByRecursion, filter, list_any}
use Rattle.std.specs.List.Sorted.{IsStrictlySortedBy}
use Rattle.std.specs.Ordering.{eq_by_cmp, is_lt}
use Rattle.std.specs.declared.cmp.Ordering.TheVariants.{Less}
use Rattle.std.proofs.lemmas.Bool.{le-ltb}
use Rattle.std.proofs.lemmas.Cmp.{tied_itself}
use Rattle.std.proofs.lemmas.List.{append-nil, append_assoc}
use Rattle.svid_replay.specs.Batches.{BatchData, IsBatch}
use Rattle.svid_replay.specs.Buckets.{raised_to}
use Rattle.svid_replay.specs.declared.token_use.Use.{Use}
use Rattle.svid_replay.specs.Parts.{join_all}
use Rattle.svid_replay.specs.Records.{State, batch_state, join, state_of}
use Rattle.svid_replay.specs.Sets.{holds, rising}
use Rattle.svid_replay.specs.Use.{IsRising, use_cmp}
use Rattle.svid_replay.specs.Uses.{Uses, uses_in}
use Rattle.svid_replay.proofs.ListLemmas.{each_weaker, none_same}
use Rattle.svid_replay.proofs.RecordsLemmas.{good_rises, holds-join, is_join, join_assoc, join_comm, moment-join}
use Rattle.svid_replay.proofs.SetsLemmas.{holds-rising, rising_rises}
use Rattle.svid_replay.proofs.TestsLemmas.{and-false, is_less}
use Rattle.svid_replay.proofs.UseLemmas.{use_total}
use Rattle.svid_replay.proofs.UsesLemmas.{any-filter, holds-uses_in, same_uses}
use Rattle.svid_check.specs.declared.take_fault.TakeFault.TheVariants.{OutOfMemory, TooFarAhead}
use Rattle.svid_check.specs.RunEvents.{ArePlaced, AreTakes, RecordTakesAreEvents, took_all}
use Rattle.svid_check.specs.Runs.{Terms}
use Rattle.svid_check.specs.World.{Entry, Event, Member, Posting, Take, Took, World, far, front, happen, happens, joined, logged, parts_in, put, take_part, take_posting, ticked, took}
use Rattle.svid_check.proofs.IndexesLemmas.{put_own}

-- Fronts of batches.

-- a use is less than another
abbrev before : Use → Use → Bool
before refused u = is_lt (use_cmp u refused)

-- what is not less, no later use is
not_before : (refused u v : Use) → before refused u ≡ false → use_cmp u v ≡ Less → before refused v ≡ false
not_before refused u v not less = elim (before refused v) as (λ b. before refused v ≡ b → b ≡ false) [
  | true ↦ λ e. sym (ap is_lt (use_total.trans u v refused less (is_less (use_cmp v refused) e))) ∙ not
  | false ↦ λ e. refl
] refl

-- the uses of a rising list that are less than another are its first ones
first_before : (refused : Use) (us : List Use) → IsRising us → (n : ℕ) × (take n us ≡ filter (before refused) us)
unfolding IsStrictlySortedBy
first_before refused [] up = (zero, refl)
first_before refused (u ∷ us) up = elim (before refused u) as (λ b. before refused u ≡ b → (n : ℕ) × (take n (u ∷ us) ≡ cond b (u ∷ filter (before refused) us) (filter (before refused) us))) [
  | true ↦ λ e. let rest = first_before refused us up.1 in (suc rest.0, ap (λ l. u ∷ l) rest.1)
  | false ↦ λ e. (zero, sym (none_same (before refused) us (each_weaker _ _ (λ v less. not_before refused u v e less) us up.0)))
] refl

-- those in front of one of them are those that are less than it
front_is : (front : List Use) (refused : Use) (rest : List Use) → IsRising (front ++ refused ∷ rest) → front ≡ filter (before refused) (front ++ refused ∷ rest)
unfolding IsStrictlySortedBy
front_is [] refused rest up =
    let itself : before refused refused ≡ false = ap is_lt (tied_itself use_total refused) in
    sym (none_same (before refused) (refused ∷ rest) (itself, each_weaker _ _ (λ v less. not_before refused refused v itself less) rest up.0))
front_is (u ∷ front) refused rest up =
    let less : before refused u ≡ true = ap is_lt (at_seam front up.0) in
    ap (λ l. u ∷ l) (front_is front refused rest up.1) ∙ sym (ap (λ (b : Bool). cond b (u ∷ filter (before refused) (front ++ refused ∷ rest)) (filter (before refused) (front ++ refused ∷ rest))) less)
  where
    at_seam : (vs : List Use) → AllByRecursion (λ y. use_cmp u y ≡ Less) (vs ++ refused ∷ rest) → use_cmp u refused ≡ Less
    at_seam [] all = all.0
    at_seam (v ∷ vs) all = at_seam vs all.1

-- a batch with its uses that are less than another
abbrev cut_at : Use → BatchData → BatchData
cut_at refused b = record { moment = b.moment; uses = filter (before refused) b.uses }

-- a record has the moment of another, and its uses that are less than this one
record IsFrontOf (refused : Use) (s r : State) : Type 0 where
  moment : s.moment ≡ r.moment
  uses : (u : Use) → holds s.uses u ≡ (before refused u && holds r.uses u)

none_held : (u : Use) → holds (uses_in []) u ≡ false
none_held u = holds-uses_in [] u

nothing_front : (refused : Use) → IsFrontOf refused (state_of 0 []) (state_of 0 [])
nothing_front refused = record { moment = refl; uses = λ u. none_held u ∙ sym (ap (λ h. before refused u && h) (none_held u) ∙ and-false (before refused u)) }

both_front : (p l b h : Bool) → (l && ((p && b) || (p && h))) ≡ (p && (l && (b || h)))
both_front true l b h = refl
both_front false l b h = and-false l

joined_front : (refused : Use) (s r : State) (b : BatchData) → IsFrontOf refused s r → IsFrontOf refused (join s (batch_state (cut_at refused b))) (join r (batch_state b))
joined_front refused s r b h =
    let c = batch_state (cut_at refused b) in
    let d = batch_state b in
    let same : max s.moment b.moment ≡ max r.moment b.moment = ap (λ n. max n b.moment) h.moment in
    record {
      moment = moment-join s c ∙ same ∙ sym (moment-join r d);
      uses = λ u.
          let p = before refused u in
          let cuts : holds c.uses u ≡ (p && holds d.uses u) = holds-uses_in (filter (before refused) b.uses) u ∙ any-filter (before refused) u b.uses ∙ ap (λ t. p && t) (sym (holds-uses_in b.uses u)) in
          holds-join s c u ∙ ap (λ n. nat_lt n u.exp && (holds c.uses u || holds s.uses u)) same
          ∙ ap (λ t. nat_lt (max r.moment b.moment) u.exp && (t || holds s.uses u)) cuts
          ∙ ap (λ t. nat_lt (max r.moment b.moment) u.exp && ((p && holds d.uses u) || t)) (h.uses u)
          ∙ both_front p (nat_lt (max r.moment b.moment) u.exp) (holds d.uses u) (holds r.uses u) ∙ ap (λ t. p && t) (sym (holds-join r d u));
    }

all_front : (refused : Use) (bs : List BatchData) (s r : State) → IsFrontOf refused s r → IsFrontOf refused (join_all s (map (cut_at refused) bs)) (join_all r bs)
all_front refused [] s r h = h
all_front refused (b ∷ bs) s r h = all_front refused bs (join s (batch_state (cut_at refused b))) (join r (batch_state b)) (joined_front refused s r b h)

same_states : (a b : State) → a.moment ≡ b.moment → a.uses ≡ b.uses → a ≡ b
same_states a b moments uses = ap (λ n. record { moment = n; uses = a.uses }) moments ∙ ap (λ (s : Uses). record { moment = b.moment; uses = s }) uses

-- the front of a record in front of one of its uses is such
front_of : (r s : State) (front : List Use) (refused : Use) (rest : List Use) → rising r.uses ≡ front ++ refused ∷ rest → IsFrontOf refused s r → s ≡ state_of r.moment front
front_of r s front refused rest parts h =
    let is : front ≡ filter (before refused) (rising r.uses) =
    front_is front refused rest (subst IsRising parts (rising_rises use_cmp r.uses)) ∙ ap (filter (before refused)) (sym parts) in
    same_states s (state_of r.moment front) h.moment (same_uses s.uses (uses_in front) (λ u.
    h.uses u ∙ sym (
    holds-uses_in front u ∙ ap (λ (l : List Use). list_any (eq_by_cmp use_cmp u) l) is ∙ any-filter (before refused) u (rising r.uses)
    ∙ ap (λ t. before refused u && t) (sym (holds-rising use_cmp r.uses u))
    )))

-- Joins.

pub join_all_over : (x s : State) (bs : List BatchData) → join_all (join x s) bs ≡ join x (join_all s bs)
join_all_over x s [] = refl
join_all_over x s (b ∷ bs) = ap (λ (r : State). join_all r bs) (join_assoc x s (batch_state b)) ∙ join_all_over x (join s (batch_state b)) bs

moments_join : (m n : ℕ) → join (state_of m []) (state_of n []) ≡ state_of (max m n) []
moments_join m n = sym (is_join (state_of m []) (state_of n []) (state_of (max m n) []) refl (λ u.
    none_held u ∙ sym (ap (λ h. nat_lt (max m n) u.exp && (h || h)) (none_held u) ∙ and-false (nat_lt (max m n) u.exp))))

-- a record at a moment is not advanced by an earlier one
raised_once : (a : State) (now m : ℕ) → m ≤ now → join (raised_to a now) (state_of m []) ≡ raised_to a now
raised_once a now m le =
    let same : max now m ≡ now = omega (arith, le) in
    join_assoc a (state_of now []) (state_of m []) ∙ ap (join a) (moments_join now m) ∙ ap (raised_to a) same

-- nor what was joined to it
raised_over : (a s : State) (now : ℕ) → raised_to (join (raised_to a now) s) now ≡ join (raised_to a now) s
raised_over a s now =
    let x = raised_to a now in
    let n = state_of now [] in
    join_assoc x s n ∙ ap (join x) (join_comm s n) ∙ sym (join_assoc x n s) ∙ ap (λ (r : State). join r s) (raised_once a now now (omega arith))

later_all : (s : State) (bs : List BatchData) → s.moment ≤ (join_all s bs).moment
later_all s [] = omega arith
later_all s (b ∷ bs) =
    let t = join s (batch_state b) in
    let first : t.moment ≡ max s.moment b.moment = moment-join s (batch_state b) in
    let rest : t.moment ≤ (join_all t bs).moment = later_all t bs in
    omega (arith, first, rest)

all_within : (s : State) (bs : List BatchData) (far : ℕ) → (join_all s bs).moment ≤ far → AllByRecursion (λ b. b.moment ≤ far) bs
all_within s [] far h = tt
all_within s (b ∷ bs) far h =
    let t = join s (batch_state b) in
    let first : t.moment ≡ max s.moment b.moment = moment-join s (batch_state b) in
    let rest : t.moment ≤ (join_all t bs).moment = later_all t bs in
    (omega (arith, first, rest, h), all_within t bs far h)

-- Takes.

module _ (group : ℕ → Terms) (v now : ℕ) where
  -- a take of a batch that was posted, within the horizon
  pub take_is : (w : World) (k p : ℕ) (q : Posting) (b : BatchData) (refused : Option ℕ) → slice_get w.pool k ≡ Some q → slice_get (parts_in q.content) p ≡ Some b
      → happens group w (Take v now k p refused) ≡ put w v (took (far group v now) (ticked (w.members v) now) (Took k p) q.was.told.uses b refused)
  take_is w k p q b refused at_k at_p =
      let x = ticked (w.members v) now in
      ap (λ (o : Option Posting). take_posting w v (far group v now) x k p refused o) at_k
      ∙ ap (λ (o : Option BatchData). take_part w v (far group v now) x (Took k p) refused q o) at_p

  -- what takes of all these parts leave, where a record s was joined to a raised one before
  record Leaves (a s : State) (indexes : List (ℕ × ℕ)) (batches : List BatchData) (entries : List Entry) (w : World) : Type 0 where
    events : List Event
    are : AreTakes v now indexes events
    held : ((happen group w events).members v).held ≡ join (raised_to a now) (join_all s batches)
    log : ((happen group w events).members v).log ≡ (w.members v).log ++ entries

  leaves_none : (a s : State) (w : World) → (w.members v).held ≡ join (raised_to a now) s → Leaves a s [] [] [] w
  leaves_none a s w is = record { events = []; are = tt; held = is; log = sym (append-nil (w.members v).log) }

  -- one take more in front
  leaves_more : (a s : State) (index : ℕ × ℕ) (indexes : List (ℕ × ℕ)) (b : BatchData) (batches : List BatchData) (entries more : List Entry) (w : World) (refused : Option ℕ) (x : Member)
      → happens group w (Take v now index.0 index.1 refused) ≡ put w v x → x.log ≡ (w.members v).log ++ entries → Leaves a (join s (batch_state b)) indexes batches more (put w v x) → Leaves a s (index ∷ indexes) (b ∷ batches) (entries ++ more) w
  leaves_more a s index indexes b batches entries more w refused x is log l = record {
    events = Take v now index.0 index.1 refused ∷ l.events;
    are = ((refused, refl), l.are);
    held = ap (λ (after : World). ((happen group after l.events).members v).held) is ∙ l.held;
    log = ap (λ (after : World). ((happen group after l.events).members v).log) is ∙ l.log
        ∙ ap (λ (e : List Entry). e ++ more) (ap (λ (m : Member). m.log) (put_own w v x) ∙ log) ∙ append_assoc (w.members v).log entries more;
  }

  -- what a join to a member's record leaves
  joins : (a s : State) (x : State) (b : BatchData) → x ≡ join (raised_to a now) s → join (raised_to x now) (batch_state b) ≡ join (raised_to a now) (join s (batch_state b))
  joins a s x b is =
      ap (λ (r : State). join (raised_to r now) (batch_state b)) is ∙ ap (λ (r : State). join r (batch_state b)) (raised_over a s now) ∙ join_assoc (raised_to a now) s (batch_state b)

  takes_all : (a s : State) (indexes : List (ℕ × ℕ)) (batches : List BatchData) (w : World) → ArePlaced w.pool indexes batches → AllByRecursion (λ b. b.moment ≤ far group v now) batches
      → (w.members v).held ≡ join (raised_to a now) s → Leaves a s indexes batches (took_all indexes) w
  takes_all a s [] [] w placed within is = leaves_none a s w is
  takes_all a s (index ∷ indexes) (b ∷ batches) w placed within is =
      let q = placed.0.0 in
      let last = far group v now in
      let entry = Took index.0 index.1 in
      let x = ticked (w.members v) now in
      let y = logged (joined x q.was.told.uses b) entry in
      let taken : took last x entry q.was.told.uses b None ≡ y = ap (λ (test : Bool). if test then x else y) (le-ltb last b.moment within.0) in
      let rest = takes_all a (join s (batch_state b)) indexes batches (put w v y) placed.1 within.1 (ap (λ (m : Member). m.held) (put_own w v y) ∙ joins a s (w.members v).held b is) in
      leaves_more a s index indexes b batches (entry ∷ []) (took_all indexes) w None y (take_is w index.0 index.1 q b None placed.0.1 placed.0.2 ∙ ap (put w v) taken) refl rest
  takes_all a s [] (b ∷ batches) w placed within is = absurd placed
  takes_all a s (index ∷ indexes) [] w placed within is = absurd placed

  takes_fronts : (refused : Use) (a s : State) (indexes : List (ℕ × ℕ)) (batches : List BatchData) (w : World) → ArePlaced w.pool indexes batches → AllByRecursion (λ b. b.moment ≤ far group v now) batches → AllByRecursion IsBatch batches
      → (w.members v).held ≡ join (raised_to a now) s → Leaves a s indexes (map (cut_at refused) batches) [] w
  takes_fronts refused a s [] [] w placed within are is = leaves_none a s w is
  takes_fronts refused a s (index ∷ indexes) (b ∷ batches) w placed within are is =
      let q = placed.0.0 in
      let last = far group v now in
      let entry = Took index.0 index.1 in
      let x = ticked (w.members v) now in
      let few = first_before refused b.uses (good_rises b.moment b.uses are.0.good) in
      let c = cut_at refused b in
      let y = joined x q.was.told.uses c in
      let same : front few.0 b ≡ c = ap (λ (us : List Use). record { moment = b.moment; uses = us }) few.1 in
      let taken : took last x entry q.was.told.uses b (Some few.0) ≡ y =
      ap (λ (test : Bool). if test then x else joined x q.was.told.uses (front few.0 b)) (le-ltb last b.moment within.0) ∙ ap (joined x q.was.told.uses) same in
      let rest = takes_fronts refused a (join s (batch_state c)) indexes batches (put w v y) placed.1 within.1 are.1 (ap (λ (m : Member). m.held) (put_own w v y) ∙ joins a s (w.members v).held c is) in
      leaves_more a s index indexes c (map (cut_at refused) batches) [] [] w (Some few.0) y (take_is w index.0 index.1 q b (Some few.0) placed.0.1 placed.0.2 ∙ ap (put w v) taken) (sym (append-nil x.log)) rest
  takes_fronts refused a s [] (b ∷ batches) w placed within are is = absurd placed
  takes_fronts refused a s (index ∷ indexes) [] w placed within are is = absurd placed

pub record_takes_are_events : RecordTakesAreEvents
record_takes_are_events group w v now indexes batches (Ok taken) y placed are h =
    let a = (w.members v).held in
    let x = ticked (w.members v) now in
    let ticks = put_own w v x in
    let l = takes_all group v now a (state_of 0 []) indexes batches (put w v x) placed (all_within (state_of 0 []) batches (far group v now) h.0)
    (ap (λ (m : Member). m.held) ticks ∙ sym (raised_once a now 0 (omega arith))) in
    (l.events, inl l.are, (l.held ∙ sym h.1, l.log ∙ ap (λ (m : Member). m.log ++ took_all indexes) ticks))
record_takes_are_events group w v now indexes batches (Err TooFarAhead) y placed are h =
    let x = ticked (w.members v) now in
    let ticks = put_own w v x in
    ([], inr (h.0, refl), (ap (λ (m : Member). m.held) ticks ∙ sym h.1, ap (λ (m : Member). m.log) ticks ∙ sym (append-nil x.log)))
record_takes_are_events group w v now indexes batches (Err OutOfMemory) y placed are h =
    let a = (w.members v).held in
    let x = ticked (w.members v) now in
    let ticks = put_own w v x in
    let part = h.1 in
    let r = join_all (state_of 0 []) batches in
    let l = takes_fronts group v now part.refused a (state_of 0 []) indexes batches (put w v x) placed (all_within (state_of 0 []) batches (far group v now) h.0) are
    (ap (λ (m : Member). m.held) ticks ∙ sym (raised_once a now 0 (omega arith))) in
    let left = front_of r (join_all (state_of 0 []) (map (cut_at part.refused) batches)) part.front part.refused part.rest part.parts (all_front part.refused batches (state_of 0 []) (state_of 0 []) (nothing_front part.refused)) in
    (l.events, inl l.are, (l.held ∙ ap (join (raised_to a now)) left ∙ sym part.joined, l.log ∙ ap (λ (m : Member). m.log ++ []) ticks))

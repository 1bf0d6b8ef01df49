-- A member that reads a value does what events of a group do.
use Rattle.std.proofs.Common.{◌≡◌, ◌≢◌, ◌⊎◌, inl, inr, ℕ, zero, suc, ◌+◌, ◌-◌, ◌<◌, ◌≤◌, max, Bool, true, false, not, ◌&&◌, nat_lt, List, [], ◌∷◌, ◌++◌, length, take, drop, get_or, refl, sym, ap, ◌∙◌, subst, arith}
use Rattle.std.specs.Prelude.{IsTrue, Option, Some, None, slice_get, ◌==◌, if◌then◌else◌}
use Rattle.std.specs.Ordering.{is_eq}
use Rattle.std.proofs.lemmas.Bool.{and_from, and_parts, cond-true, eq-eqb, lt-ltb, ltb-false, ltb-true, false_from_ne_true, not-true}
use Rattle.std.proofs.lemmas.Cmp.{nat_list_cmp_total, tied_itself}
use Rattle.std.proofs.lemmas.Option.{none-some, same_Some, slice_get-get_or}
use Rattle.svid_replay.specs.declared.token_use.Use.{Use}
use Rattle.svid_replay.specs.Records.{State}
use Rattle.svid_replay.specs.Use.{bytes_cmp}
use Rattle.svid_replay.specs.Uses.{Uses, live}
use Rattle.svid_replay.proofs.IndexedLemmas.{same_key}
use Rattle.svid_log.specs.declared.fate.Fate.{Fate}
use Rattle.svid_log.specs.declared.fate.Fate.TheVariants.{Accepted, First, Expired, TooFarAhead, Withdrawal, Withdrawn, Replayed}
use Rattle.svid_log.specs.declared.reading.Reading.{Reading}
use Rattle.svid_log.specs.declared.reading.Rest.{Rest}
use Rattle.svid_log.specs.declared.reading.Rest.TheVariants.{Nothing, NoRoom, NoMemory}
use Rattle.svid_log.specs.declared.rows.Standing.{Standing}
use Rattle.svid_log.specs.Calls.{IsGapGone, IsMember, ReadsAreEvents, arrival, gap_end, gap_len, index_in, reads_of, refusal, uses_of}
use Rattle.svid_log.specs.Groups.{Accepts, Event, Miss, Read, Reader, Terms, World, far, happen, happens, is_gone, missed, put, read_next, reads}
use Rattle.svid_log.specs.Members.{HasRead, IsRefused, Ledger, MemberState, accepts, advanced, after_all, after_one, answer_at, arrived, fates_of, rest_of, standing}
use Rattle.svid_log.specs.Steps.{beside_after, decided, fate_at, fate_by, held_after, reached}
use Rattle.svid_log.proofs.GroupsLemmas.{drop_index}
use Rattle.svid_log.proofs.IndexesLemmas.{dropped_length, front_index, next_index, indexes_rise, taken_length, value_index, within_list}
use Rattle.svid_log.proofs.StepsLemmas.{held_stays, not_accepted_by}

-- uses are in a log, one after the other, from a position on
abbrev Stand : List Use → ℕ → List Use → Type 0
Stand log n [] = Unit {0}
Stand log n (c ∷ cs) = (slice_get log n ≡ Some c) × Stand log (n + 1) cs

stand_from : (log cs : List Use) (n : ℕ) → ((k : ℕ) (c : Use) → slice_get cs k ≡ Some c → slice_get log (n + k) ≡ Some c) → Stand log n cs
stand_from log [] n f = tt
stand_from log (c ∷ cs) n f = (ap (λ i. slice_get log i) (none n) ∙ f 0 c refl, stand_from log cs (n + 1) (λ k d e. ap (λ i. slice_get log i) (up n k) ∙ f (suc k) d e))
  where
    none : (i : ℕ) → i ≡ i + 0
    none i = omega arith

    up : (i k : ℕ) → (i + 1) + k ≡ i + suc k
    up i k = omega arith

stand_front : (log cs : List Use) (n k : ℕ) → Stand log n cs → Stand log n (take k cs)
stand_front log cs n zero s = tt
stand_front log [] n (suc k) s = tt
stand_front log (c ∷ cs) n (suc k) s = (s.0, stand_front log cs (n + 1) k s.1)

-- the uses of a value that are left are in the log of all values
value_stands : (values : List (List Use)) (i begun : ℕ) (us : List Use) → slice_get values i ≡ Some us → Stand (uses_of values) (index_in values i begun) (drop begun us)
value_stands values i begun us e =
    stand_from (uses_of values) (drop begun us) (index_in values i begun)
    (λ k c is. ap (λ n. slice_get (uses_of values) n) (apart (length (uses_of (take i values))) begun k) ∙ value_index values i us (begun + k) c e (sym (drop_index begun us k) ∙ is))
  where
    apart : (a b k : ℕ) → (a + b) + k ≡ a + (b + k)
    apart a b k = omega arith

abbrev ledger : Reader → Ledger
ledger x = record { held = x.held; beside = x.beside }

module _ (group : ℕ → Terms) (v now : ℕ) where
  -- a group in which the member has read these further uses
  record HasReadOn (cs : List Use) (w : World) (x : Reader) (z : World) : Type 0 where
    ledger : ledger (z.members v) ≡ after_all now (far group v now) (ledger x) cs
    read : (z.members v).read ≡ x.read + length cs
    ready : (z.members v).ready ≡ x.ready
    deaf : (z.members v).deaf ≡ x.deaf
    log : z.log ≡ w.log

  none_more : (n : ℕ) → n ≡ n + 0
  none_more n = omega arith

  one_more : (m n l : ℕ) → m ≡ (n + 1) + l → m ≡ n + suc l
  one_more m n l e = omega arith

  has_read_on : (cs : List Use) (w : World) → Stand w.log (w.members v).read cs → HasReadOn cs w (w.members v) (happen group w (reads_of v now (length cs)))
  has_read_on [] w s = record { ledger = refl; read = none_more (w.members v).read; ready = refl; deaf = refl; log = refl }
  has_read_on (c ∷ cs) w s =
      let x = w.members v in
      let y = reads (far group v now) x now false c in
      let z = put w v y in
      let own : (z.members v) ≡ y = cond-true (v == v) y x (eq-eqb v v refl) in
      let is : happens group w (Read v now false) ≡ z = ap (λ (o : Option Use). read_next (far group v now) w v now false o) s.0 in
      let rest = has_read_on cs z (subst (λ (m : Reader). Stand w.log m.read cs) (sym own) s.1) in
      let there = subst (λ (m : Reader). HasReadOn cs z m (happen group z (reads_of v now (length cs)))) own rest in
      let here = subst (λ (u : World). HasReadOn cs z y (happen group u (reads_of v now (length cs)))) (sym is) there in
      record {
        ledger = here.ledger;
        read = one_more _ x.read (length cs) here.read;
        ready = here.ready;
        deaf = here.deaf;
        log = here.log;
      }

  -- what an event leaves of its member
  own_put : (w : World) (x : Reader) → ((put w v x).members v) ≡ x
  own_put w x = cond-true (v == v) x (w.members v) (eq-eqb v v refl)

-- a member that has arrived before a value
record IsThere (values : List (List Use)) (m m_there : MemberState) (x : State) (position : ℕ) (w a : World) (v : ℕ) : Type 0 where
  member : IsMember values m_there x (a.members v)
  log : a.log ≡ w.log
  passed : m_there.passed ≡ position - 1
  validator_id : m_there.validator_id ≡ m.validator_id
  beside : m_there.beside ≡ m.beside
  ready : m_there.ready ≡ m.ready

module _ (group : ℕ → Terms) (w : World) (v now : ℕ) (values : List (List Use)) (m : MemberState) (x : State) (position : ℕ) (uses : List Use) where
  abbrev there_if : Bool → MemberState
  there_if b =
      if b then record { beside = m.beside; validator_id = m.validator_id; lasts = m.lasts; passed = position - 1; begun = 0; ready = m.ready; deaf = max m.deaf (gap_end m x now) }
      else m

  abbrev arrival_if : Bool → List Event
  arrival_if b = if b then Miss v (gap_len values m position) (gap_end m x now) ∷ [] else []

  here_already : (a b : ℕ) → a < b → nat_lt a (b - 1) ≡ false → a ≡ b - 1
  here_already a b lt e = let ge = ltb-false a (b - 1) e in omega arith

  beyond : (a b c : ℕ) → a ≤ b → b ≤ c → a + (c - a) ≡ c
  beyond a b c one other = omega arith

  within_value : (a b n : ℕ) → b ≤ n → a + b ≤ a + n
  within_value a b n le = omega arith

  through : (a b c : ℕ) → a < b → b < c → a < c
  through a b c one other = omega arith

  -- the position of a member in the log is before a later value
  in_front : IsMember values m x (w.members v) → m.passed < position - 1 → slice_get values (position - 1) ≡ Some uses → index_in values m.passed m.begun ≤ index_in values (position - 1) 0
  in_front is lt e =
      let us = get_or values m.passed uses in
      let at : slice_get values m.passed ≡ Some us = slice_get-get_or values m.passed uses (through m.passed (position - 1) (length values) lt (within_list values (position - 1) uses e)) in
      let one = within_value (length (uses_of (take m.passed values))) m.begun (length us) (is.begun us at) in
      let two = next_index values m.passed us at in
      let three = indexes_rise values (suc m.passed) (position - 1) (omega arith) in
      omega arith

  there_by : (b : Bool) → nat_lt m.passed (position - 1) ≡ b → w.log ≡ uses_of values → IsMember values m x (w.members v) → m.passed < position → slice_get values (position - 1) ≡ Some uses → IsGapGone values m x now position
      → IsThere values m (there_if b) x position w (happen group w (arrival_if b)) v
  there_by false e log is lt at gone = record { member = is; log = refl; passed = here_already m.passed position lt e; validator_id = refl; beside = refl; ready = refl }
  there_by true e log is lt at gone =
      let r = w.members v in
      let ahead = ltb-true m.passed (position - 1) e in
      let y = missed r (gap_len values m position) (gap_end m x now) in
      let open_gap : is_gone (gap_end m x now) (gap_len values m position) (drop r.read w.log) ≡ true =
      ap (λ n. is_gone (gap_end m x now) (gap_len values m position) (drop n w.log)) is.read ∙ (ap (λ log. is_gone (gap_end m x now) (gap_len values m position) (drop (index_in values m.passed m.begun) log)) log ∙ gone ahead) in
      let missing : happen group w (arrival_if true) ≡ put w v y = cond-true (is_gone (gap_end m x now) (gap_len values m position) (drop r.read w.log)) (put w v y) w open_gap in
      let there : IsMember values (there_if true) x y = record {
        held = is.held;
        beside = is.beside;
        read = ap (λ n. n + gap_len values m position) is.read ∙ beyond (index_in values m.passed m.begun) (index_in values (position - 1) 0) (index_in values (position - 1) 0) (in_front is ahead at) (same_le (index_in values (position - 1) 0));
        ready = is.ready;
        deaf = ap (λ n. max n (gap_end m x now)) is.deaf;
        begun = λ us e. none_le (length us);
      } in
      record {
        member = subst (λ (z : World). IsMember values (there_if true) x (z.members v)) (sym missing) (subst (IsMember values (there_if true) x) (sym (own_put group v now w y)) there);
        log = ap (λ (z : World). z.log) missing;
        passed = refl;
        validator_id = refl;
        beside = refl;
        ready = refl;
      }
    where
      same_le : (n : ℕ) → n ≤ n
      same_le n = omega arith

      none_le : (n : ℕ) → 0 ≤ n
      none_le n = omega arith

-- the fate of a use in a row
fate_in_row : (s : Standing) (now far : ℕ) (l : Ledger) (cs : List Use) (k : ℕ) (c : Use) → slice_get cs k ≡ Some c → slice_get (fates_of s now far l cs) k ≡ Some (answer_at s now far (after_all now far l (take k cs)) c)
fate_in_row s now far l [] k c e = absurd (none-some c e)
fate_in_row s now far l (d ∷ cs) zero c e = ap (λ u. Some (answer_at s now far l u)) (same_Some d c e)
fate_in_row s now far l (d ∷ cs) (suc k) c e = fate_in_row s now far (after_one now far l d) cs k c e

row_index : {A : Type 0} (cs : List A) (n k : ℕ) (c : A) → k < n → slice_get cs k ≡ Some c → slice_get (take n cs) k ≡ Some c
row_index cs zero k c lt e = absurd (omega arith)
row_index [] (suc n) k c lt e = absurd (none-some c e)
row_index (d ∷ cs) (suc n) zero c lt e = e
row_index (d ∷ cs) (suc n) (suc k) c lt e = row_index cs n k c (omega arith) e

row_front : {A : Type 0} (cs : List A) (n k : ℕ) → k < n → take k (take n cs) ≡ take k cs
row_front cs zero k lt = absurd (omega arith)
row_front cs (suc n) zero lt = refl
row_front [] (suc n) (suc k) lt = refl
row_front (d ∷ cs) (suc n) (suc k) lt = ap (λ xs. d ∷ xs) (row_front cs n k (omega arith))

-- a fate is accepted where it is first and the member may accept
accepted_says : (fate : Fate) (ok : Bool) → (fate ≡ Accepted → ⊥) → decided fate ok ≡ Accepted → (fate ≡ First) × (ok ≡ true)
accepted_says First true never e = (refl, refl)
accepted_says First false never e = absurd (cc)
accepted_says Accepted ok never e = absurd (never refl)
accepted_says Expired ok never e = absurd (cc)
accepted_says TooFarAhead ok never e = absurd (cc)
accepted_says Withdrawal ok never e = absurd (cc)
accepted_says Withdrawn ok never e = absurd (cc)
accepted_says Replayed ok never e = absurd (cc)

first_is_accepted : (fate : Fate) (ok : Bool) → fate ≡ First → ok ≡ true → decided fate ok ≡ Accepted
first_is_accepted fate ok first said = rw first (rw said refl)

-- a member before a value that it reads, at a time, from one use on
module _ (group : ℕ → Terms) (v now : ℕ) (values : List (List Use)) (there : MemberState) (x : State) (beside : Uses) (position : ℕ) (uses : List Use) (a : World) (from count : ℕ) where
  record Begins : Type 0 where
    member : IsMember values there x (a.members v)
    log : a.log ≡ uses_of values
    passed : there.passed ≡ position - 1
    begun : from ≡ there.begun
    held_beside : there.beside ≡ beside
    validator_id : there.validator_id ≡ (group v).validator_id
    at : slice_get values (position - 1) ≡ Some uses
    some : 0 < position
    few : count ≤ length (drop from uses)

  abbrev left : List Use
  left = drop from uses

  abbrev first_ledger : Ledger
  first_ledger = record { held = x; beside = beside }

  abbrev behind_reads : ℕ → World
  behind_reads k = happen group a (reads_of v now k)

  abbrev ledger_behind : ℕ → Ledger
  ledger_behind k = after_all now (far group v now) first_ledger (take k left)

  reader_index : Begins → (a.members v).read ≡ index_in values (position - 1) from
  reader_index h = h.member.read ∙ (ap (λ n. index_in values n there.begun) h.passed ∙ ap (λ n. index_in values (position - 1) n) (sym h.begun))

  stands : Begins → Stand a.log (a.members v).read left
  stands h = subst (λ log. Stand log (a.members v).read left) (sym h.log) (subst (λ n. Stand (uses_of values) n left) (sym (reader_index h)) (value_stands values (position - 1) from uses h.at))

  reads_on : Begins → (k : ℕ) → k ≤ length left → HasReadOn group v now (take k left) a (a.members v) (behind_reads k)
  reads_on h k le =
      subst (λ n. HasReadOn group v now (take k left) a (a.members v) (behind_reads n)) (taken_length k left le) (has_read_on group v now (take k left) a (stand_front a.log left (a.members v).read k (stands h)))

  same_ledger : Begins → ledger (a.members v) ≡ first_ledger
  same_ledger h = ap (λ s. record { held = s; beside = (a.members v).beside }) h.member.held ∙ ap (λ s. record { held = x; beside = s }) (h.member.beside ∙ h.held_beside)

  ledger_is : Begins → (k : ℕ) → k ≤ length left → ledger ((behind_reads k).members v) ≡ ledger_behind k
  ledger_is h k le = (reads_on h k le).ledger ∙ ap (λ l. after_all now (far group v now) l (take k left)) (same_ledger h)

  read_is : Begins → (k : ℕ) → k ≤ length left → ((behind_reads k).members v).read ≡ index_in values (position - 1) from + k
  read_is h k le = (reads_on h k le).read ∙ (ap (λ n. n + length (take k left)) (reader_index h) ∙ ap (λ n. index_in values (position - 1) from + n) (taken_length k left le))

  less : (k n : ℕ) → k < n → k ≤ n
  less k n lt = omega arith

  apart : (p f k : ℕ) → (p + f) + k ≡ p + (f + k)
  apart p f k = omega arith

  -- the use that is read next
  next_is : Begins → (k : ℕ) (c : Use) → k ≤ length left → slice_get uses (from + k) ≡ Some c → slice_get (behind_reads k).log ((behind_reads k).members v).read ≡ Some c
  next_is h k c le e =
      ap (λ log. slice_get log ((behind_reads k).members v).read) ((reads_on h k le).log ∙ h.log)
      ∙ (ap (λ n. slice_get (uses_of values) n) (read_is h k le ∙ apart (length (uses_of (take (position - 1) values))) from k) ∙ value_index values (position - 1) uses (from + k) c h.at e)

  abbrev answer : ℕ → Use → Fate
  answer k c = answer_at (standing there position) now (far group v now) (ledger_behind k) c

  ready_before : (ready p b from k : ℕ) → ready ≤ p → p ≤ b + 0 → ready ≤ (b + from) + k
  ready_before ready p b from k one other = omega arith

  up_to_last : (r p : ℕ) → r < p → r ≤ p - 1
  up_to_last r p lt = omega arith

  -- what the call accepts is accepted by the group's definition
  accepts_then : Begins → (k : ℕ) (c : Use) → k < count → slice_get uses (from + k) ≡ Some c → answer k c ≡ Accepted → Accepts group (behind_reads k) v now c
  accepts_then h k c lt e is =
      let le : k ≤ length left = within k count (length left) lt h.few in
      let l = ledger_behind k in
      let says = accepted_says (fate_at l.held l.beside now (far group v now) c) (accepts (standing there position) (held_after l.held l.beside now (far group v now) c).moment c) (λ f. not_accepted_by _ _ _ _ _ _ f) is in
      let parts = and_parts (nat_lt there.ready position && is_eq (bytes_cmp there.validator_id c.validator_id)) (not (nat_lt (held_after l.held l.beside now (far group v now) c).moment there.deaf)) says.1 in
      let others = and_parts (nat_lt there.ready position) (is_eq (bytes_cmp there.validator_id c.validator_id)) parts.0 in
      let same = ledger_is h k le in
      let on = reads_on h k le in
      let fresh = ltb-true there.ready position others.0 in
      let rise = indexes_rise values there.ready (position - 1) (up_to_last there.ready position fresh) in
      record {
        next = next_is h k c le e;
        own = same_key there.validator_id c.validator_id others.1 ∙ h.validator_id;
        ready = subst (λ n. n ≤ ((behind_reads k).members v).read) (sym on.ready) (subst (λ n. (a.members v).ready ≤ n) (sym (read_is h k le)) (ready_before (a.members v).ready (index_in values there.ready 0) (length (uses_of (take (position - 1) values))) from k h.member.ready rise));
        heard = subst (λ n. n ≤ (reached ((behind_reads k).members v).held now (far group v now) c).moment) (sym (on.deaf ∙ h.member.deaf))
            (subst (λ (l : Ledger). there.deaf ≤ (reached l.held now (far group v now) c).moment) (sym same)
            (subst (λ n. there.deaf ≤ n) (held_stays l.held l.beside now (far group v now) c) (ltb-false (held_after l.held l.beside now (far group v now) c).moment there.deaf (not-true (nat_lt (held_after l.held l.beside now (far group v now) c).moment there.deaf) parts.1))));
        first = subst (λ (l : Ledger). fate_at l.held l.beside now (far group v now) c ≡ First) (sym same) says.0;
      }
    where
      within : (k c l : ℕ) → k < c → c ≤ l → k ≤ l
      within k c l one other = omega arith

  not_past : (n d : ℕ) → d ≤ n → not (nat_lt n d) ≡ true
  not_past n d le = ap not (false_from_ne_true (nat_lt n d) (λ lt. past n d le (ltb-true n d lt)))
    where
      past : (n d : ℕ) → d ≤ n → n < d → ⊥
      past n d one other = omega arith

  -- and the converse, in a value that no earlier life may have read
  accepted_then : Begins → (k : ℕ) (c : Use) → k < count → there.ready < position → Accepts group (behind_reads k) v now c → answer k c ≡ Accepted
  accepted_then h k c lt fresh is =
      let le : k ≤ length left = within k count (length left) lt h.few in
      let l = ledger_behind k in
      let same = ledger_is h k le in
      let on = reads_on h k le in
      let own : is_eq (bytes_cmp there.validator_id c.validator_id) ≡ true = subst (λ p. is_eq (bytes_cmp p c.validator_id) ≡ true) (is.own ∙ sym h.validator_id) (ap is_eq (tied_itself nat_list_cmp_total c.validator_id)) in
      let heard : there.deaf ≤ (held_after l.held l.beside now (far group v now) c).moment =
      subst (λ n. there.deaf ≤ n) (sym (held_stays l.held l.beside now (far group v now) c)) (subst (λ (l : Ledger). there.deaf ≤ (reached l.held now (far group v now) c).moment) same
      (subst (λ n. n ≤ (reached ((behind_reads k).members v).held now (far group v now) c).moment) (on.deaf ∙ h.member.deaf) is.heard)) in
      first_is_accepted (fate_at l.held l.beside now (far group v now) c) (accepts (standing there position) (held_after l.held l.beside now (far group v now) c).moment c)
      (subst (λ (l : Ledger). fate_at l.held l.beside now (far group v now) c ≡ First) same is.first)
      (and_from (nat_lt there.ready position && is_eq (bytes_cmp there.validator_id c.validator_id)) (not (nat_lt (held_after l.held l.beside now (far group v now) c).moment there.deaf))
      (and_from (nat_lt there.ready position) (is_eq (bytes_cmp there.validator_id c.validator_id)) (lt-ltb there.ready position fresh) own)
      (not_past (held_after l.held l.beside now (far group v now) c).moment there.deaf heard))
    where
      within : (k c l : ℕ) → k < c → c ≤ l → k ≤ l
      within k c l one other = omega arith

  -- the member after the uses that were read
  abbrev behind_if : Bool → Uses → MemberState
  behind_if b new =
      if b then record { beside = new; validator_id = there.validator_id; lasts = there.lasts; passed = there.passed; begun = there.begun + count; ready = there.ready; deaf = there.deaf }
      else record { beside = new; validator_id = there.validator_id; lasts = there.lasts; passed = position; begun = 0; ready = there.ready; deaf = there.deaf }

  behind_by : Begins → (b : Bool) → nat_lt count (length left) ≡ b → (x_new : State) (new : Uses) (z : Reader) → z.held ≡ x_new → z.beside ≡ new → z.read ≡ index_in values (position - 1) from + count → z.ready ≡ (a.members v).ready → z.deaf ≡ (a.members v).deaf
      → IsMember values (behind_if b new) x_new z
  behind_by h true e x_new new z held beside read ready deaf = record {
    held = held;
    beside = beside;
    read = read ∙ (ap (λ n. index_in values n from + count) (sym h.passed) ∙ (ap (λ n. index_in values there.passed n + count) h.begun ∙ apart (length (uses_of (take there.passed values))) there.begun count));
    ready = subst (λ n. n ≤ index_in values there.ready 0) (sym ready) h.member.ready;
    deaf = deaf ∙ h.member.deaf;
    begun = λ us is. let same : uses ≡ us = same_Some uses us (sym h.at ∙ (ap (λ n. slice_get values n) (sym h.passed) ∙ is)) in subst (λ xs. there.begun + count ≤ length xs) same (subst (λ n. n + count ≤ length uses) h.begun (in_value h));
  }
    where
      in_value : Begins → from + count ≤ length uses
      in_value h =
          let whole = dropped_length from uses (subst (λ n. n ≤ length uses) (sym h.begun) (h.member.begun uses (ap (λ n. slice_get values n) h.passed ∙ h.at))) in
          let few = h.few in
          omega arith
  behind_by h false e x_new new z held beside read ready deaf =
      let whole = dropped_length from uses (subst (λ n. n ≤ length uses) (sym h.begun) (h.member.begun uses (ap (λ n. slice_get values n) h.passed ∙ h.at))) in
      record {
        held = held;
        beside = beside;
        read = read ∙ (all_of (length (uses_of (take (position - 1) values))) from count (length left) (length uses) whole h.few (ltb-false count (length left) e)
            ∙ (sym (next_index values (position - 1) uses h.at) ∙ ap (λ n. index_in values n 0) (last position h.some)));
        ready = subst (λ n. n ≤ index_in values there.ready 0) (sym ready) h.member.ready;
        deaf = deaf ∙ h.member.deaf;
        begun = λ us is. none (length us);
      }
    where
      all_of : (p f c l u : ℕ) → f + l ≡ u → c ≤ l → l ≤ c → (p + f) + c ≡ p + u
      all_of p f c l u is one other = omega arith

      last : (p : ℕ) → 0 < p → suc (p - 1) ≡ p
      last p lt = omega arith

      none : (n : ℕ) → 0 ≤ n
      none n = omega arith

  -- the group after the events, whether memory was refused or not
  left_by : Begins → (rest : Rest) (x_new : State) (new : Uses)
      → (rest ≢ NoMemory → record { held = x_new; beside = new } ≡ ledger_behind count)
      → (rest ≡ NoMemory → IsRefused now (far group v now) (ledger_behind count) (slice_get left count) (record { held = x_new; beside = new }))
      → let z = (happen group (behind_reads count) (refusal v now rest)).members v in
      (z.held ≡ x_new) × (z.beside ≡ new) × (z.read ≡ index_in values (position - 1) from + count) × (z.ready ≡ (a.members v).ready) × (z.deaf ≡ (a.members v).deaf)
  left_by h Nothing x_new new read refused =
      let same = ledger_is h count h.few ∙ sym (read (λ e. absurd (cc))) in
      let on = reads_on h count h.few in
      (ap (λ (l : Ledger). l.held) same, ap (λ (l : Ledger). l.beside) same, read_is h count h.few, on.ready, on.deaf)
  left_by h NoRoom x_new new read refused =
      let same = ledger_is h count h.few ∙ sym (read (λ e. absurd (cc))) in
      let on = reads_on h count h.few in
      (ap (λ (l : Ledger). l.held) same, ap (λ (l : Ledger). l.beside) same, read_is h count h.few, on.ready, on.deaf)
  left_by h NoMemory x_new new read refused = by_use (slice_get left count) refl (refused refl)
    where
      by_use : (o : Option Use) → slice_get left count ≡ o → IsRefused now (far group v now) (ledger_behind count) o (record { held = x_new; beside = new })
          → let z = (happen group (behind_reads count) (Read v now true ∷ [])).members v in
          (z.held ≡ x_new) × (z.beside ≡ new) × (z.read ≡ index_in values (position - 1) from + count) × (z.ready ≡ (a.members v).ready) × (z.deaf ≡ (a.members v).deaf)
      by_use None e is = absurd is
      by_use (Some c) e is =
          let b = behind_reads count in
          let y = reads (far group v now) (b.members v) now true c in
          let on = reads_on h count h.few in
          let same = ledger_is h count h.few in
          let event : happens group b (Read v now true) ≡ put b v y = ap (λ (o : Option Use). read_next (far group v now) b v now true o) (next_is h count c h.few (sym (drop_index from uses count) ∙ e)) in
          let own : (happens group b (Read v now true)).members v ≡ y = ap (λ (w : World). w.members v) event ∙ own_put group v now b y in
          let held = ap (λ (l : Ledger). reached l.held now (far group v now) c) same ∙ sym is.0 in
          let beside = ap (λ (l : Ledger). live l.beside (reached l.held now (far group v now) c).moment) same ∙ sym is.1 in
          (ap (λ (r : Reader). r.held) own ∙ held, ap (λ (r : Reader). r.beside) own ∙ beside, ap (λ (r : Reader). r.read) own ∙ read_is h count h.few, ap (λ (r : Reader). r.ready) own ∙ on.ready, ap (λ (r : Reader). r.deaf) own ∙ on.deaf)

pub reads_are_events : ReadsAreEvents
reads_are_events group w v now values m m_new x x_new position uses room written r log is validator_id lt at gone h =
    let far_now = far group v now in
    let there = arrived m (max x.moment now) position in
    let a = happen group w (arrival v values m x now position) in
    let came : IsThere values m there x position w a v = there_by group w v now values m x position uses (nat_lt m.passed (position - 1)) refl log is lt at gone in
    let b : Begins group v now values there x m.beside position uses a r.from r.count = record {
      member = came.member;
      log = came.log ∙ log;
      passed = came.passed;
      begun = h.from;
      held_beside = came.beside;
      validator_id = came.validator_id ∙ validator_id;
      at = at;
      some = above m.passed position lt;
      few = h.few;
    } in
    let z = left_by group v now values there x m.beside position uses a r.from r.count b r.rest x_new m_new.beside h.read h.refused in
    let made = behind_by group v now values there x m.beside position uses a r.from r.count b (nat_lt r.count (length (drop r.from uses))) refl x_new m_new.beside ((happen group (happen group a (reads_of v now r.count)) (refusal v now r.rest)).members v) z.0 z.1 z.2 z.3 z.4 in (
      subst (λ k. IsMember values k x_new ((happen group (happen group a (reads_of v now r.count)) (refusal v now r.rest)).members v)) (sym h.member) made,
      λ k c few e.
          let written_is : slice_get written k ≡ Some (answer_at (standing there position) now far_now (after_all now far_now (record { held = x; beside = m.beside }) (take k (drop r.from uses))) c) =
          ap (λ fs. slice_get fs k) h.fates
          ∙ front_index (fates_of (standing there position) now far_now (record { held = x; beside = m.beside }) (take r.count (drop r.from uses))) (drop r.count room) k _
          (fate_in_row (standing there position) now far_now (record { held = x; beside = m.beside }) (take r.count (drop r.from uses)) k c (row_index (drop r.from uses) r.count k c few (drop_index r.from uses k ∙ e))
          ∙ ap (λ us. Some (answer_at (standing there position) now far_now (after_all now far_now (record { held = x; beside = m.beside }) us) c)) (row_front (drop r.from uses) r.count k few)) in (
            λ accepted. accepts_then group v now values there x m.beside position uses a r.from r.count b k c few e (same_Some _ _ (sym written_is ∙ accepted)),
            λ fresh accepts_it. written_is ∙ ap (λ f. Some f) (accepted_then group v now values there x m.beside position uses a r.from r.count b k c few (subst (λ n. n < position) (sym came.ready) fresh) accepts_it),
          ),
    )
  where
    above : (p q : ℕ) → p < q → 0 < q
    above p q lt = omega arith

-- What always holds of a group that reads one log.
use Rattle.std.proofs.Common.{◌≡◌, ◌≢◌, ◌⊎◌, inl, inr, ℕ, zero, suc, ◌+◌, ◌<◌, ◌≤◌, max, Bool, true, false, not, List, [], ◌∷◌, ◌++◌, ◌-◌, length, drop, refl, sym, ap, ◌∙◌, subst, arith}
use Rattle.std.specs.Prelude.{IsTrue, Option, Some, None, slice_get, ◌==◌, nat_lt}
use Rattle.std.proofs.lemmas.Bool.{and_parts, cases_lt, cases_order, cond-true, cond_both, eq-eqb, eqb-true, false_from_ne_true, false≢true, lt-ltb, ltb-false, not-true, true≢false}
use Rattle.std.proofs.lemmas.Option.{none-some, same_Some, slice_get_within}
use Rattle.svid_replay.specs.declared.token_use.Use.{Use}
use Rattle.svid_replay.specs.Records.{State, join}
use Rattle.svid_replay.specs.Sets.{holds}
use Rattle.svid_replay.specs.Buckets.{raised_to}
use Rattle.svid_replay.specs.Uses.{Uses, has_use_of, has_withdrawal_of, live}
use Rattle.svid_replay.proofs.UsesLemmas.{no_uses_hold_none}
use Rattle.svid_log.specs.Groups.{Accepts, Anew, Event, Look, Reader, Miss, Put, Read, Restart, Save, Saved, Tell, Terms, World, begins, far, happen, happens, is_gone, judges, looked, reader_behind, missed, new_reader, put, read_next, reads, restart, start, told}
use Rattle.svid_log.specs.Once.{AcceptedIsFirst, AcceptedIsHeld, AcceptedIsUnrefused, AcceptedOnce, HaveIds, LaterInLogIsPast, OwnIsAccepted, PositionIsAcceptedOnce}
use Rattle.svid_log.specs.Steps.{counts, gains_by, is_early, reached}
use Rattle.svid_log.proofs.StepsLemmas.{Covers, counts_from, covered_is_past, covers_join, covers_live, covers_reached, covers_read, first_by, first_from, first_is_live, first_is_sound, joined_has, live_is_held, live_is_live, read_covers_own, read_from, unused_is_not_withdrawn, used_is_held}

-- a claim is in the log before a position
pub record Stands (log : List Use) (n : ℕ) (u : Use) : Type 0 where
  pub position : ℕ
  pub before : position < n
  pub stands : slice_get log position ≡ Some u
  pub sound : u.at < u.exp

-- a member has read a prefix of the log, and holds something of each claim in it until that expires, or accepts nothing until
-- then; the uses beside its record are of that prefix
pub record IsRead (log : List Use) (x : Reader) : Type 0 where
  pub within : x.read ≤ length log
  pub covered : (j : ℕ) (c : Use) → j < x.read → slice_get log j ≡ Some c → c.at < c.exp → Covers x.held x.beside c ⊎ (c.exp ≤ x.deaf)
  pub from_log : (u : Use) → IsTrue (holds x.beside u) → Stands log x.read u

-- what is held of a claim is also held later, or the member accepts nothing until the claim expires
either : (x y : State) (s t : Uses) (c : Use) (deaf : ℕ) → (Covers x s c → Covers y t c) → Covers x s c ⊎ (c.exp ≤ deaf) → Covers y t c ⊎ (c.exp ≤ deaf)
either x y s t c deaf f (inl k) = inl (f k)
either x y s t c deaf f (inr le) = inr le

nothing_is_read : (log : List Use) → IsRead log new_reader
nothing_is_read log = record {
  within = omega arith;
  covered = λ j c lt e sound. absurd (below_none j lt);
  from_log = λ u h. absurd (true≢false (sym h ∙ no_uses_hold_none u));
}
  where
    below_none : (j : ℕ) → j < 0 → ⊥
    below_none j lt = omega arith

-- the same for a prefix of the log that has expired
record IsGone (until front : ℕ) (log : List Use) : Type 0 where
  within : front ≤ length log
  each : (j : ℕ) (c : Use) → j < front → slice_get log j ≡ Some c → c.exp ≤ until

is_gone_says : (until front : ℕ) (log : List Use) → is_gone until front log ≡ true → IsGone until front log
is_gone_says until zero log h = record { within = omega arith; each = λ j c lt e. absurd (below_none j lt) }
  where
    below_none : (j : ℕ) → j < 0 → ⊥
    below_none j lt = omega arith
is_gone_says until (suc n) [] h = absurd (false≢true h)
is_gone_says until (suc n) (u ∷ log) h =
    let both = and_parts (not (nat_lt until u.exp)) (is_gone until n log) h in
    let rest = is_gone_says until n log both.1 in
    record { within = up n (length log) rest.within; each = λ j c lt e. at_index rest both.0 j c lt e }
  where
    up : (k l : ℕ) → k ≤ l → suc k ≤ suc l
    up k l le = omega arith

    at_index : IsGone until n log → not (nat_lt until u.exp) ≡ true → (j : ℕ) (c : Use) → j < suc n → slice_get (u ∷ log) j ≡ Some c → c.exp ≤ until
    at_index rest past zero c lt e = ltb-false until c.exp (ap (λ (x : Use). nat_lt until x.exp) (sym (same_Some u c e)) ∙ not-true (nat_lt until u.exp) past)
    at_index rest past (suc j) c lt e = rest.each j c (omega arith) e

gone_is_read : (log : List Use) (x : Reader) (front until : ℕ) → is_gone until front log ≡ true → IsRead log (begins x (reader_behind front until))
gone_is_read log x front until h =
    let gone = is_gone_says until front log h in
    record {
      within = gone.within;
      covered = λ j c lt e sound. inr (gone.each j c lt e);
      from_log = λ u held. absurd (true≢false (sym held ∙ no_uses_hold_none u));
    }

-- positions after a prefix of a list
pub drop_index : {A : Type 0} (n : ℕ) (xs : List A) (k : ℕ) → slice_get (drop n xs) k ≡ slice_get xs (n + k)
drop_index zero xs k = ap (λ i. slice_get xs i) (none k)
  where
    none : (i : ℕ) → i ≡ 0 + i
    none i = omega arith
drop_index (suc n) [] k = refl
drop_index (suc n) (x ∷ xs) k = drop_index n xs k ∙ ap (λ i. slice_get (x ∷ xs) i) (up n k)
  where
    up : (i j : ℕ) → suc (i + j) ≡ suc i + j
    up i j = omega arith

pub drop_within : {A : Type 0} (n more : ℕ) (xs : List A) → n ≤ length xs → more ≤ length (drop n xs) → n + more ≤ length xs
drop_within zero more xs le rest = none more (length xs) rest
  where
    none : (i l : ℕ) → i ≤ l → 0 + i ≤ l
    none i l h = omega arith
drop_within (suc n) more [] le rest = absurd (omega arith)
drop_within (suc n) more (x ∷ xs) le rest = let up = drop_within n more xs (omega arith) rest in omega arith

missed_is_read : (log : List Use) (x : Reader) (more until : ℕ) → is_gone until more (drop x.read log) ≡ true → IsRead log x → IsRead log (missed x more until)
missed_is_read log x more until h r =
    let gone = is_gone_says until more (drop x.read log) h in
    record {
      within = drop_within x.read more log r.within gone.within;
      covered = λ j c lt e sound. by_index gone j c e sound lt (cases_lt j x.read);
      from_log = λ u held. let s = r.from_log u held in record { position = s.position; before = before_more s.position x.read more s.before; stands = s.stands; sound = s.sound };
    }
  where
    before_more : (p a b : ℕ) → p < a → p < a + b
    before_more p a b lt = omega arith

    up_to : (e a b : ℕ) → e ≤ a → e ≤ max a b
    up_to e a b le = omega arith

    up_to_other : (e a b : ℕ) → e ≤ b → e ≤ max a b
    up_to_other e a b le = omega arith

    not_read : (j a b : ℕ) → j < a + b → a ≤ j → j - a < b
    not_read j a b lt ge = omega arith

    back : (j a : ℕ) → a ≤ j → a + (j - a) ≡ j
    back j a ge = omega arith

    raised : (c : Use) → Covers x.held x.beside c ⊎ (c.exp ≤ x.deaf) → Covers x.held x.beside c ⊎ (c.exp ≤ max x.deaf until)
    raised c (inl k) = inl k
    raised c (inr le) = inr (up_to c.exp x.deaf until le)

    by_index : IsGone until more (drop x.read log) → (j : ℕ) (c : Use) → slice_get log j ≡ Some c → c.at < c.exp → j < x.read + more → (j < x.read) ⊎ (x.read ≤ j) → Covers x.held x.beside c ⊎ (c.exp ≤ max x.deaf until)
    by_index gone j c e sound lt (inl early) = raised c (r.covered j c early e sound)
    by_index gone j c e sound lt (inr ge) =
        inr (up_to_other c.exp x.deaf until (gone.each (j - x.read) c (not_read j x.read more lt ge) (drop_index x.read log (j - x.read) ∙ (ap (λ i. slice_get log i) (back j x.read ge) ∙ e))))

-- positions of a list that grows at its end
early_index : {A : Type 0} (xs : List A) (y : A) (k : ℕ) → k < length xs → slice_get (xs ++ y ∷ []) k ≡ slice_get xs k
early_index [] y k lt = absurd (omega arith)
early_index (z ∷ xs) y zero lt = refl
early_index (z ∷ xs) y (suc k) lt = early_index xs y k (omega arith)

pub later_index : {A : Type 0} (xs : List A) (y : A) (k : ℕ) (x : A) → slice_get xs k ≡ Some x → slice_get (xs ++ y ∷ []) k ≡ Some x
later_index [] y k x e = absurd (none-some x e)
later_index (z ∷ xs) y zero x e = e
later_index (z ∷ xs) y (suc k) x e = later_index xs y k x e

pub index_cases : {A : Type 0} (xs : List A) (y : A) (k : ℕ) (x : A) → slice_get (xs ++ y ∷ []) k ≡ Some x → (slice_get xs k ≡ Some x) ⊎ (y ≡ x)
index_cases [] y zero x e = inr (same_Some y x e)
index_cases [] y (suc k) x e = absurd (none-some x e)
index_cases (z ∷ xs) y zero x e = inl e
index_cases (z ∷ xs) y (suc k) x e = index_cases xs y k x e

length_grows : {A : Type 0} (xs : List A) (y : A) (n : ℕ) → n ≤ length xs → n ≤ length (xs ++ y ∷ [])
length_grows [] y n le = omega arith
length_grows (x ∷ xs) y zero le = omega arith
length_grows (x ∷ xs) y (suc n) le = let more = length_grows xs y n (omega arith) in omega arith

-- what was read stays when the log grows
put_is_read : (log : List Use) (u : Use) (x : Reader) → IsRead log x → IsRead (log ++ u ∷ []) x
put_is_read log u x r = record {
  within = length_grows log u x.read r.within;
  covered = λ j c lt e sound. r.covered j c lt (sym (early_index log u j (below j lt r.within)) ∙ e) sound;
  from_log = λ v h. let s = r.from_log v h in record { position = s.position; before = s.before; stands = later_index log u s.position v s.stands; sound = s.sound };
}
  where
    below : (j : ℕ) → j < x.read → x.read ≤ length log → j < length log
    below j lt le = omega arith

told_is_read : (log : List Use) (x : Reader) (b : State) → IsRead log x → IsRead log (told x b)
told_is_read log x b r = record {
  within = r.within;
  covered = λ j c lt e sound. either x.held (join x.held b) x.beside x.beside c x.deaf (covers_join x.held b x.beside c) (r.covered j c lt e sound);
  from_log = r.from_log;
}

looked_is_read : (log : List Use) (x : Reader) → IsRead log x → IsRead log (looked x)
looked_is_read log x r = record {
  within = r.within;
  covered = λ j c lt e sound. either x.held x.held x.beside (live x.beside x.held.moment) c x.deaf (covers_live x.held x.beside c) (r.covered j c lt e sound);
  from_log = λ u h. r.from_log u (live_is_held x.beside x.held.moment u h);
}

begins_is_read : (log : List Use) (x was : Reader) → IsRead log was → IsRead log (begins x was)
begins_is_read log x was r = record { within = r.within; covered = r.covered; from_log = r.from_log }

reads_is_read : (log : List Use) (far : ℕ) (x : Reader) (now : ℕ) (refused : Bool) (c : Use) → slice_get log x.read ≡ Some c → IsRead log x → IsRead log (reads far x now refused c)
reads_is_read log far x now true c next r = record {
  within = r.within;
  covered = λ j d lt e sound. either x.held (reached x.held now far c) x.beside (live x.beside (reached x.held now far c).moment) d x.deaf (λ k. covers_live (reached x.held now far c) x.beside d (covers_reached x.held now far c x.beside d k)) (r.covered j d lt e sound);
  from_log = λ u h. r.from_log u (live_is_held x.beside (reached x.held now far c).moment u h);
}
reads_is_read log far x now false c next r = record {
  within = let inside = slice_get_within log x.read c next in omega arith;
  covered = λ j d lt e sound. by_index j d lt e sound (cases_lt j x.read);
  from_log = λ u h. by_origin u (read_from x.held x.beside now far c u h);
}
  where
    by_index : (j : ℕ) (d : Use) → j < x.read + 1 → slice_get log j ≡ Some d → d.at < d.exp → (j < x.read) ⊎ (x.read ≤ j) → Covers (reads far x now false c).held (reads far x now false c).beside d ⊎ (d.exp ≤ x.deaf)
    by_index j d lt e sound (inl old) = either x.held (reads far x now false c).held x.beside (reads far x now false c).beside d x.deaf (covers_read x.held x.beside now far c d) (r.covered j d old e sound)
    by_index j d lt e sound (inr ge) =
        let same : j ≡ x.read = omega arith in
        let is = same_Some c d (sym next ∙ (ap (λ i. slice_get log i) (sym same) ∙ e)) in
        inl (subst (Covers (reads far x now false c).held (reads far x now false c).beside) is (read_covers_own x.held x.beside now far c (subst (λ (u : Use). u.at < u.exp) (sym is) sound)))

    by_origin : (u : Use) → IsTrue (holds x.beside u) ⊎ ((u ≡ c) × (c.at < c.exp)) → Stands log (x.read + 1) u
    by_origin u (inl h) = let s = r.from_log u h in record { position = s.position; before = let b = s.before in omega arith; stands = s.stands; sound = s.sound }
    by_origin u (inr e) = record { position = x.read; before = omega arith; stands = next ∙ ap (λ v. Some v) (sym e.0); sound = subst (λ (v : Use). v.at < v.exp) (sym e.0) e.1 }

-- each member of a group has read a prefix of the log, and so had each that was saved
pub record Sound (w : World) : Type 0 where
  pub members : (v : ℕ) → IsRead w.log (w.members v)
  pub saves : (k : ℕ) (s : Saved) → slice_get w.saves k ≡ Some s → IsRead w.log s.was

start_sound : Sound start
start_sound = record { members = λ v. nothing_is_read []; saves = λ k s e. absurd (none-some s e) }

put_sound : (w : World) (v : ℕ) (x : Reader) → IsRead w.log x → Sound w → Sound (put w v x)
put_sound w v x r s = record {
  members = λ n. cond_both (n == v) x (w.members n) (IsRead w.log) (λ _. r) (λ _. s.members n);
  saves = s.saves;
}

read_sound : (limit : ℕ) (w : World) (v now : ℕ) (refused : Bool) (o : Option Use) → slice_get w.log (w.members v).read ≡ o → Sound w → Sound (read_next limit w v now refused o)
read_sound limit w v now refused None e s = s
read_sound limit w v now refused (Some c) e s = put_sound w v (reads limit (w.members v) now refused c) (reads_is_read w.log limit (w.members v) now refused c e (s.members v)) s

restart_sound : (w : World) (v k : ℕ) (o : Option Saved) → slice_get w.saves k ≡ o → Sound w → Sound (restart w v o)
restart_sound w v k None e s = s
restart_sound w v k (Some was) e s =
    cond_both (was.owner == v) (put w v (begins (w.members v) was.was)) w Sound
    (λ _. put_sound w v (begins (w.members v) was.was) (begins_is_read w.log (w.members v) was.was (s.saves k was e)) s) (λ _. s)

-- the log of a group only grows
abbrev Grows : World → World → Type 0
Grows w z = (j : ℕ) (c : Use) → slice_get w.log j ≡ Some c → slice_get z.log j ≡ Some c

read_grows : (limit : ℕ) (w : World) (v now : ℕ) (refused : Bool) (o : Option Use) → Grows w (read_next limit w v now refused o)
read_grows limit w v now refused None j c e = e
read_grows limit w v now refused (Some d) j c e = e

restart_grows : (w : World) (v : ℕ) (o : Option Saved) → Grows w (restart w v o)
restart_grows w v None = λ j c e. e
restart_grows w v (Some s) = cond_both (s.owner == v) (put w v (begins (w.members v) s.was)) w (Grows w) (λ _ j c e. e) (λ _ j c e. e)

-- a member is past a position of the log, in all its lives
abbrev Past : ℕ → Reader → Type 0
Past p x = p < max x.read x.ready

put_past : (p v : ℕ) (w : World) (n : ℕ) (x : Reader) → (Past p (w.members n) → Past p x) → Past p (w.members v) → Past p ((put w n x).members v)
put_past p v w n x on h =
    cond_both (v == n) x (w.members v) (Past p) (λ e. on (subst (λ i. Past p (w.members i)) (eqb-true v n e) h)) (λ _. h)

past_up : (p a b c : ℕ) → a ≤ c → p < max a b → p < max c b
past_up p a b c le lt = omega arith

past_begins : (p a b c : ℕ) → p < max a b → p < max c (max b a)
past_begins p a b c lt = omega arith

reads_past : (p limit : ℕ) (x : Reader) (now : ℕ) (refused : Bool) (c : Use) → Past p x → Past p (reads limit x now refused c)
reads_past p limit x now true c h = h
reads_past p limit x now false c h = past_up p x.read x.ready (x.read + 1) (omega arith) h

read_past : (p v limit : ℕ) (w : World) (n now : ℕ) (refused : Bool) (o : Option Use) → Past p (w.members v) → Past p ((read_next limit w n now refused o).members v)
read_past p v limit w n now refused None h = h
read_past p v limit w n now refused (Some c) h = put_past p v w n (reads limit (w.members n) now refused c) (reads_past p limit (w.members n) now refused c) h

begins_past : (p v : ℕ) (w : World) (n : ℕ) (was : Reader) → Past p (w.members v) → Past p ((put w n (begins (w.members n) was)).members v)
begins_past p v w n was h = put_past p v w n (begins (w.members n) was) (past_begins p (w.members n).read (w.members n).ready was.read) h

past_missed : (p a b f : ℕ) → p < max a b → p < max (a + f) b
past_missed p a b f lt = omega arith

missed_past : (p v : ℕ) (w : World) (n front until : ℕ) → Past p (w.members v) → Past p ((put w n (missed (w.members n) front until)).members v)
missed_past p v w n front until h = put_past p v w n (missed (w.members n) front until) (past_missed p (w.members n).read (w.members n).ready front) h

restart_past : (p v : ℕ) (w : World) (n : ℕ) (o : Option Saved) → Past p (w.members v) → Past p ((restart w n o).members v)
restart_past p v w n None h = h
restart_past p v w n (Some s) h =
    cond_both (s.owner == n) (put w n (begins (w.members n) s.was)) w (λ z. Past p (z.members v)) (λ _. begins_past p v w n s.was h) (λ _. h)

module _ (group : ℕ → Terms) where
  happens_sound : (w : World) (event : Event) → Sound w → Sound (happens group w event)
  happens_sound w (Put u) s = record {
    members = λ v. put_is_read w.log u (w.members v) (s.members v);
    saves = λ k was e. put_is_read w.log u was.was (s.saves k was e);
  }
  happens_sound w (Read v now refused) s = read_sound (far group v now) w v now refused (slice_get w.log (w.members v).read) refl s
  happens_sound w (Tell v b) s = put_sound w v (told (w.members v) b) (told_is_read w.log (w.members v) b (s.members v)) s
  happens_sound w (Look v) s = put_sound w v (looked (w.members v)) (looked_is_read w.log (w.members v) (s.members v)) s
  happens_sound w (Save v) s = record {
    members = s.members;
    saves = λ k was e. elim (index_cases w.saves (record { owner = v; was = w.members v }) k was e) [
      | inl old ↦ s.saves k was old
      | inr new ↦ subst (λ (x : Saved). IsRead w.log x.was) new (s.members v)
    ];
  }
  happens_sound w (Restart v k) s = restart_sound w v k (slice_get w.saves k) refl s
  happens_sound w (Anew v front until) s =
      cond_both (is_gone until front w.log) (put w v (begins (w.members v) (reader_behind front until))) w Sound
      (λ gone. put_sound w v (begins (w.members v) (reader_behind front until)) (gone_is_read w.log (w.members v) front until gone) s) (λ _. s)
  happens_sound w (Miss v front until) s =
      cond_both (is_gone until front (drop (w.members v).read w.log)) (put w v (missed (w.members v) front until)) w Sound
      (λ gone. put_sound w v (missed (w.members v) front until) (missed_is_read w.log (w.members v) front until gone (s.members v)) s) (λ _. s)

  happen_sound : (events : List Event) (w : World) → Sound w → Sound (happen group w events)
  happen_sound [] w s = s
  happen_sound (event ∷ events) w s = happen_sound events (happens group w event) (happens_sound w event s)

  pub is_sound : (events : List Event) → Sound (happen group start events)
  is_sound events = happen_sound events start start_sound

  happens_grows : (w : World) (event : Event) → Grows w (happens group w event)
  happens_grows w (Put u) = λ j c e. later_index w.log u j c e
  happens_grows w (Read v now refused) = read_grows (far group v now) w v now refused (slice_get w.log (w.members v).read)
  happens_grows w (Tell v b) = λ j c e. e
  happens_grows w (Look v) = λ j c e. e
  happens_grows w (Save v) = λ j c e. e
  happens_grows w (Restart v k) = restart_grows w v (slice_get w.saves k)
  happens_grows w (Anew v front until) =
      cond_both (is_gone until front w.log) (put w v (begins (w.members v) (reader_behind front until))) w (Grows w) (λ _ j c e. e) (λ _ j c e. e)
  happens_grows w (Miss v front until) = cond_both (is_gone until front (drop (w.members v).read w.log)) (put w v (missed (w.members v) front until)) w (Grows w) (λ _ j c e. e) (λ _ j c e. e)

  happen_grows : (events : List Event) (w : World) → Grows w (happen group w events)
  happen_grows [] w j c e = e
  happen_grows (event ∷ events) w j c e = happen_grows events (happens group w event) j c (happens_grows w event j c e)

  happens_past : (p v : ℕ) (w : World) (event : Event) → Past p (w.members v) → Past p ((happens group w event).members v)
  happens_past p v w (Put u) h = h
  happens_past p v w (Read n now refused) h = read_past p v (far group n now) w n now refused (slice_get w.log (w.members n).read) h
  happens_past p v w (Tell n b) h = put_past p v w n (told (w.members n) b) (λ k. k) h
  happens_past p v w (Look n) h = put_past p v w n (looked (w.members n)) (λ k. k) h
  happens_past p v w (Save n) h = h
  happens_past p v w (Restart n k) h = restart_past p v w n (slice_get w.saves k) h
  happens_past p v w (Anew n front until) h =
      cond_both (is_gone until front w.log) (put w n (begins (w.members n) (reader_behind front until))) w (λ z. Past p (z.members v)) (λ _. begins_past p v w n (reader_behind front until) h) (λ _. h)
  happens_past p v w (Miss n front until) h =
      cond_both (is_gone until front (drop (w.members n).read w.log)) (put w n (missed (w.members n) front until)) w (λ z. Past p (z.members v)) (λ _. missed_past p v w n front until h) (λ _. h)

  happen_past : (p v : ℕ) (events : List Event) (w : World) → Past p (w.members v) → Past p ((happen group w events).members v)
  happen_past p v [] w h = h
  happen_past p v (event ∷ events) w h = happen_past p v events (happens group w event) (happens_past p v w event h)

  -- what holds of a member after it accepts a claim
  pub accepted_leaves : (w : World) (v now : ℕ) (c : Use) → Accepts group w v now c → (happens group w (Read v now false)).members v ≡ reads (far group v now) (w.members v) now false c
  accepted_leaves w v now c a =
      ap (λ (o : Option Use). (read_next (far group v now) w v now false o).members v) a.next
      ∙ cond-true (v == v) (reads (far group v now) (w.members v) now false c) (w.members v) (eq-eqb v v refl)

  accepted_past : (w : World) (v now : ℕ) (c : Use) → Accepts group w v now c → Past (w.members v).read ((happens group w (Read v now false)).members v)
  accepted_past w v now c a = subst (Past (w.members v).read) (sym (accepted_leaves w v now c a)) (next_is_more (w.members v).read (w.members v).ready)
    where
      next_is_more : (n m : ℕ) → n < max (n + 1) m
      next_is_more n m = omega arith

  -- all sound uses of its key before an accepted claim have expired
  in_front : (w : World) (v now : ℕ) (c : Use) → Sound w → Accepts group w v now c → (j : ℕ) (d : Use) → j < (w.members v).read → slice_get w.log j ≡ Some d → d.at < d.exp → d.key ≡ c.key → d.exp ≤ (judges group w v now c).moment
  in_front w v now c s a j d lt e sound same =
      by_cover ((s.members v).covered j d lt e sound)
    where
      up : (e m n : ℕ) → e ≤ m → m ≤ n → e ≤ n
      up e m n one other = omega arith

      by_cover : Covers (w.members v).held (w.members v).beside d ⊎ (d.exp ≤ (w.members v).deaf) → d.exp ≤ (judges group w v now c).moment
      by_cover (inl k) = covered_is_past (w.members v).held (w.members v).beside now (far group v now) c d a.first k same
      by_cover (inr le) = up d.exp (w.members v).deaf (judges group w v now c).moment le a.heard

pub accepted_is_first : AcceptedIsFirst
accepted_is_first group events v now c a =
    let w = happen group start events in
    (first_is_live (w.members v).held (w.members v).beside now (far group v now) c a.first, in_front group w v now c (is_sound group events) a)

-- two moments of one group
module _ (group : ℕ → Terms) (a b : World) (v w now later : ℕ) (c d : Use) (one : Accepts group a v now c) (two : Accepts group b w later d) (sound : Sound a) (sound_then : Sound b) (grows : Grows a b) (same : c.key ≡ d.key) where
  later_is_past : (a.members v).read < (b.members w).read → c.exp ≤ (judges group b w later d).moment
  later_is_past lt =
      in_front group b w later d sound_then two (a.members v).read c lt (grows (a.members v).read c one.next) (first_is_sound (a.members v).held (a.members v).beside now (far group v now) c one.first) same

  earlier_is_past : (b.members w).read < (a.members v).read → d.exp ≤ (judges group a v now c).moment
  earlier_is_past lt =
      in_front group a v now c sound one (b.members w).read d lt (stood (slice_get a.log (b.members w).read) refl)
      (first_is_sound (b.members w).held (b.members w).beside later (far group w later) d two.first) (sym same)
    where
      stood : (o : Option Use) → slice_get a.log (b.members w).read ≡ o → slice_get a.log (b.members w).read ≡ Some d
      stood None e = absurd (past_none (b.members w).read (a.members v).read a.log e lt (sound.members v).within)
        where
          past_none : (i n : ℕ) (log : List Use) → slice_get log i ≡ None → i < n → n ≤ length log → ⊥
          past_none i n [] e lt le = omega arith
          past_none zero n (x ∷ log) e lt le = none-some x (sym e)
          past_none (suc i) zero (x ∷ log) e lt le = omega arith
          past_none (suc i) (suc n) (x ∷ log) e lt le = past_none i n log e (omega arith) (omega arith)
      stood (Some u) e = e ∙ ap (λ x. Some x) (same_Some u d (sym (grows (b.members w).read u e) ∙ two.next))

past_itself : (p n ready : ℕ) → p < max n ready → ready ≤ n → p ≡ n → ⊥
past_itself p n ready lt le e = omega arith

not_past : (moment e f : ℕ) → moment < e → e ≡ f → f ≤ moment → ⊥
not_past moment e f lt same le = omega arith

module _ (group : ℕ → Terms) (before between : List Event) (v w now later : ℕ) (c d : Use) where
  abbrev one_world : World
  one_world = happen group start before

  abbrev other_world : World
  other_world = happen group (happens group one_world (Read v now false)) between

  sound_first : Sound one_world
  sound_first = is_sound group before

  sound_then : Sound other_world
  sound_then = happen_sound group between (happens group one_world (Read v now false)) (happens_sound group one_world (Read v now false) sound_first)

  grows_then : Grows one_world other_world
  grows_then j u e = happen_grows group between (happens group one_world (Read v now false)) j u (happens_grows group one_world (Read v now false) j u e)

  later_in_log : Accepts group one_world v now c → Accepts group other_world w later d → c.key ≡ d.key
      → ((one_world.members v).read < (other_world.members w).read → c.exp ≤ (judges group other_world w later d).moment)
      × ((other_world.members w).read < (one_world.members v).read → d.exp ≤ (judges group one_world v now c).moment)
  later_in_log one two same = (
    later_is_past group one_world other_world v w now later c d one two sound_first sound_then grows_then same,
    earlier_is_past group one_world other_world v w now later c d one two sound_first sound_then grows_then same,
  )

  position_once : HaveIds group → Accepts group one_world v now c → Accepts group other_world w later d → (one_world.members v).read ≢ (other_world.members w).read
  position_once ids one two e =
      let is = same_Some c d (sym (grows_then (one_world.members v).read c one.next) ∙ (ap (λ i. slice_get other_world.log i) e ∙ two.next)) in
      let who = ids v w (sym one.own ∙ (ap (λ (u : Use). u.validator_id) is ∙ two.own)) in
      let past = happen_past group (one_world.members v).read v between (happens group one_world (Read v now false)) (accepted_past group one_world v now c one) in
      let past_it = subst (λ i. Past (one_world.members v).read (other_world.members i)) who past in
      past_itself (one_world.members v).read (other_world.members w).read (other_world.members w).ready past_it two.ready e

  once : HaveIds group → Accepts group one_world v now c → Accepts group other_world w later d → c.key ≡ d.key → c.exp ≢ d.exp
  once ids one two same exp =
      let order = later_in_log one two same in
      elim (cases_order (one_world.members v).read (other_world.members w).read) [
        | inl e ↦ position_once ids one two e
        | inr (inl lt) ↦ not_past (judges group other_world w later d).moment d.exp c.exp (first_is_live (other_world.members w).held (other_world.members w).beside later (far group w later) d two.first) (sym exp) (order.0 lt)
        | inr (inr gt) ↦ not_past (judges group one_world v now c).moment c.exp d.exp (first_is_live (one_world.members v).held (one_world.members v).beside now (far group v now) c one.first) exp (order.1 gt)
      ]

pub later_in_log_is_past : LaterInLogIsPast
later_in_log_is_past group before between v w now later c d one two same = later_in_log group before between v w now later c d one two same

pub position_is_accepted_once : PositionIsAcceptedOnce
position_is_accepted_once group before between v w now later c d ids one two = position_once group before between v w now later c d ids one two

pub accepted_once : AcceptedOnce
accepted_once group before between v w now later c d ids one two same = once group before between v w now later c d ids one two same

-- the record has an accepted claim
pub accepted_is_held : AcceptedIsHeld
accepted_is_held group w v now c a =
    let x = w.members v in
    let y = reached x.held now (far group v now) c in
    ap (λ (m : Reader). holds m.held.uses c) (accepted_leaves group w v now c a)
    ∙ (ap (λ fate. holds (gains_by fate y c).uses c) a.first ∙ joined_has y c (first_is_live x.held x.beside now (far group v now) c a.first))

-- a member accepts its own claim, where nothing refuses it
pub not_live : (m e : ℕ) → m < e → e ≤ m → ⊥
not_live m e lt le = omega arith

pub none_of_key : (s : Uses) (key : List ℕ) → ((u : Use) → IsTrue (holds s u) → u.key ≡ key → ⊥) → has_use_of s key ≡ false
none_of_key s key none = false_from_ne_true (has_use_of s key) (λ h. let u = used_is_held s key h in none u.0 u.1 u.2)

pub own_is_accepted : OwnIsAccepted
own_is_accepted group events v now c o unused alone =
    let w = happen group start events in
    let x = w.members v in
    let y = judges group w v now c in
    record {
      next = o.next;
      own = o.own;
      ready = o.ready;
      heard = o.heard;
      first = first_from (counts y.moment c) (is_early (raised_to x.held now) (far group v now) c) c.withdrawn (has_withdrawal_of y.uses c.key) (has_use_of y.uses c.key) (has_use_of (live x.beside y.moment) c.key)
          (counts_from y.moment c o.live o.sound) o.timely o.claims (unused_is_not_withdrawn y.uses c.key unused) unused
          (none_of_key (live x.beside y.moment) c.key (λ u h same.
          let r = (is_sound group events).members v in
          let s = r.from_log u (live_is_held x.beside y.moment u h) in
          not_live y.moment u.exp (live_is_live x.beside y.moment u h) (alone s.position u s.before s.stands s.sound same)));
    }

pub accepted_is_unrefused : AcceptedIsUnrefused
accepted_is_unrefused group w v now c a =
    let x = w.members v in
    let says = first_by _ _ _ _ _ _ a.first in
    (first_is_live x.held x.beside now (far group v now) c a.first, says.3, says.4)

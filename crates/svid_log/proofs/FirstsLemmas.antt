-- Where no use of a key comes from outside the log, a member's record has the use that it found first in the log.
use Rattle.std.proofs.Common.{◌≡◌, ◌⊎◌, inl, inr, ℕ, ◌+◌, ◌<◌, max, Bool, true, false, ◌||◌, nat_lt, List, [], ◌∷◌, ◌++◌, drop, refl, sym, ap, ◌∙◌, subst, arith}
use Rattle.std.specs.Prelude.{IsTrue, Option, Some, None, slice_get, ◌==◌}
use Rattle.std.specs.List.{AllByRecursion}
use Rattle.std.specs.Ordering.{eq_by_cmp}
use Rattle.std.proofs.lemmas.Bool.{and_parts, cond_both, ltb-true, or_cases, true≢false}
use Rattle.std.proofs.lemmas.Option.{none-some}
use Rattle.svid_replay.specs.declared.token_use.Use.{Use}
use Rattle.svid_replay.specs.Buckets.{raised_to}
use Rattle.svid_replay.specs.Records.{State, join, state_of}
use Rattle.svid_replay.specs.Sets.{holds}
use Rattle.svid_replay.specs.Use.{use_cmp}
use Rattle.svid_replay.specs.Uses.{has_use_of}
use Rattle.svid_replay.proofs.RecordsLemmas.{holds-join, moment-join}
use Rattle.svid_replay.proofs.UsesLemmas.{holds-uses_in, no_uses_hold_none}
use Rattle.svid_log.specs.declared.fate.Fate.{Fate}
use Rattle.svid_log.specs.declared.fate.Fate.TheVariants.{Accepted, First, Expired, TooFarAhead, Withdrawal, Withdrawn, Replayed}
use Rattle.svid_log.specs.Groups.{Anew, Event, Look, Reader, Miss, Put, Read, Restart, Save, Saved, Tell, Terms, World, begins, far, happen, happens, is_gone, judges, looked, reader_behind, missed, put, read_next, reads, restart, start, told}
use Rattle.svid_log.specs.Once.{OneUseOfAKey, OnlyClaimIsAccepted, TellsNoUseOf}
use Rattle.svid_log.specs.Steps.{fate_at, gains_by, is_early, reached}
use Rattle.svid_log.proofs.GroupsLemmas.{Stands, later_index, none_of_key, not_live, own_is_accepted, index_cases}
use Rattle.svid_log.proofs.StepsLemmas.{first_by, first_is_sound, held_is_used, same_use, withdrawal_by, withdrawal_is_sound}

-- a use of a join is of one side or the other, and is live
joined_from : (x b : State) (u : Use) → IsTrue (holds (join x b).uses u) → IsTrue (holds b.uses u) ⊎ IsTrue (holds x.uses u)
joined_from x b u h =
    or_cases (holds b.uses u) (holds x.uses u) ((and_parts (nat_lt (max x.moment b.moment) u.exp) (holds b.uses u || holds x.uses u) (sym (holds-join x b u) ∙ h)).1)

joined_live : (x b : State) (u : Use) → IsTrue (holds (join x b).uses u) → (join x b).moment < u.exp
joined_live x b u h =
    subst (λ n. n < u.exp) (sym (moment-join x b)) (ltb-true (max x.moment b.moment) u.exp ((and_parts (nat_lt (max x.moment b.moment) u.exp) (holds b.uses u || holds x.uses u) (sym (holds-join x b u) ∙ h)).0))

nothing_new : (x : State) (moment : ℕ) (u : Use) → IsTrue (holds (raised_to x moment).uses u) → IsTrue (holds x.uses u)
nothing_new x moment u h =
    elim (joined_from x (state_of moment []) u h) [ inl a ↦ absurd (true≢false (sym a ∙ no_uses_hold_none u)) | inr a ↦ a ]

reached_from : (x : State) (now limit : ℕ) (c u : Use) → IsTrue (holds (reached x now limit c).uses u) → IsTrue (holds x.uses u)
reached_from x now limit c u h =
    cond_both (is_early (raised_to x now) limit c) (raised_to x now) (raised_to (raised_to x now) c.at) (λ y. IsTrue (holds y.uses u) → IsTrue (holds x.uses u))
    (λ _ k. nothing_new x now u k) (λ _ k. nothing_new x now u (nothing_new (raised_to x now) c.at u k)) h

reached_live : (x : State) (now limit : ℕ) (c u : Use) → IsTrue (holds (reached x now limit c).uses u) → (reached x now limit c).moment < u.exp
reached_live x now limit c u h =
    cond_both (is_early (raised_to x now) limit c) (raised_to x now) (raised_to (raised_to x now) c.at) (λ y. IsTrue (holds y.uses u) → y.moment < u.exp)
    (λ _ k. joined_live x (state_of now []) u k) (λ _ k. joined_live (raised_to x now) (state_of c.at []) u k) h

new_from : (x : State) (c u : Use) → IsTrue (holds (join x (state_of x.moment (c ∷ []))).uses u) → (u ≡ c) ⊎ IsTrue (holds x.uses u)
new_from x c u h =
    elim (joined_from x (state_of x.moment (c ∷ [])) u h) [
      | inl a ↦ inl (same_use u c (elim (or_cases (eq_by_cmp use_cmp u c) false (sym (holds-uses_in (c ∷ []) u) ∙ a)) [ inl e ↦ e | inr e ↦ absurd (true≢false (sym e)) ]))
      | inr a ↦ inr a
    ]

module _ (key : List ℕ) where
  -- a record has at most one use of the key beside withdrawals, and all its uses of the key are in the log before a position
  record Quiet (log : List Use) (n : ℕ) (x : State) : Type 0 where
    one : (u v : Use) → IsTrue (holds x.uses u) → IsTrue (holds x.uses v) → u.key ≡ key → v.key ≡ key → u.withdrawn ≡ false → v.withdrawn ≡ false → u ≡ v
    from_log : (u : Use) → IsTrue (holds x.uses u) → u.key ≡ key → Stands log n u

  quiet_within : (log : List Use) (n : ℕ) (x y : State) → ((u : Use) → IsTrue (holds y.uses u) → u.key ≡ key → IsTrue (holds x.uses u)) → Quiet log n x → Quiet log n y
  quiet_within log n x y from q = record {
    one = λ u v h k same other. q.one u v (from u h same) (from v k other) same other;
    from_log = λ u h same. q.from_log u (from u h same) same;
  }

  quiet_join : (log : List Use) (n : ℕ) (x b : State) → ((u : Use) → IsTrue (holds b.uses u) → u.key ≡ key → ⊥) → Quiet log n x → Quiet log n (join x b)
  quiet_join log n x b silent q =
      quiet_within log n x (join x b) (λ u h same. elim (joined_from x b u h) [ inl a ↦ absurd (silent u a same) | inr a ↦ a ]) q

  quiet_reached : (log : List Use) (n : ℕ) (x : State) (now limit : ℕ) (c : Use) → Quiet log n x → Quiet log n (reached x now limit c)
  quiet_reached log n x now limit c q = quiet_within log n x (reached x now limit c) (λ u h same. reached_from x now limit c u h) q

  stands_on : (log : List Use) (n more : ℕ) (u : Use) → Stands log n u → Stands log (n + more) u
  stands_on log n more u s = record { position = s.position; before = let b = s.before in omega arith; stands = s.stands; sound = s.sound }

  quiet_on : (log : List Use) (n more : ℕ) (x : State) → Quiet log n x → Quiet log (n + more) x
  quiet_on log n more x q = record { one = q.one; from_log = λ u h same. stands_on log n more u (q.from_log u h same) }

  -- the record gains a use: a withdrawal, or one of a key that has none yet
  quiet_new : (log : List Use) (n : ℕ) (x : State) (c : Use) → slice_get log n ≡ Some c → c.at < c.exp → (c.withdrawn ≡ false → has_use_of x.uses c.key ≡ false) → Quiet log n x → Quiet log (n + 1) (join x (state_of x.moment (c ∷ [])))
  quiet_new log n x c next sound unused q = record {
    one = λ u v h k same other first second. by_cases u v same other first second (new_from x c u h) (new_from x c v k);
    from_log = λ u h same. by_origin u same (new_from x c u h);
  }
    where
      clash : (u v : Use) → u.key ≡ key → v.key ≡ key → u ≡ c → u.withdrawn ≡ false → IsTrue (holds x.uses v) → ⊥
      clash u v same other a first h =
          true≢false (sym (held_is_used x.uses v c.key h (other ∙ sym same ∙ ap (λ (w : Use). w.key) a)) ∙ unused (sym (ap (λ (w : Use). w.withdrawn) a) ∙ first))

      by_cases : (u v : Use) → u.key ≡ key → v.key ≡ key → u.withdrawn ≡ false → v.withdrawn ≡ false → (u ≡ c) ⊎ IsTrue (holds x.uses u) → (v ≡ c) ⊎ IsTrue (holds x.uses v) → u ≡ v
      by_cases u v same other first second (inl a) (inl b) = a ∙ sym b
      by_cases u v same other first second (inl a) (inr b) = absurd (clash u v same other a first b)
      by_cases u v same other first second (inr a) (inl b) = absurd (clash v u other same b second a)
      by_cases u v same other first second (inr a) (inr b) = q.one u v a b same other first second

      by_origin : (u : Use) → u.key ≡ key → (u ≡ c) ⊎ IsTrue (holds x.uses u) → Stands log (n + 1) u
      by_origin u same (inl e) = record { position = n; before = omega arith; stands = next ∙ ap (λ v. Some v) (sym e); sound = subst (λ (v : Use). v.at < v.exp) (sym e) sound }
      by_origin u same (inr h) = stands_on log n 1 u (q.from_log u h same)

  quiet_gains : (log : List Use) (n : ℕ) (fate : Fate) (x : State) (c : Use) → slice_get log n ≡ Some c
      → (fate ≡ First → (c.at < c.exp) × (has_use_of x.uses c.key ≡ false)) → (fate ≡ Withdrawal → (c.at < c.exp) × (c.withdrawn ≡ true))
      → Quiet log n x → Quiet log (n + 1) (gains_by fate x c)
  quiet_gains log n First x c next first withdrawal q = let f = first refl in quiet_new log n x c next f.0 (λ _. f.1) q
  quiet_gains log n Withdrawal x c next first withdrawal q =
      let f = withdrawal refl in quiet_new log n x c next f.0 (λ none. absurd (true≢false (sym f.1 ∙ none))) q
  quiet_gains log n Accepted x c next first withdrawal q = quiet_on log n 1 x q
  quiet_gains log n Expired x c next first withdrawal q = quiet_on log n 1 x q
  quiet_gains log n TooFarAhead x c next first withdrawal q = quiet_on log n 1 x q
  quiet_gains log n Withdrawn x c next first withdrawal q = quiet_on log n 1 x q
  quiet_gains log n Replayed x c next first withdrawal q = quiet_on log n 1 x q

  -- the same for a member
  abbrev IsQuiet : List Use → Reader → Type 0
  IsQuiet log x = Quiet log x.read x.held

  quiet_reads : (log : List Use) (limit : ℕ) (x : Reader) (now : ℕ) (refused : Bool) (c : Use) → slice_get log x.read ≡ Some c → IsQuiet log x → IsQuiet log (reads limit x now refused c)
  quiet_reads log limit x now true c next q = quiet_reached log x.read x.held now limit c q
  quiet_reads log limit x now false c next q =
      quiet_gains log x.read (fate_at x.held x.beside now limit c) (reached x.held now limit c) c next
      (λ e. (first_is_sound x.held x.beside now limit c e, (first_by _ _ _ _ _ _ e).4)) (λ e. (withdrawal_is_sound x.held x.beside now limit c e, (withdrawal_by _ _ _ _ _ _ e).2))
      (quiet_reached log x.read x.held now limit c q)

  quiet_later : (log : List Use) (u : Use) (n : ℕ) (x : State) → Quiet log n x → Quiet (log ++ u ∷ []) n x
  quiet_later log u n x q = record {
    one = q.one;
    from_log = λ v h same. let s = q.from_log v h same in record { position = s.position; before = s.before; stands = later_index log u s.position v s.stands; sound = s.sound };
  }

  quiet_nothing : (log : List Use) (n moment : ℕ) → Quiet log n (state_of moment [])
  quiet_nothing log n moment = record {
    one = λ u v h k same other. absurd (true≢false (sym h ∙ no_uses_hold_none u));
    from_log = λ u h same. absurd (true≢false (sym h ∙ no_uses_hold_none u));
  }

  -- and for each member of a group, and each save
  record AllQuiet (w : World) : Type 0 where
    members : (v : ℕ) → IsQuiet w.log (w.members v)
    saves : (k : ℕ) (s : Saved) → slice_get w.saves k ≡ Some s → IsQuiet w.log s.was

  put_quiet : (w : World) (v : ℕ) (x : Reader) → IsQuiet w.log x → AllQuiet w → AllQuiet (put w v x)
  put_quiet w v x q all = record { members = λ n. cond_both (n == v) x (w.members n) (IsQuiet w.log) (λ _. q) (λ _. all.members n); saves = all.saves }

  next_quiet : (limit : ℕ) (w : World) (v now : ℕ) (refused : Bool) (o : Option Use) → slice_get w.log (w.members v).read ≡ o → AllQuiet w → AllQuiet (read_next limit w v now refused o)
  next_quiet limit w v now refused None e all = all
  next_quiet limit w v now refused (Some c) e all = put_quiet w v (reads limit (w.members v) now refused c) (quiet_reads w.log limit (w.members v) now refused c e (all.members v)) all

  restart_quiet : (w : World) (v k : ℕ) (o : Option Saved) → slice_get w.saves k ≡ o → AllQuiet w → AllQuiet (restart w v o)
  restart_quiet w v k None e all = all
  restart_quiet w v k (Some s) e all =
      cond_both (s.owner == v) (put w v (begins (w.members v) s.was)) w AllQuiet (λ _. put_quiet w v (begins (w.members v) s.was) (all.saves k s e) all) (λ _. all)

  module _ (group : ℕ → Terms) where
    happens_quiet : (w : World) (event : Event) → TellsNoUseOf key event → AllQuiet w → AllQuiet (happens group w event)
    happens_quiet w (Put u) silent all = record {
      members = λ v. quiet_later w.log u (w.members v).read (w.members v).held (all.members v);
      saves = λ k s e. quiet_later w.log u s.was.read s.was.held (all.saves k s e);
    }
    happens_quiet w (Read v now refused) silent all = next_quiet (far group v now) w v now refused (slice_get w.log (w.members v).read) refl all
    happens_quiet w (Tell v b) silent all = put_quiet w v (told (w.members v) b) (quiet_join w.log (w.members v).read (w.members v).held b silent (all.members v)) all
    happens_quiet w (Look v) silent all = put_quiet w v (looked (w.members v)) (all.members v) all
    happens_quiet w (Save v) silent all = record {
      members = all.members;
      saves = λ k s e. elim (index_cases w.saves (record { owner = v; was = w.members v }) k s e) [
        | inl old ↦ all.saves k s old
        | inr new ↦ subst (λ (x : Saved). IsQuiet w.log x.was) new (all.members v)
      ];
    }
    happens_quiet w (Restart v k) silent all = restart_quiet w v k (slice_get w.saves k) refl all
    happens_quiet w (Anew v front until) silent all =
        cond_both (is_gone until front w.log) (put w v (begins (w.members v) (reader_behind front until))) w AllQuiet
        (λ _. put_quiet w v (begins (w.members v) (reader_behind front until)) (quiet_nothing w.log front 0) all) (λ _. all)
    happens_quiet w (Miss v front until) silent all =
        cond_both (is_gone until front (drop (w.members v).read w.log)) (put w v (missed (w.members v) front until)) w AllQuiet
        (λ _. put_quiet w v (missed (w.members v) front until) (quiet_on w.log (w.members v).read front (w.members v).held (all.members v)) all) (λ _. all)

    happen_quiet : (events : List Event) (w : World) → AllByRecursion (TellsNoUseOf key) events → AllQuiet w → AllQuiet (happen group w events)
    happen_quiet [] w silent all = all
    happen_quiet (event ∷ events) w silent all = happen_quiet events (happens group w event) silent.1 (happens_quiet w event silent.0 all)

    is_quiet : (events : List Event) → AllByRecursion (TellsNoUseOf key) events → AllQuiet (happen group start events)
    is_quiet events silent = happen_quiet events start silent (record { members = λ n. quiet_nothing [] 0 0; saves = λ i s e. absurd (none-some s e) })

pub one_use_of_a_key : OneUseOfAKey
one_use_of_a_key group events v one other silent h k same =
    ((is_quiet one.key group events silent).members v).one one other h k refl (sym same)

pub only_claim_is_accepted : OnlyClaimIsAccepted
only_claim_is_accepted group events v now c silent o alone =
    let w = happen group start events in
    let x = w.members v in
    let y = judges group w v now c in
    own_is_accepted group events v now c o
    (none_of_key y.uses c.key (λ u h same.
    let s = ((is_quiet c.key group events silent).members v).from_log u (reached_from x.held now (far group v now) c u h) same in
    not_live y.moment u.exp (reached_live x.held now (far group v now) c u h) (alone s.position u s.before s.stands s.sound same)))
    alone

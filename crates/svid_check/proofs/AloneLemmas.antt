-- One validator accepts one signing input once: from the acceptance on, its record holds the use, or is past it.
use Rattle.std.proofs.Common.{◌≡◌, ◌⊎◌, inl, inr, ℕ, zero, suc, ◌<◌, ◌≤◌, max, Bool, true, false, ◌||◌, nat_lt, List, [], ◌∷◌, ◌++◌, length, Option, Some, None, IsTrue, refl, sym, ap, ◌∙◌, subst, arith, if◌then◌else◌}
use Rattle.std.specs.Prelude.{Result, Ok, slice_get}
use Rattle.std.specs.Ordering.{eq_by_cmp, is_eq}
use Rattle.std.proofs.lemmas.Bool.{and_from, cases_lt, lt-ltb, or_left, or_right}
use Rattle.std.proofs.lemmas.Cmp.{tied_itself}
use Rattle.std.proofs.lemmas.Option.{none-some, slice_get_past}
use Rattle.svid_token.specs.declared.refusal.Refusal.{Refusal}
use Rattle.svid_replay.specs.Buckets.{raised_to}
use Rattle.svid_replay.specs.declared.token_use.Use.{Use}
use Rattle.svid_replay.specs.Records.{State, batch_state, join, state_of}
use Rattle.svid_replay.specs.Sets.{holds}
use Rattle.svid_replay.specs.Use.{use_cmp}
use Rattle.svid_replay.specs.Uses.{uses_in}
use Rattle.svid_replay.proofs.RecordsLemmas.{holds-join, moment-join}
use Rattle.svid_replay.proofs.TestsLemmas.{same_some}
use Rattle.svid_replay.proofs.UseLemmas.{use_total}
use Rattle.svid_replay.proofs.UsesLemmas.{holds-uses_in}
use Rattle.svid_check.specs.declared.accepted.Accepted.{Accepted}
use Rattle.svid_check.specs.Alone.{AcceptsOnce, Alone, Answer, Call, Check, PutsBackFrom, Restart, Save, Take, Tick, Withdraw, answer_alone, called, calls, joined_of, put_back, with_held, withdrawal_alone, Renew, setting_alone}
use Rattle.svid_check.specs.Changes.{accepted_in, gains, horizon, settled, withdrawn_in}
use Rattle.svid_check.specs.Lawful.{Accepts, input_of}
use Rattle.svid_check.specs.Runs.{Terms}
use Rattle.svid_check.specs.Setting.{Setting}
use Rattle.svid_check.proofs.AnswersLemmas.{accepted_is}
use Rattle.svid_check.proofs.LawfulLemmas.{alive, fresh, of_its_input}

-- a record holds the use, or is past it
abbrev Spent : Use → State → Type 0
Spent u a = IsTrue (holds a.uses u) ⊎ (u.exp ≤ a.moment)

join_spent : (u : Use) (a b : State) → Spent u a → Spent u (join a b)
join_spent u a b (inl h) =
    elim (cases_lt (max a.moment b.moment) u.exp) [
      | inl lt ↦ inl (holds-join a b u ∙ and_from (nat_lt (max a.moment b.moment) u.exp) (holds b.uses u || holds a.uses u) (lt-ltb (max a.moment b.moment) u.exp lt) (or_right (holds b.uses u) (holds a.uses u) h))
      | inr ge ↦ inr (subst (λ n. u.exp ≤ n) (sym (moment-join a b)) ge)
    ]
join_spent u a b (inr h) =
    let past : u.exp ≤ max a.moment b.moment = omega arith in
    inr (subst (λ n. u.exp ≤ n) (sym (moment-join a b)) past)

raised_spent : (u : Use) (a : State) (now : ℕ) → Spent u a → Spent u (raised_to a now)
raised_spent u a now h = join_spent u a (state_of now []) h

gains_spent : (u : Use) (a : State) (added : Option Use) → Spent u a → Spent u (gains a added)
gains_spent u a (Some v) h = join_spent u a (state_of a.moment (v ∷ [])) h
gains_spent u a None h = h

either_spent : (u : Use) (test : Bool) (a b : State) → Spent u a → Spent u b → Spent u (if test then a else b)
either_spent u true a b h k = h
either_spent u false a b h k = k

has_itself : (u : Use) → holds (uses_in (u ∷ [])) u ≡ true
has_itself u = holds-uses_in (u ∷ []) u ∙ or_left (eq_by_cmp use_cmp u u) false (ap is_eq (tied_itself use_total u))

added_spent : (a : State) (u : Use) → a.moment < u.exp → Spent u (join a (state_of a.moment (u ∷ [])))
added_spent a u lt =
    let b = state_of a.moment (u ∷ []) in
    let later : max a.moment a.moment < u.exp = omega arith in
    inl (holds-join a b u ∙ and_from (nat_lt (max a.moment a.moment) u.exp) (holds b.uses u || holds a.uses u) (lt-ltb (max a.moment a.moment) u.exp later) (or_left (holds b.uses u) (holds a.uses u) (has_itself u)))

-- so it is with the record of a validator, and with its saves from the n-th on
record IsSpentFrom (u : Use) (n : ℕ) (w : Alone) : Type 0 where
  held : Spent u w.held
  saves : (k : ℕ) (a : State) → n ≤ k → slice_get w.saves k ≡ Some a → Spent u a

with_spent : (u : Use) (n : ℕ) (w : Alone) (a : State) → IsSpentFrom u n w → Spent u a → IsSpentFrom u n (with_held w a)
with_spent u n w a h k = record { held = k; saves = h.saves }

put_back_spent : (u : Use) (n : ℕ) (w : Alone) (k : ℕ) (o : Option State) → IsSpentFrom u n w → n ≤ k → slice_get w.saves k ≡ o → IsSpentFrom u n (put_back w o)
put_back_spent u n w k None h le e = h
put_back_spent u n w k (Some a) h le e = with_spent u n w a h (h.saves k a le e)

-- what is in a list with one thing more was in it, or is that thing
index_cases : {A : Type 0} (xs : List A) (y : A) (k : ℕ) (x : A) → slice_get (xs ++ y ∷ []) k ≡ Some x → (slice_get xs k ≡ Some x) ⊎ (y ≡ x)
index_cases [] y zero x e = inr (same_some y x e)
index_cases [] y (suc k) x e = absurd (none-some x e)
index_cases (z ∷ xs) y zero x e = inl e
index_cases (z ∷ xs) y (suc k) x e = index_cases xs y k x e

past_not : (m e f : ℕ) → m < f → e ≡ f → e ≤ m → ⊥
past_not m e f lt same le = omega arith

module _ (t : Terms) where
  calls_spent : (u : Use) (n : ℕ) (more : List Call) (w : Alone) → PutsBackFrom n more → IsSpentFrom u n w → IsSpentFrom u n (calls t w more)
  calls_spent u n [] w from h = h
  calls_spent u n (Check now token refused ∷ more) w from h =
      let answer = answer_alone t w now token refused in
      calls_spent u n more (called t w (Check now token refused)) from
      (with_spent u n w (settled (raised_to w.held now) answer) h (gains_spent u (raised_to w.held now) (accepted_in answer) (raised_spent u w.held now h.held)))
  calls_spent u n (Withdraw now key exp refused ∷ more) w from h =
      let added = withdrawn_in (withdrawal_alone t w now key exp refused) in
      calls_spent u n more (called t w (Withdraw now key exp refused)) from
      (with_spent u n w (gains (raised_to w.held now) added) h (gains_spent u (raised_to w.held now) added (raised_spent u w.held now h.held)))
  calls_spent u n (Tick now ∷ more) w from h =
      calls_spent u n more (called t w (Tick now)) from (with_spent u n w (raised_to w.held now) h (raised_spent u w.held now h.held))
  calls_spent u n (Take now b refused ∷ more) w from h =
      let a = raised_to w.held now in
      let spent = raised_spent u w.held now h.held in
      let test = nat_lt (horizon now t.ahead) b.moment in
      let c = join a (batch_state (joined_of b refused)) in
      calls_spent u n more (called t w (Take now b refused)) from
      (with_spent u n w (if test then a else c) h (either_spent u test a c spent (join_spent u a (batch_state (joined_of b refused)) spent)))
  calls_spent u n (Answer now s ∷ more) w from h =
      let a = raised_to w.held now in
      let spent = raised_spent u w.held now h.held in
      let test = nat_lt (horizon now t.ahead) s.moment in
      calls_spent u n more (called t w (Answer now s)) from
      (with_spent u n w (if test then a else raised_to a s.moment) h (either_spent u test a (raised_to a s.moment) spent (raised_spent u a s.moment spent)))
  calls_spent u n (Save ∷ more) w from h =
      calls_spent u n more (called t w Save) from
      (record {
        held = h.held;
        saves = λ k a le e. elim (index_cases w.saves w.held k a e) [ inl old ↦ h.saves k a le old | inr new ↦ subst (Spent u) new h.held ];
      })
  calls_spent u n (Renew renewal ∷ more) w from h = calls_spent u n more (called t w (Renew renewal)) from (record { held = h.held; saves = h.saves })
  calls_spent u n (Restart k ∷ more) w from h =
      calls_spent u n more (called t w (Restart k)) from.1 (put_back_spent u n w k (slice_get w.saves k) h from.0 refl)

  -- an acceptance is such a call
  check_spent : (w : Alone) (now : ℕ) (token : List ℕ) (first : Accepted) → answer_alone t w now token false ≡ Ok first
      → IsSpentFrom first.used (length w.saves) (called t w (Check now token false))
  check_spent w now token first is =
      let a = raised_to w.held now in
      let s = setting_alone t w in
      let later = alive s a.moment a.uses token first.used (accepted_is s a token false first is) in
      record {
        held = subst (λ (answer : Result Accepted Refusal). Spent first.used (settled a answer)) (sym is) (added_spent a first.used later);
        saves = λ k b le e. absurd (none-some b (sym (slice_get_past w.saves k le) ∙ e));
      }

-- and a record that is such accepts no token of the signing input
spent_refuses : (s other : Setting) (a b : State) (token again : List ℕ) (u v : Use) → Accepts s a.moment a.uses token u → Accepts other b.moment b.uses again v
    → input_of again ≡ input_of token → Spent u b → ⊥
spent_refuses s other a b token again u v one two input (inl h) =
    fresh other b.moment b.uses again v u two h (of_its_input s other a.moment b.moment a.uses b.uses token again u v one two (sym input)).0
spent_refuses s other a b token again u v one two input (inr past) =
    past_not b.moment u.exp v.exp (alive other b.moment b.uses again v two) (of_its_input s other a.moment b.moment a.uses b.uses token again u v one two (sym input)).1 past

pub accepts_once : AcceptsOnce
accepts_once t w now later token again calls_between refused first second is from input is_second =
    let a = raised_to w.held now in
    let x = calls t (called t w (Check now token false)) calls_between in
    let b = raised_to x.held later in
    let h = calls_spent t first.used (length w.saves) calls_between (called t w (Check now token false)) from (check_spent t w now token first is) in
    let s = setting_alone t w in
    let other = setting_alone t x in
    spent_refuses s other a b token again first.used second.used (accepted_is s a token false first is) (accepted_is other b again refused second is_second) input (raised_spent first.used x.held later h.held)

-- A claim that is accepted is that of a token which the definition accepts.
use Rattle.std.proofs.Common.{◌≡◌, ◌<◌, ◌≤◌, ℕ, Bool, true, false, not, nat_lt, List, [], ◌∷◌, Option, Some, None, refl, sym, ap, ◌∙◌, subst, inl, inr, arith}
use Rattle.std.specs.Prelude.{Result, Ok, Err}
use Rattle.std.specs.List.{AllByRecursion}
use Rattle.std.proofs.lemmas.Bool.{cases_eq, cond_both, lt-ltb}
use Rattle.svid_token.specs.Rows.{first_row, judged}
use Rattle.svid_token.specs.declared.refusal.Refusal.{Refusal}
use Rattle.svid_token.specs.declared.refusal.Refusal.TheVariants.{Expired, Replayed, Withdrawn}
use Rattle.svid_replay.specs.declared.token_use.Use.{Use}
use Rattle.svid_replay.specs.Buckets.{raised_to}
use Rattle.svid_replay.specs.Records.{State}
use Rattle.svid_replay.specs.Uses.{has_use_of, has_withdrawal_of}
use Rattle.svid_check.specs.declared.accepted.Accepted.{Accepted}
use Rattle.svid_check.specs.Runs.{Terms}
use Rattle.svid_check.specs.Setting.{Renewal, Setting, renewed}
use Rattle.svid_check.specs.Verdict.{made_at, verdict}
use Rattle.svid_check.specs.World as check
use Rattle.svid_check.specs.World.{Member, Renew, Restart, Tick, answer_at, answer_by, check_answer, setting_at, ticked}
use Rattle.svid_check.proofs.AgainLemmas.{accepted_are_judged_again}
use Rattle.svid_check.proofs.LawfulLemmas.{of_its_input}
use Rattle.svid_check.proofs.IndexesLemmas.{put_own}
use Rattle.svid_log.specs.Steps.{is_early}
use Rattle.svid_group.specs.Told.{IsNoRestartOf}
use Rattle.svid_group.specs.Verdicts.{ClaimsAreVerdicts, GoesOn, InputIsAcceptedOnce, JudgedAreVerdicts, RenewedAreVerdicts}
use Rattle.svid_group.specs.World.{Anew, Aside, Call, Event, World, happen, happens, judges, passed, told_by}
use Rattle.svid_group.proofs.ChangesLemmas.{event_changes, renewal_then, who}
use Rattle.svid_group.proofs.LaterLemmas.{events_leave_later, goes_on, reached_later}
use Rattle.svid_group.proofs.OnceLemmas.{accepted_is_unrefused, accepted_once}

none_again : (l d u : Bool) → l ≡ true → d ≡ false → u ≡ false → first_row ((Expired, not l) ∷ (Withdrawn, d) ∷ (Replayed, u) ∷ []) ≡ None
none_again l d u hl hd hu = rw (hl, hd, hu)

pub claims_are_verdicts : ClaimsAreVerdicts
claims_are_verdicts group w v now moment c uses token a is le of accepts =
    let s = setting_at group w.group v in
    let y = judges group w v now c in
    let says = accepted_is_unrefused group w v now c accepts in
    accepted_are_judged_again s moment y.moment uses y.uses token a is le
    ∙ ap (λ found. judged found (Some (made_at y.moment a)))
    (none_again (nat_lt y.moment a.used.exp) (has_withdrawal_of y.uses a.used.key) (has_use_of y.uses a.used.key)
    (lt-ltb y.moment a.used.exp (subst (λ e. y.moment < e) of.1 says.0))
    (ap (has_withdrawal_of y.uses) (sym of.0) ∙ says.1) (ap (has_use_of y.uses) (sym of.0) ∙ says.2))

-- a validator goes on: its moment is no less, and its setting is the same
record KeepsOn (x y : Member) : Type 0 where
  moment : x.held.moment ≤ y.held.moment
  renewal : y.renewal ≡ x.renewal

keeps_more : (x y z : Member) → KeepsOn x y → KeepsOn y z → KeepsOn x z
keeps_more x y z one other = record { moment = let a = one.moment in let b = other.moment in omega arith; renewal = other.renewal ∙ one.renewal }

passed_renewal : (far : ℕ) (x : Member) (now : ℕ) (c : Use) → (passed far x now c).renewal ≡ x.renewal
passed_renewal far x now c = let y = ticked x now in cond_both (is_early y.held far c) y (ticked y c.at) (λ (m : Member). m.renewal ≡ x.renewal) (λ _. refl) (λ _. refl)

told_renewal : (far : ℕ) (x : Member) (a : Aside) (now : ℕ) (refused : Bool) (c : Use) → (told_by far x a now refused c).renewal ≡ x.renewal
told_renewal far x a now true c = passed_renewal far x now c
told_renewal far x a now false c = passed_renewal far x now c

no_restart : (v : ℕ) (e : Event) → GoesOn v e → IsNoRestartOf v e
no_restart v (Call (Restart n k)) free = free
no_restart v (Call e) free = tt
no_restart v (Anew n front until) free = free
no_restart v _ free = tt

no_renewal : (w : check.World) (v : ℕ) (e : check.Event) → GoesOn v (Call e) → v ≡ who e → renewal_then w e ≡ (w.members (who e)).renewal
no_renewal w v (Renew n renewal) free same = absurd (free (sym same))
no_renewal w v _ free same = refl

module _ (group : ℕ → Terms) where
  call_renewal : (w : check.World) (v : ℕ) (e : check.Event) → GoesOn v (Call e) → ((check.happens group w e).members v).renewal ≡ (w.members v).renewal
  call_renewal w v e free =
      let c = event_changes group w e in
      elim (cases_eq v (who e)) [
        | inl same ↦ subst (λ i. ((check.happens group w e).members i).renewal ≡ (w.members i).renewal) (sym same) (c.renewal ∙ no_renewal w v e free same)
        | inr d ↦ ap (λ (x : Member). x.renewal) (c.others v d)
      ]

  keeps_on : (w : World) (v : ℕ) (e : Event) → GoesOn v e → KeepsOn (w.group.members v) ((happens group w e).group.members v)
  keeps_on w v e free = record {
    moment = (events_leave_later group w v e (no_restart v e free)).moment;
    renewal = goes_on (λ x y. y.renewal ≡ x.renewal) (λ x. refl) told_renewal group w v (GoesOn v) (call_renewal w.group v) (λ n front until fine is. refl) e free;
  }

  go_on : (events : List Event) (w : World) (v : ℕ) → AllByRecursion (GoesOn v) events → KeepsOn (w.group.members v) ((happen group w events).group.members v)
  go_on [] w v free = record { moment = same_le (w.group.members v).held.moment; renewal = refl }
    where
      same_le : (n : ℕ) → n ≤ n
      same_le n = omega arith
  go_on (e ∷ events) w v free =
      let next = happens group w e in
      keeps_more (w.group.members v) (next.group.members v) ((happen group next events).group.members v) (keeps_on w v e free.0) (go_on events next v free.1)

-- what is answered is the verdict
accepted_by : (due : Result (Option Accepted) Refusal) (a : Accepted) → answer_by due ≡ Ok a → due ≡ Ok (Some a)
accepted_by (Ok (Some other)) a is = cc
accepted_by (Ok None) a is = absurd (cc)
accepted_by (Err refusal) a is = absurd (cc)

answered_by : (s : Setting) (x : State) (token : List ℕ) (refused : Bool) (a : Accepted) → check_answer s x token refused ≡ Ok a → verdict s x.moment x.uses token ≡ Ok (Some a)
answered_by s x token true a is = absurd (cc)
answered_by s x token false a is = accepted_by (verdict s x.moment x.uses token) a is

pub judged_are_verdicts : JudgedAreVerdicts
judged_are_verdicts group w v at now token refused a between c is free of accepts =
    let first = happens group w (Call (Tick v at)) in
    let z = happen group first between in
    let x = raised_to (w.group.members v).held at in
    let ticks = put_own w.group v (ticked (w.group.members v) at) in
    let on = go_on group between first v free in
    let due = answered_by (setting_at group w.group v) x token refused a is in
    let same : (z.group.members v).renewal ≡ (w.group.members v).renewal = on.renewal ∙ ap (λ (m : Member). m.renewal) ticks in
    let before : x.moment ≤ (z.group.members v).held.moment = subst (λ (m : Member). m.held.moment ≤ (z.group.members v).held.moment) ticks on.moment in
    let y = judges group z v now c in
    let later : (z.group.members v).held.moment ≤ y.moment = (reached_later (check.far group v now) (z.group.members v).held now c).moment in
    claims_are_verdicts group z v now x.moment c x.uses token a
    (subst (λ (r : Option Renewal). verdict (renewed (group v).setting r) x.moment x.uses token ≡ Ok (Some a)) (sym same) due)
    (up x.moment (z.group.members v).held.moment y.moment before later) of accepts
  where
    up : (l m n : ℕ) → l ≤ m → m ≤ n → l ≤ n
    up l m n one other = omega arith

pub renewed_are_verdicts : RenewedAreVerdicts
renewed_are_verdicts group w v at now renewal token refused a c is of accepts =
    let x = happens group w (Call (Renew v renewal)) in
    let z = happens group x (Call (Tick v at)) in
    let y = judges group z v now c in
    let renews : (x.group.members v).renewal ≡ Some renewal = ap (λ (m : Member). m.renewal) (put_own w.group v (check.with_renewal (w.group.members v) (Some renewal))) in
    let ticks : (z.group.members v).renewal ≡ (x.group.members v).renewal = ap (λ (m : Member). m.renewal) (put_own x.group v (ticked (x.group.members v) at)) in
    subst (λ (r : Option Renewal). verdict (renewed (group v).setting r) y.moment y.uses token ≡ Ok (Some (made_at y.moment a))) (ticks ∙ renews)
    (judged_are_verdicts group x v at now token refused a [] c is tt of accepts)

pub input_is_accepted_once : InputIsAcceptedOnce
input_is_accepted_once group before between v w now later c d a b s other moment then_moment uses others token again ids one two input of_a of_b first second =
    let same = of_its_input s other moment then_moment uses others token again a b one two input in
    accepted_once group before between v w now later c d ids first second (of_a.0 ∙ (same.0 ∙ sym of_b.0)) (of_a.1 ∙ (same.1 ∙ sym of_b.1))

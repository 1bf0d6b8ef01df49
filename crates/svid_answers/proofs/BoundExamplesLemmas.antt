-- The calls of the examples answer 200.
use Rattle.std.proofs.Common.{◌≡◌, ◌≢◌, inr, ℕ, ◌<◌, ◌^◌, max, not, Bool, true, false, List, [], ◌∷◌, refl, sym, ap, ◌∙◌, subst, arith, Option, Some, None, Ok, slice_get}
use Rattle.std.specs.Prelude.{◌+◌, ◌&&◌}
use Rattle.std.proofs.lemmas.Bool.{cond-false, cond-true, eq-eqb, false≢true, le-ltb, lt-ltb}
use Rattle.svid_replay.specs.declared.token_use.Use.{Use}
use Rattle.svid_replay.specs.Buckets.{raised_to}
use Rattle.svid_replay.specs.Records as records
use Rattle.svid_replay.proofs.RecordsLemmas.{moment-join}
use Rattle.svid_claims.specs.declared.outcome.Outcome.{Outcome}
use Rattle.svid_claims.specs.declared.outcome.Outcome.TheVariants.{Withdrawn, Taken, Far, Deaf, Expired, Mine}
use Rattle.svid_claims.specs.Calls.{found_by}
use Rattle.svid_claims.specs.Groups.{Answer, Put, Terms}
use Rattle.svid_claims.specs.Groups as claims
use Rattle.svid_claims.specs.Once.{HasMargin}
use Rattle.svid_claims.specs.Outcomes.{first_row, outcome_of}
use Rattle.svid_claims.specs.Owners.{owner_of_caller, same, withdrawn}
use Rattle.svid_claims.proofs.RowsLemmas.{is_same, not_same}
use Rattle.svid_check.specs.Said.{Said}
use Rattle.svid_check.specs.Setting.{Held, Setting, with_state}
use Rattle.svid_check.specs.Verdict.{key_of, verdict_on}
use Rattle.svid_check.specs.declared.accepted.Accepted.{Accepted}
use Rattle.svid_requests.specs.declared.needs.Needs.TheVariants.{Claim}
use Rattle.svid_requests.specs.declared.judgment.Judgment.TheVariants.{Passes}
use Rattle.svid_requests.specs.declared.verdict.Verdict.TheVariants.{Accept}
use Rattle.svid_requests.specs.declared.event.Event as requests
use Rattle.svid_requests.specs.declared.event.Event.TheVariants.{Judged, Found}
use Rattle.svid_requests.specs.declared.deed.Deed.TheVariants as deed
use Rattle.svid_requests.specs.Tables.{at_moment, begun, heard, heard_deed}
use Rattle.svid_member.specs.declared.claimed.Claimed.{Claimed}
use Rattle.svid_member.specs.declared.mode.Mode.TheVariants.{Bound}
use Rattle.svid_member.specs.declared.readiness.Readiness.{Readiness}
use Rattle.svid_member.specs.Claiming.{Finds, FindsBy, awaited, claim_for, is_of, look_at}
use Rattle.svid_member.specs.Judging.{judged_by}
use Rattle.svid_member.specs.Members.{MemberData, with_requests}
use Rattle.svid_member.specs.Modes.{adds_at_judgment}
use Rattle.svid_answers.specs.Calls.{life_after, mode_of}
use Rattle.svid_answers.specs.Group.{comes}
use Rattle.svid_answers.specs.Records.{member_of}
use Rattle.svid_answers.specs.BoundExamples.{BoundRunAnswers, asks, bound_calls, bound_terms}
use Rattle.svid_answers.specs.Runs.{Call, Claims, Now, Run, changed, moved, nothing, stores_of}
use Rattle.svid_answers.proofs.RecordsLemmas.{accepts_says}

-- nothing stands against a claim
none_holds : (a b c d e : Bool) → a ≡ false → b ≡ false → c ≡ false → d ≡ false → e ≡ false → first_row ((Withdrawn, a) ∷ (Taken, b) ∷ (Far, c) ∷ (Deaf, d) ∷ (Expired, e) ∷ []) ≡ Mine
none_holds a b c d e a_is b_is c_is d_is e_is = cond-false a Withdrawn _ a_is ∙ cond-false b Taken _ b_is ∙ cond-false c Far _ c_is ∙ cond-false d Deaf _ d_is ∙ cond-false e Expired Mine e_is

module _ (V : Type 0) (now : ℕ) (knows : Readiness) (h : Held V) (s : Setting) (said : Said) (accepted : Accepted) (caller : List ℕ) where
  abbrev u : Use
  u = accepted.used

  abbrev t : Terms
  t = bound_terms u.exp

  abbrev told : List ℕ → ℕ
  told owner = u.exp

  -- what is left of each call
  abbrev hears : Now → ℕ → Option (List ℕ) → records.State → requests.Event → Now
  hears a v whose x e = let r = at_moment (a.members v).requests 0 in moved a v whose x (with_requests (a.members v) (heard false r e)) (heard_deed false r e)

  abbrev begins : Now → ℕ → Now
  begins a v = record {
    stores = a.stores;
    answers = a.answers;
    lives = λ n. life_after true v n (a.lives n);
    held = changed a.held v h.state;
    members = changed a.members v (member_of (mode_of t) [] (t.ahead v) t.lasts knows (begun Claim 7));
    given = a.given;
  }

  abbrev comes_to : Now → ℕ → Now
  comes_to a v = moved a v None (a.held v) (with_requests (a.members v) (comes false (at_moment (a.members v).requests 0))) deed.Nothing

  abbrev judges : Now → ℕ → Now
  judges a v = hears a v None (judged_by (adds_at_judgment (a.members v).mode) (raised_to (a.held v) now) (Ok accepted)) (Judged 0 (Passes u))

  abbrev puts : Now → Now
  puts a =
      let e = Put u.key (owner_of_caller caller u.exp) u.exp 0 in
      record { stores = (claims.happens t (stores_of a) e).stores; answers = (claims.happens t (stores_of a) e).answers; lives = a.lives; held = a.held; members = a.members; given = a.given }

  abbrev finds : Now → ℕ → Now
  finds a v = hears a v (Some caller) h.state (Found 0 (Passes u))

  abbrev asked : Now → ℕ → Now
  asked a v = judges (comes_to (begins a v) v) v

  asks_run : (calls : List (Call V)) (a : Now) (v : ℕ) → Run V t told calls a → Run V t told (asks v now knows h.state calls) (asked a v)
  asks_run calls a v run =
      let b = comes_to (begins a v) v in
      let r = at_moment (b.members v).requests 0 in
      let e = Judged 0 (Passes u) in
      (b, (begins a v, (a, run, refl), inr refl), inr (Ok accepted, with_requests (b.members v) (heard false r e), record { deed = heard_deed false r e; answer = Some (Ok accepted) }, ((false, refl, refl), refl), refl))

  -- the member that is asked, and the answer of the store
  abbrev waiting : MemberData
  waiting = with_requests (member_of Bound [] 0 u.exp knows (begun Claim 7)) (heard false (at_moment (comes false (at_moment (begun Claim 7) 0)) 0) (Judged 0 (Passes u)))

  abbrev answer : Answer
  answer = record { key = u.key; found = record { owner = owner_of_caller caller u.exp; exp = u.exp }; time = 0; epoch = 0; deaf = 0 }

  abbrev claimed : Claimed
  claimed = record { deed = heard_deed false (at_moment waiting.requests 0) (Found 0 (Passes u)); outcome = Some Mine; answer = Some (Ok accepted) }

  module _ (raised : raised_to h.state now ≡ h.state) (is : verdict_on s h.state.moment h.state.uses said ≡ Ok (Some accepted)) (fits : u.exp < 2 ^ 64) (other : owner_of_caller caller u.exp ≢ withdrawn) where
    waits : awaited waiting 0 0 said ≡ Some u
    waits =
        let says = accepts_says s h.state.moment h.state.uses said accepted is in
        cond-true (is_of said u) (Some u) None (ap (λ b. b && same (key_of said) u.key) (eq-eqb said.exp u.exp (sym says.exp_is)) ∙ is_same (key_of said) u.key (sym says.key_is))

    counts : outcome_of (claim_for waiting u caller) (found_by answer) u.exp (look_at waiting (max h.state.moment now) (found_by answer)) ≡ Mine
    counts =
        let says = accepts_says s h.state.moment h.state.uses said accepted is in
        let live = says.live in
        let at = sym (moment-join h.state (records.state_of now [])) ∙ ap (λ (x : records.State). x.moment) raised in
        none_holds _ _ _ _ _ (not_same (owner_of_caller caller u.exp) withdrawn other) (ap not (is_same (owner_of_caller caller u.exp) (owner_of_caller caller u.exp) refl)) (le-ltb (0 + u.exp) u.exp (omega arith))
        (ap not (lt-ltb 0 u.exp (omega arith))) (ap not (lt-ltb (look_at waiting (max h.state.moment now) (found_by answer)) u.exp (omega arith)))

    found : Finds s now 0 0 u caller (found_by answer) said h h waiting (with_requests waiting (heard false (at_moment waiting.requests 0) (Found 0 (Passes u)))) claimed
    found =
        subst (λ (o : Outcome). FindsBy o s now 0 0 u said h h waiting (with_requests waiting (heard false (at_moment waiting.requests 0) (Found 0 (Passes u)))) claimed) (sym counts) (
          Ok accepted,
          subst (λ (x : records.State). verdict_on s x.moment x.uses said ≡ Ok (Some accepted)) (sym raised) is,
          ap (with_state h) (sym raised),
          (false, refl, refl),
          refl,
          refl,
        )

    claim : (a : Now) (v : ℕ) → slice_get a.answers 0 ≡ Some answer → Claims t told a v 0 u caller answer
    claim a v given = record { given = given; key_is = refl; tells = λ n. refl; fits = fits; owner = λ strict. absurd (false≢true strict) }

    bound : (b : Now) × HasMargin t × Run V t told (bound_calls now knows h s said u caller) b × (b.given ≡ record { verdict = Accept u; caller = Some caller } ∷ record { verdict = Accept u; caller = Some caller } ∷ [])
    bound =
        let asked_both = asked (asked (nothing V t told (λ v. []) knows) 0) 1 in
        let a = puts asked_both in
        let run = asks_run (asks 0 now knows h.state []) (asked (nothing V t told (λ v. []) knows) 0) 1 (asks_run [] (nothing V t told (λ v. []) knows) 0 (λ v. [], knows, refl)) in (
          finds (finds a 0) 1,
          λ v. omega arith,
          (
            finds a 0,
            (
              a,
              (asked_both, run, (tt, λ n. refl, refl)),
              inr (answer, _, claimed, claim a 0 refl, sym raised, waits, found, refl),
            ),
            inr (answer, _, claimed, claim (finds a 0) 1 refl, sym raised, waits, found, refl),
          ),
          refl,
        )

pub bound_run_answers : (V : Type 0) → BoundRunAnswers V
bound_run_answers V now knows h s said accepted caller raised is fits other = bound V now knows h s said accepted caller raised is fits other

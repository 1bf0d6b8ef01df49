-- What the functions of this crate compute, as events of a group.
use Rattle.std.proofs.Common.{◌≡◌, ℕ, ◌+◌, ◌^◌, ◌<◌, ◌≤◌, max, Bool, true, false, not, List, [], ◌∷◌, refl, sym, ap, ◌∙◌, subst, arith}
use Rattle.std.specs.Prelude.{Some, slice_get, nat_lt}
use Rattle.std.specs.List.{AllByRecursion}
use Rattle.std.proofs.lemmas.Bool.{le-ltb, ltb-false, ltb-true, lt-ltb, true≢false}
use Rattle.svid_claims.specs.declared.claim.Claim.{Claim}
use Rattle.svid_claims.specs.declared.outcome.Outcome.{Outcome}
use Rattle.svid_claims.specs.declared.outcome.Outcome.TheVariants.{Withdrawn, Taken, Far, Deaf, Expired, Mine}
use Rattle.svid_claims.specs.Calls.{AnswersAreEvents, EndsAreEvents, entry_of, found_by}
use Rattle.svid_claims.specs.Expiries.{PutsTelling, TellsExpiry}
use Rattle.svid_claims.specs.Groups.{Accepts, Answer, End, Entry, Event, Member, Store, Terms, World, happen, happens, is_used, moment_of, next_epoch, start}
use Rattle.svid_claims.specs.Outcomes.{first_row, outcome_of}
use Rattle.svid_claims.specs.Owners.{same, withdrawn}
use Rattle.svid_claims.specs.Times.{capped, deaf_after}
use Rattle.svid_claims.proofs.AcceptsLemmas.{accepted_says, mode_from, says_accepted}
use Rattle.svid_claims.proofs.ExpiriesLemmas.{owners_tell_expiries}
use Rattle.svid_claims.proofs.GroupsLemmas.{store_at}
use Rattle.svid_claims.proofs.RowsLemmas.{is_same, same_is}

-- the five tests of an outcome
abbrev tested : (gone other far deaf past : Bool) → Outcome
tested gone other far deaf past = first_row ((Withdrawn, gone) ∷ (Taken, other) ∷ (Far, far) ∷ (Deaf, deaf) ∷ (Expired, past) ∷ [])

mine_by : (gone own far heard live : Bool) → tested gone (not own) far (not heard) (not live) ≡ Mine → (gone ≡ false) × (own ≡ true) × (far ≡ false) × (heard ≡ true) × (live ≡ true)
mine_by true own far heard live h = absurd (cc)
mine_by false false far heard live h = absurd (cc)
mine_by false true true heard live h = absurd (cc)
mine_by false true false false live h = absurd (cc)
mine_by false true false true false h = absurd (cc)
mine_by false true false true true h = (refl, refl, refl, refl, refl)

mine_from : (gone own far heard live : Bool) → gone ≡ false → own ≡ true → far ≡ false → heard ≡ true → live ≡ true → tested gone (not own) far (not heard) (not live) ≡ Mine
mine_from gone own far heard live hg ho hf hh hl = rw hg (rw ho (rw hf (rw hh (rw hl))))

-- what fits into 64 bits passes a bound where it passes the bound in 64 bits
from_capped : (deaf exp : ℕ) → exp < 2 ^ 64 → capped deaf < exp → deaf < exp
from_capped deaf exp fits lt = omega arith

to_capped : (deaf exp : ℕ) → deaf < exp → capped deaf < exp
to_capped deaf exp lt = omega arith

module _ (t : Terms) (events : List Event) (told : List ℕ → ℕ) (v now i : ℕ) (a : Answer) (c : Claim)
    (puts : AllByRecursion (PutsTelling told) events) (tells : TellsExpiry told (entry_of c)) (fits : c.exp < 2 ^ 64) (given : slice_get (happen t start events).answers i ≡ Some a) where
  abbrev w : World
  w = happen t start events

  abbrev x : Member
  x = w.members v

  abbrev moment : ℕ
  moment = moment_of (t.ahead v) x now a

  abbrev outcome : Outcome
  outcome = outcome_of c (found_by a) t.lasts moment

  -- an answer that found the claim's owner found its expiry
  found_exp : same a.found.owner withdrawn ≡ false → a.found.owner ≡ c.owner.bytes → a.found.exp ≡ c.exp
  found_exp claims owner =
      let ne : a.found.owner ≡ withdrawn → ⊥ = λ is. true≢false (sym (is_same a.found.owner withdrawn is) ∙ claims) in
      sym (owners_tell_expiries t events told i a puts given ne) ∙ (ap told owner ∙ tells (λ is. ne (owner ∙ is)))

  mine_accepts : outcome ≡ Mine → (t.strict ≡ true → (c.owner.bytes ≡ t.owner v x.life c.exp) × (is_used x.uses a.key moment ≡ false)) → Accepts t w v now i a × (a.found ≡ entry_of c)
  mine_accepts mine mode =
      let p = mine_by (same a.found.owner withdrawn) (same a.found.owner c.owner.bytes) (nat_lt (a.time + t.lasts) c.exp) (nat_lt (capped a.deaf) c.exp) (nat_lt moment c.exp) mine in
      let owner = same_is a.found.owner c.owner.bytes p.1 in
      let exp = found_exp p.0 owner in (
        record {
          given = given;
          accepted = says_accepted t v x now a (record {
            near = subst (λ n. n ≤ a.time + t.lasts) (sym exp) (ltb-false (a.time + t.lasts) c.exp p.2);
            heard = subst (λ n. a.deaf < n) (sym exp) (from_capped a.deaf c.exp fits (ltb-true (capped a.deaf) c.exp p.3));
            live = subst (λ n. moment < n) (sym exp) (ltb-true moment c.exp p.4);
            claims = p.0;
            mode = mode_from t v x moment a (λ is. let both = mode is in (owner ∙ (both.0 ∙ ap (λ e. t.owner v x.life e) (sym exp)), both.1));
          });
        },
        one_entry a.found owner exp,
      )
    where
      one_entry : (e : Entry) → e.owner ≡ c.owner.bytes → e.exp ≡ c.exp → e ≡ entry_of c
      one_entry e owner exp = rw owner (rw exp)

  accepts_mine : Accepts t w v now i a → a.found.owner ≡ c.owner.bytes → outcome ≡ Mine
  accepts_mine accepts owner =
      let says = accepted_says t v x now a accepts.accepted in
      let exp = found_exp says.claims owner in
      mine_from (same a.found.owner withdrawn) (same a.found.owner c.owner.bytes) (nat_lt (a.time + t.lasts) c.exp) (nat_lt (capped a.deaf) c.exp) (nat_lt moment c.exp)
      says.claims (is_same a.found.owner c.owner.bytes owner) (le-ltb (a.time + t.lasts) c.exp (subst (λ n. n ≤ a.time + t.lasts) exp says.near))
      (lt-ltb (capped a.deaf) c.exp (to_capped a.deaf c.exp (subst (λ n. a.deaf < n) exp says.heard))) (lt-ltb moment c.exp (subst (λ n. moment < n) exp says.live))

pub answers_are_events : AnswersAreEvents
answers_are_events t events told v now i a c puts tells fits given = (mine_accepts t events told v now i a c puts tells fits given, accepts_mine t events told v now i a c puts tells fits given)

pub ends_are_events : EndsAreEvents
ends_are_events t w s time entries le =
    let y = w.stores s in
    let is : max (deaf_after time t.lasts y.deaf) (deaf_after y.latest t.lasts y.deaf) ≡ deaf_after time t.lasts y.deaf = later_counts y.latest y.deaf le in
    let at : ((happens t w (End s entries (deaf_after time t.lasts y.deaf))).stores s).deaf ≡ deaf_after time t.lasts y.deaf
    = ap (λ (z : Store). z.deaf) (store_at w s (next_epoch t.lasts y entries (deaf_after time t.lasts y.deaf))) ∙ is in
    (at, ap capped at ∙ in_bits y.deaf)
  where
    later_counts : (latest before : ℕ) → latest ≤ time → max (max before (time + t.lasts)) (max before (latest + t.lasts)) ≡ max before (time + t.lasts)
    later_counts latest before le = omega arith

    in_bits : (before : ℕ) → capped (deaf_after time t.lasts before) ≡ capped (deaf_after time t.lasts (capped before))
    in_bits before = omega arith

-- What it takes to accept a token, test by test.
use Rattle.std.proofs.Common.{◌≡◌, inl, inr, ℕ, ◌+◌, ◌<◌, ◌≤◌, Bool, true, false, cond, not, ◌&&◌, ◌∙◌}
use Rattle.std.specs.Prelude.{nat_le, nat_lt}
use Rattle.std.proofs.lemmas.Bool.{and_from, and_parts, cases_Bool, cond-true, cond-false, le-leb, leb-true, lt-ltb, ltb-true, not-true, not_from_false}
use Rattle.svid_claims.specs.Groups.{Answer, Member, Terms, is_accepted, is_fresh, is_used, moment_of}
use Rattle.svid_claims.specs.Owners.{same, withdrawn}
use Rattle.svid_claims.proofs.RowsLemmas.{is_same}

-- five tests
and_five : (a b c d e : Bool) → (a && b && c && d && e) ≡ true → (a ≡ true) × (b ≡ true) × (c ≡ true) × (d ≡ true) × (e ≡ true)
and_five a b c d e h =
    let four = and_parts (a && b && c && d) e h in
    let three = and_parts (a && b && c) d four.0 in
    let two = and_parts (a && b) c three.0 in
    let one = and_parts a b two.0 in
    (one.0, one.1, two.1, three.1, four.1)

from_five : (a b c d e : Bool) → a ≡ true → b ≡ true → c ≡ true → d ≡ true → e ≡ true → (a && b && c && d && e) ≡ true
from_five a b c d e ha hb hc hd he = and_from (a && b && c && d) e (and_from (a && b && c) d (and_from (a && b) c (and_from a b ha hb) hc) hd) he

module _ (t : Terms) where
  -- what an acceptance says
  pub record Says (v : ℕ) (x : Member) (now : ℕ) (a : Answer) : Type 0 where
    pub near : a.found.exp ≤ a.time + t.lasts
    pub heard : a.deaf < a.found.exp
    pub live : moment_of (t.ahead v) x now a < a.found.exp
    pub claims : same a.found.owner withdrawn ≡ false
    pub mode : cond t.strict (is_fresh t v x (moment_of (t.ahead v) x now a) a) true ≡ true

  pub accepted_says : (v : ℕ) (x : Member) (now : ℕ) (a : Answer) → is_accepted t v x now a ≡ true → Says v x now a
  accepted_says v x now a h =
      let moment = moment_of (t.ahead v) x now a in
      let p = and_five (nat_le a.found.exp (a.time + t.lasts)) (nat_lt a.deaf a.found.exp) (nat_lt moment a.found.exp) (not (same a.found.owner withdrawn)) (cond t.strict (is_fresh t v x moment a) true) h in
      record {
        near = leb-true a.found.exp (a.time + t.lasts) p.0;
        heard = ltb-true a.deaf a.found.exp p.1;
        live = ltb-true moment a.found.exp p.2;
        claims = not-true (same a.found.owner withdrawn) p.3;
        mode = p.4;
      }

  pub says_accepted : (v : ℕ) (x : Member) (now : ℕ) (a : Answer) → Says v x now a → is_accepted t v x now a ≡ true
  says_accepted v x now a s =
      let moment = moment_of (t.ahead v) x now a in
      from_five (nat_le a.found.exp (a.time + t.lasts)) (nat_lt a.deaf a.found.exp) (nat_lt moment a.found.exp) (not (same a.found.owner withdrawn)) (cond t.strict (is_fresh t v x moment a) true)
      (le-leb a.found.exp (a.time + t.lasts) s.near) (lt-ltb a.deaf a.found.exp s.heard) (lt-ltb moment a.found.exp s.live) (not_from_false (same a.found.owner withdrawn) s.claims) s.mode

  -- a claim of the member's life, of a key that it knows no live use of, if the group is strict
  pub mode_from : (v : ℕ) (x : Member) (moment : ℕ) (a : Answer) → (t.strict ≡ true → (a.found.owner ≡ t.owner v x.life a.found.exp) × (is_used x.uses a.key moment ≡ false)) → cond t.strict (is_fresh t v x moment a) true ≡ true
  mode_from v x moment a h = elim (cases_Bool t.strict) [
    | inl is ↦
        let both = h is in
        cond-true t.strict (is_fresh t v x moment a) true is
        ∙ and_from (same a.found.owner (t.owner v x.life a.found.exp)) (not (is_used x.uses a.key moment)) (is_same a.found.owner (t.owner v x.life a.found.exp) both.0) (not_from_false (is_used x.uses a.key moment) both.1)
    | inr other ↦ cond-false t.strict (is_fresh t v x moment a) true other
  ]

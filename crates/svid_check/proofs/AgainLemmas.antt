-- A token that was accepted is judged again by its use.
use Rattle.std.proofs.Common.{◌≡◌, ◌≤◌, ℕ, ◌+◌, false, List, ◌++◌, drop, length, Option, Some, None, refl, ap, ◌∙◌, arith}
use Rattle.std.specs.Prelude.{◌==◌, Result, is_none, nat_lt, not, option_map}
use Rattle.std.specs.List.{list_any}
use Rattle.std.proofs.lemmas.Bool.Decides.{nat_tests}
use Rattle.svid_token.specs.Rows.{first_row, holds_of, judged}
use Rattle.svid_token.specs.declared.refusal.Refusal.{Refusal}
use Rattle.svid_keys.specs.Candidates.{bundle_at}
use Rattle.svid_replay.specs.Uses.{Uses}
use Rattle.svid_check.specs.declared.accepted.Accepted.{Accepted}
use Rattle.svid_check.specs.Said.{Said, said_of, token_rows}
use Rattle.svid_check.specs.Setting.{Setting}
use Rattle.svid_check.specs.Verdict.{AcceptedAreJudgedAgain, acceptance, again_rows, is_own, is_signed, key_of, keys_for, made_at, rows_if_said, setting_rows, verdict, verdict_rows}
use Rattle.svid_check.proofs.RowsLemmas.{judged-Ok, none_of_both, passed, passes}

-- what begins by a moment has begun later, and what lasts at most that long does so later
begun_later : (moment later : ℕ) (nbf : Option ℕ) → moment ≤ later → holds_of nbf (λ n. nat_lt moment n) ≡ false → holds_of nbf (λ n. nat_lt later n) ≡ false
begun_later moment later None le begun = refl
begun_later moment later (Some n) le begun = grind (arith, nat_tests)

lasts_later : (moment later exp : ℕ) (longest : Option ℕ) → moment ≤ later → holds_of longest (λ l. nat_lt (moment + l) exp) ≡ false → holds_of longest (λ l. nat_lt (later + l) exp) ≡ false
lasts_later moment later exp None le lasts = refl
lasts_later moment later exp (Some l) le lasts = grind (arith, nat_tests)

-- what the setting does not refuse is refused later only for the token's own use or expiry
settled_later : (s : Setting) (moment later : ℕ) (uses others : Uses) (t : Said) → first_row (setting_rows s moment uses t) ≡ None → moment ≤ later
    → first_row (setting_rows s later others t) ≡ first_row (again_rows later others (key_of t) t.exp)
settled_later s moment later uses others t none le =
    let rows = setting_rows s moment uses t in
    let audience : (not (list_any (is_own s.own) t.aud) ≡ false) × (first_row (drop 1 rows) ≡ None) = passed _ _ _ none in
    let alive : (not (nat_lt moment t.exp) ≡ false) × (first_row (drop 2 rows) ≡ None) = passed _ _ _ audience.1 in
    let begun : (holds_of t.nbf (λ nbf. nat_lt moment nbf) ≡ false) × (first_row (drop 3 rows) ≡ None) = passed _ _ _ alive.1 in
    let lasts : (holds_of s.longest (λ longest. nat_lt (moment + longest) t.exp) ≡ false) × (first_row (drop 4 rows) ≡ None) = passed _ _ _ begun.1 in
    let domain : (is_none (bundle_at t.sub.domain s.bundles) ≡ false) × (first_row (drop 5 rows) ≡ None) = passed _ _ _ lasts.1 in
    let keys : ((length (keys_for s.bundles t) == 0) ≡ false) × (first_row (drop 6 rows) ≡ None) = passed _ _ _ domain.1 in
    let signed : (not (is_signed s t) ≡ false) × (first_row (drop 7 rows) ≡ None) = passed _ _ _ keys.1 in
    rw (audience.0, begun_later moment later t.nbf le begun.0, lasts_later moment later t.exp s.longest le lasts.0, domain.0, keys.0, signed.0) refl

module _ (s : Setting) (moment later : ℕ) (uses others : Uses) (token : List ℕ) (a : Accepted) (le : moment ≤ later) where
  by_said : (o : Option Said) → said_of token ≡ o → first_row (token_rows token ++ rows_if_said (setting_rows s moment uses) o) ≡ None
      → option_map (acceptance s moment) o ≡ Some a → verdict s later others token ≡ judged (first_row (again_rows later others a.used.key a.used.exp)) (Some (made_at later a))
  unfolding verdict
  by_said None is none made = absurd (cc)
  by_said (Some t) is none made =
      let both = none_of_both (token_rows token) (setting_rows s moment uses t) none in
      ap (λ o. judged (first_row (token_rows token ++ rows_if_said (setting_rows s later others) o)) (option_map (acceptance s later) o)) is
      ∙ ap (λ found. judged found (Some (acceptance s later t))) (passes (token_rows token) (setting_rows s later others t) both.0 ∙ settled_later s moment later uses others t both.1 le)
      ∙ ap by_acceptance (some_same (acceptance s moment t) a made)
    where
      some_same : (x y : Accepted) → Some x ≡ Some y → x ≡ y
      some_same x y e = cc

      by_acceptance : Accepted → Result (Option Accepted) Refusal
      by_acceptance b = judged (first_row (again_rows later others b.used.key b.used.exp)) (Some (made_at later b))

pub accepted_are_judged_again : AcceptedAreJudgedAgain
unfolding verdict
accepted_are_judged_again s moment later uses others token a is le =
    let j = judged-Ok (first_row (verdict_rows s moment uses token)) (option_map (acceptance s moment) (said_of token)) (Some a) is in
    by_said s moment later uses others token a le (said_of token) refl j.0 j.1

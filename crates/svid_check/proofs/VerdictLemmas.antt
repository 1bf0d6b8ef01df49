-- The verdict, one table after the other.
use Rattle.std.proofs.Common.{◌≡◌, ◌≢◌, ◌<◌, ℕ, Bool, true, false, List, [], ◌∷◌, take, drop, Option, Some, None, refl, ap, sym, subst, ◌∙◌, arith, if◌then◌else◌}
use Rattle.std.specs.Prelude.{IsSome, Result, Ok, option_map, not, nat_lt}
use Rattle.std.proofs.lemmas.Bool.{false≢true, ltb-true}
use Rattle.svid_token.specs.Rows.{Answers, Row, Refuses, first_row, judged}
use Rattle.svid_token.specs.declared.refusal.Refusal.{Refusal}
use Rattle.svid_token.specs.declared.refusal.Refusal.TheVariants.{Replayed, Withdrawn}
use Rattle.std.specs.List.{list_any}
use Rattle.svid_replay.specs.Sets.{rising}
use Rattle.svid_replay.specs.Twice.{has_key, withdraws}
use Rattle.svid_replay.specs.Uses.{Uses, has_use_of, has_withdrawal_of}
use Rattle.svid_check.specs.Said.{Said, reading_of, said_of, token_rows}
use Rattle.svid_check.specs.Setting.{Setting}
use Rattle.svid_check.specs.declared.accepted.Accepted.{Accepted}
use Rattle.svid_check.specs.Verdict.{ReadTokensHaveTheirVerdict, acceptance, key_of, rows_if_said, setting_rows, verdict, verdict_on, verdict_rows}
use Rattle.svid_check.proofs.RowsLemmas.{judged-Err, judged-None, judged-Ok, judged-Some, none_of_both, passed, passes, refused, refused_through, stops}
use Rattle.svid_check.proofs.SaidLemmas.{unrefused_is_said}

module _ (s : Setting) (moment : ℕ) (uses : Uses) (token : List ℕ) where
  abbrev later : Option Said → List Row
  later said = rows_if_said (setting_rows s moment uses) said

  -- a refusal of the token by itself is the verdict
  pub refused_reading : (refusal : Refusal) → Refuses refusal (reading_of token) → Refuses refusal (verdict s moment uses token)
  unfolding verdict
  refused_reading refusal =
      refused_through refusal (reading_of token) (verdict s moment uses token) (λ is. judged-Some _ (option_map (acceptance s moment) (said_of token)) refusal (stops (token_rows token) (later (said_of token)) refusal (judged-Err (first_row (token_rows token)) (said_of token) refusal is)))

  -- of a good token, what it says is judged by the setting
  found : (t : Said) → reading_of token ≡ Ok (Some t) → (first_row (verdict_rows s moment uses token) ≡ first_row (setting_rows s moment uses t)) × (said_of token ≡ Some t)
  found t is =
      let j = judged-Ok (first_row (token_rows token)) (said_of token) (Some t) is in
      (passes (token_rows token) (later (said_of token)) j.0 ∙ ap (λ o. first_row (later o)) j.1, j.1)

  -- so its verdict is the one on what it says
  pub on_said : (t : Said) → reading_of token ≡ Ok (Some t) → verdict s moment uses token ≡ verdict_on s moment uses t
  unfolding verdict verdict_on
  on_said t good =
      ap (λ o. judged o (option_map (acceptance s moment) (said_of token))) (found t good).0
      ∙ ap (λ o. judged (first_row (setting_rows s moment uses t)) (option_map (acceptance s moment) o)) (found t good).1

  -- what answers what a good token says, answers the token
  pub answers_on : (t : Said) (answer : Result Accepted Refusal) → reading_of token ≡ Ok (Some t) → Answers Some answer (verdict_on s moment uses t) → Answers Some answer (verdict s moment uses token)
  answers_on t answer good answered = subst (λ due. Answers Some answer due) (sym (on_said t good)) answered

  -- and never is nothing accepted
  pub not_of_nothing : verdict s moment uses token ≢ Ok None
  unfolding verdict
  not_of_nothing is =
      let j = judged-Ok (first_row (verdict_rows s moment uses token)) (option_map (acceptance s moment) (said_of token)) None is in
      by_said (said_of token) (unrefused_is_said token (none_of_both (token_rows token) (later (said_of token)) j.0).0) j.1
    where
      by_said : (said : Option Said) → IsSome said → option_map (acceptance s moment) said ≢ None
      by_said None is none = false≢true is
      by_said (Some t) is none = absurd (cc)

-- what the setting refuses is refused
pub refused_on : (s : Setting) (moment : ℕ) (uses : Uses) (t : Said) (refusal : Refusal) → first_row (setting_rows s moment uses t) ≡ Some refusal → Refuses refusal (verdict_on s moment uses t)
unfolding verdict_on
refused_on s moment uses t refusal is = refused refusal (verdict_on s moment uses t) (judged-Some _ (Some (acceptance s moment t)) refusal is)

-- and what nothing refuses is accepted
pub accepted_on : (s : Setting) (moment : ℕ) (uses : Uses) (t : Said) → first_row (setting_rows s moment uses t) ≡ None → verdict_on s moment uses t ≡ Ok (Some (acceptance s moment t))
unfolding verdict_on
accepted_on s moment uses t none = judged-None _ (Some (acceptance s moment t)) _ none refl

-- a use that nothing refuses expires after the moment
pub lives : (s : Setting) (moment : ℕ) (uses : Uses) (t : Said) → first_row (setting_rows s moment uses t) ≡ None → moment < t.exp
lives s moment uses t none = by_test (nat_lt moment t.exp) refl (passed _ _ _ (passed _ _ _ none).1).0
  where
    by_test : (test : Bool) → nat_lt moment t.exp ≡ test → not test ≡ false → moment < t.exp
    by_test true later unheld = ltb-true moment t.exp later
    by_test false later unheld = cc

-- nor is its key used: the last row does not hold
pub unused : (s : Setting) (moment : ℕ) (uses : Uses) (t : Said) → first_row (setting_rows s moment uses t) ≡ None → has_use_of uses (key_of t) ≡ false
unused s moment uses t none =
    let rows = setting_rows s moment uses t in
    let behind = passed (has_withdrawal_of uses (key_of t)) Withdrawn (if has_use_of uses (key_of t) then Some Replayed else None) (none_of_both (take 7 rows) (drop 7 rows) none).1 in
    (passed (has_use_of uses (key_of t)) Replayed None behind.1).0

-- what a stronger test finds, a weaker one does
any_weaker : {X : Type 0} (p q : X → Bool) → ((x : X) → p x ≡ true → q x ≡ true) → (xs : List X) → list_any q xs ≡ false → list_any p xs ≡ false
any_weaker p q weaker [] none = refl
any_weaker p q weaker (x ∷ xs) none = grind (arith, any_weaker p q weaker xs, weaker x)

-- a withdrawal is a use: where no use has the key, no withdrawal has it
pub withdrawn_is_held : (uses : Uses) (key : List ℕ) → has_use_of uses key ≡ false → has_withdrawal_of uses key ≡ false
withdrawn_is_held uses key none = any_weaker (withdraws key) (has_key key) (λ u is. grind arith) (rising uses) none

-- a token that was read has the verdict on what it says
pub read_tokens_have_their_verdict : ReadTokensHaveTheirVerdict
read_tokens_have_their_verdict s moment uses token t good = on_said s moment uses token t good

-- A table of the yes-answers for a token's candidates stands for the verifier, and so does a finding of the token.
use Rattle.std.proofs.Common.{◌≡◌, ℕ, Bool, true, false, List, [], ◌∷◌, ◌++◌, length, Option, Some, None, refl, sym, ap, ◌∙◌, suc, arith, inl, inr}
use Rattle.std.specs.Prelude.{◌||◌, ◌&&◌, ◌==◌, bytes_eq, not, option_map}
use Rattle.std.specs.List.{Contains, list_any}
use Rattle.std.proofs.lemmas.Bool.{and_from, and_parts, eqb-false, false_from_ne_true, false≢true, ne_eqb, not-true, not_from_false, or_cases}
use Rattle.std.proofs.lemmas.Slice.Eq.{bytes_eq-Decides}
use Rattle.svid_keys.specs.Key.{KeyData}
use Rattle.svid_keys.specs.Question.{question_of}
use Rattle.svid_keys.specs.Table.{is_among, table_says}
use Rattle.svid_replay.proofs.ListLemmas.{any_in, has_first, has_later}
use Rattle.svid_replay.specs.Uses.{Uses}
use Rattle.svid_token.specs.Rows.{Row, first_row, judged}
use Rattle.svid_token.specs.declared.refusal.Refusal.TheVariants.{BadSignature, NotAudience}
use Rattle.svid_check.specs.Said.{Said, said_of, token_rows}
use Rattle.svid_check.specs.Setting.{Says, Setting}
use Rattle.svid_check.specs.Verdict.{acceptance, is_own, key_of, keys_for, keys_rows, record_rows, rows_if_said, setting_rows, time_rows, verdict, verdict_on}
use Rattle.svid_check.specs.Verifiers.{Finding, FindingsStand, IsFindingOf, OtherFindingsAreNone, TablesStand, finding_says, no_one_says, with_says}

-- tests that agree on the elements of a list find the same
any_same : (p q : KeyData → Bool) (keys : List KeyData) → ((key : KeyData) → Contains keys key → p key ≡ q key) → list_any p keys ≡ list_any q keys
any_same p q [] same = refl
any_same p q (key ∷ keys) same =
    let first : p key ≡ q key = same key (0, omega arith, refl) in
    let rest : list_any p keys ≡ list_any q keys = any_same p q keys (λ k there. same k (suc there.0, omega (arith, there.1), there.2)) in
    ap (λ b. b || list_any p keys) first ∙ ap (λ b. q key || b) rest

module _ (s : Setting) (says : Says) (asked : List (List ℕ)) (moment : ℕ) (uses : Uses) where
  -- the rows for a token that says this, if this says whether a candidate made the signature
  abbrev rows_with : Said → Bool → List Row
  rows_with t signed =
      (NotAudience, not (list_any (is_own s.own) t.aud))
      ∷ (time_rows s moment t
      ++ (keys_rows s.bundles t
      ++ ((BadSignature, not signed)
      ∷ record_rows uses (key_of t))))

  rows_same : (said : Option Said)
      → ((t : Said) → said ≡ Some t → (key : KeyData) → Contains (keys_for s.bundles t) key → is_among (question_of key t.alg t.input t.signature) asked ≡ says key t.alg t.input t.signature)
      → rows_if_said (setting_rows (with_says s (table_says asked)) moment uses) said ≡ rows_if_said (setting_rows (with_says s says) moment uses) said
  rows_same None same = refl
  rows_same (Some t) same =
      ap (rows_with t) (any_same (λ key. table_says asked key t.alg t.input t.signature) (λ key. says key t.alg t.input t.signature) (keys_for s.bundles t) (same t refl))

pub tables_stand : TablesStand
unfolding verdict
tables_stand s says asked moment uses token answered =
    ap (λ rows. judged (first_row (token_rows token ++ rows)) (option_map (acceptance s moment) (said_of token))) (rows_same s says asked moment uses (said_of token) answered)

-- an element that passes a test stands in the list
found_in : (p : KeyData → Bool) (keys : List KeyData) → list_any p keys ≡ true → (key : KeyData) × Contains keys key × (p key ≡ true)
found_in p [] h = absurd (false≢true h)
found_in p (key ∷ keys) h = elim (or_cases (p key) (list_any p keys) h) [
  | inl here ↦ (key, has_first key keys, here)
  | inr later ↦ (let there = found_in p keys later in (there.0, has_later key keys there.0 there.1, there.2))
]

-- no element passes a test, where none in the list does
none_found : (p : KeyData → Bool) (keys : List KeyData) → ((key : KeyData) → Contains keys key → p key ≡ false) → list_any p keys ≡ list_any (λ _. false) keys
none_found p keys none = any_same p (λ _. false) keys none

module _ (s : Setting) (moment : ℕ) (uses : Uses) (t : Said) where
  -- the verdict, by whether a candidate made the signature
  same_signed : (a b : Says) → list_any (λ key. a key t.alg t.input t.signature) (keys_for s.bundles t) ≡ list_any (λ key. b key t.alg t.input t.signature) (keys_for s.bundles t)
      → verdict_on (with_says s a) moment uses t ≡ verdict_on (with_says s b) moment uses t
  unfolding verdict_on
  same_signed a b same =
      ap (λ signed. judged (first_row (rows_with s a [] moment uses t signed)) (Some (acceptance s moment t))) same

-- a finding about a token that says this has this answer
finding_yes : (s : Setting) (t : Said) (found : Finding) (key : KeyData) → IsFindingOf s t found key → finding_says found key t.alg t.input t.signature ≡ true
finding_yes s t found key is =
    let text : bytes_eq key.text found.key ≡ true = (bytes_eq-Decides key.text found.key).1 is.text in
    let input : bytes_eq t.input found.input ≡ true = (bytes_eq-Decides t.input found.input).1 is.input in
    let signature : bytes_eq t.signature found.signature ≡ true = (bytes_eq-Decides t.signature found.signature).1 is.signature in
    let some : not (length found.key == 0) ≡ true = not_from_false (length found.key == 0) (ne_eqb (length found.key) 0 is.some) in
    and_from _ _ some (and_from _ _ text (and_from _ _ input signature))

pub findings_stand : FindingsStand
findings_stand s says moment uses t found key is says_so =
    same_signed s moment uses t (finding_says found) says
    (any_in (λ k. finding_says found k t.alg t.input t.signature) (keys_for s.bundles t) key is.candidate (finding_yes s t found key is)
    ∙ sym (any_in (λ k. says k t.alg t.input t.signature) (keys_for s.bundles t) key is.candidate says_so))

-- a candidate to which a finding says yes is the one that it is of
finding_of : (s : Setting) (t : Said) (found : Finding) (key : KeyData) → Contains (keys_for s.bundles t) key → finding_says found key t.alg t.input t.signature ≡ true → IsFindingOf s t found key
finding_of s t found key there says_so =
    let some = and_parts (not (length found.key == 0)) (bytes_eq key.text found.key && (bytes_eq t.input found.input && bytes_eq t.signature found.signature)) says_so in
    let text = and_parts (bytes_eq key.text found.key) (bytes_eq t.input found.input && bytes_eq t.signature found.signature) some.1 in
    let both = and_parts (bytes_eq t.input found.input) (bytes_eq t.signature found.signature) text.1 in
    record {
      candidate = there;
      text = (bytes_eq-Decides key.text found.key).0 text.0;
      some = eqb-false (length found.key) 0 (not-true (length found.key == 0) some.0);
      input = (bytes_eq-Decides t.input found.input).0 both.0;
      signature = (bytes_eq-Decides t.signature found.signature).0 both.1;
    }

pub other_findings_are_none : OtherFindingsAreNone
other_findings_are_none s moment uses t found other =
    same_signed s moment uses t (finding_says found) no_one_says
    (none_found (λ k. finding_says found k t.alg t.input t.signature) (keys_for s.bundles t)
    (λ key there. false_from_ne_true (finding_says found key t.alg t.input t.signature) (λ says_so. other key (finding_of s t found key there says_so))))

-- What a validator is given, and what it holds.
use Rattle.std.specs.Prelude.{ℕ, Bool, List, Option, None, Some, map, string_bytes, refl}
use Rattle.std.specs.Coded.{Coded, code_by, coded×, coded_ℕ, coded_list, coded_option}
use Rattle.svid_token.specs.declared.alg.Alg.{Alg}
use Rattle.svid_token.specs.contracts.kty.Kty.{the_row}
use Rattle.svid_token.specs.declared.kty.Kty.{Kty}
use Rattle.svid_keys.specs.Bundles.{Bundle}
use Rattle.svid_keys.specs.Key.{KeyData}
use Rattle.svid_replay.specs.Records.{State, state_code}
use Rattle.svid_check.specs.declared.given.Given.{Given}

-- what a verifier says: whether a signature over an input is good for a key and an algorithm
abbrev pub Says : Type 0
Says = KeyData → Alg → List ℕ → List ℕ → Bool

-- what a check depends on, beside the token, the moment and the uses
pub record Setting : Type 0 where
  pub own : List (List ℕ)
  pub validator_id : List ℕ
  pub bundles : List Bundle
  pub says : Says
  pub longest : Option ℕ

-- what may be replaced while a validator lives: its audiences, its trust bundles, and what its verifier says
pub record Renewal : Type 0 where
  pub own : List (List ℕ)
  pub bundles : List Bundle
  pub says : Says

-- a setting as it is since the last renewal, if there was one: the validator ID and the longest life stay for good
abbrev pub renewed : Setting → Option Renewal → Setting
renewed s None = s
renewed s (Some r) = record { own = r.own; validator_id = s.validator_id; bundles = r.bundles; says = r.says; longest = s.longest }

-- what a validator is to a contract; its verifier is a V
pub record Held (V : Type 0) : Type 0 where
  pub own : List (List ℕ)
  pub validator_id : List ℕ
  pub ahead : ℕ
  pub bundles : List Bundle
  pub verifier : V
  pub longest : Option ℕ
  pub state : State

-- the setting of a validator, with what some verifier says
abbrev pub setting_by : {V : Type 0} → Says → Held V → Setting
setting_by says held = record { own = held.own; validator_id = held.validator_id; bundles = held.bundles; says = says; longest = held.longest }

-- the setting of a validator by its own verifier, where this is what verifiers say
abbrev pub setting_of : {V : Type 0} → (V → Says) → Held V → Setting
setting_of says held = setting_by (says held.verifier) held

-- the setting of a validator with these parts, whose verifier says this
abbrev pub given_setting : Says → Given → Setting
given_setting says given = record { own = map string_bytes given.own.items; validator_id = given.validator_id; bundles = given.bundles; says = says; longest = given.longest }

-- the same validator with another record
abbrev pub with_state : {V : Type 0} → Held V → State → Held V
with_state held state = record { own = held.own; validator_id = held.validator_id; ahead = held.ahead; bundles = held.bundles; verifier = held.verifier; longest = held.longest; state = state }

-- the same validator with other trust bundles
abbrev pub with_bundles : {V : Type 0} → Held V → List Bundle → Held V
with_bundles held bundles = record { own = held.own; validator_id = held.validator_id; ahead = held.ahead; bundles = bundles; verifier = held.verifier; longest = held.longest; state = held.state }

-- the same validator with other audiences
abbrev pub with_own : {V : Type 0} → Held V → List (List ℕ) → Held V
with_own held own = record { own = own; validator_id = held.validator_id; ahead = held.ahead; bundles = held.bundles; verifier = held.verifier; longest = held.longest; state = held.state }

-- how a key is stored
abbrev pub key_code : Coded KeyData
key_code =
    code_by (List ℕ × (List ℕ × (Kty × List ℕ))) (coded× (coded_list coded_ℕ) (coded× (coded_list coded_ℕ) (coded× the_row.coded (coded_list coded_ℕ))))
    (λ k. (k.domain, (k.kid, (k.kty, k.text)))) (λ p. record { domain = p.0; kid = p.1.0; kty = p.1.1.0; text = p.1.1.1 }) (λ _. refl)

-- how the bundle of a trust domain is stored
abbrev pub bundle_code : Coded Bundle
bundle_code = code_by (List ℕ × List KeyData) (coded× (coded_list coded_ℕ) (coded_list key_code)) (λ b. (b.name, b.keys)) (λ p. record { name = p.0; keys = p.1 }) (λ _. refl)

-- how a validator is stored, where this is how its verifier is
abbrev pub held_code : {V : Type 0} → Coded V → Coded (Held V)
held_code {V} verifier =
    code_by (List (List ℕ) × (List ℕ × (ℕ × (List Bundle × (V × (Option ℕ × State))))))
    (coded× (coded_list (coded_list coded_ℕ)) (coded× (coded_list coded_ℕ) (coded× coded_ℕ (coded× (coded_list bundle_code) (coded× verifier (coded× (coded_option coded_ℕ) state_code))))))
    (λ h. (h.own, (h.validator_id, (h.ahead, (h.bundles, (h.verifier, (h.longest, h.state)))))))
    (λ p. record { own = p.0; validator_id = p.1.0; ahead = p.1.1.0; bundles = p.1.1.1.0; verifier = p.1.1.1.1.0; longest = p.1.1.1.1.1.0; state = p.1.1.1.1.1.1 })
    (λ _. refl)

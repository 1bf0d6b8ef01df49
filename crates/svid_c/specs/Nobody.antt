-- A verifier that says yes to nothing.
use Rattle.std.specs.Prelude.{ℕ, Bool, false, List}
use Rattle.svid_token.specs.declared.alg.Alg.{Alg}
use Rattle.svid_keys.specs.Key.{KeyData}

-- its answer is no
abbrev pub no_says : {V : Type 0} → V → KeyData → Alg → List ℕ → List ℕ → Bool
no_says nobody key alg input signature = false

-- What is proved of the tokens whose claims a group accepts.
use Rattle.std.specs.Prelude.{◌≡◌, ◌≢◌, ℕ, ◌≤◌, Bool, false, List, Some, Ok}
use Rattle.std.specs.List.{AllByRecursion}
use Rattle.svid_replay.specs.declared.token_use.Use.{Use}
use Rattle.svid_replay.specs.Uses.{Uses}
use Rattle.svid_check.specs.declared.accepted.Accepted.{Accepted}
use Rattle.svid_check.specs.Lawful.{input_of}
use Rattle.svid_check.specs.Lawful as verdicts
use Rattle.svid_check.specs.Runs.{Terms}
use Rattle.svid_check.specs.Setting.{Renewal, Setting, renewed}
use Rattle.svid_check.specs.Verdict.{made_at, verdict}
use Rattle.svid_check.specs.World.{Renew, Restart, Tick, answer_at, setting_at}
use Rattle.svid_log.specs.Once.{HaveIds}
use Rattle.svid_group.specs.World.{Accepts, Anew, Call, Event, Read, World, as_terms, happen, happens, judges, start}

-- a use has the key and the expiry of another
abbrev pub IsClaimOf : Use → Use → Type 0
IsClaimOf c u = (c.key ≡ u.key) × (c.exp ≡ u.exp)

-- a token was judged to be accepted, at a moment that is no greater, and its claim is accepted: while the setting stays, the definition accepts the token at the moment and by the uses at which the claim is judged
abbrev pub ClaimsAreVerdicts : Type 0
ClaimsAreVerdicts = (group : ℕ → Terms) (w : World) (v now moment : ℕ) (c : Use) (uses : Uses) (token : List ℕ) (a : Accepted)
    → let s = setting_at group w.group v in
    let y = judges group w v now c in
    verdict s moment uses token ≡ Ok (Some a) → moment ≤ y.moment → IsClaimOf c a.used
    → Accepts group w v now c → verdict s y.moment y.uses token ≡ Ok (Some (made_at y.moment a))

-- the event is no restart of validator v, no fresh start, and no renewal
abbrev pub GoesOn : ℕ → Event → Type 0
GoesOn v (Call (Restart n k)) = n ≢ v
GoesOn v (Call (Renew n renewal)) = n ≢ v
GoesOn v (Anew n front until) = n ≢ v
GoesOn v _ = Unit {0}

-- so it is where the validator judges a token, which is a tick, and accepts its claim after any events with which it goes on
abbrev pub JudgedAreVerdicts : Type 0
JudgedAreVerdicts = (group : ℕ → Terms) (w : World) (v at now : ℕ) (token : List ℕ) (refused : Bool) (a : Accepted) (between : List Event) (c : Use)
    → let z = happen group (happens group w (Call (Tick v at))) between in
    let y = judges group z v now c in
    answer_at group w.group v at token refused ≡ Ok a → AllByRecursion (GoesOn v) between → IsClaimOf c a.used
    → Accepts group z v now c → verdict (setting_at group z.group v) y.moment y.uses token ≡ Ok (Some (made_at y.moment a))

-- and so with the setting of a renewal, where the token is judged once more after it
abbrev pub RenewedAreVerdicts : Type 0
RenewedAreVerdicts = (group : ℕ → Terms) (w : World) (v at now : ℕ) (renewal : Renewal) (token : List ℕ) (refused : Bool) (a : Accepted) (c : Use)
    → let x = happens group w (Call (Renew v renewal)) in
    let z = happens group x (Call (Tick v at)) in
    let y = judges group z v now c in
    answer_at group x.group v at token refused ≡ Ok a → IsClaimOf c a.used
    → Accepts group z v now c → verdict (renewed (group v).setting (Some renewal)) y.moment y.uses token ≡ Ok (Some (made_at y.moment a))

-- of the claims of one signing input, whoever made them, under whatever settings its tokens were judged, a group accepts one at most
abbrev pub InputIsAcceptedOnce : Type 0
InputIsAcceptedOnce = (group : ℕ → Terms) (before between : List Event) (v w now later : ℕ) (c d a b : Use) (s other : Setting) (moment then_moment : ℕ) (uses others : Uses) (token again : List ℕ)
    → let x = happen group start before in
    let y = happen group (happens group x (Read v now false)) between in
    HaveIds (as_terms group) → verdicts.Accepts s moment uses token a → verdicts.Accepts other then_moment others again b → input_of token ≡ input_of again
    → IsClaimOf c a → IsClaimOf d b → Accepts group x v now c → Accepts group y w later d → ⊥

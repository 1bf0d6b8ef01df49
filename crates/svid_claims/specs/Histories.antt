-- Histories that show what happens, and what is lost where a premise is missing.
use Rattle.std.specs.Prelude.{◌≡◌, ℕ, Bool, true, false, List, [], ◌∷◌, slice_get, Option, Some, None, if◌then◌else◌}
use Rattle.svid_claims.specs.declared.claim.Claim.{Claim}
use Rattle.svid_claims.specs.declared.outcome.Outcome.{Outcome}
use Rattle.svid_claims.specs.declared.outcome.Outcome.TheVariants.{Taken, Far, Deaf, Mine}
use Rattle.svid_claims.specs.Calls.{found_by}
use Rattle.svid_claims.specs.Groups.{Accept, Answer, End, Entry, Event, Put, Remove, Terms, World, happen, is_accepted, moment_of, start}
use Rattle.svid_claims.specs.Outcomes.{outcome_of}
use Rattle.svid_claims.specs.Owners.{withdrawn}

-- a group with one store whose clock never steps back, where tokens last 6 seconds
abbrev pub group_of : (strict : Bool) (margin ahead : ℕ) (owner : ℕ → ℕ → ℕ → List ℕ) → Terms
group_of strict margin ahead owner = record { strict = strict; margin = margin; back = 0; lasts = 6; ahead = λ v. ahead; shard = λ key. 0; owner = owner }

-- owners of lives: each its own, by the expiry; each its own; and all one, by the expiry
abbrev pub own : ℕ → ℕ → ℕ → List ℕ
own v life exp = 1 ∷ v ∷ life ∷ exp ∷ []

abbrev pub lasting : ℕ → ℕ → ℕ → List ℕ
lasting v life exp = 1 ∷ v ∷ life ∷ []

abbrev pub shared : ℕ → ℕ → ℕ → List ℕ
shared v life exp = 1 ∷ exp ∷ []

-- what was found by an answer, if member v accepts by it
abbrev pub accepted_of : Terms → World → (v now : ℕ) → Option Answer → Option Entry
accepted_of t w v now None = None
accepted_of t w v now (Some a) = if is_accepted t v (w.members v) now a then Some a.found else None

-- so after a list of events
abbrev pub accepted_at : Terms → List Event → (v now index : ℕ) → Option Entry
accepted_at t events v now index = let w = happen t start events in accepted_of t w v now (slice_get w.answers index)

-- what becomes of a claim by an answer that member v looks at
abbrev pub outcome_by : Terms → World → (v now : ℕ) → Claim → Option Answer → Option Outcome
outcome_by t w v now c None = None
outcome_by t w v now c (Some a) = Some (outcome_of c (found_by a) t.lasts (moment_of (t.ahead v) (w.members v) now a))

-- so after a list of events
abbrev pub outcome_at : Terms → List Event → (v now index : ℕ) → Claim → Option Outcome
outcome_at t events v now index c = let w = happen t start events in outcome_by t w v now c (slice_get w.answers index)

abbrev pub claim_of : List ℕ → ℕ → Claim
claim_of owner exp = record { owner = record { bytes = owner }; exp = exp }

abbrev pub entry : List ℕ → ℕ → Entry
entry owner exp = record { owner = owner; exp = exp }

-- two keys, and nothing under any
abbrev pub one_key : List ℕ
one_key = 7 ∷ []

abbrev pub other_key : List ℕ
other_key = 8 ∷ []

abbrev pub nothing : List ℕ → Option Entry
nothing key = None

-- strict: a claim is accepted once; the same answer, and another member's put, are accepted no more
pub record OnceHappens : Type 0 where
  pub first : accepted_at (group_of true 3 3 own) (Put one_key (own 0 0 8) 8 2 ∷ []) 0 1 0 ≡ Some (entry (own 0 0 8) 8)
  pub again : accepted_at (group_of true 3 3 own) (Put one_key (own 0 0 8) 8 2 ∷ Accept 0 1 0 ∷ []) 0 1 0 ≡ None
  pub other : accepted_at (group_of true 3 3 own) (Put one_key (own 0 0 8) 8 2 ∷ Put one_key (own 1 0 8) 8 2 ∷ []) 1 1 1 ≡ None
  pub taken : outcome_at (group_of true 3 3 own) (Put one_key (own 0 0 8) 8 2 ∷ Put one_key (own 1 0 8) 8 2 ∷ []) 1 1 1 (claim_of (own 1 0 8) 8) ≡ Some Taken
  -- in a group that is not strict an owner is accepted again and again, by any member, and no other one is
  pub bound : accepted_at (group_of false 3 3 own) (Put one_key (9 ∷ []) 8 2 ∷ Accept 0 1 0 ∷ Put one_key (9 ∷ []) 8 3 ∷ []) 1 1 1 ≡ Some (entry (9 ∷ []) 8)

-- after a loss: what may have been accepted before is refused, and what expires later is accepted; a token that lives too long by the store's time
-- is refused at any time, for it would outlive `deaf`
pub record LossHappens : Type 0 where
  pub lost : accepted_at (group_of true 3 3 own) (Put one_key (own 0 0 8) 8 2 ∷ Accept 0 1 0 ∷ End 0 nothing 0 ∷ Put one_key (own 1 0 8) 8 3 ∷ []) 1 3 1 ≡ None
  pub deaf : outcome_at (group_of true 3 3 own) (Put one_key (own 0 0 8) 8 2 ∷ Accept 0 1 0 ∷ End 0 nothing 0 ∷ Put one_key (own 1 0 8) 8 3 ∷ []) 1 3 1 (claim_of (own 1 0 8) 8) ≡ Some Deaf
  pub later : accepted_at (group_of true 3 3 own) (Put one_key (own 0 0 8) 8 2 ∷ Accept 0 1 0 ∷ End 0 nothing 0 ∷ Put other_key (own 1 0 9) 9 3 ∷ []) 1 3 1 ≡ Some (entry (own 1 0 9) 9)
  -- an earlier loss counts, whatever the clock says after it
  pub twice : accepted_at (group_of true 3 3 own) (Put one_key (own 0 0 8) 8 2 ∷ End 0 nothing 0 ∷ End 0 nothing 0 ∷ Put one_key (own 1 0 8) 8 2 ∷ []) 1 3 1 ≡ None
  pub far : outcome_at (group_of true 3 3 own) (Put one_key (own 0 0 9) 9 2 ∷ []) 0 1 0 (claim_of (own 0 0 9) 9) ≡ Some Far

-- without a premise
pub record PremisesCount : Type 0 where
  -- a margin that is less than what a store's time may be ahead: two owners are accepted
  pub margin_one : accepted_at (group_of false 3 4 own) (Put one_key (9 ∷ []) 8 11 ∷ Remove one_key 11 ∷ Put one_key (10 ∷ []) 8 11 ∷ []) 0 0 0 ≡ Some (entry (9 ∷ []) 8)
  pub margin_two : accepted_at (group_of false 3 4 own) (Put one_key (9 ∷ []) 8 11 ∷ Remove one_key 11 ∷ Put one_key (10 ∷ []) 8 11 ∷ []) 1 0 1 ≡ Some (entry (10 ∷ []) 8)
  -- lives that share an owner: a second member accepts
  pub owners : accepted_at (group_of true 3 3 shared) (Put one_key (shared 0 0 8) 8 2 ∷ Accept 0 1 0 ∷ []) 1 1 0 ≡ Some (entry (shared 0 0 8) 8)
  -- a withdrawal that comes when the token's time is over at the store, or in a later epoch: an answer from before it is accepted
  pub withdrawn_late : accepted_at (group_of true 3 3 own) (Put one_key (own 0 0 8) 8 2 ∷ Remove one_key 11 ∷ Put one_key withdrawn 8 11 ∷ []) 0 3 0 ≡ Some (entry (own 0 0 8) 8)
  pub withdrawn_after : accepted_at (group_of true 3 3 own) (Put one_key (own 0 0 8) 8 2 ∷ End 0 nothing 0 ∷ Put one_key withdrawn 8 2 ∷ []) 0 3 0 ≡ Some (entry (own 0 0 8) 8)
  -- a withdrawal of a token that lives too long by the store's time, and is lost
  pub withdrawn_far : accepted_at (group_of true 3 3 own) (Put one_key withdrawn 9 2 ∷ End 0 nothing 0 ∷ Put one_key (own 0 0 9) 9 3 ∷ []) 0 3 1 ≡ Some (entry (own 0 0 9) 9)
  -- owners that do not tell the expiry: the claim of a second token of a key finds the member's own entry for the first one; when that is gone, another
  -- member's claim of the second token is accepted
  pub expiry_one : outcome_at (group_of true 3 3 lasting) (Put one_key (lasting 0 0 4) 4 2 ∷ Put one_key (lasting 0 0 8) 8 2 ∷ []) 0 1 1 (claim_of (lasting 0 0 8) 8) ≡ Some Mine
  pub expiry_two : accepted_at (group_of true 3 3 lasting) (Put one_key (lasting 0 0 4) 4 2 ∷ Put one_key (lasting 0 0 8) 8 2 ∷ Remove one_key 7 ∷ Put one_key (lasting 1 0 8) 8 7 ∷ []) 1 4 2 ≡ Some (entry (lasting 1 0 8) 8)

abbrev pub HistoriesSay : Type 0
HistoriesSay = OnceHappens × LossHappens × PremisesCount

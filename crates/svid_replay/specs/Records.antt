use Rattle.std.specs.Prelude.{◌≡◌, ◌||◌, ◌&&◌, nat_lt, ℕ, ◌<◌, ◌≤◌, ◌^◌, false, max, List, ◌∷◌, ◌++◌, IsTrue, Contains, refl}
use Rattle.std.specs.Coded.{Coded, code_by, coded×, coded_ℕ}
use Rattle.svid_replay.specs.declared.token_use.Use.{Use}
use Rattle.svid_replay.specs.Batches.{BatchData}
use Rattle.svid_replay.specs.Sets.{holds, union}
use Rattle.svid_replay.specs.Use.{IsUse}
use Rattle.svid_replay.specs.Uses.{Uses, uses_in, uses_code, live}

-- the content of a record: a moment, and a set of uses
pub record State : Type 0 where
  pub moment : ℕ
  pub uses : Uses

-- a record is stored as its moment and its set
abbrev pub state_code : Coded State
state_code = code_by (ℕ × Uses) (coded× coded_ℕ uses_code) (λ r. (r.moment, r.uses)) (λ p. record { moment = p.0; uses = p.1 }) (λ _. refl)

-- a record of this moment may hold the use: it was made by then and expires later
pub record IsHeldAt (moment : ℕ) (u : Use) : Type 0 where
  pub fields : IsUse u
  pub made : u.at ≤ moment
  pub live : moment < u.exp

-- what a record may have: each of its uses was made by its moment and expires later
pub record IsRecord (r : State) : Type 0 where
  pub moment : r.moment < 2 ^ 64
  pub each : (u : Use) → IsTrue (holds r.uses u) → IsHeldAt r.moment u

-- the greater moment, and the uses of both that expire after it
unfoldable pub join : State → State → State
join a b = record { moment = max a.moment b.moment; uses = live (union a.uses b.uses) (max a.moment b.moment) }

-- a moment and a list's uses
abbrev pub state_of : ℕ → List Use → State
state_of moment us = record { moment = moment; uses = uses_in us }

-- the content of a batch, as that of a record
abbrev pub batch_state : BatchData → State
batch_state b = state_of b.moment b.uses

-- where memory was refused: the old record joined with the other's moment and the uses before one that is live and not in the
-- record
pub record IsPartlyJoined (old new : State) (moment : ℕ) (us : List Use) : Type 0 where
  pub front : List Use
  pub refused : Use
  pub rest : List Use
  pub parts : us ≡ front ++ refused ∷ rest
  pub joined : new ≡ join old (state_of moment front)
  pub live : new.moment < refused.exp
  pub absent : holds new.uses refused ≡ false

-- the record has each of these uses that expires after both moments
abbrev pub HasNoNew : State → ℕ → List Use → Type 0
HasNoNew r moment us = (u : Use) → Contains us u → max r.moment moment < u.exp → IsTrue (holds r.uses u)

-- a join holds what either record holds and expires after the greater moment
abbrev pub JoinHoldsUnexpired : Type 0
JoinHoldsUnexpired = (a b : State) (u : Use) → holds (join a b).uses u ≡ ((holds a.uses u || holds b.uses u) && nat_lt (max a.moment b.moment) u.exp)

-- joining is commutative
abbrev pub JoinIsCommutative : Type 0
JoinIsCommutative = (a b : State) → join a b ≡ join b a

-- joining is associative
abbrev pub JoinIsAssociative : Type 0
JoinIsAssociative = (a b c : State) → join (join a b) c ≡ join a (join b c)

-- joining a record with itself changes nothing
abbrev pub JoinIsIdempotent : Type 0
JoinIsIdempotent = (a : State) → IsRecord a → join a a ≡ a

-- a join of records is a record
abbrev pub JoinIsClosed : Type 0
JoinIsClosed = (a b : State) → IsRecord a → IsRecord b → IsRecord (join a b)

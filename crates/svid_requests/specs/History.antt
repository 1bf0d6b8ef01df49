-- What happens to the requests of a member, call by call, and what was answered.
use Rattle.std.specs.Prelude.{ℕ, Bool, not, ◌&&◌, List, [], ◌∷◌, ◌++◌, if◌then◌else◌}
use Rattle.svid_requests.specs.declared.needs.Needs.{Needs}
use Rattle.svid_requests.specs.declared.verdict.Verdict.{Verdict}
use Rattle.svid_requests.specs.declared.event.Event.{Event}
use Rattle.svid_requests.specs.declared.deed.Deed.{Deed}
use Rattle.svid_requests.specs.declared.deed.Deed.TheVariants.{Nothing, Judge, Append, Claim, Answer}
use Rattle.svid_requests.specs.Tables.{State, at_moment, begun, deadline, entered, has_number, heard, heard_deed}

-- a call at a moment: a request comes, or an event is heard, and memory is refused or not
pub data Call : Type 0 where
  Come : (up : ℕ) (refused : Bool) → Call
  Hear : (up : ℕ) (event : Event) (refused : Bool) → Call

-- an answer that was given: to which request, what, and when
pub record Answered : Type 0 where
  pub number : ℕ
  pub verdict : Verdict
  pub at : ℕ

-- the requests, the deadlines of all that ever came, by their numbers, and all answers that were given, the last one first
pub record World : Type 0 where
  pub state : State
  pub deadlines : List ℕ
  pub answers : List Answered

-- the answers after a deed: each deed that answers is one
abbrev pub answered : ℕ → Deed → List Answered → List Answered
answered now Nothing answers = answers
answered now (Judge n) answers = answers
answered now (Append n u) answers = answers
answered now (Claim n u) answers = answers
answered now (Answer n v next) answers = record { number = n; verdict = v; at = now } ∷ answers

-- what a call leaves, at its moment
abbrev pub let_in : State → World → World
let_in s w = record { state = entered s; deadlines = w.deadlines ++ deadline s ∷ []; answers = w.answers }

abbrev pub at_state : State → World → World
at_state s w = record { state = s; deadlines = w.deadlines; answers = w.answers }

abbrev pub comes : State → Bool → World → World
comes s refused w = if has_number s && not refused then let_in s w else at_state s w

abbrev pub hears : State → Event → Bool → World → World
hears s e refused w = record { state = heard refused s e; deadlines = w.deadlines; answers = answered s.now (heard_deed refused s e) w.answers }

abbrev pub happens : World → Call → World
happens w (Come up refused) = comes (at_moment w.state up) refused w
happens w (Hear up e refused) = hears (at_moment w.state up) e refused w

-- a member that nothing happened to
abbrev pub fresh : Needs → ℕ → World
fresh needs wait = record { state = begun needs wait; deadlines = []; answers = [] }

-- a whole history: the calls, the last one first
abbrev pub history : World → List Call → World
history w [] = w
history w (c ∷ calls) = happens (history w calls) c

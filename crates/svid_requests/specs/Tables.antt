-- The requests of a member that have no answer yet, and what an event leaves of them.
use Rattle.std.specs.Prelude.{ℕ, ◌+◌, ◌^◌, ◌-◌, min, max, Bool, true, false, ◌&&◌, is_some, nat_lt, List, [], ◌∷◌, Option, Some, None, if◌then◌else◌}
use Rattle.std.specs.Ordering.{nat_cmp}
use Rattle.std.specs.Map.{lookup, remove_entry, set_value}
use Rattle.std.specs.BTreeMap.{insert_entry, is_at}
use Rattle.std.specs.BTreeSet.{insert_key}
use Rattle.std.specs.Set.{remove_key}
use Rattle.svid_replay.specs.declared.token_use.Use.{Use}
use Rattle.svid_requests.specs.declared.needs.Needs.{Needs}
use Rattle.svid_requests.specs.declared.judgment.Judgment.{Judgment}
use Rattle.svid_requests.specs.declared.judgment.Judgment.TheVariants.{Passes, Holds, Fails}
use Rattle.svid_requests.specs.declared.verdict.Verdict.TheVariants.{NoMemory}
use Rattle.svid_requests.specs.declared.request.Request.{Request}
use Rattle.svid_requests.specs.declared.event.Event.{Event}
use Rattle.svid_requests.specs.declared.event.Event.TheVariants.{Judged, Wrote, Send, Found, Leave, Overdue}
use Rattle.svid_requests.specs.declared.stage.Stage.{Stage}
use Rattle.svid_requests.specs.declared.stage.Stage.TheVariants.{Judging, Writing, Claiming, Behind, Again}
use Rattle.svid_requests.specs.declared.deed.Deed.{Deed}
use Rattle.svid_requests.specs.declared.deed.Deed.TheVariants.{Nothing, Judge, Append, Claim, Answer}
use Rattle.svid_requests.specs.declared.plan.Plan.{Plan}
use Rattle.svid_requests.specs.declared.plan.Plan.TheVariants.{Stay, Go, Part}
use Rattle.svid_requests.specs.declared.waiter.Waiter.{Waiter}
use Rattle.svid_requests.specs.Lines.{first_of, key_cmp, waiter_cmp}
use Rattle.svid_requests.specs.Plans.{plan}

-- The requests by their numbers; by the key of a token the number of the request that holds its claim, which is on its way or about to be; and
-- those who wait for that.
pub record Table : Type 0 where
  pub requests : List (ℕ × Request)
  pub holders : List (List ℕ × ℕ)
  pub lines : List Waiter

-- the request of a number
abbrev pub find : ℕ → List (ℕ × Request) → Option Request
find n requests = lookup (is_at (nat_cmp n)) requests

-- who holds the claim of a key
abbrev pub holder : List ℕ → List (List ℕ × ℕ) → Option ℕ
holder key holders = lookup (is_at (key_cmp key)) holders

abbrev pub is_held : List ℕ → Table → Bool
is_held key t = is_some (holder key t.holders)

-- the claim of the key that was judged is held
abbrev pub judged_held : Judgment → Table → Bool
judged_held (Passes u) t = is_held u.key t
judged_held (Holds u) t = false
judged_held (Fails why) t = false

abbrev pub held_by : Event → Table → Bool
held_by (Judged n j) t = judged_held j t
held_by _ t = false

-- the request that came first
abbrev pub first : List (ℕ × Request) → Option (ℕ × Request)
first [] = None
first (e ∷ es) = Some e

-- a request with its number
abbrev pub numbered : ℕ → Option Request → Option (ℕ × Request)
numbered n None = None
numbered n (Some r) = Some (n, r)

-- the request that an event is about
abbrev pub subject : Event → List (ℕ × Request) → Option (ℕ × Request)
subject (Judged n j) requests = numbered n (find n requests)
subject (Wrote n ok) requests = numbered n (find n requests)
subject (Send n) requests = numbered n (find n requests)
subject (Found n j) requests = numbered n (find n requests)
subject (Leave n) requests = numbered n (find n requests)
subject Overdue requests = first requests

-- a request at another stage
abbrev pub at_stage : Stage → Request → Request
at_stage g r = record { deadline = r.deadline; stage = g }

abbrev pub restaged : ℕ → Request → Stage → List (ℕ × Request) → List (ℕ × Request)
restaged n r g requests = set_value (is_at (nat_cmp n)) requests (at_stage g r)

-- Its turn comes.
abbrev pub turned : Stage → Stage
turned (Behind u) = Again u
turned g = g

abbrev pub turn : ℕ → Option Request → List (ℕ × Request) → List (ℕ × Request)
turn n None requests = requests
turn n (Some r) requests = restaged n r (turned r.stage) requests

-- The claim of a key is handed on to the first who waits for it, or is free.
abbrev pub hand_to : List ℕ → Option ℕ → Table → Table
hand_to key None t = record { requests = t.requests; holders = remove_entry (is_at (key_cmp key)) t.holders; lines = t.lines }
hand_to key (Some w) t = record {
  requests = turn w (find w t.requests) t.requests;
  holders = set_value (is_at (key_cmp key)) t.holders w;
  lines = remove_key (is_at (waiter_cmp (record { key = key; number = w }))) t.lines;
}

abbrev pub handed_on : List ℕ → Table → Table
handed_on key t = hand_to key (first_of key t.lines) t

-- who is next, where a request of this stage is answered
abbrev pub next_after : Stage → Table → Option ℕ
next_after (Claiming u) t = first_of u.key t.lines
next_after (Again u) t = first_of u.key t.lines
next_after _ t = None

-- what a request of this number leaves that was at this stage
abbrev pub left_at : ℕ → Stage → Table → Table
left_at n (Claiming u) t = handed_on u.key t
left_at n (Again u) t = handed_on u.key t
left_at n (Behind u) t = record { requests = t.requests; holders = t.holders; lines = remove_key (is_at (waiter_cmp (record { key = u.key; number = n }))) t.lines }
left_at n _ t = t

abbrev pub without : ℕ → Table → Table
without n t = record { requests = remove_entry (is_at (nat_cmp n)) t.requests; holders = t.holders; lines = t.lines }

abbrev pub parted : ℕ → Request → Table → Table
parted n r t = left_at n r.stage (without n t)

-- The request of a number begins to wait, or to claim.
abbrev pub joins : ℕ → Stage → Table → Table
joins n (Claiming u) t = record { requests = t.requests; holders = insert_entry key_cmp t.holders u.key n; lines = t.lines }
joins n (Behind u) t = record { requests = t.requests; holders = t.holders; lines = insert_key waiter_cmp t.lines (record { key = u.key; number = n }) }
joins n _ t = t

-- one that was to be judged for the first time, that is
abbrev pub joined : ℕ → Stage → Stage → Table → Table
joined n Judging g t = joins n g t
joined n _ g t = t

abbrev pub gone : ℕ → Request → Stage → Table → Table
gone n r g t = let x = joined n r.stage g t in record { requests = restaged n r g x.requests; holders = x.holders; lines = x.lines }

-- what a plan for the request of a number leaves
abbrev pub followed : ℕ → Request → Plan → Table → Table
followed n r Stay t = t
followed n r (Go g) t = gone n r g t
followed n r (Part v) t = parted n r t

-- what is to be done for a request that is at this stage now
abbrev pub deed_at : ℕ → Stage → Deed
deed_at n Judging = Judge n
deed_at n (Writing u) = Append n u
deed_at n (Claiming u) = Claim n u
deed_at n (Behind u) = Nothing
deed_at n (Again u) = Judge n

abbrev pub deed_of : ℕ → Request → Plan → Table → Deed
deed_of n r Stay t = Nothing
deed_of n r (Go g) t = deed_at n g
deed_of n r (Part v) t = Answer n v (next_after r.stage t)

-- a step asks for memory: the request begins to wait, or to claim
abbrev pub enters : Stage → Stage → Bool
enters Judging (Claiming u) = true
enters Judging (Behind u) = true
enters _ _ = false

abbrev pub asks_memory : Stage → Plan → Bool
asks_memory g (Go h) = enters g h
asks_memory g _ = false

-- the same plan where memory is refused
abbrev pub granted : Bool → Request → Plan → Plan
granted refused r p = if asks_memory r.stage p && refused then Part NoMemory else p

-- what an event leaves, and what is to be done, by the request that it is about; memory may be refused
abbrev pub left_by : Needs → Bool → ℕ → Event → Table → Option (ℕ × Request) → Table
left_by needs refused now e t None = t
left_by needs refused now e t (Some p) = followed p.0 p.1 (granted refused p.1 (plan needs (held_by e t) now e p.1)) t

abbrev pub deed_by : Needs → Bool → ℕ → Event → Table → Option (ℕ × Request) → Deed
deed_by needs refused now e t None = Nothing
deed_by needs refused now e t (Some p) = deed_of p.0 p.1 (granted refused p.1 (plan needs (held_by e t) now e p.1)) t

-- The whole.

-- The requests of a member: what an acceptance needs, how long a request may wait, the moment, the number of the next request, and the table.
pub record State : Type 0 where
  pub needs : Needs
  pub wait : ℕ
  pub now : ℕ
  pub next : ℕ
  pub table : Table

-- no request has come
abbrev pub begun : Needs → ℕ → State
begun needs wait = record { needs = needs; wait = wait; now = 0; next = 0; table = record { requests = []; holders = []; lines = [] } }

-- the same at a moment, which is not before the last one
abbrev pub at_moment : State → ℕ → State
at_moment s up = record { needs = s.needs; wait = s.wait; now = max s.now up; next = s.next; table = s.table }

-- when a request must be answered that comes now
abbrev pub deadline : State → ℕ
deadline s = min (s.now + s.wait) (2 ^ 64 - 1)

-- a request comes
abbrev pub let_in : ℕ → ℕ → Table → Table
let_in n deadline t = record { requests = insert_entry nat_cmp t.requests n (record { deadline = deadline; stage = Judging }); holders = t.holders; lines = t.lines }

abbrev pub entered : State → State
entered s = record { needs = s.needs; wait = s.wait; now = s.now; next = s.next + 1; table = let_in s.next (deadline s) s.table }

-- there is a number for one more
abbrev pub has_number : State → Bool
has_number s = nat_lt s.next (2 ^ 64 - 1)

-- what a coming leaves
abbrev pub came : State → State
came s = if has_number s then entered s else s

-- what is to be done then
abbrev pub come_deed : State → Deed
come_deed s = if has_number s then Judge s.next else Nothing

-- what an event leaves that is heard
abbrev pub heard : Bool → State → Event → State
heard refused s e = record { needs = s.needs; wait = s.wait; now = s.now; next = s.next; table = left_by s.needs refused s.now e s.table (subject e s.table.requests) }

-- what is to be done then
abbrev pub heard_deed : Bool → State → Event → Deed
heard_deed refused s e = deed_by s.needs refused s.now e s.table (subject e s.table.requests)

-- when the request that came first is due
abbrev pub due_of : Option (ℕ × Request) → Option ℕ
due_of None = None
due_of (Some p) = Some p.1.deadline

abbrev pub due : State → Option ℕ
due s = due_of (first s.table.requests)

-- a request waits for a judgment, and its time is not over
abbrev pub is_judging : Stage → Bool
is_judging Judging = true
is_judging (Again u) = true
is_judging _ = false

abbrev pub is_awaited : ℕ → Option Request → Bool
is_awaited now None = false
is_awaited now (Some r) = is_judging r.stage && nat_lt now r.deadline

abbrev pub awaits : State → ℕ → Bool
awaits s n = is_awaited s.now (find n s.table.requests)

-- the use whose claim a request waits for, where its time is not over
abbrev pub claim_at : Stage → Option Use
claim_at (Claiming u) = Some u
claim_at _ = None

abbrev pub claim_of : ℕ → Option Request → Option Use
claim_of now None = None
claim_of now (Some r) = if nat_lt now r.deadline then claim_at r.stage else None

abbrev pub claimed : State → ℕ → Option Use
claimed s n = claim_of s.now (find n s.table.requests)

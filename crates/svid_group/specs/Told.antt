-- What is proved of the records and the verdicts of such a group, over every list of events.
use Rattle.std.specs.Prelude.{◌≡◌, ◌≢◌, ◌⊎◌, ◌↔◌, ℕ, ◌<◌, ◌^◌, Bool, false, true, List, [], ◌∷◌, ◌++◌, map, slice_get, Some, IsTrue, Ok}
use Rattle.std.specs.List.{AllByRecursion, Contains}
use Rattle.svid_token.specs.Rows.{seen}
use Rattle.svid_replay.specs.declared.token_use.Use.{Use}
use Rattle.svid_replay.specs.declared.twice.Twice.{Twice}
use Rattle.svid_replay.specs.Batches.{BatchData}
use Rattle.svid_replay.specs.Parts.{join_all, parts_of}
use Rattle.svid_replay.specs.Records.{state_of}
use Rattle.svid_replay.specs.Sets.{holds}
use Rattle.svid_replay.specs.Summary.{SummaryData}
use Rattle.svid_replay.specs.Use.{IsUse}
use Rattle.svid_replay.specs.Uses.{Uses, live}
use Rattle.svid_check.specs.declared.accepted.Accepted.{Accepted}
use Rattle.svid_check.specs.Headline.{HasIds, HasTaken, IsClash, IsEventInRange as IsCallInRange, IsLiveUse, IsRefusedBy, IsSend, IsUseOf, IsUsedTwice, IsWithin, TakesOnly as IsTakeOnly, WentAlong, report_of}
use Rattle.svid_check.specs.Lawful.{input_of}
use Rattle.svid_check.specs.Lawful as verdicts
use Rattle.svid_check.specs.Runs.{IsAnswered, Terms}
use Rattle.svid_check.specs.Saves.{IsLater}
use Rattle.svid_check.specs.Setting.{Setting}
use Rattle.svid_check.specs.Told.{record_of, tell_now}
use Rattle.svid_check.specs.Verdict.{verdict}
use Rattle.svid_check.specs.World as check
use Rattle.svid_check.specs.World.{Answered, Made, Posting, Restart, Saved, Summed, answer_at, setting_at}
use Rattle.svid_log.specs.Groups.{begins}
use Rattle.svid_group.specs.World.{Accepts, Anew, Aside, Call, Event, Put, Read, World, happen, happens, reader, reader_at, start}

-- the validators after a list of events, with their postings and saves
abbrev pub group_after : (ℕ → Terms) → List Event → check.World
group_after group events = (happen group start events).group

-- each record is what its validator has learned: the greatest moment, and the uses that are live at it
abbrev pub RecordsAreTold : Type 0
RecordsAreTold = (group : ℕ → Terms) (events : List Event) (v : ℕ) → let x = (group_after group events).members v in x.held ≡ record_of x.told

-- each check answers the verdict for what the validator has learned, acceptance or refusal, or that it is out of memory
abbrev pub ChecksAreVerdicts : Type 0
ChecksAreVerdicts = (group : ℕ → Terms) (events : List Event) (v now : ℕ) (token : List ℕ) (refused : Bool)
    → let w = group_after group events in
    IsAnswered (setting_at group w v) (tell_now (w.members v).told now) token (answer_at group w v now token refused)

-- each check is answered by nothing but the verdict where no memory is refused
abbrev pub WithMemoryVerdicts : Type 0
WithMemoryVerdicts = (group : ℕ → Terms) (events : List Event) (v now : ℕ) (token : List ℕ)
    → let w = group_after group events in
    let x = tell_now (w.members v).told now in
    seen Some (answer_at group w v now token false) ≡ verdict (setting_at group w v) x.greatest (live x.uses x.greatest) token

module _ (group : ℕ → Terms) where
  -- the uses that an event makes: by an acceptance, by a withdrawal, or by putting one into the log
  abbrev pub made_by : World → Event → List Use
  made_by w (Call event) = check.accepted_by group w.group event ++ check.withdrawn_by group w.group event
  made_by w (Put u) = u ∷ []
  made_by w _ = []

  -- the uses that a list of events makes, in their order
  abbrev pub made : World → List Event → List Use
  made w [] = []
  made w (event ∷ events) = made_by w event ++ made (happens group w event) events

-- nothing else was learned: each use was accepted by a check of the group, made by a withdrawal, or put into the log
abbrev pub ToldWereMade : Type 0
ToldWereMade = (group : ℕ → Terms) (events : List Event) (v : ℕ) (u : Use)
    → IsTrue (holds ((group_after group events).members v).told.uses u) → Contains (made group start events) u

-- validators that have learned the same, in whatever groups and by whatever events, have the same record
abbrev pub EqualTellings : Type 0
EqualTellings = (group other : ℕ → Terms) (events others : List Event) (v w : ℕ)
    → let x = (group_after group events).members v in
    let y = (group_after other others).members w in
    x.told ≡ y.told → x.held ≡ y.held

-- the event is another validator's, or validator v takes a part of posting k, or looks at what stands beside its record, or misses uses
abbrev pub TakesOnly : ℕ → ℕ → Event → Type 0
TakesOnly v k (Call event) = IsTakeOnly v k event
TakesOnly v k (Read n now refused) = n ≢ v
TakesOnly v k (Anew n front until) = n ≢ v
TakesOnly v k _ = Unit {0}

-- a validator that has learned no use that the sender had not learned at a send, and takes the send whole with no other event of its own in between,
-- then knows exactly the uses that the sender knew
abbrev pub SendsMakeEqual : Type 0
SendsMakeEqual = (group : ℕ → Terms) (events takes : List Event) (v k : ℕ) (q : Posting)
    → let before = happen group start events in
    let after = happen group before takes in
    IsSend before.group k q → IsWithin (before.group.members v).told.uses q.was.told.uses → AllByRecursion (TakesOnly v k) takes → HasTaken (after.group.members v).log k q
    → (after.group.members v).told.uses ≡ q.was.told.uses

-- a validator that took a send whole has learned all uses that its sender had learned by then, including those of the log
abbrev pub SendsTellAll : Type 0
SendsTellAll = (group : ℕ → Terms) (events : List Event) (v k : ℕ) (q : Posting)
    → let w = group_after group events in
    IsSend w k q → HasTaken (w.members v).log k q → IsWithin q.was.told.uses (w.members v).told.uses

-- a validator that took the last send of a chain whole has learned each use that went along it
abbrev pub ChainsTell : Type 0
ChainsTell = (group : ℕ → Terms) (events : List Event) (v k : ℕ) (q : Posting) (u : Use) (chain : List ℕ)
    → let w = group_after group events in
    IsSend w k q → HasTaken (w.members v).log k q → WentAlong w u k chain → IsTrue (holds (w.members v).told.uses u)

-- a validator that has learned a use with the key and the expiry of a signing input accepts no token of it
abbrev pub ToldIsRefused : Type 0
ToldIsRefused = (group : ℕ → Terms) (events : List Event) (v : ℕ) (input : List ℕ) (u : Use)
    → let x = (group_after group events).members v in
    IsTrue (holds x.told.uses u) → IsUseOf u input → IsRefusedBy x input

-- so one that accepted a claim accepts no token of a signing input that has the claim's key and expiry
abbrev pub ClaimedIsRefused : Type 0
ClaimedIsRefused = (group : ℕ → Terms) (events : List Event) (v now : ℕ) (c : Use) (input : List ℕ)
    → let w = happen group start events in
    Accepts group w v now c → IsUseOf c input → IsRefusedBy ((happens group w (Read v now false)).group.members v) input

-- and one that has learned of an acceptance, wherever that was, accepts no token of its signing input
abbrev pub AcceptedIsRefused : Type 0
AcceptedIsRefused = (group : ℕ → Terms) (events : List Event) (v moment : ℕ) (s : Setting) (uses : Uses) (token input : List ℕ) (u : Use)
    → let x = (group_after group events).members v in
    verdicts.Accepts s moment uses token u → input_of token ≡ Some input → IsTrue (holds x.told.uses u) → IsRefusedBy x input

-- and so an acceptance goes along every chain of sends taken whole: at its end no token of the signing input is accepted
abbrev pub AcceptanceGoesAlong : Type 0
AcceptanceGoesAlong = (group : ℕ → Terms) (events : List Event) (v k moment : ℕ) (q : Posting) (chain : List ℕ) (s : Setting) (uses : Uses) (token input : List ℕ) (u : Use)
    → let w = group_after group events in
    verdicts.Accepts s moment uses token u → input_of token ≡ Some input → IsSend w k q → HasTaken (w.members v).log k q → WentAlong w u k chain → IsRefusedBy (w.members v) input

-- a check accepts no token if a live withdrawal of its key was learned, by the log or outside of it
abbrev pub WithdrawnAreRefused : Type 0
WithdrawnAreRefused = (group : ℕ → Terms) (events : List Event) (v now : ℕ) (token : List ℕ) (refused : Bool) (accepted : Accepted) (u : Use)
    → let w = group_after group events in
    let x = tell_now (w.members v).told now in
    IsTrue (holds x.uses u) → u.withdrawn ≡ true → x.greatest < u.exp → answer_at group w v now token refused ≡ Ok accepted → u.key ≢ accepted.used.key

-- a report lists exactly the keys with two different live uses that were learned and are no withdrawals
abbrev pub ReportsAreExact : Type 0
ReportsAreExact = (group : ℕ → Terms) (events : List Event) (v : ℕ) (key : List ℕ)
    → let x = (group_after group events).members v in
    Contains (map (λ t. t.key) (report_of x)) key ↔ IsUsedTwice x.told key

-- each key in the report has all of its live uses that were learned and are no withdrawals
abbrev pub ReportsAreWhole : Type 0
ReportsAreWhole = (group : ℕ → Terms) (events : List Event) (v : ℕ) (t : Twice) (u : Use)
    → let x = (group_after group events).members v in
    Contains (report_of x) t → Contains t.uses u ↔ IsLiveUse x.told t.key u

-- if one signing input was accepted at two validator IDs, every validator that learned both uses reports it until it expires
abbrev pub TwoValidatorsAreReported : Type 0
TwoValidatorsAreReported = (group : ℕ → Terms) (events : List Event) (v : ℕ) (s other : Setting) (moment later : ℕ) (uses others : Uses) (token again : List ℕ) (a b : Use)
    → let x = (group_after group events).members v in
    verdicts.Accepts s moment uses token a → verdicts.Accepts other later others again b → input_of token ≡ input_of again → a.validator_id ≢ b.validator_id
    → IsTrue (holds x.told.uses a) → IsTrue (holds x.told.uses b) → x.told.greatest < a.exp
    → (listed : Twice) × Contains (report_of x) listed × (listed.key ≡ a.key) × Contains listed.uses a × Contains listed.uses b

-- a new record that absorbs all parts of a saved record is that record
abbrev pub RestartsAbsorb : Type 0
RestartsAbsorb = (group : ℕ → Terms) (events : List Event) (k : ℕ) (s : Saved)
    → slice_get (group_after group events).saves k ≡ Some s → join_all (state_of 0 []) (parts_of s.was.held) ≡ s.was.held

-- so a restart may absorb them: the validator begins as it was saved, with what stood beside its record, and may have read more of the log than it knows; what it had been told is that of the save, and its setting that of now
abbrev pub RestartsPutBack : Type 0
RestartsPutBack = (group : ℕ → Terms) (events : List Event) (v k : ℕ) (s : Saved)
    → let w = happen group start events in
    let z = happens group w (Call (Restart v k)) in
    let x = z.group.members v in
    slice_get w.group.saves k ≡ Some s → s.owner ≡ v
    → (a : Aside) × (slice_get w.saved k ≡ Some a) × (reader_at z v ≡ begins (reader_at w v) (reader s.was a))
    × (x.told ≡ s.was.told) × (x.log ≡ s.was.log) × (x.renewal ≡ (w.group.members v).renewal)

-- the event puts back no save of validator v, and is no fresh start
abbrev pub IsNoRestartOf : ℕ → Event → Type 0
IsNoRestartOf v (Call (Restart n k)) = n ≢ v
IsNoRestartOf v (Anew n front until) = n ≢ v
IsNoRestartOf v _ = Unit {0}

-- what any other event leaves is the record of validator v at a later time: so any number of them may come between the pieces of a save
abbrev pub EventsLeaveLater : Type 0
EventsLeaveLater = (group : ℕ → Terms) (w : World) (v : ℕ) (event : Event) → IsNoRestartOf v event → IsLater (w.group.members v).held ((happens group w event).group.members v).held

-- the moments of an event are ones, and a use that is put into the log is one
abbrev pub IsEventInRange : Event → Type 0
IsEventInRange (Call event) = IsCallInRange event
IsEventInRange (Put u) = IsUse u
IsEventInRange (Read v now refused) = now < 2 ^ 64
IsEventInRange _ = Unit {0}

-- a validator that made a summary and took an answer to it whole has learned all uses that the answerer had learned by then; or some bucket of its
-- own at the summary, and that of the answerer at the answer, are different texts with one digest
abbrev pub AnswersTellAll : Type 0
AnswersTellAll = (group : ℕ → Terms) (events : List Event) (v j k : ℕ) (answer summary : Posting) (parts : List BatchData) (s : SummaryData)
    → HasIds group → AllByRecursion IsEventInRange events
    → let w = group_after group events in
    slice_get w.pool k ≡ Some summary → summary.content ≡ Summed s → Contains (w.members v).log (Made k)
    → slice_get w.pool j ≡ Some answer → answer.content ≡ Answered k parts → HasTaken (w.members v).log j answer
    → IsWithin answer.was.told.uses (w.members v).told.uses ⊎ IsClash summary.was.held.uses answer.was.held.uses

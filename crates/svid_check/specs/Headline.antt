-- What is proved of a group of validators, over every list of events.
use Rattle.std.specs.Prelude.{◌≡◌, ◌≢◌, ◌⊎◌, ◌↔◌, ℕ, ◌<◌, ◌^◌, Bool, false, true, List, [], ◌∷◌, map, slice_get, Some, IsTrue, Ok}
use Rattle.std.specs.List.{AllByRecursion, Contains}
use Rattle.svid_token.specs.Rows.{seen}
use Rattle.svid_replay.specs.declared.token_use.Use.{Use}
use Rattle.svid_replay.specs.declared.twice.Twice.{Twice}
use Rattle.svid_replay.specs.Batches.{BatchData}
use Rattle.svid_replay.specs.Buckets.{bucket_digest, bucket_text, raised_to}
use Rattle.svid_replay.specs.Parts.{join_all, parts_of}
use Rattle.svid_replay.specs.Records.{state_of}
use Rattle.svid_replay.specs.Sets.{holds, rising}
use Rattle.svid_replay.specs.Summary.{SummaryData}
use Rattle.svid_replay.specs.Twice.{twice_of, used}
use Rattle.svid_replay.specs.Use.{IsBytes}
use Rattle.svid_replay.specs.Uses.{Uses, live}
use Rattle.svid_wire.specs.RecordText.{record_text}
use Rattle.svid_check.specs.declared.accepted.Accepted.{Accepted}
use Rattle.svid_check.specs.Lawful.{Accepts, input_of}
use Rattle.svid_check.specs.Runs.{IsAnswered, Terms}
use Rattle.svid_check.specs.Setting.{Setting}
use Rattle.svid_check.specs.Told.{Told, record_of, tell_now}
use Rattle.svid_check.specs.Verdict.{verdict, key_of}
use Rattle.svid_check.specs.World.{Answered, Check, Entry, Event, Made, Member, OldSend, Piece, Posting, Restart, Save, Saved, Send, Sent, Sum, Summed, Take, Tick, Withdraw, Answer, Took, World, accepted, answer_at, check_answer, happen, happens, parts_in, start, withdrawn, Renew, setting_at}
use Rattle.svid_check.specs.Said.{Said, said_of}

-- each use of the one set is in the other
abbrev pub IsWithin : Uses → Uses → Type 0
IsWithin s t = (u : Use) → IsTrue (holds s u) → IsTrue (holds t u)

-- validator v after a list of events
abbrev pub member_after : (ℕ → Terms) → List Event → ℕ → Member
member_after group events v = (happen group start events).members v

-- Records and verdicts.

-- each validator's record is what it has learned: the greatest moment, and the uses that are live at it
abbrev pub RecordsAreTold : Type 0
RecordsAreTold = (group : ℕ → Terms) (events : List Event) (v : ℕ) → let x = member_after group events v in x.held ≡ record_of x.told

-- each check answers the verdict for what the validator has learned, acceptance or refusal, or that it is out of memory
abbrev pub ChecksAreVerdicts : Type 0
ChecksAreVerdicts = (group : ℕ → Terms) (events : List Event) (v now : ℕ) (token : List ℕ) (refused : Bool)
    → let w = happen group start events in
    IsAnswered (setting_at group w v) (tell_now (w.members v).told now) token (answer_at group w v now token refused)

-- each check is answered by nothing but the verdict where no memory is refused
abbrev pub WithMemoryVerdicts : Type 0
WithMemoryVerdicts = (group : ℕ → Terms) (events : List Event) (v now : ℕ) (token : List ℕ)
    → let w = happen group start events in
    let x = tell_now (w.members v).told now in
    seen Some (answer_at group w v now token false) ≡ verdict (setting_at group w v) x.greatest (live x.uses x.greatest) token

-- Equal tellings.

-- validators that have learned the same, in whatever groups and by whatever events, have the same record, with the same parts and the same texts
abbrev pub EqualTellings : Type 0
EqualTellings = (group other : ℕ → Terms) (events others : List Event) (v w : ℕ)
    → let x = member_after group events v in
    let y = member_after other others w in
    x.told ≡ y.told → (x.held ≡ y.held) × (parts_of x.held ≡ parts_of y.held) × (record_text x.held ≡ record_text y.held)

-- posting k is a send, and this is it
abbrev pub IsSend : World → ℕ → Posting → Type 0
IsSend w k q = (slice_get w.pool k ≡ Some q) × ((parts : List BatchData) × (q.content ≡ Sent parts))

-- a log has each part of a posting
abbrev pub HasTaken : List Entry → ℕ → Posting → Type 0
HasTaken log k q = (p : ℕ) (b : BatchData) → slice_get (parts_in q.content) p ≡ Some b → Contains log (Took k p)

-- the event is another validator's, or validator v takes a part of posting k
abbrev pub TakesOnly : ℕ → ℕ → Event → Type 0
TakesOnly v k (Take n now posting part refused) = n ≡ v → posting ≡ k
TakesOnly v k (Check n now token refused) = n ≢ v
TakesOnly v k (Withdraw n now key exp refused) = n ≢ v
TakesOnly v k (Tick n now) = n ≢ v
TakesOnly v k (Send n) = n ≢ v
TakesOnly v k (OldSend n) = n ≢ v
TakesOnly v k (Sum n) = n ≢ v
TakesOnly v k (Answer n now posting refused) = n ≢ v
TakesOnly v k (Save n) = n ≢ v
TakesOnly v k (Piece n after most) = n ≢ v
TakesOnly v k (Restart n save) = n ≢ v
TakesOnly v k (Renew n renewal) = n ≢ v

-- a validator that has learned no use that the sender had not learned at a send, and takes the send whole with no other event of its own in between,
-- then knows exactly the uses that the sender knew
abbrev pub SendsMakeEqual : Type 0
SendsMakeEqual = (group : ℕ → Terms) (events takes : List Event) (v k : ℕ) (q : Posting)
    → let before = happen group start events in
    let after = happen group before takes in
    IsSend before k q → IsWithin (before.members v).told.uses q.was.told.uses → AllByRecursion (TakesOnly v k) takes → HasTaken (after.members v).log k q
    → (after.members v).told.uses ≡ q.was.told.uses

-- What a send tells.

-- a validator that took a send whole has learned all uses that its sender had learned by then, including expired ones
abbrev pub SendsTellAll : Type 0
SendsTellAll = (group : ℕ → Terms) (events : List Event) (v k : ℕ) (q : Posting)
    → let w = happen group start events in
    IsSend w k q → HasTaken (w.members v).log k q → IsWithin q.was.told.uses (w.members v).told.uses

-- a use went along send k and the ones before it, from the latest to the first: the first one's maker had been told it, and each later one's maker had by then taken the one before it whole
abbrev pub WentAlong : World → Use → ℕ → List ℕ → Type 0
WentAlong w u k [] = (q : Posting) × IsSend w k q × IsTrue (holds q.was.told.uses u)
WentAlong w u k (before ∷ chain) = (q : Posting) × (earlier : Posting) × IsSend w k q × IsSend w before earlier × HasTaken q.was.log before earlier × WentAlong w u before chain

-- a validator that took the last send of a chain whole has learned each use that went along it
abbrev pub ChainsTell : Type 0
ChainsTell = (group : ℕ → Terms) (events : List Event) (v k : ℕ) (q : Posting) (u : Use) (chain : List ℕ)
    → let w = happen group start events in
    IsSend w k q → HasTaken (w.members v).log k q → WentAlong w u k chain → IsTrue (holds (w.members v).told.uses u)

-- this validator accepts no token of the signing input, under any setting, so with whatever bundles and verifier, at any moment and in whatever memory
abbrev pub IsRefusedBy : Member → List ℕ → Type 0
IsRefusedBy x input = (s : Setting) (token : List ℕ) (now : ℕ) (refused : Bool) (accepted : Accepted) → input_of token ≡ Some input → check_answer s (raised_to x.held now) token refused ≢ Ok accepted

-- the use has the key and the expiry of the signing input: where a token of it says t, they are those of t
abbrev pub IsUseOf : Use → List ℕ → Type 0
IsUseOf u input = (token : List ℕ) (t : Said) → input_of token ≡ Some input → said_of token ≡ Some t → (key_of t ≡ u.key) × (t.exp ≡ u.exp)

-- a validator that has learned a use with the key and the expiry of a signing input accepts no token of it
abbrev pub ToldIsRefused : Type 0
ToldIsRefused = (group : ℕ → Terms) (events : List Event) (v : ℕ) (input : List ℕ) (u : Use)
    → let x = member_after group events v in
    IsTrue (holds x.told.uses u) → IsUseOf u input → IsRefusedBy x input

-- so one that has learned of an acceptance, wherever that was, accepts no token of its signing input
abbrev pub AcceptedIsRefused : Type 0
AcceptedIsRefused = (group : ℕ → Terms) (events : List Event) (v moment : ℕ) (s : Setting) (uses : Uses) (token input : List ℕ) (u : Use)
    → let x = member_after group events v in
    Accepts s moment uses token u → input_of token ≡ Some input → IsTrue (holds x.told.uses u) → IsRefusedBy x input

-- a check that accepts a token tells its validator the use
abbrev pub AcceptanceTells : Type 0
AcceptanceTells = (group : ℕ → Terms) (w : World) (v now : ℕ) (token : List ℕ) (refused : Bool) (accepted : Accepted)
    → answer_at group w v now token refused ≡ Ok accepted → IsTrue (holds ((happens group w (Check v now token refused)).members v).told.uses accepted.used)

-- and so an acceptance goes along every chain of sends taken whole: at its end no token of the signing input is accepted
abbrev pub AcceptanceGoesAlong : Type 0
AcceptanceGoesAlong = (group : ℕ → Terms) (events : List Event) (v k moment : ℕ) (q : Posting) (chain : List ℕ) (s : Setting) (uses : Uses) (token input : List ℕ) (u : Use)
    → let w = happen group start events in
    Accepts s moment uses token u → input_of token ≡ Some input → IsSend w k q → HasTaken (w.members v).log k q → WentAlong w u k chain → IsRefusedBy (w.members v) input

-- Withdrawals.

-- a check accepts no token if a live withdrawal of its key was learned
abbrev pub WithdrawnAreRefused : Type 0
WithdrawnAreRefused = (group : ℕ → Terms) (events : List Event) (v now : ℕ) (token : List ℕ) (refused : Bool) (accepted : Accepted) (u : Use)
    → let x = tell_now (member_after group events v).told now in
    IsTrue (holds x.uses u) → u.withdrawn ≡ true → x.greatest < u.exp → answer_at group (happen group start events) v now token refused ≡ Ok accepted → u.key ≢ accepted.used.key

-- Reports.

-- a live use of this key was learned that is no withdrawal
abbrev pub IsLiveUse : Told → List ℕ → Use → Type 0
IsLiveUse x key u = IsTrue (holds x.uses u) × (x.greatest < u.exp) × (u.key ≡ key) × (u.withdrawn ≡ false)

-- two different live uses of this key were learned that are no withdrawals
pub record IsUsedTwice (x : Told) (key : List ℕ) : Type 0 where
  pub one : Use
  pub other : Use
  pub differ : one ≢ other
  pub first : IsLiveUse x key one
  pub second : IsLiveUse x key other

-- what a validator's record reports
abbrev pub report_of : Member → List Twice
report_of x = twice_of (used (rising x.held.uses))

-- the report lists exactly the keys with two different live uses that were learned and are no withdrawals
abbrev pub ReportsAreExact : Type 0
ReportsAreExact = (group : ℕ → Terms) (events : List Event) (v : ℕ) (key : List ℕ)
    → let x = member_after group events v in
    Contains (map (λ t. t.key) (report_of x)) key ↔ IsUsedTwice x.told key

-- each key in the report has all of its live uses that were learned and are no withdrawals
abbrev pub ReportsAreWhole : Type 0
ReportsAreWhole = (group : ℕ → Terms) (events : List Event) (v : ℕ) (t : Twice) (u : Use)
    → let x = member_after group events v in
    Contains (report_of x) t → Contains t.uses u ↔ IsLiveUse x.told t.key u

-- a check of the group accepted each use that was learned and is no withdrawal
abbrev pub ToldWereAccepted : Type 0
ToldWereAccepted = (group : ℕ → Terms) (events : List Event) (v : ℕ) (u : Use)
    → IsTrue (holds (member_after group events v).told.uses u) → u.withdrawn ≡ false → Contains (accepted group start events) u

-- and a validator of the group made each withdrawal that was learned
abbrev pub ToldWereWithdrawn : Type 0
ToldWereWithdrawn = (group : ℕ → Terms) (events : List Event) (v : ℕ) (u : Use)
    → IsTrue (holds (member_after group events v).told.uses u) → u.withdrawn ≡ true → Contains (withdrawn group start events) u

-- so each key that is reported was accepted at least twice
abbrev pub ReportedWereAcceptedTwice : Type 0
ReportedWereAcceptedTwice = (group : ℕ → Terms) (events : List Event) (v : ℕ) (key : List ℕ) → Contains (map (λ t. t.key) (report_of (member_after group events v))) key
    → (one : Use) × (other : Use) × (one ≢ other) × (one.key ≡ key) × (other.key ≡ key) × Contains (accepted group start events) one × Contains (accepted group start events) other

-- if one signing input was accepted at two validator IDs, every validator that learned both uses reports it until it expires
abbrev pub TwoValidatorsAreReported : Type 0
TwoValidatorsAreReported = (group : ℕ → Terms) (events : List Event) (v : ℕ) (s other : Setting) (moment later : ℕ) (uses others : Uses) (token again : List ℕ) (a b : Use)
    → let x = member_after group events v in
    Accepts s moment uses token a → Accepts other later others again b → input_of token ≡ input_of again → a.validator_id ≢ b.validator_id
    → IsTrue (holds x.told.uses a) → IsTrue (holds x.told.uses b) → x.told.greatest < a.exp
    → (listed : Twice) × Contains (report_of x) listed × (listed.key ≡ a.key) × Contains listed.uses a × Contains listed.uses b

-- Restarts.

-- a new record that absorbs all parts of a saved record is that record
abbrev pub RestartsAbsorb : Type 0
RestartsAbsorb = (group : ℕ → Terms) (events : List Event) (k : ℕ) (s : Saved) → slice_get (happen group start events).saves k ≡ Some s → join_all (state_of 0 []) (parts_of s.was.held) ≡ s.was.held

-- so a restart may absorb them: it leaves the validator with the record that they give, with what it had been told and its log at the save, and with the setting of now
abbrev pub RestartsPutBack : Type 0
RestartsPutBack = (group : ℕ → Terms) (events : List Event) (v k : ℕ) (s : Saved)
    → let w = happen group start events in
    let x = (happens group w (Restart v k)).members v in
    slice_get w.saves k ≡ Some s → s.owner ≡ v → (x.held ≡ join_all (state_of 0 []) (parts_of s.was.held)) × (x.told ≡ s.was.told) × (x.log ≡ s.was.log) × (x.renewal ≡ (w.members v).renewal)

-- Summaries and answers.

-- the validator IDs of a group have 16 bytes
abbrev pub HasIds : (ℕ → Terms) → Type 0
HasIds group = (v : ℕ) → IsBytes 16 (group v).setting.validator_id

-- the moment of an event is one, and so is the expiry of a withdrawal, whose key has 32 bytes
abbrev pub IsEventInRange : Event → Type 0
IsEventInRange (Check v now token refused) = now < 2 ^ 64
IsEventInRange (Withdraw v now key exp refused) = (now < 2 ^ 64) × IsBytes 32 key × (exp < 2 ^ 64)
IsEventInRange (Tick v now) = now < 2 ^ 64
IsEventInRange (Answer v now posting refused) = now < 2 ^ 64
IsEventInRange (Take v now posting part refused) = now < 2 ^ 64
IsEventInRange _ = Unit {0}

-- two sets have different texts of a bucket, and one digest
pub record IsClash (s t : Uses) : Type 0 where
  pub number : ℕ
  pub is_bucket : number < 256
  pub texts : bucket_text number s ≢ bucket_text number t
  pub digests : bucket_digest number s ≡ bucket_digest number t

-- a validator that made a summary and took an answer to it whole has learned all uses that the answerer had learned by then; or some bucket of its
-- own at the summary, and that of the answerer at the answer, are different texts with one digest
abbrev pub AnswersTellAll : Type 0
AnswersTellAll = (group : ℕ → Terms) (events : List Event) (v j k : ℕ) (answer summary : Posting) (parts : List BatchData) (s : SummaryData)
    → HasIds group → AllByRecursion IsEventInRange events
    → let w = happen group start events in
    slice_get w.pool k ≡ Some summary → summary.content ≡ Summed s → Contains (w.members v).log (Made k)
    → slice_get w.pool j ≡ Some answer → answer.content ≡ Answered k parts → HasTaken (w.members v).log j answer
    → IsWithin answer.was.told.uses (w.members v).told.uses ⊎ IsClash summary.was.held.uses answer.was.held.uses

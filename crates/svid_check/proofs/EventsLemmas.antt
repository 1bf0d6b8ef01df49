-- What the contract of a call allows is what an event of a group does.
use Rattle.std.proofs.Common.{◌≡◌, ℕ, Bool, true, false, if◌then◌else◌, List, [], ◌∷◌, ◌++◌, length, take, Option, None, Some, refl, sym, ◌∙◌, ap, subst, inl, inr}
use Rattle.std.specs.Prelude.{Result, Ok, Err, Vec}
use Rattle.std.specs.declared.alloc.Global.{Global}
use Rattle.std.proofs.lemmas.Bool.{le-ltb, lt-ltb}
use Rattle.std.proofs.lemmas.List.{append-nil}
use Rattle.std.proofs.Math.Seq.{take-append_seam}
use Rattle.svid_token.specs.Compact.{compact_rows}
use Rattle.svid_token.specs.Rows.{Answers, first_row}
use Rattle.svid_token.specs.declared.refusal.Refusal.{Refusal}
use Rattle.svid_token.specs.declared.refusal.Refusal.TheVariants as refusal
use Rattle.svid_replay.specs.declared.token_use.Use.{Use}
use Rattle.svid_replay.specs.Batches.{BatchData}
use Rattle.svid_replay.specs.Buckets.{answer_to, raised_to}
use Rattle.svid_replay.specs.Parts.{join_all}
use Rattle.svid_replay.specs.Records.{State, join, state_of}
use Rattle.svid_replay.specs.Summary.{SummaryData}
use Rattle.svid_replay.specs.Uses.{Uses}
use Rattle.svid_check.specs.declared.accepted.Accepted.{Accepted}
use Rattle.svid_check.specs.declared.take_fault.TakeFault.{TakeFault}
use Rattle.svid_check.specs.declared.take_fault.TakeFault.TheVariants.{OutOfMemory, TooFarAhead}
use Rattle.svid_check.specs.declared.withdraw_fault.WithdrawFault.{WithdrawFault}
use Rattle.svid_check.specs.declared.withdraw_fault.WithdrawFault.TheVariants as withdraw
use Rattle.svid_check.specs.Changes.{IsWithdrawal, Replies, Takes, batch_of, gains, horizon, settled, withdrawal, withdrawn_in}
use Rattle.svid_check.specs.Events.{AnswersAreEvents, ChecksAreEvents, SendsAreEvents, SumsAreEvents, TakesAreEvents, TicksAreEvents, WithdrawalsAreEvents, entries, posted, JudgmentsAgainAreTicks, JudgmentsAreTicks, PiecesAreEvents, RenewalsAreEvents, SavesAreEvents}
use Rattle.svid_check.specs.Said.{RefusesForm}
use Rattle.svid_check.specs.Alone.{AnswersAreCalls, ChecksAreCalls, RecordTakesAreCalls, TakesAreCalls, TicksAreCalls, WithdrawalsAreCalls, setting_alone}
use Rattle.svid_check.specs.Setting.{Renewal, Setting, renewed}
use Rattle.svid_check.specs.Verdict.{again_rows, verdict}
use Rattle.svid_check.specs.World.{Answer, Answered, Content, Entry, Made, Member, Pieced, Posting, Sent, Summed, Take, Took, World, answer_at, answer_by, answer_content, answer_posting, answer_summary, check_answer, checked, far, form_or_memory, front, happens, joined, logged, post, put, take_part, take_posting, ticked, took, withdraw_answer, withdrawal_at, withdrew, happen, setting_at, start, with_renewal}
use Rattle.svid_check.proofs.IndexesLemmas.{put_own}
use Rattle.svid_check.proofs.RestartsLemmas.{restart_absorbs}
use Rattle.svid_check.proofs.RowsLemmas.{told}
use Rattle.svid_check.proofs.SoundLemmas.{is_sound}
use Rattle.svid_check.proofs.WholeLemmas.{as_batch}

-- Checks.

for_memory : (found : Option Refusal) (answer : Result Accepted Refusal) → answer ≡ Err refusal.OutOfMemory → ((r : Refusal) → found ≡ Some r → answer ≡ Err r) → Err (form_or_memory found) ≡ answer
for_memory None answer is form = sym is
for_memory (Some r) answer is form = sym (form r refl)

check_gives : (s : Setting) (x : State) (token : List ℕ) (answer : Result Accepted Refusal) → Answers Some answer (verdict s x.moment x.uses token) → RefusesForm token answer
    → (refused : Bool) × (check_answer s x token refused ≡ answer)
check_gives s x token (Ok accepted) due form = (false, ap answer_by due)
check_gives s x token (Err r) due form =
    let right = verdict s x.moment x.uses token in
    elim ((told r right right).0 due) [
      | inl memory ↦ (true, for_memory (first_row (compact_rows token)) (Err r) (ap (λ (q : Refusal). Err q) memory) form)
      | inr is ↦ (false, ap answer_by is)
    ]

pub checks_are_events : ChecksAreEvents
checks_are_events group w v now token answer due form =
    let x = raised_to (w.members v).held now in
    let g = check_gives (setting_at group w v) x token answer due form in
    (g.0, g.1, ap (λ (m : Member). m.held) (put_own w v (checked (ticked (w.members v) now) (answer_at group w v now token g.0))) ∙ ap (settled x) g.1)

-- Withdrawals.

withdraw_gives : (validator_id : List ℕ) (x : State) (key : List ℕ) (exp : ℕ) (answer : Result Use WithdrawFault) → IsWithdrawal validator_id x.moment key exp answer → (refused : Bool) × (withdraw_answer validator_id x key exp refused ≡ answer)
withdraw_gives validator_id x key exp (Ok used) h =
    let due = withdrawal validator_id x.moment key exp in
    (false, ap (λ (test : Bool). if test then Ok due else Err withdraw.Expired) (lt-ltb x.moment exp h.0) ∙ ap Ok (sym h.1))
withdraw_gives validator_id x key exp (Err withdraw.Expired) h =
    let due = withdrawal validator_id x.moment key exp in
    (false, ap (λ (test : Bool). if test then Ok due else Err withdraw.Expired) (le-ltb x.moment exp h))
withdraw_gives validator_id x key exp (Err withdraw.OutOfMemory) h = (true, ap (λ (test : Bool). if test then Err withdraw.OutOfMemory else Err withdraw.Expired) (lt-ltb x.moment exp h))

pub withdrawals_are_events : WithdrawalsAreEvents
withdrawals_are_events group w v now key exp answer h =
    let x = raised_to (w.members v).held now in
    let g = withdraw_gives (group v).setting.validator_id x key exp answer h in
    (g.0, g.1, ap (λ (m : Member). m.held) (put_own w v (withdrew (ticked (w.members v) now) (withdrawal_at group w v now key exp g.0))) ∙ ap (λ (a : Result Use WithdrawFault). gains x (withdrawn_in a)) g.1)

-- Ticks.

pub ticks_are_events : TicksAreEvents
ticks_are_events group w v now = ap (λ (m : Member). m.held) (put_own w v (ticked (w.members v) now))

-- Judgments.

pub judgments_are_ticks : JudgmentsAreTicks
judgments_are_ticks group w v now token answer y due form left =
    let g = check_gives (setting_at group w v) (raised_to (w.members v).held now) token answer due form in
    (g.0, g.1, ticks_are_events group w v now ∙ sym left)

pub judgments_again_are_ticks : JudgmentsAgainAreTicks
judgments_again_are_ticks group w v now key exp answer y is left =
    let ticks = ticks_are_events group w v now in
    (is ∙ sym (ap (λ (x : State). first_row (again_rows x.moment x.uses key exp)) ticks), ticks ∙ sym left)

-- Takes.

take_gives : (x : Member) (last : ℕ) (entry : Entry) (sender : Uses) (b : BatchData) (answer : Result (Unit {0}) TakeFault) (y : State) → Takes x.held last b answer y
    → (refused : Option ℕ) × ((took last x entry sender b refused).held ≡ y) × ((took last x entry sender b refused).log ≡ x.log ++ entries entry answer)
take_gives x last entry sender b (Ok taken) y h =
    let is : took last x entry sender b None ≡ logged (joined x sender b) entry = ap (λ (test : Bool). if test then x else logged (joined x sender b) entry) (le-ltb last b.moment h.0) in
    (None, ap (λ (m : Member). m.held) is ∙ sym h.1, ap (λ (m : Member). m.log) is)
take_gives x last entry sender b (Err TooFarAhead) y h =
    let is : took last x entry sender b None ≡ x = ap (λ (test : Bool). if test then x else logged (joined x sender b) entry) (lt-ltb last b.moment h.0) in
    (None, ap (λ (m : Member). m.held) is ∙ sym h.1, ap (λ (m : Member). m.log) is ∙ sym (append-nil x.log))
take_gives x last entry sender b (Err OutOfMemory) y h =
    let part = h.1 in
    let n = length part.front in
    let is : took last x entry sender b (Some n) ≡ joined x sender (front n b) = ap (λ (test : Bool). if test then x else joined x sender (front n b)) (le-ltb last b.moment h.0) in
    let first : take n b.uses ≡ part.front = ap (take n) part.parts ∙ take-append_seam part.front (part.refused ∷ part.rest) in (
      Some n,
      ap (λ (m : Member). m.held) is ∙ ap (λ (us : List Use). join x.held (state_of b.moment us)) first ∙ sym part.joined,
      ap (λ (m : Member). m.log) is ∙ sym (append-nil x.log),
    )

pub takes_are_events : TakesAreEvents
takes_are_events group w v now k p q b answer y at_k at_p h =
    let x = ticked (w.members v) now in
    let g = take_gives x (far group v now) (Took k p) q.was.told.uses b answer y h in
    let is : (happens group w (Take v now k p g.0)).members v ≡ took (far group v now) x (Took k p) q.was.told.uses b g.0 =
    ap (λ (o : Option Posting). (take_posting w v (far group v now) x k p g.0 o).members v) at_k
    ∙ ap (λ (o : Option BatchData). (take_part w v (far group v now) x (Took k p) g.0 q o).members v) at_p
    ∙ put_own w v (took (far group v now) x (Took k p) q.was.told.uses b g.0) in
    (g.0, (ap (λ (m : Member). m.held) is ∙ g.1, ap (λ (m : Member). m.log) is ∙ g.2))

-- Answers.

-- what an answer leaves, and posts
record Leaves (w : World) (v k : ℕ) (answer : Result (Vec BatchData Global) TakeFault) (y : State) (after : World) : Type 0 where
  held : (after.members v).held ≡ y
  pool : after.pool ≡ w.pool ++ posted v k (after.members v) answer

puts_alone : (w : World) (v k : ℕ) (fault : TakeFault) (y : State) (x : Member) → y ≡ x.held → Leaves w v k (Err fault) y (put w v x)
puts_alone w v k fault y x is = record { held = ap (λ (m : Member). m.held) (put_own w v x) ∙ sym is; pool = sym (append-nil w.pool) }

puts_and_posts : (w : World) (v k : ℕ) (batches : Vec BatchData Global) (y : State) (x : Member) (parts : List BatchData) → batches.items ≡ parts → y ≡ x.held → Leaves w v k (Ok batches) y (post (put w v x) v x (Answered k parts))
puts_and_posts w v k batches y x parts items is = record {
  held = ap (λ (m : Member). m.held) (put_own w v x) ∙ sym is;
  pool = ap (λ (m : Member). w.pool ++ record { maker = v; was = m; content = Answered k parts } ∷ []) (sym (put_own w v x))
      ∙ ap (λ (bs : List BatchData). w.pool ++ record { maker = v; was = (put w v x).members v; content = Answered k bs } ∷ []) (sym items);
}

reply_gives : (w : World) (v last : ℕ) (x : Member) (k : ℕ) (s : SummaryData) (answer : Result (Vec BatchData Global) TakeFault) (y : State) → Replies x.held last s answer y
    → (refused : Bool) × Leaves w v k answer y (answer_summary w v last x k refused s)
reply_gives w v last x k s (Ok batches) y h =
    let z = ticked x s.moment in
    let after = post (put w v z) v z (Answered k (answer_to x.held s)) in
    (false, subst (λ (test : Bool). Leaves w v k (Ok batches) y (if test then put w v x else after)) (sym (le-ltb last s.moment h.0)) (puts_and_posts w v k batches y z (answer_to x.held s) h.1 h.2))
reply_gives w v last x k s (Err TooFarAhead) y h =
    let z = ticked x s.moment in
    let after = post (put w v z) v z (Answered k (answer_to x.held s)) in
    (false, subst (λ (test : Bool). Leaves w v k (Err TooFarAhead) y (if test then put w v x else after)) (sym (lt-ltb last s.moment h.0)) (puts_alone w v k TooFarAhead y x h.1))
reply_gives w v last x k s (Err OutOfMemory) y h =
    let z = ticked x s.moment in
    (true, subst (λ (test : Bool). Leaves w v k (Err OutOfMemory) y (if test then put w v x else put w v z)) (sym (le-ltb last s.moment h.0)) (puts_alone w v k OutOfMemory y z h.1))

pub answers_are_events : AnswersAreEvents
answers_are_events group w v now k q s answer y at_k is_summary h =
    let x = ticked (w.members v) now in
    let g = reply_gives w v (far group v now) x k s answer y h in
    let is : happens group w (Answer v now k g.0) ≡ answer_summary w v (far group v now) x k g.0 s =
    ap (λ (o : Option Posting). answer_posting w v (far group v now) x k g.0 o) at_k
    ∙ ap (λ (c : Content). answer_content w v (far group v now) x k g.0 c) is_summary in
    let leaves : Leaves w v k answer y (happens group w (Answer v now k g.0)) = subst (Leaves w v k answer y) (sym is) g.1 in
    (g.0, (leaves.held, leaves.pool))

-- What is posted as it is.

pub sends_are_events : SendsAreEvents
sends_are_events group w v parts is = (refl, ap (λ (ps : List BatchData). w.pool ++ record { maker = v; was = w.members v; content = Sent ps } ∷ []) (sym is))

pub pieces_are_events : PiecesAreEvents
pieces_are_events group w v most before piece is = (refl, ap (λ (b : BatchData). w.pool ++ record { maker = v; was = w.members v; content = Pieced b } ∷ []) (sym is))

pub sums_are_events : SumsAreEvents
sums_are_events group w v summary same =
    let is = put_own w v (logged (w.members v) (Made (length w.pool))) in (
      ap (λ (m : Member). m.held) is,
      ap (λ (m : Member). m.log) is,
      ap (λ (s : SummaryData). w.pool ++ record { maker = v; was = w.members v; content = Summed s } ∷ []) (sym same),
    )

-- a renewal of a renewed setting is one of the first
renewed_twice : (s : Setting) (before : Option Renewal) (r : Renewal) → renewed (renewed s before) (Some r) ≡ renewed s (Some r)
renewed_twice s None r = refl
renewed_twice s (Some before) r = refl

pub renewals_are_events : RenewalsAreEvents
renewals_are_events group w v old new bundles same gives =
    let r : Renewal = record { own = old.own; bundles = bundles; says = old.says } in
    let is = put_own w v (with_renewal (w.members v) (Some r)) in (
      gives ∙ ap (λ (s : Setting). renewed s (Some r)) same ∙ renewed_twice (group v).setting (w.members v).renewal r ∙ sym (ap (λ (m : Member). renewed (group v).setting m.renewal) is),
      ap (λ (m : Member). m.held) is,
      ap (λ (m : Member). m.told) is,
      ap (λ (m : Member). m.log) is,
    )

pub saves_are_events : SavesAreEvents
saves_are_events group before v parts same =
    let x = (happen group start before).members v in
    (refl, refl, ap (join_all (state_of 0 [])) same ∙ restart_absorbs x ((is_sound group before).members v).is_told)

-- One validator by itself.

pub checks_are_calls : ChecksAreCalls
checks_are_calls t w now token answer due form =
    let x = raised_to w.held now in
    let g = check_gives (setting_alone t w) x token answer due form in
    (g.0, g.1, ap (settled x) g.1)

pub withdrawals_are_calls : WithdrawalsAreCalls
withdrawals_are_calls t w now key exp answer h =
    let x = raised_to w.held now in
    let g = withdraw_gives t.setting.validator_id x key exp answer h in
    (g.0, g.1, ap (λ (a : Result Use WithdrawFault). gains x (withdrawn_in a)) g.1)

pub ticks_are_calls : TicksAreCalls
ticks_are_calls t w now = refl

abbrev either_way : State → State → Bool → State
either_way x y test = if test then x else y

pub takes_are_calls : TakesAreCalls
takes_are_calls t w now b (Ok taken) y h =
    let x = raised_to w.held now in
    (None, ap (either_way x (join x (state_of b.moment b.uses))) (le-ltb (horizon now t.ahead) b.moment h.0) ∙ sym h.1)
takes_are_calls t w now b (Err TooFarAhead) y h =
    let x = raised_to w.held now in
    (None, ap (either_way x (join x (state_of b.moment b.uses))) (lt-ltb (horizon now t.ahead) b.moment h.0) ∙ sym h.1)
takes_are_calls t w now b (Err OutOfMemory) y h =
    let x = raised_to w.held now in
    let part = h.1 in
    let n = length part.front in
    let first : take n b.uses ≡ part.front = ap (take n) part.parts ∙ take-append_seam part.front (part.refused ∷ part.rest) in (
      Some n,
      ap (either_way x (join x (state_of b.moment (take n b.uses)))) (le-ltb (horizon now t.ahead) b.moment h.0)
          ∙ (ap (λ (us : List Use). join x (state_of b.moment us)) first ∙ sym part.joined),
    )

pub record_takes_are_calls : RecordTakesAreCalls
record_takes_are_calls t w now r answer y h = takes_are_calls t w now (batch_of r) answer y (as_batch (raised_to w.held now) (horizon now t.ahead) r answer y h)

pub answers_are_calls : AnswersAreCalls
answers_are_calls t w now s (Ok batches) y h = let x = raised_to w.held now in ap (either_way x (raised_to x s.moment)) (le-ltb (horizon now t.ahead) s.moment h.0) ∙ sym h.2
answers_are_calls t w now s (Err TooFarAhead) y h = let x = raised_to w.held now in ap (either_way x (raised_to x s.moment)) (lt-ltb (horizon now t.ahead) s.moment h.0) ∙ sym h.1
answers_are_calls t w now s (Err OutOfMemory) y h = let x = raised_to w.held now in ap (either_way x (raised_to x s.moment)) (le-ltb (horizon now t.ahead) s.moment h.0) ∙ sym h.1

-- The laws of records and verdicts hold in a group that reads a log.
use Rattle.std.proofs.Common.{◌≡◌, ◌<◌, ℕ, zero, suc, false, List, [], ◌∷◌, length, IsTrue, Option, Some, refl, sym, ap, ◌∙◌, subst, arith}
use Rattle.std.specs.Prelude.{◌==◌, slice_get}
use Rattle.std.proofs.lemmas.Bool.{cond-true, eq-eqb}
use Rattle.std.proofs.lemmas.Option.{none-some, same_Some}
use Rattle.svid_token.specs.Rows.{Answers}
use Rattle.svid_replay.specs.declared.token_use.Use.{Use}
use Rattle.svid_replay.specs.Buckets.{raised_to}
use Rattle.svid_replay.specs.Records.{State}
use Rattle.svid_replay.specs.Sets.{holds}
use Rattle.svid_check.specs.Headline.{IsSend, WentAlong}
use Rattle.svid_check.specs.Runs.{Terms}
use Rattle.svid_check.specs.Told.{record_of}
use Rattle.svid_check.specs.Verdict.{verdict}
use Rattle.svid_check.specs.World as check
use Rattle.svid_check.specs.World.{Member, Posting, Restart, Saved, answer_at, setting_at, ticked}
use Rattle.svid_check.proofs.AnswersLemmas.{accepted_is, answers_verdict, with_memory}
use Rattle.svid_check.proofs.LawfulLemmas.{fresh, said_is_of_its_input}
use Rattle.svid_check.proofs.IndexesLemmas.{put_own}
use Rattle.svid_check.proofs.RestartsLemmas.{restart_absorbs}
use Rattle.svid_check.proofs.RunsLemmas.{told_now}
use Rattle.svid_check.proofs.SendsLemmas.{send_told, told_is_held, told_refuses}
use Rattle.svid_check.proofs.SoundLemmas.{Sound}
use Rattle.svid_log.specs.Groups.{begins}
use Rattle.svid_group.specs.Told.{AcceptanceGoesAlong, AcceptedIsRefused, ChainsTell, ChecksAreVerdicts, ClaimedIsRefused, EqualTellings, RecordsAreTold, RestartsAbsorb, RestartsPutBack, SendsTellAll, ToldIsRefused, WithMemoryVerdicts, WithdrawnAreRefused, group_after}
use Rattle.svid_group.specs.World.{Aside, Call, Event, Read, World, aside_of, happen, happens, put_aside, put_back, reader, reader_at, start}
use Rattle.svid_group.proofs.OnceLemmas.{accepted_is_held}
use Rattle.svid_group.proofs.StandsLemmas.{happens_whole, is_whole}

is_sound : (group : ℕ → Terms) (events : List Event) → Sound (group_after group events)
is_sound group events = (is_whole group events).sound

pub records_are_told : RecordsAreTold
records_are_told group events v = ((is_sound group events).members v).is_told

pub checks_are_verdicts : ChecksAreVerdicts
checks_are_verdicts group events v now token refused =
    let w = group_after group events in
    let x = w.members v in
    let s = setting_at group w v in
    let told = told_now x.told x.held now (sym (records_are_told group events v)) in
    let answers = answers_verdict s (raised_to x.held now) token refused in
    (subst (λ (r : State). Answers Some (answer_at group w v now token refused) (verdict s r.moment r.uses token)) (sym told) answers.0, answers.1)

pub with_memory_verdicts : WithMemoryVerdicts
with_memory_verdicts group events v now token =
    let w = group_after group events in
    let x = w.members v in
    let s = setting_at group w v in
    let told = told_now x.told x.held now (sym (records_are_told group events v)) in
    with_memory s (raised_to x.held now) token ∙ sym (ap (λ (r : State). verdict s r.moment r.uses token) told)

pub equal_tellings : EqualTellings
equal_tellings group other events others v w told = records_are_told group events v ∙ (ap record_of told ∙ sym (records_are_told other others w))

pub sends_tell_all : SendsTellAll
sends_tell_all group events v k q send taken =
    let w = group_after group events in
    send_told w (w.members v) k q (is_sound group events) ((is_sound group events).members v) send taken

-- the last maker of a chain has learned what went along it
went_along : (w : check.World) → Sound w → (u : Use) (k : ℕ) (chain : List ℕ) (q : Posting) → IsSend w k q → WentAlong w u k chain → IsTrue (holds q.was.told.uses u)
went_along w s u k [] q send along = subst (λ (p : Posting). IsTrue (holds p.was.told.uses u)) (same_Some along.0 q (sym along.1.0 ∙ send.0)) along.2
went_along w s u k (before ∷ chain) q send along =
    subst (λ (p : Posting). IsTrue (holds p.was.told.uses u)) (same_Some along.0 q (sym along.2.0 ∙ send.0))
    (send_told w along.0.was before along.1 s (s.makers k along.0 along.2.0) along.3 along.4 u (went_along w s u before chain along.1 along.3 along.5))

pub chains_tell : ChainsTell
chains_tell group events v k q u chain send taken along =
    sends_tell_all group events v k q send taken u (went_along (group_after group events) (is_sound group events) u k chain q send along)

pub told_is_refused : ToldIsRefused
told_is_refused group events v input u h of = told_refuses ((group_after group events).members v) input u (records_are_told group events v) h of

pub claimed_is_refused : ClaimedIsRefused
claimed_is_refused group events v now c input accepts of =
    let w = happen group start events in
    let z = happens group w (Read v now false) in
    told_refuses (z.group.members v) input c (((happens_whole group w (Read v now false) (is_whole group events)).sound.members v).is_told) (accepted_is_held group w v now c accepts).1 of

pub accepted_is_refused : AcceptedIsRefused
accepted_is_refused group events v moment s uses token input u accepts is h =
    told_is_refused group events v input u h (λ again t same says. said_is_of_its_input s moment uses token again u t accepts (is ∙ sym same) says)

pub acceptance_goes_along : AcceptanceGoesAlong
acceptance_goes_along group events v k moment q chain s uses token input u accepts is send taken along =
    accepted_is_refused group events v moment s uses token input u accepts is (chains_tell group events v k q u chain send taken along)

pub withdrawn_are_refused : WithdrawnAreRefused
withdrawn_are_refused group events v now token refused accepted u h gone lives e same =
    let w = group_after group events in
    let x = w.members v in
    let y = ticked x now in
    let told : y.held ≡ record_of y.told = sym (told_now x.told x.held now (sym (records_are_told group events v))) in
    let held = told_is_held y u told h (subst (λ (r : State). r.moment < u.exp) (sym told) lives) in
    let s = setting_at group w v in
    fresh s y.held.moment y.held.uses token accepted.used u (accepted_is s y.held token refused accepted e) held same

pub restarts_absorb : RestartsAbsorb
restarts_absorb group events k s at = restart_absorbs s.was ((is_sound group events).saves k s at).is_told

pub restarts_put_back : RestartsPutBack
restarts_put_back group events v k s at own =
    let w = happen group start events in
    let z = happens group w (Call (Restart v k)) in
    let a = beside_save w.group.saves w.saved k s (is_whole group events).beside at in
    let back = begins (reader_at w v) (reader s.was a.0) in
    let x = check.with_renewal s.was (w.group.members v).renewal in
    let is : z.group.members v ≡ x = ap (λ (o : Option Saved). (check.restart w.group v o).members v) at ∙ restarted w v s own in
    let beside : z.asides v ≡ aside_of back =
    ap (λ (o : Option Saved). put_back w v o (slice_get w.saved k) v) at
    ∙ (ap (λ (o : Option Aside). put_back w v (Some s) o v) a.1 ∙ put_back_is w v s a.0 own) in
    (a.0, a.1, ap (λ (m : Member). reader m (z.asides v)) is ∙ ap (reader x) beside, ap (λ (m : Member). m.told) is, ap (λ (m : Member). m.log) is, ap (λ (m : Member). m.renewal) is)
  where
    beside_save : (saves : List Saved) (asides : List Aside) (i : ℕ) (r : Saved) → length asides ≡ length saves → slice_get saves i ≡ Some r → (a : Aside) × (slice_get asides i ≡ Some a)
    beside_save [] asides i r same there = absurd (none-some r there)
    beside_save (q ∷ saves) [] i r same there = absurd (omega (arith, same))
    beside_save (q ∷ saves) (a ∷ asides) zero r same there = (a, refl)
    beside_save (q ∷ saves) (a ∷ asides) (suc i) r same there = beside_save saves asides i r (omega (arith, same)) there

    restarted : (w : World) (n : ℕ) (r : Saved) → r.owner ≡ n → (check.restart w.group n (Some r)).members n ≡ check.with_renewal r.was (w.group.members n).renewal
    restarted w n r mine =
        let x = check.with_renewal r.was (w.group.members n).renewal in
        ap (λ (after : check.World). after.members n) (cond-true (r.owner == n) (check.put w.group n x) w.group (eq-eqb r.owner n mine)) ∙ put_own w.group n x

    put_back_is : (w : World) (n : ℕ) (r : Saved) (a : Aside) → r.owner ≡ n → put_back w n (Some r) (Some a) n ≡ aside_of (begins (reader_at w n) (reader r.was a))
    put_back_is w n r a mine =
        let b = aside_of (begins (reader_at w n) (reader r.was a)) in
        ap (λ (f : ℕ → Aside). f n) (cond-true (r.owner == n) (put_aside w.asides n b) w.asides (eq-eqb r.owner n mine)) ∙ cond-true (n == n) b (w.asides n) (eq-eqb n n refl)

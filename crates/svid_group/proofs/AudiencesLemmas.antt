-- A validator that gets other audiences is the same one in all else, and so is a new one that takes its record and reads on.
use Rattle.std.proofs.Common.{◌≡◌, ◌<◌, ◌≤◌, ℕ, Bool, true, false, List, [], ◌∷◌, Option, None, Some, refl, sym, ap, ◌∙◌, subst, inl, inr, arith}
use Rattle.std.specs.Prelude.{IsTrue}
use Rattle.std.specs.List.{AllByRecursion}
use Rattle.std.proofs.lemmas.Bool.{ltb-true}
use Rattle.std.proofs.lemmas.List.Elements.{recursion_from_All}
use Rattle.svid_replay.specs.declared.token_use.Use.{Use}
use Rattle.svid_replay.specs.Batches.{BatchData, last_of}
use Rattle.svid_replay.specs.Parts.{join_all, parts_of}
use Rattle.svid_replay.specs.Records.{State, state_of}
use Rattle.svid_replay.specs.Sets.{holds, rising}
use Rattle.svid_replay.proofs.ListLemmas.{each_weaker}
use Rattle.svid_replay.proofs.PartsLemmas.{cut_gives_parts, parts_give_record}
use Rattle.svid_replay.proofs.UsesLemmas.{same_uses}
use Rattle.svid_check.specs.Saves.{IsSaved}
use Rattle.svid_check.specs.Setting.{Renewal, Setting, renewed}
use Rattle.svid_check.specs.World as check
use Rattle.svid_check.specs.World.{Member, Renew, setting_at}
use Rattle.svid_check.proofs.IndexesLemmas.{put_own}
use Rattle.svid_check.proofs.LaterLemmas.{raised_first, saves_add_nothing, saves_lose_nothing}
use Rattle.svid_check.proofs.MembersLemmas.{IsTold}
use Rattle.svid_check.proofs.RestartsLemmas.{restart_absorbs}
use Rattle.svid_log.specs.Calls.{IsMember}
use Rattle.svid_log.specs.Groups as log
use Rattle.svid_log.specs.Members.{MemberState}
use Rattle.svid_log.specs.Steps.{AreSound}
use Rattle.svid_log.proofs.SavesLemmas.{saves_put_back}
use Rattle.svid_group.specs.Audiences.{AudiencesAlone, Carry, RecordsAreTakenOver, SuccessorsGoOn, TakesEach, reads_on, readdress, with_own}
use Rattle.svid_group.specs.World.{happen, happens, reader, reader_at, start}
use Rattle.svid_group.proofs.ChangesLemmas.{event_changes}
use Rattle.svid_group.proofs.ReadersLemmas.{lives}
use Rattle.svid_group.proofs.StandsLemmas.{is_whole}

-- a renewal of a setting with its own bundles and verifier gives it other audiences
other_own : (s : Setting) (before : Option Renewal) (own : List (List ℕ)) → renewed s (Some (record { own = own; bundles = (renewed s before).bundles; says = (renewed s before).says })) ≡ with_own (renewed s before) own
other_own s None own = refl
other_own s (Some r) own = refl

pub audiences_alone : AudiencesAlone
audiences_alone group w v own =
    let s = setting_at group w.group v in
    let x = w.group.members v in
    let r : Renewal = record { own = own; bundles = s.bundles; says = s.says } in
    let is = put_own w.group v (check.with_renewal x (Some r)) in
    record {
      setting = ap (λ (m : Member). renewed (group v).setting m.renewal) is ∙ other_own (group v).setting x.renewal own;
      reader = ap (λ (m : Member). reader m (w.asides v)) is;
      told = ap (λ (m : Member). m.told) is;
      noted = ap (λ (m : Member). m.log) is;
      others = (event_changes group w.group (Renew v r)).others;
      asides = refl;
      log = refl;
      pool = refl;
      saves = (refl, refl);
    }

-- The record.

same_tests : (a b : Bool) → (a ≡ true → b ≡ true) → (b ≡ true → a ≡ true) → a ≡ b
same_tests true b k l = sym (k refl)
same_tests false true k l = l refl
same_tests false false k l = refl

same_state : (a b : State) → a.moment ≡ b.moment → a.uses ≡ b.uses → a ≡ b
same_state a b moment uses = λ i. record { moment = moment i; uses = uses i }

-- a record whose parts give it, and whose uses are live
record IsLive (x : State) : Type 0 where
  parts : join_all (state_of 0 []) (parts_of x) ≡ x
  uses : (u : Use) → IsTrue (holds x.uses u) → x.moment < u.exp

-- batches that carry such a record give it
carried_whole : (x : State) → IsLive x → (batches : List BatchData) → Carry batches x → join_all (state_of 0 []) batches ≡ x
carried_whole x live batches (inl parts) = ap (join_all (state_of 0 [])) parts ∙ live.parts
carried_whole x live batches (inr saved) =
    let s = join_all (state_of 0 []) batches in
    let adds = saves_add_nothing x x batches saved in
    same_state s x adds.0
    (same_uses s.uses x.uses (λ u. same_tests (holds s.uses u) (holds x.uses u) (adds.1 u) (λ h. saves_lose_nothing x x batches u saved h (live.uses u h))))

-- each piece of a record is of its moment, or of a later one
pieces_late : (now : ℕ) (a z : State) (before : Option Use) (batches : List BatchData) → now ≤ a.moment → IsSaved a before batches z → AllByRecursion (λ b. now ≤ b.moment) batches
pieces_late now a z before [] le saved = tt
pieces_late now a z before (b ∷ []) le saved = (subst (λ (c : BatchData). now ≤ c.moment) (sym saved.1) le, tt)
pieces_late now a z before (b ∷ c ∷ more) le saved = (
  subst (λ (d : BatchData). now ≤ d.moment) (sym saved.2) le,
  pieces_late now saved.1 z (last_of before b.uses) (c ∷ more) (let up = saved.3.moment in omega (arith, le, up)) saved.4,
)

carried_late : (now : ℕ) (x : State) (batches : List BatchData) → now ≤ x.moment → Carry batches x → AllByRecursion (λ b. now ≤ b.moment) batches
carried_late now x batches le (inl parts) =
    subst (AllByRecursion (λ b. now ≤ b.moment)) (sym parts)
    (each_weaker (λ b. b.moment ≡ x.moment) (λ b. now ≤ b.moment) (λ b same. subst (λ n. now ≤ n) (sym same) le) (parts_of x)
    (recursion_from_All (λ (b : BatchData). b.moment ≡ x.moment) (parts_of x) (cut_gives_parts x.moment (rising x.uses)).moments))
carried_late now x batches le (inr saved) = pieces_late now x x None batches le saved

-- to take batches is to join them
takes_join : (now far : ℕ) (x y : State) (batches : List BatchData) → AllByRecursion (λ b. now ≤ b.moment) batches → TakesEach now far x batches y → y ≡ join_all x batches
takes_join now far x y [] late is = is
takes_join now far x y (b ∷ batches) late is =
    takes_join now far is.0 y batches late.1 is.2 ∙ ap (λ (r : State). join_all r batches) (is.1.1 ∙ raised_first x now b late.0)

takes_give : (x y : State) (batches : List BatchData) (now far : ℕ) → IsLive x → Carry batches x → now ≤ x.moment → TakesEach now far (state_of 0 []) batches y → y ≡ x
takes_give x y batches now far live carry le takes = takes_join now far (state_of 0 []) y batches (carried_late now x batches le carry) takes ∙ carried_whole x live batches carry

pub records_are_taken_over : RecordsAreTakenOver
records_are_taken_over x y batches now far is = takes_give x y batches now far (record { parts = parts_give_record x is; uses = λ u h. (is.each u h).live })

told_live : (x : Member) → IsTold x → IsLive x.held
told_live x told = record { parts = restart_absorbs x told; uses = λ u h. ltb-true x.held.moment u.exp (lives x told u h) }

-- The position in the log.

goes_on_there : (values : List (List Use)) (m : MemberState) (x y : State) (r : log.Reader) → AreSound m.beside → y ≡ x → IsMember values m x r → IsMember values (reads_on m) y r
goes_on_there values m x y r sound same is = record {
  held = is.held ∙ sym same;
  beside = is.beside ∙ sym (saves_put_back m.beside sound).2;
  read = is.read;
  ready = is.ready;
  deaf = is.deaf;
  begun = is.begun;
}

pub successors_go_on : SuccessorsGoOn
successors_go_on group events v own batches now far y carry le takes =
    let w = happen group start events in
    let z = happens group w (readdress group w v own) in
    let x = w.group.members v in
    let alone = audiences_alone group w v own in
    let whole = takes_give x.held y batches now far (told_live x ((is_whole group events).sound.members v).is_told) carry le takes in (
      ap (λ (r : log.Reader). r.held) alone.reader ∙ sym whole,
      λ values m sound is.
          subst (λ (r : log.Reader). IsMember values (reads_on m) y r) (sym alone.reader)
          (goes_on_there values m x.held y (reader_at w v) sound whole is),
    )

-- A call that reads a value is a list of events of a group.
use Rattle.std.proofs.Common.{◌≡◌, ◌-◌, ℕ, zero, suc, Bool, true, false, nat_lt, List, [], ◌∷◌, refl, sym, ap, ◌∙◌, subst, if◌then◌else◌}
use Rattle.std.specs.Prelude.{slice_get}
use Rattle.svid_replay.specs.declared.token_use.Use.{Use}
use Rattle.svid_replay.specs.Records.{State}
use Rattle.svid_check.specs.Runs.{Terms}
use Rattle.svid_check.specs.World as check
use Rattle.svid_log.specs.declared.reading.Rest.{Rest}
use Rattle.svid_log.specs.declared.reading.Rest.TheVariants.{Nothing, NoRoom, NoMemory}
use Rattle.svid_log.specs.Calls as calls
use Rattle.svid_log.specs.Groups as log
use Rattle.svid_log.specs.Members.{MemberState}
use Rattle.svid_log.proofs.CallsLemmas as lemmas
use Rattle.svid_group.specs.Reads.{ReadsAreEvents, arrival, reads_of, refusal}
use Rattle.svid_group.specs.World.{Miss, Read, World, as_readers, as_terms, happen, happens}
use Rattle.svid_group.proofs.ReadersLemmas.{miss_readers, read_readers}

module _ (group : ℕ → Terms) where
  abbrev run : log.World → List log.Event → log.World
  run = log.happen (as_terms group)

  one_read : (w : World) (v now : ℕ) (refused : Bool) → as_readers (happens group w (Read v now refused)) ≡ log.happens (as_terms group) (as_readers w) (log.Read v now refused)
  one_read w v now refused = read_readers (check.far group v now) w v now refused (slice_get w.log (w.asides v).read)

  missing : (b : Bool) (w : World) (v more until : ℕ) → as_readers (happen group w (if b then Miss v more until ∷ [] else [])) ≡ run (as_readers w) (if b then log.Miss v more until ∷ [] else [])
  missing true w v more until = miss_readers w v more until
  missing false w v more until = refl

  arrives : (w : World) (v : ℕ) (values : List (List Use)) (m : MemberState) (x : State) (now position : ℕ)
      → as_readers (happen group w (arrival v values m x now position)) ≡ run (as_readers w) (calls.arrival v values m x now position)
  arrives w v values m x now position = missing (nat_lt m.passed (position - 1)) w v (calls.gap_len values m position) (calls.gap_end m x now)

  reads : (n : ℕ) (w : World) (v now : ℕ) → as_readers (happen group w (reads_of v now n)) ≡ run (as_readers w) (calls.reads_of v now n)
  reads zero w v now = refl
  reads (suc n) w v now = reads n (happens group w (Read v now false)) v now ∙ ap (λ (z : log.World). run z (calls.reads_of v now n)) (one_read w v now false)

  refuses : (rest : Rest) (w : World) (v now : ℕ) → as_readers (happen group w (refusal v now rest)) ≡ run (as_readers w) (calls.refusal v now rest)
  refuses Nothing w v now = refl
  refuses NoRoom w v now = refl
  refuses NoMemory w v now = one_read w v now true

pub reads_are_events : ReadsAreEvents
reads_are_events group w v now values m m_new x_new position uses room written r same is validator_id lt at gone read =
    let x = (w.group.members v).held in
    let did = lemmas.reads_are_events (as_terms group) (as_readers w) v now values m m_new x x_new position uses room written r same is validator_id lt at gone read in
    let a = happen group w (arrival v values m x now position) in
    let came = arrives group w v values m x now position in
    let some : (n : ℕ) → as_readers (happen group a (reads_of v now n)) ≡ run group (run group (as_readers w) (calls.arrival v values m x now position)) (calls.reads_of v now n) =
    λ n. reads group n a v now ∙ ap (λ (z : log.World). run group z (calls.reads_of v now n)) came in
    let all = refuses group r.rest (happen group a (reads_of v now r.count)) v now ∙ ap (λ (z : log.World). run group z (calls.refusal v now r.rest)) (some r.count) in (
      subst (λ (z : log.World). calls.IsMember values m_new x_new (z.members v)) (sym all) did.0,
      λ k c below there.
          let one = did.1 k c below there in (
            λ e. subst (λ (z : log.World). log.Accepts (as_terms group) z v now c) (sym (some k)) (one.0 e),
            λ fresh accepts. one.1 fresh (subst (λ (z : log.World). log.Accepts (as_terms group) z v now c) (some k) accepts),
          ),
    )

-- A send taken whole, with nothing between.
use Rattle.std.proofs.Common.{◌≡◌, ◌≢◌, ℕ, Bool, List, [], ◌∷◌, Option, Some, None, sym, ap, ◌∙◌, subst, inl, inr}
use Rattle.std.specs.Cmp.{both_ways}
use Rattle.std.specs.List.{AllByRecursion}
use Rattle.std.specs.Prelude.{◌==◌, drop, nat_lt, slice_get}
use Rattle.std.proofs.lemmas.Bool.{cases_eq, cond_both, eqb-true}
use Rattle.svid_replay.specs.declared.token_use.Use.{Use}
use Rattle.svid_replay.specs.Batches.{BatchData}
use Rattle.svid_replay.specs.Sets.{holds}
use Rattle.svid_replay.specs.Uses.{Uses}
use Rattle.svid_replay.proofs.UsesLemmas.{same_uses}
use Rattle.svid_check.specs.Headline.{IsWithin, TakesOnly as IsTakeOnly}
use Rattle.svid_check.specs.Runs.{Terms}
use Rattle.svid_check.specs.World as check
use Rattle.svid_check.specs.World.{Entry, Member, Posting, Take, Took, carried, front, joined, logged, parts_in, take_part, take_posting, ticked, took}
use Rattle.svid_check.proofs.MembersLemmas.{carried_within, union_within}
use Rattle.svid_check.proofs.SendsLemmas.{send_told}
use Rattle.svid_log.specs.Groups as log
use Rattle.svid_group.specs.Told.{SendsMakeEqual, TakesOnly}
use Rattle.svid_group.specs.World.{Anew, Aside, Call, Event, Look, Miss, Put, Read, World, aside_of, happen, happens, put, read_next, reader_at, start, told_by}
use Rattle.svid_group.proofs.ChangesLemmas.{event_changes}
use Rattle.svid_group.proofs.StandsLemmas.{goes_on_whole, is_whole}

took_within : (limit : ℕ) (x : Member) (e : Entry) (s : Uses) (b : BatchData) (refused : Option ℕ) → IsWithin x.told.uses s → IsWithin (took limit x e s b refused).told.uses s
took_within limit x e s b None h =
    cond_both (nat_lt limit b.moment) x (logged (joined x s b) e) (λ (z : Member). IsWithin z.told.uses s)
    (λ _. h) (λ _. union_within x.told.uses (carried s b) s h (carried_within s b))
took_within limit x e s b (Some n) h =
    cond_both (nat_lt limit b.moment) x (joined x s (front n b)) (λ (z : Member). IsWithin z.told.uses s)
    (λ _. h) (λ _. union_within x.told.uses (carried s (front n b)) s h (carried_within s (front n b)))

module _ (group : ℕ → Terms) (v k : ℕ) (q : Posting) where
  abbrev Within : Member → Type 0
  Within x = IsWithin x.told.uses q.was.told.uses

  -- a part of the posting is taken
  part_within : (w : check.World) (n limit now : ℕ) (e : Entry) (refused : Option ℕ) (b : Option BatchData) → Within (w.members v) → n ≡ v → Within ((take_part w n limit (ticked (w.members n) now) e refused q b).members v)
  part_within w n limit now e refused None h same = h
  part_within w n limit now e refused (Some b) h same =
      let y = took limit (ticked (w.members n) now) e q.was.told.uses b refused in
      cond_both (v == n) y (w.members v) Within
      (λ _. took_within limit (ticked (w.members n) now) e q.was.told.uses b refused (subst (λ i. Within (w.members i)) (sym same) h)) (λ _. h)

  call_within : (w : check.World) (e : check.Event) → IsTakeOnly v k e → slice_get w.pool k ≡ Some q → Within (w.members v) → Within ((check.happens group w e).members v)
  call_within w (Take n now j p refused) own at h = elim (cases_eq n v) [
    | inl same ↦
        let x = ticked (w.members n) now in
        let far = check.far group n now in
        let here : slice_get w.pool j ≡ Some q = ap (slice_get w.pool) (own same) ∙ at in
        subst (λ (r : Option Posting). Within ((take_posting w n far x j p refused r).members v)) (sym here)
        (part_within w n far now (Took j p) refused (slice_get (parts_in q.content) p) h same)
    | inr d ↦ subst Within (sym ((event_changes group w (Take n now j p refused)).others v (λ e. d (sym e)))) h
  ]
  call_within w e d at h = subst Within (sym ((event_changes group w e).others v (λ same. d (sym same)))) h

  -- posting k is q, and validator v has learned no more than its maker
  record Under (w : World) : Type 0 where
    index : slice_get w.group.pool k ≡ Some q
    told : Within (w.group.members v)

  put_under : (w : World) (n : ℕ) (x : Member) (a : Aside) → Under w → (v ≡ n → Within x) → Under (put w n x a)
  put_under w n x a h own = record { index = h.index; told = cond_both (v == n) x (w.group.members v) Within (λ e. own (eqb-true v n e)) (λ _. h.told) }

  read_under : (far : ℕ) (w : World) (n now : ℕ) (refused : Bool) (o : Option Use) → n ≢ v → Under w → Under (read_next far w n now refused o)
  read_under far w n now refused None d h = h
  read_under far w n now refused (Some c) d h =
      let x = w.group.members n in
      put_under w n (told_by far x (w.asides n) now refused c) (aside_of (log.reads far (reader_at w n) now refused c)) h (λ same. absurd (d (sym same)))

  same_under : (w : World) (n : ℕ) (a : Aside) → Under w → Under (put w n (w.group.members n) a)
  same_under w n a h = put_under w n (w.group.members n) a h (λ same. subst (λ i. Within (w.group.members i)) same h.told)

  one_under : (w : World) (e : Event) → TakesOnly v k e → Under w → Under (happens group w e)
  one_under w (Call e) only h = record { index = (event_changes group w.group e).pool k q h.index; told = call_within w.group e only h.index h.told }
  one_under w (Put u) only h = record { index = h.index; told = h.told }
  one_under w (Read n now refused) d h = read_under (check.far group n now) w n now refused (slice_get w.log (w.asides n).read) d h
  one_under w (Look n) only h = same_under w n (aside_of (log.looked (reader_at w n))) h
  one_under w (Anew n until_front until) d h =
      let x = check.with_renewal check.new_member (w.group.members n).renewal in
      let a = aside_of (log.begins (reader_at w n) (log.reader_behind until_front until)) in
      cond_both (log.is_gone until until_front w.log) (put w n x a) w Under (λ _. put_under w n x a h (λ same. absurd (d (sym same)))) (λ _. h)
  one_under w (Miss n more until) only h =
      let a = aside_of (log.missed (reader_at w n) more until) in
      cond_both (log.is_gone until more (drop (w.asides n).read w.log)) (put w n (w.group.members n) a) w Under (λ _. same_under w n a h) (λ _. h)

  all_under : (w : World) (events : List Event) → AllByRecursion (TakesOnly v k) events → Under w → Under (happen group w events)
  all_under w [] only h = h
  all_under w (e ∷ events) only h = all_under (happens group w e) events only.1 (one_under w e only.0 h)

pub sends_make_equal : SendsMakeEqual
sends_make_equal group events takes v k q send told only taken =
    let before = happen group start events in
    let after = happen group before takes in
    let under = all_under group v k q before takes only (record { index = send.0; told = told }) in
    let sound = (goes_on_whole group takes before (is_whole group events)).sound in
    same_uses (after.group.members v).told.uses q.was.told.uses (λ u.
    both_ways (holds (after.group.members v).told.uses u) (holds q.was.told.uses u) (under.told u)
    (send_told after.group (after.group.members v) k q sound (sound.members v) (under.index, send.1) taken u))

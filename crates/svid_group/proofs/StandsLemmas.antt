-- Whatever happens in a group that reads a log, each record is what its validator has learned.
use Rattle.std.proofs.Common.{◌≡◌, ℕ, suc, Bool, true, false, List, [], ◌∷◌, ◌++◌, length, Option, Some, None, refl, sym, ap, ◌∙◌}
use Rattle.std.specs.Prelude.{◌==◌, drop, slice_get}
use Rattle.std.proofs.lemmas.Bool.{cond_both}
use Rattle.svid_replay.specs.declared.token_use.Use.{Use}
use Rattle.svid_replay.specs.Uses.{Uses}
use Rattle.svid_replay.proofs.ListLemmas.{has_none}
use Rattle.svid_check.specs.Headline.{IsWithin}
use Rattle.svid_check.specs.Runs.{Terms}
use Rattle.svid_check.specs.Setting.{Renewal}
use Rattle.svid_check.specs.World as check
use Rattle.svid_check.specs.World.{Entry, Made, Member, Posting, Save, Saved, Took, gained, ticked}
use Rattle.svid_check.proofs.MembersLemmas.{gained_told, told_before}
use Rattle.svid_check.proofs.SoundLemmas.{Means, Sound, Stands, goes_on_sound, is_sound, stands_ticked}
use Rattle.svid_log.specs.Groups as log
use Rattle.svid_log.specs.Steps.{fate_at, is_early}
use Rattle.svid_group.specs.World.{Anew, Aside, Call, Event, Look, Miss, Put, Read, World, aside_of, gain_by, happen, happens, passed, put, read_next, reader_at, saved_after, start, told_by}
use Rattle.svid_group.proofs.ChangesLemmas.{event_changes, saves_then}

means_more : (pool : List Posting) (s t : Uses) (e : Entry) → IsWithin s t → Means pool s e → Means pool t e
means_more pool s t (Took k p) w a = record { posting = a.posting; part = a.part; stands = a.stands; is_part = a.is_part; within = λ u h. w u (a.within u h) }
means_more pool s t (Made k) w a = record { posting = a.posting; stands = a.stands; within = λ u h. w u (a.within u h) }

gained_stands : (pool : List Posting) (x : Member) (added : Option Use) → Stands pool x → Stands pool (gained x added)
gained_stands pool x added s = record {
  is_told = gained_told x added s.is_told;
  entries = λ e h. means_more pool x.told.uses (gained x added).told.uses e (told_before x.told added) (s.entries e h);
}

passed_stands : (pool : List Posting) (far : ℕ) (x : Member) (now : ℕ) (c : Use) → Stands pool x → Stands pool (passed far x now c)
passed_stands pool far x now c s =
    let y = ticked x now in
    let h = stands_ticked pool x now s in
    cond_both (is_early y.held far c) y (ticked y c.at) (Stands pool) (λ _. h) (λ _. stands_ticked pool y c.at h)

told_stands : (pool : List Posting) (far : ℕ) (x : Member) (a : Aside) (now : ℕ) (refused : Bool) (c : Use) → Stands pool x → Stands pool (told_by far x a now refused c)
told_stands pool far x a now true c s = passed_stands pool far x now c s
told_stands pool far x a now false c s = gained_stands pool (passed far x now c) (gain_by (fate_at x.held a.uses now far c) c) (passed_stands pool far x now c s)

put_sound : (g : check.World) (v : ℕ) (x : Member) → Sound g → Stands g.pool x → Sound (check.put g v x)
put_sound g v x s h = record {
  members = λ n. cond_both (n == v) x (g.members n) (Stands g.pool) (λ _. h) (λ _. s.members n);
  saves = s.saves;
  makers = s.makers;
  pool = s.pool;
}

length_push : {A : Type 0} (xs : List A) (x : A) → length (xs ++ x ∷ []) ≡ suc (length xs)
length_push [] x = refl
length_push (y ∷ xs) x = ap suc (length_push xs x)

-- the group is sound, and beside each of its saves stands one
pub record IsWhole (w : World) : Type 0 where
  pub sound : Sound w.group
  pub beside : length w.saved ≡ length w.group.saves

module _ (group : ℕ → Terms) where
  start_whole : IsWhole start
  start_whole = record { sound = is_sound group []; beside = refl }

  new_stands : (pool : List Posting) (renewal : Option Renewal) → Stands pool (check.with_renewal check.new_member renewal)
  new_stands pool renewal = record { is_told = ((is_sound group []).members 0).is_told; entries = λ e h. absurd (has_none e h) }

  put_whole : (w : World) (v : ℕ) (x : Member) (a : Aside) → IsWhole w → Stands w.group.pool x → IsWhole (put w v x a)
  put_whole w v x a h s = record { sound = put_sound w.group v x h.sound s; beside = h.beside }

  read_whole : (far : ℕ) (w : World) (v now : ℕ) (refused : Bool) (o : Option Use) → IsWhole w → IsWhole (read_next far w v now refused o)
  read_whole far w v now refused None h = h
  read_whole far w v now refused (Some c) h =
      let x = w.group.members v in
      put_whole w v (told_by far x (w.asides v) now refused c) (aside_of (log.reads far (reader_at w v) now refused c)) h (told_stands w.group.pool far x (w.asides v) now refused c (h.sound.members v))

  saved_beside : (w : World) (e : check.Event) → length w.saved ≡ length w.group.saves → length (saved_after w e) ≡ length (saves_then w.group e)
  saved_beside w (Save v) h = length_push w.saved (w.asides v) ∙ (ap suc h ∙ sym (length_push w.group.saves (record { owner = v; was = w.group.members v })))
  saved_beside w _ h = h

  pub happens_whole : (w : World) (e : Event) → IsWhole w → IsWhole (happens group w e)
  happens_whole w (Call e) h = record {
    sound = goes_on_sound group w.group (e ∷ []) h.sound;
    beside = saved_beside w e h.beside ∙ sym (ap length (event_changes group w.group e).saves);
  }
  happens_whole w (Put u) h = record { sound = h.sound; beside = h.beside }
  happens_whole w (Read v now refused) h = read_whole (check.far group v now) w v now refused (slice_get w.log (w.asides v).read) h
  happens_whole w (Look v) h = put_whole w v (w.group.members v) (aside_of (log.looked (reader_at w v))) h (h.sound.members v)
  happens_whole w (Anew v front until) h =
      let x = check.with_renewal check.new_member (w.group.members v).renewal in
      let a = aside_of (log.begins (reader_at w v) (log.reader_behind front until)) in
      cond_both (log.is_gone until front w.log) (put w v x a) w IsWhole (λ _. put_whole w v x a h (new_stands w.group.pool (w.group.members v).renewal)) (λ _. h)
  happens_whole w (Miss v more until) h =
      let a = aside_of (log.missed (reader_at w v) more until) in
      cond_both (log.is_gone until more (drop (w.asides v).read w.log)) (put w v (w.group.members v) a) w IsWhole (λ _. put_whole w v (w.group.members v) a h (h.sound.members v)) (λ _. h)

  pub goes_on_whole : (events : List Event) (w : World) → IsWhole w → IsWhole (happen group w events)
  goes_on_whole [] w h = h
  goes_on_whole (e ∷ events) w h = goes_on_whole events (happens group w e) (happens_whole w e h)

  pub is_whole : (events : List Event) → IsWhole (happen group start events)
  is_whole events = goes_on_whole events start start_whole

-- What is always true of a folder, over any history.
use Rattle.std.proofs.Common.{◌≡◌, ◌⊎◌, inl, inr, ⊎_elim, ℕ, ◌+◌, ◌-◌, ◌<◌, ◌≤◌, ◌^◌, Bool, true, false, cond, List, [], ◌∷◌, ◌++◌, length, take, drop, refl, sym, ◌∙◌, ap, subst, arith, append_assoc, length-append, Option, Some, None}
use Rattle.std.specs.Prelude.{◌==◌, ◌&&◌, ◌||◌, MatchBool, not, nat_lt, nat_le}
use Rattle.std.specs.List.{AllByRecursion, list_any}
use Rattle.std.proofs.Math.Seq.{take-add}
use Rattle.std.proofs.lemmas.Bool.{cond_both, cond-false, leb-true, leb-false, false≢true, true≢false, eq-eqb, eqb-true, eqb-false, cases_Bool, cases_lt, ne_eqb, or_left, or_right, or_cases}
use Rattle.std.proofs.lemmas.List.{take_at, drop_at, drop_all, append-nil}
use Rattle.std.proofs.lemmas.List.Folds.{list_any-append}
use Rattle.svid_journal.specs.declared.step.Step.{Step}
use Rattle.svid_journal.specs.declared.step.Step.TheVariants.{Idle, Starting, Entering, Creating, Naming, Writing, Ending, Syncing, Renaming, Publishing, Removing}
use Rattle.svid_journal.specs.declared.fault.Fault.{Fault}
use Rattle.svid_journal.specs.declared.fault.Fault.TheVariants.{Unfit, Ended, NotGrowing, Busy, NothingDue, Flying, NotFlying, NotWriting, NoMark, TooLong, Full}
use Rattle.svid_journal.specs.declared.folder.Folder.{Folder}
use Rattle.svid_journal.specs.Frames.{sealed, frame_of, frames_of, frame_len, IsPayload}
use Rattle.svid_journal.specs.Folder.{Row, first_row, ready_rows, is_fit, is_starting, is_idle, is_naming, is_writing, gap_of, gap_in, begin_fault, answer_fault, put_fault, landed_fault, piece_fault, opened, begun, at_step, grown, landed, ended, pieced}
use Rattle.svid_journal.specs.Disk.{File, empty_file, written, forced, MayLeave, Name, settled, leads, is_sure, named, Journal, Disk, put, create_journal, on_file, write_journal, sync_journal, remove_journal, write_piece, sync_beside, rename_beside, sync_folder, write_id, sync_id, rename_id, Outcome, IsOneOf, MayLeaveFile, IsOutcome, at_rest, option_at_rest, after_crash, option_seen, as_seen, IsLeft}
use Rattle.svid_journal.specs.History.{Titles, World, Event, after_answer, after_piece, after_put, after_grow, after_sync, after_end, unless, grow_fault, id_fault, with_disk, happens, history, fresh, IsAllowed, AreAllowed, IsReadIn, IsRead}
use Rattle.svid_journal.specs.History.Event.{Begin, Answer, Piece, Put, Grow, Sync, WriteId, SyncId, RenameId, NameId, Crash, Start}
use Rattle.svid_journal.specs.Promises.{AcknowledgedIsRead}
use Rattle.svid_journal.proofs.FramesLemmas.{frames_of-push, frames_of-append, frame_len-is}
use Rattle.svid_journal.proofs.CrashLemmas.{on_behind}

-- Lists.

abbrev Payloads : Type 0
Payloads = List (List ℕ)

each_append : (ps qs : Payloads) → AllByRecursion IsPayload ps → AllByRecursion IsPayload qs → AllByRecursion IsPayload (ps ++ qs)
each_append [] qs h k = k
each_append (p ∷ ps) qs h k = (h.0, each_append ps qs h.1 k)

pub IsOneOf-push : {A : Type 0} (xs : List A) (x : A) → IsOneOf (xs ++ x ∷ []) x
IsOneOf-push [] x = inl refl
IsOneOf-push (y ∷ xs) x = inr (IsOneOf-push xs x)

pub IsOneOf-cases : {A : Type 0} (xs : List A) (x y : A) → IsOneOf (xs ++ x ∷ []) y → IsOneOf xs y ⊎ (x ≡ y)
IsOneOf-cases [] x y (inl is) = inr is
IsOneOf-cases [] x y (inr none) = absurd none
IsOneOf-cases (z ∷ xs) x y (inl is) = inl (inl is)
IsOneOf-cases (z ∷ xs) x y (inr among) = ⊎_elim (λ old. inl (inr old)) (λ new. inr new) (IsOneOf-cases xs x y among)

pub IsOneOf-only : {A : Type 0} (x y : A) → IsOneOf (x ∷ []) y → x ≡ y
IsOneOf-only x y (inl is) = is
IsOneOf-only x y (inr none) = absurd none

put_other : {A : Type 0} (f : ℕ → A) (k : ℕ) (a : A) (n : ℕ) → (n ≡ k → ⊥) → put f k a n ≡ f n
put_other f k a n apart = cond-false (n == k) a (f n) (ne_eqb n k apart)

put_same : {A : Type 0} (f : ℕ → A) (k : ℕ) (a : A) → put f k a k ≡ a
put_same f k a = ap (λ (b : Bool). cond b a (f k)) (eq-eqb k k refl)

-- the bytes begin with these frames
pub record Front (title : List ℕ) (payloads : Payloads) (bytes : List ℕ) : Type 0 where
  pub rest : List ℕ
  pub is : bytes ≡ frames_of title 1 payloads ++ rest

-- with more bytes after them
Front-more : (title : List ℕ) (payloads : Payloads) (bytes more : List ℕ) → Front title payloads bytes → Front title payloads (bytes ++ more)
Front-more title payloads bytes more f = record { rest = f.rest ++ more; is = ap (λ (x : List ℕ). x ++ more) f.is ∙ append_assoc (frames_of title 1 payloads) f.rest more }

-- the first of them
Front-first : (title : List ℕ) (ps qs : Payloads) (bytes : List ℕ) → Front title (ps ++ qs) bytes → Front title ps bytes
Front-first title ps qs bytes f =
    let back = frames_of title (1 + length ps) qs in
    record { rest = back ++ f.rest; is = f.is ∙ ap (λ (x : List ℕ). x ++ f.rest) (frames_of-append title 1 ps qs) ∙ append_assoc (frames_of title 1 ps) back f.rest }

-- cut after them
Front-cut : (title : List ℕ) (payloads : Payloads) (bytes : List ℕ) (at : ℕ) → length (frames_of title 1 payloads) ≤ at → Front title payloads bytes → Front title payloads (take at bytes)
Front-cut title payloads bytes at far f =
    let frames = frames_of title 1 payloads in
    let more = at - length frames in
    let there : at ≡ length frames + more = omega arith in
    record {
      rest = take more f.rest;
      is = (λ i. take (there i) (f.is i)) ∙ take-add (length frames) more (frames ++ f.rest) ∙ (λ i. take_at frames f.rest (length frames) refl i ++ take more (drop_at frames f.rest (length frames) refl i));
    }

-- cut right after them
Front-exact : (title : List ℕ) (payloads : Payloads) (bytes : List ℕ) → Front title payloads bytes → take (length (frames_of title 1 payloads)) bytes ≡ frames_of title 1 payloads
Front-exact title payloads bytes f = ap (take (length (frames_of title 1 payloads))) f.is ∙ take_at (frames_of title 1 payloads) f.rest (length (frames_of title 1 payloads)) refl

Front-left : (title : List ℕ) (payloads : Payloads) (f : File) (bytes : List ℕ) → MayLeave f bytes → Front title payloads f.kept → Front title payloads bytes
Front-left title payloads f bytes left front = at f.whole left
  where
    at : (whole : Bool) → MatchBool whole (bytes ≡ f.kept) ((rest : List ℕ) × (bytes ≡ f.kept ++ rest)) → Front title payloads bytes
    at true is = subst (Front title payloads) (sym is) front
    at false is = subst (Front title payloads) (sym is.1) (Front-more title payloads f.kept is.0 front)

-- what is left of a file that is whole on the disk
pub whole_left : (f : File) (bytes : List ℕ) → f.whole ≡ true → MayLeave f bytes → bytes ≡ f.kept
whole_left f bytes whole left = subst (λ (b : Bool). MatchBool b (bytes ≡ f.kept) ((rest : List ℕ) × (bytes ≡ f.kept ++ rest))) whole left

-- Faults.

pub first_none : (fault : Fault) (b : Bool) (rows : List Row) → first_row ((fault, b) ∷ rows) ≡ None → (b ≡ false) × (first_row rows ≡ None)
first_none fault true rows e = absurd cc
first_none fault false rows e = (refl, e)

not_false : (b : Bool) → not b ≡ false → b ≡ true
not_false true e = refl
not_false false e = absurd (true≢false e)

pub and_left : (a b : Bool) → (a && b) ≡ true → a ≡ true
and_left true b e = refl
and_left false b e = absurd (false≢true e)

pub and_right : (a b : Bool) → (a && b) ≡ true → b ≡ true
and_right true b e = e
and_right false b e = absurd (false≢true e)

-- a folder that takes a call fits, and has not ended
pub record IsReady (f : Folder) (rows : List Row) : Type 0 where
  pub fit : is_fit f ≡ true
  pub going : f.ended ≡ false
  pub rest : first_row rows ≡ None

pub ready : (f : Folder) (rows : List Row) → first_row (ready_rows f rows) ≡ None → IsReady f rows
ready f rows e =
    let one = first_none Unfit (not (is_fit f)) ((Ended, f.ended) ∷ rows) e in
    let two = first_none Ended f.ended rows one.1 in
    record { fit = not_false (is_fit f) one.0; going = two.0; rest = two.1 }

-- the numbers of journals are in order
pub in_order : (f : Folder) → is_fit f ≡ true → f.ended ≡ false → f.oldest + gap_of f.step ≤ f.newest + 1
in_order f fit going =
    let a = nat_lt f.newest (2 ^ 62) in
    let b = nat_le f.oldest (2 ^ 62) in
    let c = nat_le (f.oldest + gap_in f) (f.newest + 1) in
    let d = nat_lt f.count (2 ^ 62) in
    let e = nat_lt f.end (2 ^ 62) in
    let g = nat_le f.flying (2 ^ 25) in
    let h = nat_lt f.pieces (2 ^ 62) in
    let k = f.flying == 0 || not (is_starting f.step) in
    let to_h = and_left (a && b && c && d && e && g && h) k fit in
    let to_g = and_left (a && b && c && d && e && g) h to_h in
    let to_e = and_left (a && b && c && d && e) g to_g in
    let to_d = and_left (a && b && c && d) e to_e in
    let to_c = and_left (a && b && c) d to_d in
    let far : gap_in f ≡ gap_of f.step = ap (λ (b : Bool). cond b 0 (gap_of f.step)) going in
    subst (λ (n : ℕ). f.oldest + n ≤ f.newest + 1) far (leb-true (f.oldest + gap_in f) (f.newest + 1) (and_right (a && b) c to_c))

-- a frame is in flight only where a journal grows
last_fits : (f : Folder) → is_fit f ≡ true → (f.flying == 0 || not (is_starting f.step)) ≡ true
last_fits f fit =
    and_right (nat_lt f.newest (2 ^ 62) && nat_le f.oldest (2 ^ 62) && nat_le (f.oldest + gap_in f) (f.newest + 1) && nat_lt f.count (2 ^ 62) && nat_lt f.end (2 ^ 62) && nat_le f.flying (2 ^ 25) && nat_lt f.pieces (2 ^ 62)) (f.flying == 0 || not (is_starting f.step)) fit

pub is_piece : (f : Folder) (len : ℕ) → piece_fault f len ≡ None → (f.ended ≡ false) × (is_writing f.step ≡ true) × (len < 2 ^ 24)
is_piece f len e =
    let behind = (TooLong, nat_le (2 ^ 24) len) ∷ (Full, nat_le (2 ^ 62) (f.pieces + 1)) ∷ [] in
    let r = ready f ((NotWriting, not (is_writing f.step)) ∷ behind) e in
    let one = first_none NotWriting (not (is_writing f.step)) behind r.rest in
    let two = first_none TooLong (nat_le (2 ^ 24) len) ((Full, nat_le (2 ^ 62) (f.pieces + 1)) ∷ []) one.1 in
    (r.going, not_false (is_writing f.step) one.0, leb-false (2 ^ 24) len two.0)

pub is_answer : (f : Folder) (ok : Bool) → answer_fault f ok ≡ None → (f.ended ≡ false) × (f.oldest + gap_of f.step ≤ f.newest + 1) × ((ok && is_writing f.step) ≡ false)
is_answer f ok e =
    let last = (NoMark, ok && is_writing f.step) ∷ [] in
    let flies = (Flying, ok && is_naming f.step && nat_lt 0 f.flying) ∷ last in
    let r = ready f ((NothingDue, is_idle f.step) ∷ flies) e in
    let one = first_none NothingDue (is_idle f.step) flies r.rest in
    let two = first_none Flying (ok && is_naming f.step && nat_lt 0 f.flying) last one.1 in
    (r.going, in_order f r.fit r.going, (first_none NoMark (ok && is_writing f.step) [] two.1).0)

pub is_due : (f : Folder) (ok : Bool) → answer_fault f ok ≡ None → is_idle f.step ≡ false
is_due f ok e =
    let flies = (Flying, ok && is_naming f.step && nat_lt 0 f.flying) ∷ (NoMark, ok && is_writing f.step) ∷ [] in
    (first_none NothingDue (is_idle f.step) flies (ready f ((NothingDue, is_idle f.step) ∷ flies) e).rest).0

pub is_begin : (f : Folder) → begin_fault f ≡ None → (f.ended ≡ false) × (is_idle f.step ≡ true)
is_begin f e =
    let full = (Full, nat_le (2 ^ 62) (f.newest + 1)) ∷ [] in
    let r = ready f ((Busy, not (is_idle f.step)) ∷ full) e in
    (r.going, not_false (is_idle f.step) (first_none Busy (not (is_idle f.step)) full r.rest).0)

pub is_put : (f : Folder) (len : ℕ) → put_fault f len ≡ None → (f.ended ≡ false) × (is_starting f.step ≡ false) × (len < 2 ^ 24)
is_put f len e =
    let full = (Full, nat_le (2 ^ 62) (f.count + 1)) ∷ (Full, nat_le (2 ^ 62) (f.end + 2 ^ 25)) ∷ [] in
    let long = (TooLong, nat_le (2 ^ 24) len) ∷ full in
    let flies = (Flying, nat_lt 0 f.flying) ∷ long in
    let r = ready f ((NotGrowing, is_starting f.step) ∷ flies) e in
    let one = first_none NotGrowing (is_starting f.step) flies r.rest in
    let two = first_none Flying (nat_lt 0 f.flying) long one.1 in
    (r.going, one.0, leb-false (2 ^ 24) len (first_none TooLong (nat_le (2 ^ 24) len) full two.1).0)

pub is_unflown : (f : Folder) (len : ℕ) → put_fault f len ≡ None → f.flying ≡ 0
is_unflown f len e =
    let long = (TooLong, nat_le (2 ^ 24) len) ∷ (Full, nat_le (2 ^ 62) (f.count + 1)) ∷ (Full, nat_le (2 ^ 62) (f.end + 2 ^ 25)) ∷ [] in
    let flies = (Flying, nat_lt 0 f.flying) ∷ long in
    let one = first_none NotGrowing (is_starting f.step) flies (ready f ((NotGrowing, is_starting f.step) ∷ flies) e).rest in
    none f.flying (leb-false 1 f.flying (first_none Flying (nat_lt 0 f.flying) long one.1).0)
  where
    none : (n : ℕ) → n < 1 → n ≡ 0
    none n low = omega (arith, low)

pub is_landed : (f : Folder) → landed_fault f ≡ None → (f.ended ≡ false) × (is_starting f.step ≡ false) × ((f.flying == 0) ≡ false)
is_landed f e =
    let r = ready f ((NotFlying, f.flying == 0) ∷ []) e in
    let some = (first_none NotFlying (f.flying == 0) [] r.rest).0 in
    (r.going, grows_still (f.flying == 0) (is_starting f.step) some (last_fits f r.fit), some)
  where
    grows_still : (none starting : Bool) → none ≡ false → (none || not starting) ≡ true → starting ≡ false
    grows_still true starting some fit = absurd (true≢false some)
    grows_still false true some fit = absurd (false≢true fit)
    grows_still false false some fit = refl

pub is_grow : (f : Folder) → grow_fault f ≡ None → (f.ended ≡ false) × (is_starting f.step ≡ false)
is_grow f e =
    let r = ready f ((NotGrowing, is_starting f.step) ∷ []) e in
    (r.going, (first_none NotGrowing (is_starting f.step) [] r.rest).0)

pub is_closed : (f : Folder) → id_fault f ≡ None → f.ended ≡ true
is_closed f e = not_false f.ended (first_none Busy (not f.ended) [] e).0

pub unless_both : (fault : Option Fault) (v w : World) (P : World → Type 0) → (fault ≡ None → P v) → P w → P (unless fault v w)
unless_both None v w P taken refused = taken refl
unless_both (Some e) v w P taken refused = refused

module _ (has : List ℕ → Bool) (t : Titles) where
  -- the journal that grows has what was acknowledged of it, and its name is on the disk
  pub record Stands (title : List ℕ) (log : Payloads) (j : Journal) : Type 0 where
    pub now : j.here.now ≡ true
    pub sure : j.here.may ≡ true ∷ []
    pub each : AllByRecursion IsPayload log
    pub kept : Front title log j.file.kept
    pub seen : Front title log j.file.seen

  -- an older journal has the use
  pub record HasUse (title : List ℕ) (j : Journal) : Type 0 where
    pub payloads : Payloads
    pub stands : Stands title payloads j
    pub holds : list_any has payloads ≡ true

  -- a snapshot has the use
  pub record IsGood (there : Option File) : Type 0 where
    pub file : File
    pub is : there ≡ Some file
    pub payloads : Payloads
    pub each : AllByRecursion IsPayload payloads
    pub whole : file.whole ≡ true
    pub kept : file.kept ≡ frames_of t.snapshot 1 payloads
    pub seen : file.seen ≡ frames_of t.snapshot 1 payloads
    pub holds : list_any has payloads ≡ true

  abbrev AllGood : Name (Option File) → Type 0
  AllGood name = (there : Option File) → IsOneOf name.may there → IsGood there

  -- where the use is, once it was acknowledged
  abbrev IsHeld : Disk → ℕ → Payloads → Type 0
  IsHeld d home log = AllGood d.snapshot ⊎ (((k : ℕ) × (k < home) × HasUse (t.journal k) (d.journals k)) ⊎ (list_any has log ≡ true))

  -- a snapshot may leave out the use only if the journal that grows has it
  abbrev IsDue : Payloads → Payloads → Payloads → Type 0
  IsDue payloads log acknowledged = list_any has acknowledged ≡ true → (list_any has payloads ≡ true) ⊎ (list_any has log ≡ true)

  -- the file beside was written
  pub record IsWritten (f : File) (log acknowledged : Payloads) : Type 0 where
    pub payloads : Payloads
    pub each : AllByRecursion IsPayload payloads
    pub unspoiled : f.spoiled ≡ false
    pub seen : f.seen ≡ frames_of t.snapshot 1 payloads
    pub due : IsDue payloads log acknowledged

  -- and synced
  pub record IsSynced (f : File) (log acknowledged : Payloads) : Type 0 where
    pub payloads : Payloads
    pub each : AllByRecursion IsPayload payloads
    pub whole : f.whole ≡ true
    pub kept : f.kept ≡ frames_of t.snapshot 1 payloads
    pub seen : f.seen ≡ frames_of t.snapshot 1 payloads
    pub due : IsDue payloads log acknowledged

  -- the next journal was made
  pub record IsMade (j : Journal) : Type 0 where
    pub file : j.file ≡ empty_file
    pub now : j.here.now ≡ true
    pub free : j.here.stuck ≡ false

  -- the snapshot was renamed
  pub record IsRenamed (name : Name (Option File)) (log acknowledged : Payloads) : Type 0 where
    pub file : File
    pub now : name.now ≡ Some file
    pub free : name.stuck ≡ false
    pub synced : IsSynced file log acknowledged

  -- and there is no other
  pub record IsPublished (name : Name (Option File)) (log acknowledged : Payloads) : Type 0 where
    pub file : File
    pub only : name.may ≡ Some file ∷ []
    pub synced : IsSynced file log acknowledged

  -- the folder's numbers are those of the journal that grows
  pub record IsGrowing (newest count end flies home : ℕ) (j : Journal) (log flying : Payloads) : Type 0 where
    pub is : home ≡ newest
    pub some : 0 < home
    pub unspoiled : j.file.spoiled ≡ false
    pub many : count ≡ length log
    pub far : end ≡ length (frames_of (t.journal home) 1 log)
    pub long : flies ≡ length (frames_of (t.journal home) (1 + length log) flying)
    pub one : length flying ≤ 1

  abbrev Growing : World → Type 0
  Growing w = IsGrowing w.folder.newest w.folder.count w.folder.end w.folder.flying w.home (w.disk.journals w.home) w.log w.flying

  abbrev beside_of : ℕ → File → File
  beside_of pieces f = cond (pieces == 0) empty_file f

  -- the file beside has these pieces
  pub record AreParts (pieces : ℕ) (f : File) (parts : Payloads) : Type 0 where
    pub many : pieces ≡ length parts
    pub each : AllByRecursion IsPayload parts
    pub unspoiled : (beside_of pieces f).spoiled ≡ false
    pub seen : (beside_of pieces f).seen ≡ frames_of t.snapshot 1 parts

  abbrev StepFact : Step → World → Type 0
  StepFact Starting w = (k : ℕ) → (w.disk.journals k).here.now ≡ true → k ≤ w.folder.newest
  StepFact Entering w = (w.home ≤ w.folder.newest) × IsMade (w.disk.journals (w.folder.newest + 1)) × (w.logs (w.folder.newest + 1) ≡ [])
  StepFact Idle w = Growing w
  StepFact Creating w = Growing w
  StepFact Naming w = Growing w × IsMade (w.disk.journals (w.folder.newest + 1)) × (w.logs (w.folder.newest + 1) ≡ [])
  StepFact Writing w = Growing w × IsDue w.noted w.log w.acknowledged × AreParts w.folder.pieces w.disk.beside w.parts
  StepFact Ending w = Growing w × IsWritten w.disk.beside w.log w.acknowledged
  StepFact Syncing w = Growing w × IsWritten w.disk.beside w.log w.acknowledged
  StepFact Renaming w = Growing w × IsSynced w.disk.beside w.log w.acknowledged
  StepFact Publishing w = Growing w × IsRenamed w.disk.snapshot w.log w.acknowledged
  StepFact Removing w = Growing w × IsPublished w.disk.snapshot w.log w.acknowledged

  -- what holds while the program runs
  pub record IsUp (w : World) : Type 0 where
    pub flies : AllByRecursion IsPayload w.flying
    pub seen : Front (t.journal w.home) (w.log ++ w.flying) (w.disk.journals w.home).file.seen
    pub stage : StepFact w.folder.step w
    pub remembers : list_any has (w.acknowledged ++ w.flying) ≡ true → list_any has w.memory ≡ true

  -- a file begins with these payloads
  pub record IsLogged (title : List ℕ) (payloads : Payloads) (f : File) : Type 0 where
    pub each : AllByRecursion IsPayload payloads
    pub kept : Front title payloads f.kept
    pub seen : Front title payloads f.seen

  -- what always holds
  pub record IsSound (w : World) : Type 0 where
    pub logged : (k : ℕ) → IsLogged (t.journal k) (w.logs k) (w.disk.journals k).file
    pub this : w.logs w.home ≡ w.log
    pub stands : 0 < w.home → Stands (t.journal w.home) w.log (w.disk.journals w.home)
    pub ungrown : w.home ≡ 0 → w.log ≡ []
    pub named : IsOneOf w.disk.snapshot.may w.disk.snapshot.now
    pub held : list_any has w.acknowledged ≡ true → IsHeld w.disk w.home w.log
    pub up : w.folder.ended ≡ false → IsUp w

  -- a journal that has the use is there
  has_grown : (w : World) → IsSound w → list_any has w.log ≡ true → 0 < w.home
  has_grown w h logged =
      elim (cases_lt 0 w.home) [
        | inl up ↦ up
        | inr none ↦ absurd (false≢true (sym (ap (list_any has) (h.ungrown (omega (arith, none)))) ∙ logged))
      ]

  -- Names.

  Stands-named : (ok : Bool) (title : List ℕ) (log : Payloads) (j : Journal) → Stands title log j → Stands title log (record { file = j.file; here = named ok j.here })
  Stands-named false title log j s = record { now = s.now; sure = s.sure; each = s.each; kept = s.kept; seen = s.seen }
  Stands-named true title log j s =
      cond_both j.here.stuck j.here (settled j.here.now) (λ (name : Name Bool). Stands title log (record { file = j.file; here = name }))
      (λ stuck. s)
      (λ free. record { now = s.now; sure = ap (λ (b : Bool). b ∷ []) s.now; each = s.each; kept = s.kept; seen = s.seen })

  HasUse-named : (ok : Bool) (title : List ℕ) (j : Journal) → HasUse title j → HasUse title (record { file = j.file; here = named ok j.here })
  HasUse-named ok title j h = record { payloads = h.payloads; stands = Stands-named ok title h.payloads j h.stands; holds = h.holds }

  AllGood-named : (ok : Bool) (name : Name (Option File)) → IsOneOf name.may name.now → AllGood name → AllGood (named ok name)
  AllGood-named false name now good = good
  AllGood-named true name now good =
      cond_both name.stuck name (settled name.now) AllGood (λ stuck. good) (λ free there among. good there (subst (IsOneOf name.may) (IsOneOf-only name.now there among) now))

  now-named : (ok : Bool) (name : Name (Option File)) → IsOneOf name.may name.now → IsOneOf (named ok name).may (named ok name).now
  now-named false name now = now
  now-named true name now = cond_both name.stuck name (settled name.now) (λ (n : Name (Option File)). IsOneOf n.may n.now) (λ stuck. now) (λ free. inl refl)

  IsHeld-named : (ok : Bool) (d : Disk) (home : ℕ) (log : Payloads) → IsOneOf d.snapshot.may d.snapshot.now → IsHeld d home log → IsHeld (sync_folder ok d) home log
  IsHeld-named ok d home log now (inl good) = inl (AllGood-named ok d.snapshot now good)
  IsHeld-named ok d home log now (inr (inl (k, below, has_it))) = inr (inl (k, below, HasUse-named ok (t.journal k) (d.journals k) has_it))
  IsHeld-named ok d home log now (inr (inr logged)) = inr (inr logged)

  -- the journal that grew is an older one
  IsHeld-closed : (d : Disk) (home later : ℕ) (log log' : Payloads) → home < later → (list_any has log ≡ true → Stands (t.journal home) log (d.journals home)) → IsHeld d home log → IsHeld d later log'
  IsHeld-closed d home later log log' below stands (inl good) = inl good
  IsHeld-closed d home later log log' below stands (inr (inl (k, lower, has_it))) = inr (inl (k, omega arith, has_it))
  IsHeld-closed d home later log log' below stands (inr (inr logged)) = inr (inl (home, below, record { payloads = log; stands = stands logged; holds = logged }))

  -- journals changed that do not have to have the use
  IsHeld-put : (d e : Disk) (home : ℕ) (log : Payloads) → e.snapshot ≡ d.snapshot → ((k : ℕ) → k < home → e.journals k ≡ d.journals k) → IsHeld d home log → IsHeld e home log
  IsHeld-put d e home log same others (inl good) = inl (subst AllGood (sym same) good)
  IsHeld-put d e home log same others (inr (inl (k, below, has_it))) = inr (inl (k, below, subst (HasUse (t.journal k)) (sym (others k below)) has_it))
  IsHeld-put d e home log same others (inr (inr logged)) = inr (inr logged)

  free_named : {A : Type 0} (name : Name A) → name.stuck ≡ false → Rattle.svid_journal.specs.Disk.named true name ≡ settled name.now
  free_named name free = cond-false name.stuck name (settled name.now) free

  -- Steps of the program.

  -- the same at a step
  abbrev staged : Step → World → World
  staged step w = record { folder = at_step w.folder step; disk = w.disk; home = w.home; log = w.log; logs = w.logs; flying = w.flying; parts = w.parts; acknowledged = w.acknowledged; memory = w.memory; noted = w.noted; texts = w.texts }

  nothing_logged : (title : List ℕ) → IsLogged title [] empty_file
  nothing_logged title = record { each = tt; kept = record { rest = []; is = refl }; seen = record { rest = []; is = refl } }

  -- at one number the journal is replaced, and its log
  logged_put : (journals : ℕ → Journal) (n : ℕ) (j : Journal) (logs later : ℕ → Payloads) → ((k : ℕ) → IsLogged (t.journal k) (logs k) (journals k).file) → ((k : ℕ) → (k ≡ n → ⊥) → later k ≡ logs k) → IsLogged (t.journal n) (later n) j.file → (k : ℕ) → IsLogged (t.journal k) (later k) (put journals n j k).file
  logged_put journals n j logs later old others new k =
      elim (cases_Bool (k == n)) [
        | inl same ↦
            let is : k ≡ n = eqb-true k n same in
            subst (λ (m : ℕ). IsLogged (t.journal m) (later m) (put journals n j m).file) (sym is) (subst (λ (x : Journal). IsLogged (t.journal n) (later n) x.file) (sym (put_same journals n j)) new)
        | inr other ↦
            let apart = eqb-false k n other in
            subst (λ (ps : Payloads). IsLogged (t.journal k) ps (put journals n j k).file) (sym (others k apart)) (subst (λ (x : Journal). IsLogged (t.journal k) (logs k) x.file) (sym (put_other journals n j k apart)) (old k))
      ]

  -- with another folder, on another disk
  abbrev moved_to : World → (ℕ → Payloads) → Folder → Disk → Payloads → Payloads → World
  moved_to w logs f d parts texts = record { folder = f; disk = d; home = w.home; log = w.log; logs = logs; flying = w.flying; parts = parts; acknowledged = w.acknowledged; memory = w.memory; noted = w.noted; texts = texts }

  -- a disk on which the earlier journals and the snapshot are the same
  moved_with : (w : World) (logs : ℕ → Payloads) (f : Folder) (d : Disk) (parts texts : Payloads) → IsSound w → w.folder.ended ≡ false → ((k : ℕ) → k ≤ w.home → d.journals k ≡ w.disk.journals k) → d.snapshot ≡ w.disk.snapshot → ((k : ℕ) → IsLogged (t.journal k) (logs k) (d.journals k).file) → logs w.home ≡ w.log
      → (IsUp w → StepFact f.step (moved_to w logs f d parts texts)) → IsSound (moved_to w logs f d parts texts)
  moved_with w logs f d parts texts h going same snap logged this fact =
      let here = same w.home (omega arith) in
      record {
        logged = logged;
        this = this;
        stands = λ up. subst (Stands (t.journal w.home) w.log) (sym here) (h.stands up);
        ungrown = h.ungrown;
        named = subst (λ (name : Name (Option File)). IsOneOf name.may name.now) (sym snap) h.named;
        held = λ a. IsHeld-put w.disk d w.home w.log snap (λ k below. same k (omega arith)) (h.held a);
        up = λ is. let u = h.up going in record {
          flies = u.flies;
          seen = subst (λ (j : Journal). Front (t.journal w.home) (w.log ++ w.flying) j.file.seen) (sym here) u.seen;
          stage = fact u;
          remembers = u.remembers;
        };
      }

  moved : (w : World) (f : Folder) (d : Disk) (parts texts : Payloads) → IsSound w → w.folder.ended ≡ false → ((k : ℕ) → d.journals k ≡ w.disk.journals k) → d.snapshot ≡ w.disk.snapshot → (IsUp w → StepFact f.step (moved_to w w.logs f d parts texts)) → IsSound (moved_to w w.logs f d parts texts)
  moved w f d parts texts h going same snap fact =
      moved_with w w.logs f d parts texts h going (λ k below. same k) snap (λ k. subst (λ (j : Journal). IsLogged (t.journal k) (w.logs k) j.file) (sym (same k)) (h.logged k)) h.this fact

  -- the content of the journal that grows, where it is the same
  regrown : (newest count end flies home : ℕ) (i j : Journal) (log flying : Payloads) → j ≡ i → IsGrowing newest count end flies home i log flying → IsGrowing newest count end flies home j log flying
  regrown newest count end flies home i j log flying same g = subst (λ (x : Journal). IsGrowing newest count end flies home x log flying) (sym same) g

  -- a sync of the folder failed
  ends : (w : World) (parts : Payloads) → IsSound w → IsSound (moved_to w w.logs (ended w.folder) (sync_folder false w.disk) parts w.texts)
  ends w parts h =
      record {
        logged = h.logged;
        this = h.this;
        stands = λ up. Stands-named false (t.journal w.home) w.log (w.disk.journals w.home) (h.stands up);
        ungrown = h.ungrown;
        named = now-named false w.disk.snapshot h.named;
        held = λ a. IsHeld-named false w.disk w.home w.log h.named (h.held a);
        up = λ e. absurd (true≢false e);
      }

  -- a journal that is empty, with its name on the disk
  abbrev empty_journal : Journal
  empty_journal = record { file = empty_file; here = settled true }

  Stands-empty : (title : List ℕ) → Stands title [] empty_journal
  Stands-empty title = record { now = refl; sure = refl; each = tt; kept = record { rest = []; is = refl }; seen = record { rest = []; is = refl } }

  -- the next journal grows
  abbrev with_next : World → Step → World
  with_next w step = record { folder = grown w.folder step; disk = sync_folder true w.disk; home = w.folder.newest + 1; log = []; logs = w.logs; flying = []; parts = []; acknowledged = w.acknowledged; memory = w.memory; noted = w.memory; texts = w.texts }

  Growing-next : (w : World) (step : Step) → (sync_folder true w.disk).journals (w.folder.newest + 1) ≡ empty_journal → Growing (with_next w step)
  Growing-next w step empty = regrown (w.folder.newest + 1) 0 0 0 (w.folder.newest + 1) empty_journal ((sync_folder true w.disk).journals (w.folder.newest + 1)) [] [] empty (record { is = refl; some = omega arith; unspoiled = refl; many = refl; far = refl; long = refl; one = omega arith })

  remembered : (w : World) → IsUp w → list_any has w.acknowledged ≡ true → list_any has w.memory ≡ true
  remembered w u a = u.remembers (list_any-append has w.acknowledged w.flying ∙ or_left (list_any has w.acknowledged) (list_any has w.flying) a)

  grows_next_is : (w : World) (step : Step) → IsSound w → w.folder.ended ≡ false → w.home ≤ w.folder.newest → IsMade (w.disk.journals (w.folder.newest + 1)) → w.logs (w.folder.newest + 1) ≡ [] → ((sync_folder true w.disk).journals (w.folder.newest + 1) ≡ empty_journal → StepFact step (with_next w step)) → IsSound (with_next w step)
  grows_next_is w step h going low made none fact =
      let d = w.disk in
      let next = w.folder.newest + 1 in
      let here = (d.journals next).here in
      let empty : (sync_folder true d).journals next ≡ empty_journal =
      λ i. record { file = made.file i; here = (free_named here made.free ∙ ap settled made.now) i } in
      record {
        logged = h.logged;
        this = none;
        stands = λ up. subst (Stands (t.journal next) []) (sym empty) (Stands-empty (t.journal next));
        ungrown = λ e. refl;
        named = now-named true d.snapshot h.named;
        held = λ a. IsHeld-named true d next [] h.named (IsHeld-closed d w.home next w.log [] (omega arith) (λ logged. h.stands (has_grown w h logged)) (h.held a));
        up = λ is. record {
          flies = tt;
          seen = subst (λ (j : Journal). Front (t.journal next) [] j.file.seen) (sym empty) (record { rest = []; is = refl });
          stage = fact empty;
          remembers = λ a. remembered w (h.up going) (ap (list_any has) (sym (append-nil w.acknowledged)) ∙ a);
        };
      }

  good_file : (f : File) (log acknowledged : Payloads) (there : Option File) (s : IsSynced f log acknowledged) → there ≡ Some f → list_any has s.payloads ≡ true → IsGood there
  good_file f log acknowledged there s is holds = record { file = f; is = is; payloads = s.payloads; each = s.each; whole = s.whole; kept = s.kept; seen = s.seen; holds = holds }

  renamed_held : (d : Disk) (home : ℕ) (log acknowledged : Payloads) (s : IsSynced d.beside log acknowledged) → (list_any has s.payloads ≡ true) ⊎ (list_any has log ≡ true) → IsHeld d home log → IsHeld (rename_beside d) home log
  renamed_held d home log acknowledged s (inr logged) held = inr (inr logged)
  renamed_held d home log acknowledged s (inl holds) (inr other) = inr other
  renamed_held d home log acknowledged s (inl holds) (inl good) =
      inl (λ there among. ⊎_elim (λ old. good there old) (λ new. good_file d.beside log acknowledged there s (sym new) holds) (IsOneOf-cases d.snapshot.may (Some d.beside) there among))

  published_held : (d e : Disk) (home : ℕ) (log acknowledged : Payloads) → e.snapshot ≡ d.snapshot → (p : IsPublished d.snapshot log acknowledged) → (list_any has p.synced.payloads ≡ true) ⊎ (list_any has log ≡ true) → IsHeld e home log
  published_held d e home log acknowledged same p (inr logged) = inr (inr logged)
  published_held d e home log acknowledged same p (inl holds) =
      inl (subst AllGood (sym same) (λ there among. good_file p.file log acknowledged there p.synced (sym (IsOneOf-only (Some p.file) there (subst (λ (ms : List (Option File)). IsOneOf ms there) p.only among))) holds))

  removes : (w : World) → IsSound (staged Removing w) → w.folder.ended ≡ false → w.folder.oldest < w.folder.newest → IsSound (after_answer (staged Removing w) true)
  removes w h going below =
      let d = w.disk in
      let oldest = w.folder.oldest in
      let fact = (h.up going).stage in
      let gone : Journal = record { file = (d.journals oldest).file; here = leads false (d.journals oldest).here } in
      let grows : (remove_journal oldest d).journals w.home ≡ d.journals w.home = put_other d.journals oldest gone w.home (λ e. omega (arith, below, fact.0.is, e)) in
      record {
        logged = logged_put d.journals oldest gone w.logs w.logs h.logged (λ k apart. refl) (let l = h.logged oldest in record { each = l.each; kept = l.kept; seen = l.seen });
        this = h.this;
        stands = λ up. subst (Stands (t.journal w.home) w.log) (sym grows) (h.stands up);
        ungrown = h.ungrown;
        named = h.named;
        held = λ a. published_held d (remove_journal oldest d) w.home w.log w.acknowledged refl fact.1 (fact.1.synced.due a);
        up = λ is. let u = h.up going in record {
          flies = u.flies;
          seen = subst (λ (j : Journal). Front (t.journal w.home) (w.log ++ w.flying) j.file.seen) (sym grows) u.seen;
          stage =
              let again = regrown w.folder.newest w.folder.count w.folder.end w.folder.flying w.home (d.journals w.home) ((remove_journal oldest d).journals w.home) w.log w.flying grows fact.0 in
              cond_both (nat_le w.folder.newest (oldest + 1)) Idle Removing (λ (step : Step). StepFact step (after_answer (staged Removing w) true)) (λ e. again) (λ e. (again, fact.1));
          remembers = u.remembers;
        };
      }

  -- the call that is due returns
  answers : (step : Step) (ok : Bool) (w : World) → IsSound (staged step w) → w.folder.ended ≡ false → w.folder.oldest + gap_of step ≤ w.folder.newest + 1 → (ok && is_writing step) ≡ false → IsSound (after_answer (staged step w) ok)
  answers Idle true w h going order mark = h
  answers Idle false w h going order mark = h
  answers Starting true w h going order mark =
      let d = w.disk in
      let next = w.folder.newest + 1 in
      let above : (k : ℕ) → (d.journals k).here.now ≡ true → k ≤ w.folder.newest = (h.up going).stage in
      let low : w.home ≤ w.folder.newest =
      elim (cases_lt 0 w.home) [
        | inl up ↦ above w.home (h.stands up).now
        | inr none ↦ omega (arith, none)
      ] in
      let made : Journal = record { file = empty_file; here = leads true (d.journals next).here } in
      moved_with (staged Starting w) (put w.logs next []) (at_step w.folder Entering) (create_journal next d) w.parts w.texts h going (λ k below. put_other d.journals next made k (λ is. omega (arith, below, low, is))) refl
      (logged_put d.journals next made w.logs (put w.logs next []) h.logged (λ k apart. put_other w.logs next [] k apart) (subst (λ (ps : Payloads). IsLogged (t.journal next) ps empty_file) (sym (put_same w.logs next [])) (nothing_logged (t.journal next))))
      (put_other w.logs next [] w.home (λ is. omega (arith, low, is)) ∙ h.this)
      (λ u. (low, subst IsMade (sym (put_same d.journals next made)) (record { file = refl; now = refl; free = refl }), put_same w.logs next []))
  answers Starting false w h going order mark = record { logged = h.logged; this = h.this; stands = h.stands; ungrown = h.ungrown; named = h.named; held = h.held; up = λ is. absurd (true≢false is) }
  answers Entering true w h going order mark =
      let fact = (h.up going).stage in
      grows_next_is (staged Entering w) Idle h going fact.0 fact.1 fact.2 (λ empty. Growing-next (staged Entering w) Idle empty)
  answers Entering false w h going order mark = ends (staged Entering w) w.parts h
  answers Creating true w h going order mark =
      let d = w.disk in
      let next = w.folder.newest + 1 in
      let low = (h.up going).stage.is in
      let made : Journal = record { file = empty_file; here = leads true (d.journals next).here } in
      let same : (k : ℕ) → k ≤ w.home → (create_journal next d).journals k ≡ d.journals k = λ k below. put_other d.journals next made k (λ is. omega (arith, below, low, is)) in
      moved_with (staged Creating w) (put w.logs next []) (at_step w.folder Naming) (create_journal next d) w.parts w.texts h going same refl
      (logged_put d.journals next made w.logs (put w.logs next []) h.logged (λ k apart. put_other w.logs next [] k apart) (subst (λ (ps : Payloads). IsLogged (t.journal next) ps empty_file) (sym (put_same w.logs next [])) (nothing_logged (t.journal next))))
      (put_other w.logs next [] w.home (λ is. omega (arith, low, is)) ∙ h.this)
      (λ u. (
        regrown w.folder.newest w.folder.count w.folder.end w.folder.flying w.home (d.journals w.home) ((create_journal next d).journals w.home) w.log w.flying (same w.home (omega arith)) u.stage,
        subst IsMade (sym (put_same d.journals next made)) (record { file = refl; now = refl; free = refl }),
        put_same w.logs next [],
      ))
  answers Creating false w h going order mark =
      moved (staged Creating w) (at_step w.folder Idle) w.disk w.parts w.texts h going (λ k. refl) refl (λ u. u.stage)
  answers Naming true w h going order mark =
      let u = h.up going in
      grows_next_is (staged Naming w) Writing h going (omega (arith, u.stage.0.is)) u.stage.1 u.stage.2
      (λ empty. (Growing-next (staged Naming w) Writing empty, λ a. inl (remembered (staged Naming w) u a), record { many = refl; each = tt; unspoiled = refl; seen = refl }))
  answers Naming false w h going order mark = ends (staged Naming w) w.parts h
  answers Writing true w h going order mark = absurd (true≢false mark)
  answers Writing false w h going order mark =
      moved (staged Writing w) (at_step w.folder Idle) w.disk w.parts w.texts h going (λ k. refl) refl (λ u. u.stage.0)
  answers Ending true w h going order mark =
      moved (staged Ending w) (at_step w.folder Syncing) w.disk w.parts w.texts h going (λ k. refl) refl (λ u. u.stage)
  answers Ending false w h going order mark =
      moved (staged Ending w) (at_step w.folder Idle) w.disk w.parts w.texts h going (λ k. refl) refl (λ u. u.stage.0)
  answers Syncing true w h going order mark =
      let f = w.disk.beside in
      let whole : File = record { seen = f.seen; kept = f.seen; whole = true; spoiled = false } in
      moved (staged Syncing w) (at_step w.folder Renaming) (sync_beside true w.disk) w.parts w.texts h going (λ k. refl) refl
      (λ u. (u.stage.0, subst (λ (g : File). IsSynced g w.log w.acknowledged) (sym (cond-false f.spoiled f whole u.stage.1.unspoiled)) (record { payloads = u.stage.1.payloads; each = u.stage.1.each; whole = refl; kept = u.stage.1.seen; seen = u.stage.1.seen; due = u.stage.1.due })))
  answers Syncing false w h going order mark =
      moved (staged Syncing w) (at_step w.folder Idle) (sync_beside false w.disk) w.parts w.texts h going (λ k. refl) refl (λ u. u.stage.0)
  answers Renaming true w h going order mark =
      let d = w.disk in
      let fact = (h.up going).stage in
      record {
        logged = h.logged;
        this = h.this;
        stands = h.stands;
        ungrown = h.ungrown;
        named = IsOneOf-push d.snapshot.may (Some d.beside);
        held = λ been. renamed_held d w.home w.log w.acknowledged fact.1 (fact.1.due been) (h.held been);
        up = λ is. let u = h.up going in record { flies = u.flies; seen = u.seen; stage = (fact.0, record { file = d.beside; now = refl; free = refl; synced = fact.1 }); remembers = u.remembers };
      }
  answers Renaming false w h going order mark =
      moved (staged Renaming w) (at_step w.folder Idle) w.disk w.parts w.texts h going (λ k. refl) refl (λ u. u.stage.0)
  answers Publishing true w h going order mark =
      let d = w.disk in
      let u = h.up going in
      let g = u.stage.0 in
      let n = u.stage.1 in
      record {
        logged = h.logged;
        this = h.this;
        stands = λ up. Stands-named true (t.journal w.home) w.log (d.journals w.home) (h.stands up);
        ungrown = h.ungrown;
        named = now-named true d.snapshot h.named;
        held = λ been. IsHeld-named true d w.home w.log h.named (h.held been);
        up = λ is. record {
          flies = u.flies;
          seen = u.seen;
          stage = (
            record { is = g.is; some = g.some; unspoiled = g.unspoiled; many = g.many; far = g.far; long = g.long; one = g.one },
            record { file = n.file; only = ap (λ (name : Name (Option File)). name.may) (free_named d.snapshot n.free) ∙ ap (λ (there : Option File). there ∷ []) n.now; synced = n.synced },
          );
          remembers = u.remembers;
        };
      }
  answers Publishing false w h going order mark = ends (staged Publishing w) w.parts h
  answers Removing true w h going order mark =
      removes w h going (omega (arith, order))
  answers Removing false w h going order mark =
      moved (staged Removing w) (at_step w.folder Idle) w.disk w.parts w.texts h going (λ k. refl) refl (λ u. u.stage.0)

  -- a new journal and a new snapshot begin
  begins : (step : Step) (w : World) → IsSound (staged step w) → w.folder.ended ≡ false → is_idle step ≡ true → IsSound (moved_to (staged step w) w.logs (begun (staged step w).folder) w.disk w.parts w.texts)
  begins Idle w h going idle = moved (staged Idle w) (at_step w.folder Creating) w.disk w.parts w.texts h going (λ k. refl) refl (λ u. u.stage)
  begins Starting w h going idle = absurd (false≢true idle)
  begins Entering w h going idle = absurd (false≢true idle)
  begins Creating w h going idle = absurd (false≢true idle)
  begins Naming w h going idle = absurd (false≢true idle)
  begins Writing w h going idle = absurd (false≢true idle)
  begins Ending w h going idle = absurd (false≢true idle)
  begins Syncing w h going idle = absurd (false≢true idle)
  begins Renaming w h going idle = absurd (false≢true idle)
  begins Publishing w h going idle = absurd (false≢true idle)
  begins Removing w h going idle = absurd (false≢true idle)

  any_left : (xs ys : Payloads) → list_any has xs ≡ true → list_any has (xs ++ ys) ≡ true
  any_left xs ys h = list_any-append has xs ys ∙ or_left (list_any has xs) (list_any has ys) h

  any_right : (xs ys : Payloads) → list_any has ys ≡ true → list_any has (xs ++ ys) ≡ true
  any_right xs ys h = list_any-append has xs ys ∙ or_right (list_any has xs) (list_any has ys) h

  any_cases : (xs ys : Payloads) → list_any has (xs ++ ys) ≡ true → (list_any has xs ≡ true) ⊎ (list_any has ys ≡ true)
  any_cases xs ys h = or_cases (list_any has xs) (list_any has ys) (sym (list_any-append has xs ys) ∙ h)

  -- A piece of a snapshot.

  -- the file beside with one more piece
  more_seen : (f : File) (parts : Payloads) (payload : List ℕ) → f.seen ≡ frames_of t.snapshot 1 parts → (written (length (frames_of t.snapshot 1 parts)) (frame_of t.snapshot (1 + length parts) payload) f).seen ≡ frames_of t.snapshot 1 (parts ++ payload ∷ [])
  more_seen f parts payload seen =
      let frames = frames_of t.snapshot 1 parts in
      let frame = frame_of t.snapshot (1 + length parts) payload in
      let front : take (length frames) f.seen ≡ frames = ap (take (length frames)) (seen ∙ sym (append-nil frames)) ∙ take_at frames [] (length frames) refl in
      let back : drop (length frames + length frame) f.seen ≡ [] = drop_all (length frames + length frame) f.seen (omega (arith, ap length seen)) in
      (λ i. front i ++ (frame ++ back i)) ∙ ap (λ (x : List ℕ). frames ++ x) (append-nil frame) ∙ sym (frames_of-push t.snapshot 1 parts payload)

  not_none : (n : ℕ) → (n + 1 == 0) ≡ false
  not_none n = ne_eqb (n + 1) 0 (λ e. omega (arith, e))

  pieces_on : (w : World) (payload : List ℕ) → IsSound (staged Writing w) → w.folder.ended ≡ false → IsPayload payload → (length payload ≡ 0 → list_any has w.noted ≡ true → list_any has w.parts ≡ true) → IsSound (after_piece t (staged Writing w) payload true [])
  pieces_on w payload h going bears knows =
      let d = w.disk in
      let pieces = w.folder.pieces in
      let at = length (frames_of t.snapshot 1 w.parts) in
      let e = write_piece pieces at (frame_of t.snapshot (1 + pieces) payload) d in
      let parts = w.parts ++ payload ∷ [] in
      moved (staged Writing w) (pieced (at_step w.folder Writing) (length payload)) e parts (sealed 2 t.snapshot (1 + pieces) payload ∷ w.texts) h going (λ k. refl) refl
      (λ u.
      let p = u.stage.2 in
      let each = each_append w.parts (payload ∷ []) p.each (bears, tt) in
      let seen : e.beside.seen ≡ frames_of t.snapshot 1 parts =
      ap (λ (n : ℕ). (written at (frame_of t.snapshot (1 + n) payload) (beside_of pieces d.beside)).seen) p.many ∙ more_seen (beside_of pieces d.beside) w.parts payload p.seen in
      cond_both (length payload == 0) Ending Writing (λ (step : Step). StepFact step (moved_to (staged Writing w) w.logs (pieced (at_step w.folder Writing) (length payload)) e parts (sealed 2 t.snapshot (1 + pieces) payload ∷ w.texts)))
      (λ is. (
        u.stage.0,
        record {
          payloads = parts;
          each = each;
          unspoiled = p.unspoiled;
          seen = seen;
          due = λ been. ⊎_elim (λ noted_it. inl (any_left w.parts (payload ∷ []) (knows (eqb-true (length payload) 0 is) noted_it))) (λ logged. inr logged) (u.stage.1 been);
        },
      ))
      (λ is. (
        u.stage.0,
        u.stage.1,
        record {
          many = omega (arith, p.many, length-append w.parts (payload ∷ []));
          each = each;
          unspoiled = ap (λ (f : File). f.spoiled) (cond-false (pieces + 1 == 0) empty_file e.beside (not_none pieces)) ∙ p.unspoiled;
          seen = ap (λ (f : File). f.seen) (cond-false (pieces + 1 == 0) empty_file e.beside (not_none pieces)) ∙ seen;
        },
      )))

  pieces_fail : (w : World) (payload landed : List ℕ) → IsSound (staged Writing w) → w.folder.ended ≡ false → IsSound (after_piece t (staged Writing w) payload false landed)
  pieces_fail w payload landed h going =
      moved (staged Writing w) (at_step w.folder Idle) (write_piece w.folder.pieces (length (frames_of t.snapshot 1 w.parts)) landed w.disk) (w.parts ++ payload ∷ []) (sealed 2 t.snapshot (1 + w.folder.pieces) payload ∷ w.texts) h going (λ k. refl) refl (λ u. u.stage.0)

  pieces : (step : Step) (ok : Bool) (w : World) (payload landed : List ℕ) → IsSound (staged step w) → piece_fault (staged step w).folder (length payload) ≡ None → (length payload ≡ 0 → list_any has w.noted ≡ true → list_any has w.parts ≡ true) → IsSound (after_piece t (staged step w) payload ok landed)
  pieces Writing true w payload landed h e knows = let r = is_piece (staged Writing w).folder (length payload) e in pieces_on w payload h r.0 r.2 knows
  pieces Writing false w payload landed h e knows = let r = is_piece (staged Writing w).folder (length payload) e in pieces_fail w payload landed h r.0
  pieces Idle ok w payload landed h e knows = absurd (false≢true (is_piece (staged Idle w).folder (length payload) e).1)
  pieces Starting ok w payload landed h e knows = absurd (false≢true (is_piece (staged Starting w).folder (length payload) e).1)
  pieces Entering ok w payload landed h e knows = absurd (false≢true (is_piece (staged Entering w).folder (length payload) e).1)
  pieces Creating ok w payload landed h e knows = absurd (false≢true (is_piece (staged Creating w).folder (length payload) e).1)
  pieces Naming ok w payload landed h e knows = absurd (false≢true (is_piece (staged Naming w).folder (length payload) e).1)
  pieces Ending ok w payload landed h e knows = absurd (false≢true (is_piece (staged Ending w).folder (length payload) e).1)
  pieces Syncing ok w payload landed h e knows = absurd (false≢true (is_piece (staged Syncing w).folder (length payload) e).1)
  pieces Renaming ok w payload landed h e knows = absurd (false≢true (is_piece (staged Renaming w).folder (length payload) e).1)
  pieces Publishing ok w payload landed h e knows = absurd (false≢true (is_piece (staged Publishing w).folder (length payload) e).1)
  pieces Removing ok w payload landed h e knows = absurd (false≢true (is_piece (staged Removing w).folder (length payload) e).1)

  -- Writes and syncs of the journal that grows.

  growing : (step : Step) (w : World) → is_starting step ≡ false → StepFact step w → Growing w
  growing Idle w grows h = h
  growing Starting w grows h = absurd (true≢false grows)
  growing Entering w grows h = absurd (true≢false grows)
  growing Creating w grows h = h
  growing Naming w grows h = h.0
  growing Writing w grows h = h.0
  growing Ending w grows h = h.0
  growing Syncing w grows h = h.0
  growing Renaming w grows h = h.0
  growing Publishing w grows h = h.0
  growing Removing w grows h = h.0

  -- the journal that grows after a change of its file
  abbrev changed : (File → File) → Journal → Journal
  changed f j = record { file = f j.file; here = j.here }

  grown_is : (home newest : ℕ) (f : File → File) (d : Disk) → home ≡ newest → (on_file newest f d).journals home ≡ changed f (d.journals home)
  grown_is home newest f d is =
      ap (λ (b : Bool). cond b (changed f (d.journals newest)) (d.journals home)) (eq-eqb home newest is) ∙ ap (λ (n : ℕ). changed f (d.journals n)) (sym is)

  ungrown : (newest : ℕ) (f : File → File) (d : Disk) (k : ℕ) → k < newest → (on_file newest f d).journals k ≡ d.journals k
  ungrown newest f d k below = put_other d.journals newest (changed f (d.journals newest)) k (λ e. omega (arith, below, e))

  -- another file of the journal that grows, other numbers of it, and another log
  abbrev rewritten_to : World → (ℕ → Payloads) → ℕ → ℕ → ℕ → (File → File) → Payloads → Payloads → Payloads → Payloads → Payloads → World
  rewritten_to w logs count end flies f log flying acknowledged memory texts =
      record {
        folder = record { step = w.folder.step; oldest = w.folder.oldest; newest = w.folder.newest; ended = w.folder.ended; count = count; end = end; flying = flies; pieces = w.folder.pieces };
        disk = on_file w.folder.newest f w.disk;
        home = w.home;
        log = log;
        logs = logs;
        flying = flying;
        parts = w.parts;
        acknowledged = acknowledged;
        memory = memory;
        noted = w.noted;
        texts = texts;
      }

  -- what was due is still due when the log grows
  stage_on_file : (step : Step) (w : World) (logs : ℕ → Payloads) (count end flies : ℕ) (f : File → File) (log flying acknowledged memory texts : Payloads) → ((k : ℕ) → (k ≡ w.home → ⊥) → logs k ≡ w.logs k) → w.home ≡ w.folder.newest → is_starting step ≡ false → Growing (rewritten_to w logs count end flies f log flying acknowledged memory texts)
      → ((payloads : Payloads) → IsDue payloads w.log w.acknowledged → IsDue payloads log acknowledged) → StepFact step w → StepFact step (rewritten_to w logs count end flies f log flying acknowledged memory texts)
  stage_on_file Idle w logs count end flies f log flying acknowledged memory texts others is grows g due h = g
  stage_on_file Starting w logs count end flies f log flying acknowledged memory texts others is grows g due h = absurd (true≢false grows)
  stage_on_file Entering w logs count end flies f log flying acknowledged memory texts others is grows g due h = absurd (true≢false grows)
  stage_on_file Creating w logs count end flies f log flying acknowledged memory texts others is grows g due h = g
  stage_on_file Naming w logs count end flies f log flying acknowledged memory texts others is grows g due h = (g, subst IsMade (sym (put_other w.disk.journals w.folder.newest (changed f (w.disk.journals w.folder.newest)) (w.folder.newest + 1) (λ e. omega (arith, e)))) h.1, others (w.folder.newest + 1) (λ e. omega (arith, e, is)) ∙ h.2)
  stage_on_file Writing w logs count end flies f log flying acknowledged memory texts others is grows g due h = (g, due w.noted h.1, h.2)
  stage_on_file Ending w logs count end flies f log flying acknowledged memory texts others is grows g due h = (g, record { payloads = h.1.payloads; each = h.1.each; unspoiled = h.1.unspoiled; seen = h.1.seen; due = due h.1.payloads h.1.due })
  stage_on_file Syncing w logs count end flies f log flying acknowledged memory texts others is grows g due h = (g, record { payloads = h.1.payloads; each = h.1.each; unspoiled = h.1.unspoiled; seen = h.1.seen; due = due h.1.payloads h.1.due })
  stage_on_file Renaming w logs count end flies f log flying acknowledged memory texts others is grows g due h = (g, record { payloads = h.1.payloads; each = h.1.each; whole = h.1.whole; kept = h.1.kept; seen = h.1.seen; due = due h.1.payloads h.1.due })
  stage_on_file Publishing w logs count end flies f log flying acknowledged memory texts others is grows g due h =
      let s = h.1.synced in (g, record { file = h.1.file; now = h.1.now; free = h.1.free; synced = record { payloads = s.payloads; each = s.each; whole = s.whole; kept = s.kept; seen = s.seen; due = due s.payloads s.due } })
  stage_on_file Removing w logs count end flies f log flying acknowledged memory texts others is grows g due h =
      let s = h.1.synced in (g, record { file = h.1.file; only = h.1.only; synced = record { payloads = s.payloads; each = s.each; whole = s.whole; kept = s.kept; seen = s.seen; due = due s.payloads s.due } })

  -- the premises of the new file and the new numbers
  record IsRewrite (w : World) (logs : ℕ → Payloads) (count end flies : ℕ) (f : File → File) (log flying acknowledged memory : Payloads) : Type 0 where
    others : (k : ℕ) → (k ≡ w.home → ⊥) → logs k ≡ w.logs k
    this : logs w.home ≡ log
    each : AllByRecursion IsPayload log
    kept : Front (t.journal w.home) log (f (w.disk.journals w.home).file).kept
    unspoiled : (f (w.disk.journals w.home).file).spoiled ≡ false
    flies_each : AllByRecursion IsPayload flying
    seen : Front (t.journal w.home) (log ++ flying) (f (w.disk.journals w.home).file).seen
    many : count ≡ length log
    far : end ≡ length (frames_of (t.journal w.home) 1 log)
    long : flies ≡ length (frames_of (t.journal w.home) (1 + length log) flying)
    one : length flying ≤ 1
    due : (payloads : Payloads) → IsDue payloads w.log w.acknowledged → IsDue payloads log acknowledged
    held : list_any has acknowledged ≡ true → IsHeld w.disk w.home log
    remembers : list_any has (acknowledged ++ flying) ≡ true → list_any has memory ≡ true

  rewritten : (w : World) (logs : ℕ → Payloads) (count end flies : ℕ) (f : File → File) (log flying acknowledged memory texts : Payloads) → IsSound w → w.folder.ended ≡ false → is_starting w.folder.step ≡ false → IsRewrite w logs count end flies f log flying acknowledged memory → IsSound (rewritten_to w logs count end flies f log flying acknowledged memory texts)
  rewritten w logs count end flies f log flying acknowledged memory texts h going grows r =
      let d = w.disk in
      let newest = w.folder.newest in
      let u = h.up going in
      let g = growing w.folder.step w grows u.stage in
      let is = g.is in
      let there = grown_is w.home newest f d is in
      let s = h.stands g.some in
      record {
        logged = logged_put d.journals newest (changed f (d.journals newest)) w.logs logs h.logged (λ k apart. r.others k (λ e. apart (e ∙ is)))
            (subst (λ (n : ℕ). IsLogged (t.journal n) (logs n) (f (d.journals n).file)) is
            (subst (λ (ps : Payloads). IsLogged (t.journal w.home) ps (f (d.journals w.home).file)) (sym r.this) (record { each = r.each; kept = r.kept; seen = Front-first (t.journal w.home) log flying (f (d.journals w.home).file).seen r.seen })));
        this = r.this;
        ungrown = λ e. absurd (omega (arith, e, g.some));
        stands = λ up. subst (Stands (t.journal w.home) log) (sym there) (record { now = s.now; sure = s.sure; each = r.each; kept = r.kept; seen = Front-first (t.journal w.home) log flying (f (d.journals w.home).file).seen r.seen });
        named = h.named;
        held = λ a. IsHeld-put d (on_file newest f d) w.home log refl (λ k below. ungrown newest f d k (omega (arith, below, is))) (r.held a);
        up = λ _. record {
          flies = r.flies_each;
          seen = subst (λ (j : Journal). Front (t.journal w.home) (log ++ flying) j.file.seen) (sym there) r.seen;
          stage = stage_on_file w.folder.step w logs count end flies f log flying acknowledged memory texts r.others is grows
              (subst (λ (j : Journal). IsGrowing newest count end flies w.home j log flying) (sym there) (record { is = is; some = g.some; unspoiled = r.unspoiled; many = r.many; far = r.far; long = r.long; one = r.one })) r.due u.stage;
          remembers = r.remembers;
        };
      }

  -- the next frame, after the frames of the log
  seen_next : (title : List ℕ) (log flying : Payloads) (payload seen behind : List ℕ) → Front title (log ++ flying) seen → Front title (log ++ payload ∷ []) (take (length (frames_of title 1 log)) seen ++ (frame_of title (1 + length log) payload ++ behind))
  seen_next title log flying payload seen behind front =
      let frames = frames_of title 1 log in
      let frame = frame_of title (1 + length log) payload in
      record {
        rest = behind;
        is = ap (λ (x : List ℕ). x ++ (frame ++ behind)) (Front-exact title log seen (Front-first title log flying seen front)) ∙ sym (append_assoc frames frame behind) ∙ ap (λ (x : List ℕ). x ++ behind) (sym (frames_of-push title 1 log payload));
      }

  seen_other : (title : List ℕ) (log flying : Payloads) (seen behind : List ℕ) → Front title (log ++ flying) seen → Front title (log ++ []) (take (length (frames_of title 1 log)) seen ++ behind)
  seen_other title log flying seen behind front =
      record {
        rest = behind;
        is = ap (λ (x : List ℕ). x ++ behind) (Front-exact title log seen (Front-first title log flying seen front) ∙ ap (frames_of title 1) (sym (append-nil log)));
      }

  remembers_put : (acknowledged flying memory : Payloads) (payload : List ℕ) → (list_any has (acknowledged ++ flying) ≡ true → list_any has memory ≡ true) → list_any has (acknowledged ++ payload ∷ []) ≡ true → list_any has (memory ++ payload ∷ []) ≡ true
  remembers_put acknowledged flying memory payload remembers a =
      ⊎_elim (λ before. any_left memory (payload ∷ []) (remembers (any_left acknowledged flying before))) (λ now. any_right memory (payload ∷ []) now) (any_cases acknowledged (payload ∷ []) a)

  remembers_none : (acknowledged flying memory : Payloads) (payload : List ℕ) → (list_any has (acknowledged ++ flying) ≡ true → list_any has memory ≡ true) → list_any has (acknowledged ++ []) ≡ true → list_any has (memory ++ payload ∷ []) ≡ true
  remembers_none acknowledged flying memory payload remembers a =
      any_left memory (payload ∷ []) (remembers (any_left acknowledged flying (ap (list_any has) (sym (append-nil acknowledged)) ∙ a)))

  puts : (ok : Bool) (w : World) (payload landed : List ℕ) → IsSound w → put_fault w.folder (length payload) ≡ None → IsSound (after_put t w payload ok landed)
  puts true w payload landed h e =
      let p = is_put w.folder (length payload) e in
      let u = h.up p.0 in
      let g = growing w.folder.step w p.1 u.stage in
      let title = t.journal w.home in
      let file = (w.disk.journals w.home).file in
      let at = length (frames_of title 1 w.log) in
      let frame = frame_of title (1 + length w.log) payload in
      let put_frame = frame_of (t.journal w.folder.newest) (1 + w.folder.count) payload in
      let same : frame ≡ put_frame = λ i. frame_of (t.journal (g.is i)) (1 + sym g.many i) payload in
      let bytes : take at file.seen ++ (frame ++ drop (at + length frame) file.seen) ≡ take w.folder.end file.seen ++ (put_frame ++ drop (w.folder.end + length put_frame) file.seen) =
      λ i. take (sym g.far i) file.seen ++ (same i ++ drop (sym g.far i + length (same i)) file.seen) in
      rewritten w w.logs w.folder.count w.folder.end (frame_len (length payload)) (written w.folder.end put_frame) w.log (payload ∷ []) w.acknowledged (w.memory ++ payload ∷ []) (sealed 2 (t.journal w.folder.newest) (1 + w.folder.count) payload ∷ w.texts) h p.0 p.1
      (record {
        others = λ k apart. refl;
        this = h.this;
        each = (h.stands g.some).each;
        kept = Front-cut title w.log file.kept w.folder.end (omega (arith, g.far)) (h.stands g.some).kept;
        unspoiled = g.unspoiled;
        flies_each = (p.2, tt);
        seen = subst (Front title (w.log ++ payload ∷ [])) bytes (seen_next title w.log w.flying payload file.seen (drop (at + length frame) file.seen) u.seen);
        many = g.many;
        far = g.far;
        long = sym (ap length (append-nil frame) ∙ frame_len-is 2 title (1 + length w.log) payload);
        one = omega arith;
        due = λ ps due. due;
        held = h.held;
        remembers = remembers_put w.acknowledged w.flying w.memory payload u.remembers;
      })
  puts false w payload landed h e =
      let p = is_put w.folder (length payload) e in
      let u = h.up p.0 in
      let g = growing w.folder.step w p.1 u.stage in
      let title = t.journal w.home in
      let file = (w.disk.journals w.home).file in
      let at = length (frames_of title 1 w.log) in
      let bytes : take at file.seen ++ (landed ++ drop (at + length landed) file.seen) ≡ take w.folder.end file.seen ++ (landed ++ drop (w.folder.end + length landed) file.seen) =
      λ i. take (sym g.far i) file.seen ++ (landed ++ drop (sym g.far i + length landed) file.seen) in
      rewritten w w.logs w.folder.count w.folder.end 0 (written w.folder.end landed) w.log [] w.acknowledged (w.memory ++ payload ∷ []) (sealed 2 (t.journal w.folder.newest) (1 + w.folder.count) payload ∷ w.texts) h p.0 p.1
      (record {
        others = λ k apart. refl;
        this = h.this;
        each = (h.stands g.some).each;
        kept = Front-cut title w.log file.kept w.folder.end (omega (arith, g.far)) (h.stands g.some).kept;
        unspoiled = g.unspoiled;
        flies_each = tt;
        seen = subst (Front title (w.log ++ [])) bytes (seen_other title w.log w.flying file.seen (landed ++ drop (at + length landed) file.seen) u.seen);
        many = g.many;
        far = g.far;
        long = refl;
        one = omega arith;
        due = λ ps due. due;
        held = h.held;
        remembers = remembers_none w.acknowledged w.flying w.memory payload u.remembers;
      })

  grows : (w : World) (at : ℕ) (landed : List ℕ) → IsSound w → grow_fault w.folder ≡ None → length (frames_of (t.journal w.folder.newest) 1 (w.log ++ w.flying)) ≤ at → IsSound (after_grow w at landed)
  grows w at landed h e behind =
      let f = w.folder in
      let r = is_grow f e in
      let up = r.1 in
      let u = h.up r.0 in
      let g = growing f.step w up u.stage in
      let title = t.journal w.home in
      let file = (w.disk.journals w.home).file in
      let back = frames_of title (1 + length w.log) w.flying in
      let far : length (frames_of title 1 (w.log ++ w.flying)) ≤ at = subst (λ (n : ℕ). length (frames_of (t.journal n) 1 (w.log ++ w.flying)) ≤ at) (sym g.is) behind in
      let less : length (frames_of title 1 w.log) ≤ at = omega (arith, far, ap length (frames_of-append title 1 w.log w.flying), length-append (frames_of title 1 w.log) back) in
      rewritten w w.logs f.count f.end f.flying (written at landed) w.log w.flying w.acknowledged w.memory w.texts h r.0 up
      (record {
        others = λ k apart. refl;
        this = h.this;
        each = (h.stands g.some).each;
        kept = Front-cut title w.log file.kept at less (h.stands g.some).kept;
        unspoiled = g.unspoiled;
        flies_each = u.flies;
        seen = Front-more title (w.log ++ w.flying) (take at file.seen) (landed ++ drop (at + length landed) file.seen) (Front-cut title (w.log ++ w.flying) file.seen at far u.seen);
        many = g.many;
        far = g.far;
        long = g.long;
        one = g.one;
        due = λ ps due. due;
        held = h.held;
        remembers = u.remembers;
      })

  due_more : (log flying acknowledged payloads : Payloads) → IsDue payloads log acknowledged → IsDue payloads (log ++ flying) (acknowledged ++ flying)
  due_more log flying acknowledged payloads due a =
      ⊎_elim
      (λ before. ⊎_elim (λ holds. inl holds) (λ logged. inr (list_any-append has log flying ∙ or_left (list_any has log) (list_any has flying) logged)) (due before))
      (λ now. inr (list_any-append has log flying ∙ or_right (list_any has log) (list_any has flying) now))
      (or_cases (list_any has acknowledged) (list_any has flying) (sym (list_any-append has acknowledged flying) ∙ a))

  held_more : (d : Disk) (newest : ℕ) (log flying : Payloads) → IsHeld d newest log → IsHeld d newest (log ++ flying)
  held_more d newest log flying (inl good) = inl good
  held_more d newest log flying (inr (inl older)) = inr (inl older)
  held_more d newest log flying (inr (inr logged)) = inr (inr (list_any-append has log flying ∙ or_left (list_any has log) (list_any has flying) logged))

  held_now : (d : Disk) (newest : ℕ) (log flying acknowledged : Payloads) → (list_any has acknowledged ≡ true → IsHeld d newest log) → list_any has (acknowledged ++ flying) ≡ true → IsHeld d newest (log ++ flying)
  held_now d newest log flying acknowledged held a =
      ⊎_elim (λ before. held_more d newest log flying (held before)) (λ now. inr (inr (list_any-append has log flying ∙ or_right (list_any has log) (list_any has flying) now)))
      (or_cases (list_any has acknowledged) (list_any has flying) (sym (list_any-append has acknowledged flying) ∙ a))

  -- one frame is in flight where its length is given
  one_flies : (title : List ℕ) (number flies : ℕ) (flying : Payloads) → flies ≡ length (frames_of title number flying) → length flying ≤ 1 → (flies == 0) ≡ false → length flying ≡ 1
  one_flies title number flies [] long one some = absurd (true≢false (sym (eq-eqb flies 0 long) ∙ some))
  one_flies title number flies (p ∷ []) long one some = refl
  one_flies title number flies (p ∷ q ∷ ps) long one some = absurd (omega (arith, one))

  syncs : (ok : Bool) (w : World) → IsSound w → landed_fault w.folder ≡ None → IsSound (after_sync w ok)
  syncs true w h e =
      let p = is_landed w.folder e in
      let u = h.up p.0 in
      let g = growing w.folder.step w p.1 u.stage in
      let title = t.journal w.home in
      let file = (w.disk.journals w.home).file in
      let whole : File = record { seen = file.seen; kept = file.seen; whole = true; spoiled = false } in
      let is : forced true file ≡ whole = cond-false file.spoiled file whole g.unspoiled in
      let one = one_flies title (1 + length w.log) w.folder.flying w.flying g.long g.one p.2 in
      let back = frames_of title (1 + length w.log) w.flying in
      rewritten w (put w.logs w.home (w.log ++ w.flying)) (w.folder.count + 1) (w.folder.end + w.folder.flying) 0 (forced true) (w.log ++ w.flying) [] (w.acknowledged ++ w.flying) w.memory w.texts h p.0 p.1
      (record {
        others = λ k apart. put_other w.logs w.home (w.log ++ w.flying) k apart;
        this = put_same w.logs w.home (w.log ++ w.flying);
        each = each_append w.log w.flying (h.stands g.some).each u.flies;
        kept = subst (λ (x : File). Front title (w.log ++ w.flying) x.kept) (sym is) u.seen;
        unspoiled = ap (λ (x : File). x.spoiled) is;
        flies_each = tt;
        seen = subst (λ (x : File). Front title ((w.log ++ w.flying) ++ []) x.seen) (sym is) (subst (λ (ps : Payloads). Front title ps file.seen) (sym (append-nil (w.log ++ w.flying))) u.seen);
        many = omega (arith, g.many, one, length-append w.log w.flying);
        far = omega (arith, g.far, g.long, ap length (frames_of-append title 1 w.log w.flying), length-append (frames_of title 1 w.log) back);
        long = refl;
        one = omega arith;
        due = λ ps due. due_more w.log w.flying w.acknowledged ps due;
        held = held_now w.disk w.home w.log w.flying w.acknowledged h.held;
        remembers = λ a. u.remembers (ap (list_any has) (sym (append-nil (w.acknowledged ++ w.flying))) ∙ a);
      })
  syncs false w h e =
      let p = is_landed w.folder e in
      let g = growing w.folder.step w p.1 (h.up p.0).stage in
      let is = g.is in
      let s = h.stands g.some in
      let there = grown_is w.home w.folder.newest (forced false) w.disk is in
      record {
        logged = logged_put w.disk.journals w.folder.newest (changed (forced false) (w.disk.journals w.folder.newest)) w.logs w.logs h.logged (λ k apart. refl) (let l = h.logged w.folder.newest in record { each = l.each; kept = l.kept; seen = l.seen });
        this = h.this;
        stands = λ up. subst (Stands (t.journal w.home) w.log) (sym there) (record { now = s.now; sure = s.sure; each = s.each; kept = s.kept; seen = s.seen });
        ungrown = h.ungrown;
        named = h.named;
        held = λ a. IsHeld-put w.disk (on_file w.folder.newest (forced false) w.disk) w.home w.log refl (λ k below. ungrown w.folder.newest (forced false) w.disk k (omega (arith, below, is))) (h.held a);
        up = λ e. absurd (true≢false e);
      }

  -- A crash.

  Stands-left : (title : List ℕ) (log : Payloads) (j : Journal) (here : Bool) (bytes : List ℕ) → Stands title log j → IsOneOf j.here.may here → MayLeave j.file bytes → Stands title log (record { file = at_rest bytes; here = settled here })
  Stands-left title log j here bytes s name left =
      let there : here ≡ true = sym (IsOneOf-only true here (subst (λ (ms : List Bool). IsOneOf ms here) s.sure name)) in
      record { now = there; sure = ap (λ (b : Bool). b ∷ []) there; each = s.each; kept = Front-left title log j.file bytes left s.kept; seen = Front-left title log j.file bytes left s.kept }

  good_left : (there : Option File) (left : Option (List ℕ)) → MayLeaveFile there left → IsGood there → IsGood (option_at_rest left)
  good_left None left may good = absurd cc
  good_left (Some f) None may good = absurd may
  good_left (Some f) (Some bytes) may good =
      let same : f ≡ good.file = cc in
      record {
        file = at_rest bytes;
        is = refl;
        payloads = good.payloads;
        each = good.each;
        whole = refl;
        kept = whole_left f bytes (ap (λ (g : File). g.whole) same ∙ good.whole) may ∙ ap (λ (g : File). g.kept) same ∙ good.kept;
        seen = whole_left f bytes (ap (λ (g : File). g.whole) same ∙ good.whole) may ∙ ap (λ (g : File). g.kept) same ∙ good.kept;
        holds = good.holds;
      }

  held_left : (d : Disk) (newest : ℕ) (log : Payloads) (o : Outcome) → IsOutcome d o → IsHeld d newest log → IsHeld (after_crash o) newest log
  held_left d newest log o left (inl good) =
      let s = left.snapshot in
      inl (λ there among. subst IsGood (IsOneOf-only (option_at_rest o.snapshot) there among) (good_left s.0 o.snapshot s.2 (good s.0 s.1)))
  held_left d newest log o left (inr (inl (k, below, has_it))) =
      inr (inl (k, below, record { payloads = has_it.payloads; stands = Stands-left (t.journal k) has_it.payloads (d.journals k) (o.here k) (o.bytes k) has_it.stands (left.names k) (left.journals k); holds = has_it.holds }))
  held_left d newest log o left (inr (inr logged)) = inr (inr logged)

  crashes : (w : World) (o : Outcome) → IsSound w → IsOutcome w.disk o → IsSound (after_end w (ended w.folder) (after_crash o) [])
  crashes w o h left =
      record {
        logged = λ k. let l = h.logged k in record { each = l.each; kept = Front-left (t.journal k) (w.logs k) (w.disk.journals k).file (o.bytes k) (left.journals k) l.kept; seen = Front-left (t.journal k) (w.logs k) (w.disk.journals k).file (o.bytes k) (left.journals k) l.kept };
        this = h.this;
        stands = λ up. Stands-left (t.journal w.home) w.log (w.disk.journals w.home) (o.here w.home) (o.bytes w.home) (h.stands up) (left.names w.home) (left.journals w.home);
        ungrown = h.ungrown;
        named = inl refl;
        held = λ a. held_left w.disk w.home w.log o left (h.held a);
        up = λ e. absurd (true≢false e);
      }

  starts : (w : World) (oldest newest : ℕ) (read : Payloads) → IsSound w → ((k : ℕ) → (w.disk.journals k).here.now ≡ true → k ≤ newest) → (list_any has w.acknowledged ≡ true → list_any has read ≡ true) → IsSound (after_end w (opened oldest newest) w.disk read)
  starts w oldest newest read h above knows =
      record {
        logged = h.logged;
        this = h.this;
        stands = h.stands;
        ungrown = h.ungrown;
        named = h.named;
        held = h.held;
        up = λ is. record {
          flies = tt;
          seen = subst (λ (ps : Payloads). Front (t.journal w.home) ps (w.disk.journals w.home).file.seen) (sym (append-nil w.log)) (subst (λ (ps : Payloads). Front (t.journal w.home) ps (w.disk.journals w.home).file.seen) h.this (h.logged w.home).seen);
          stage = above;
          remembers = λ a. knows (ap (list_any has) (sym (append-nil w.acknowledged)) ∙ a);
        };
      }

  -- the payloads that are read of bytes that begin with frames
  read_front : (title : List ℕ) (payloads : Payloads) (bytes : List ℕ) → AllByRecursion IsPayload payloads → Front title payloads bytes → list_any has payloads ≡ true → IsReadIn has title bytes
  read_front title payloads bytes each front holds found rest reading =
      let on = on_behind title bytes front.rest rest payloads found each front.is reading in
      ap (list_any has) on.first ∙ list_any-append has payloads on.more ∙ or_left (list_any has payloads) (list_any has on.more) holds

  good_read : (there : Option File) (left : Option (List ℕ)) → MayLeaveFile there left → IsGood there → (bytes : List ℕ) × (left ≡ Some bytes) × IsReadIn has t.snapshot bytes
  good_read None left may good = absurd cc
  good_read (Some f) None may good = absurd may
  good_read (Some f) (Some bytes) may good =
      let same : f ≡ good.file = cc in
      let is : bytes ≡ frames_of t.snapshot 1 good.payloads = whole_left f bytes (ap (λ (g : File). g.whole) same ∙ good.whole) may ∙ ap (λ (g : File). g.kept) same ∙ good.kept in
      (bytes, refl, read_front t.snapshot good.payloads bytes good.each (record { rest = []; is = is ∙ sym (append-nil (frames_of t.snapshot 1 good.payloads)) }) good.holds)

  stands_read : (k : ℕ) (payloads : Payloads) (d : Disk) (o : Outcome) → IsOutcome d o → Stands (t.journal k) payloads (d.journals k) → list_any has payloads ≡ true → IsRead has t o
  stands_read k payloads d o left stands holds =
      let after = Stands-left (t.journal k) payloads (d.journals k) (o.here k) (o.bytes k) stands (left.names k) (left.journals k) in
      inr (k, after.now, read_front (t.journal k) payloads (o.bytes k) after.each after.kept holds)

  held_read : (d : Disk) (newest : ℕ) (log : Payloads) (o : Outcome) → IsOutcome d o → (list_any has log ≡ true → Stands (t.journal newest) log (d.journals newest)) → IsHeld d newest log → IsRead has t o
  held_read d newest log o left stands (inl good) = let s = left.snapshot in inl (good_read s.0 o.snapshot s.2 (good s.0 s.1))
  held_read d newest log o left stands (inr (inl (k, below, has_it))) = stands_read k has_it.payloads d o left has_it.stands has_it.holds
  held_read d newest log o left stands (inr (inr logged)) = stands_read newest log d o left (stands logged) logged

  good_seen : (there : Option File) → IsGood there → (bytes : List ℕ) × (option_seen there ≡ Some bytes) × IsReadIn has t.snapshot bytes
  good_seen None good = absurd cc
  good_seen (Some f) good =
      let same : f ≡ good.file = cc in
      let is : f.seen ≡ frames_of t.snapshot 1 good.payloads = ap (λ (g : File). g.seen) same ∙ good.seen in
      (f.seen, refl, read_front t.snapshot good.payloads f.seen good.each (record { rest = []; is = is ∙ sym (append-nil (frames_of t.snapshot 1 good.payloads)) }) good.holds)

  stands_seen : (k : ℕ) (payloads : Payloads) (d : Disk) → Stands (t.journal k) payloads (d.journals k) → list_any has payloads ≡ true → IsRead has t (as_seen d)
  stands_seen k payloads d stands holds = inr (k, stands.now, read_front (t.journal k) payloads (d.journals k).file.seen stands.each stands.seen holds)

  seen_read : (d : Disk) (newest : ℕ) (log : Payloads) → IsOneOf d.snapshot.may d.snapshot.now → (list_any has log ≡ true → Stands (t.journal newest) log (d.journals newest)) → IsHeld d newest log → IsRead has t (as_seen d)
  seen_read d newest log now stands (inl good) = inl (good_seen d.snapshot.now (good d.snapshot.now now))
  seen_read d newest log now stands (inr (inl (k, below, has_it))) = stands_seen k has_it.payloads d has_it.stands has_it.holds
  seen_read d newest log now stands (inr (inr logged)) = stands_seen newest log d (stands logged) logged

  -- The file with the ID.

  id_changes : (w : World) (d : Disk) → IsSound w → w.folder.ended ≡ true → d.journals ≡ w.disk.journals → d.snapshot ≡ w.disk.snapshot → IsSound (with_disk w d)
  id_changes w d h closed same snap =
      let journal : (k : ℕ) → d.journals k ≡ w.disk.journals k = λ k i. same i k in
      record {
        logged = λ k. subst (λ (j : Journal). IsLogged (t.journal k) (w.logs k) j.file) (sym (journal k)) (h.logged k);
        this = h.this;
        stands = λ up. subst (Stands (t.journal w.home) w.log) (sym (journal w.home)) (h.stands up);
        ungrown = h.ungrown;
        named = subst (λ (name : Name (Option File)). IsOneOf name.may name.now) (sym snap) h.named;
        held = λ a. IsHeld-put w.disk d w.home w.log snap (λ k below. journal k) (h.held a);
        up = λ going. absurd (true≢false (sym closed ∙ going));
      }

  names_sync : (w : World) (ok : Bool) → IsSound w → w.folder.ended ≡ true → IsSound (with_disk w (sync_folder ok w.disk))
  names_sync w ok h closed =
      record {
        logged = h.logged;
        this = h.this;
        stands = λ up. Stands-named ok (t.journal w.home) w.log (w.disk.journals w.home) (h.stands up);
        ungrown = h.ungrown;
        named = now-named ok w.disk.snapshot h.named;
        held = λ a. IsHeld-named ok w.disk w.home w.log h.named (h.held a);
        up = λ going. absurd (true≢false (sym closed ∙ going));
      }

  -- Histories.

  kept : (w : World) (e : Event) → IsSound w → IsAllowed has t w e → IsSound (happens t w e)
  kept w Begin h a = unless_both (begin_fault w.folder) (moved_to w w.logs (begun w.folder) w.disk w.parts w.texts) w IsSound (λ e. let b = is_begin w.folder e in begins w.folder.step w h b.0 b.1) h
  kept w (Answer ok) h a = unless_both (answer_fault w.folder ok) (after_answer w ok) w IsSound (λ e. let b = is_answer w.folder ok e in answers w.folder.step ok w h b.0 b.1 b.2) h
  kept w (Piece payload ok landed) h a = unless_both (piece_fault w.folder (length payload)) (after_piece t w payload ok landed) w IsSound (λ e. pieces w.folder.step ok w payload landed h e a) h
  kept w (Put payload ok landed) h a = unless_both (put_fault w.folder (length payload)) (after_put t w payload ok landed) w IsSound (λ e. puts ok w payload landed h e) h
  kept w (Grow at landed) h a = unless_both (grow_fault w.folder) (after_grow w at landed) w IsSound (λ e. grows w at landed h e a) h
  kept w (Sync ok) h a = unless_both (landed_fault w.folder) (after_sync w ok) w IsSound (λ e. syncs ok w h e) h
  kept w (WriteId text ok landed) h a = unless_both (id_fault w.folder) (with_disk w (write_id (cond ok text landed) w.disk)) w IsSound (λ e. id_changes w (write_id (cond ok text landed) w.disk) h (is_closed w.folder e) refl refl) h
  kept w (SyncId ok) h a = unless_both (id_fault w.folder) (with_disk w (sync_id ok w.disk)) w IsSound (λ e. id_changes w (sync_id ok w.disk) h (is_closed w.folder e) refl refl) h
  kept w RenameId h a = unless_both (id_fault w.folder) (with_disk w (rename_id w.disk)) w IsSound (λ e. id_changes w (rename_id w.disk) h (is_closed w.folder e) refl refl) h
  kept w (NameId ok) h a = unless_both (id_fault w.folder) (with_disk w (sync_folder ok w.disk)) w IsSound (λ e. names_sync w ok h (is_closed w.folder e)) h
  kept w (Crash o) h a = crashes w o h a
  kept w (Start oldest newest read) h a = starts w oldest newest read h a.1 (λ been. a.2 (seen_read w.disk w.home w.log h.named (λ logged. h.stands (has_grown w h logged)) (h.held been)))

  pub always : (events : List Event) (w : World) → IsSound w → AreAllowed has t events w → IsSound (history t events w)
  always [] w h a = h
  always (e ∷ events) w h a = always events (happens t w e) (kept w e h a.0) a.1

  pub at_first : IsSound fresh
  at_first =
      record {
        logged = λ k. nothing_logged (t.journal k);
        this = refl;
        stands = λ up. absurd (omega (arith, up));
        ungrown = λ e. refl;
        named = inl refl;
        held = λ a. absurd (false≢true a);
        up = λ e. absurd (true≢false e);
      }

  -- of each journal, the payloads that were acknowledged since it was made are left at the start
  pub journal_left : (w : World) → IsSound w → (o : Outcome) → IsLeft w.disk o → (k : ℕ) → AllByRecursion IsPayload (w.logs k) × Front (t.journal k) (w.logs k) (o.bytes k)
  journal_left w h o (inl left) k = let l = h.logged k in (l.each, Front-left (t.journal k) (w.logs k) (w.disk.journals k).file (o.bytes k) (left.journals k) l.kept)
  journal_left w h o (inr is) k = let l = h.logged k in (l.each, subst (λ (x : Outcome). Front (t.journal k) (w.logs k) (x.bytes k)) (sym is) l.seen)

  sound_read : (w : World) → IsSound w → list_any has w.acknowledged ≡ true → (o : Outcome) → IsLeft w.disk o → IsRead has t o
  sound_read w h a o (inl left) = held_read w.disk w.home w.log o left (λ logged. h.stands (has_grown w h logged)) (h.held a)
  sound_read w h a o (inr is) = subst (IsRead has t) (sym is) (seen_read w.disk w.home w.log h.named (λ logged. h.stands (has_grown w h logged)) (h.held a))

pub acknowledged_is_read : AcknowledgedIsRead
acknowledged_is_read has t events allowed a o left = sound_read has t (history t events fresh) (always has t events fresh (at_first has t) allowed) a o left

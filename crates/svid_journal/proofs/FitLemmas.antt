-- The numbers of a folder stay those of a folder.
use Rattle.std.proofs.Common.{◌≡◌, ◌⊎◌, inl, inr, ⊎_elim, ℕ, suc, ◌+◌, ◌<◌, ◌≤◌, ◌^◌, Bool, true, false, cond, List, [], ◌∷◌, length, refl, sym, ◌∙◌, ap, arith, None}
use Rattle.std.specs.Prelude.{◌==◌, ◌&&◌, ◌||◌, not, nat_lt, nat_le}
use Rattle.std.proofs.lemmas.Bool.{cond_both, leb-false, le-leb, false≢true, true≢false, eq-eqb}
use Rattle.std.specs.List.{AllByRecursion}
use Rattle.svid_journal.specs.declared.step.Step.{Step}
use Rattle.svid_journal.specs.declared.step.Step.TheVariants.{Idle, Starting, Entering, Creating, Naming, Writing, Ending, Syncing, Renaming, Publishing, Removing}
use Rattle.svid_journal.specs.declared.fault.Fault.TheVariants.{Unfit, NotGrowing, Busy, Flying, NotWriting, TooLong, Full}
use Rattle.svid_journal.specs.declared.folder.Folder.{Folder}
use Rattle.svid_journal.specs.Frames.{gap, frame_len}
use Rattle.svid_journal.specs.Folder.{is_fit, is_starting, is_idle, is_writing, gap_of, gap_in, begin_fault, answer_fault, put_fault, landed_fault, piece_fault, open_fault, opened, begun, at_step, grown, removed, given_up, answered, flown, landed, lost, ended, pieced}
use Rattle.svid_journal.specs.History.{Titles, World, Event, after_answer, after_piece, after_put, after_grow, after_sync, grow_fault, id_fault, with_disk, happens, history, fresh}
use Rattle.svid_journal.specs.Disk.{sync_folder, write_id, sync_id, rename_id}
use Rattle.svid_journal.specs.History.Event.{Begin, Answer, Piece, Put, Grow, Sync, WriteId, SyncId, RenameId, NameId, Crash, Start}
use Rattle.svid_journal.specs.Promises.{StartsFit, NumbersStayFit}
use Rattle.svid_journal.proofs.HistoryLemmas.{is_answer, first_none, ready, unless_both, is_begin, is_due, is_piece, is_put, is_landed, in_order}

-- the next journal grows before another call is taken
abbrev wants_next : Step → Bool
wants_next Idle = false
wants_next Starting = true
wants_next Entering = true
wants_next Creating = true
wants_next Naming = true
wants_next Writing = false
wants_next Ending = false
wants_next Syncing = false
wants_next Renaming = false
wants_next Publishing = false
wants_next Removing = false

-- the numbers of a folder between calls
record Fits (f : Folder) : Type 0 where
  newest : f.newest < 2 ^ 62
  oldest : f.oldest ≤ 2 ^ 62
  order : f.oldest + gap_in f ≤ f.newest + 1
  count : f.count < 2 ^ 62
  end : f.end < 2 ^ 62
  flying : f.flying ≤ 2 ^ 25
  pieces : f.pieces < 2 ^ 62
  still : (f.flying ≡ 0) ⊎ (is_starting f.step ≡ false)
  -- there is room for the frame in flight, and for the next journal
  room : (f.flying ≡ 0) ⊎ ((f.count + 1 < 2 ^ 62) × (f.end + f.flying < 2 ^ 62))
  next : (f.ended ≡ true) ⊎ ((wants_next f.step ≡ false) ⊎ (f.newest + 1 < 2 ^ 62))

and_true : (a b : Bool) → a ≡ true → b ≡ true → (a && b) ≡ true
and_true true b e d = d
and_true false b e d = absurd (false≢true e)

still_is : (flying : ℕ) (starting : Bool) → (flying ≡ 0) ⊎ (starting ≡ false) → (flying == 0 || not starting) ≡ true
still_is flying starting (inl none) = ap (λ (b : Bool). b || not starting) (eq-eqb flying 0 none)
still_is flying true (inr grows) = absurd (true≢false grows)
still_is flying false (inr grows) = or_any (flying == 0)
  where
    or_any : (b : Bool) → (b || true) ≡ true
    or_any true = refl
    or_any false = refl

fit_of : (f : Folder) → Fits f → is_fit f ≡ true
fit_of f h =
    and_true _ (f.flying == 0 || not (is_starting f.step))
    (and_true _ (nat_lt f.pieces (2 ^ 62))
    (and_true _ (nat_le f.flying (2 ^ 25))
    (and_true _ (nat_lt f.end (2 ^ 62))
    (and_true _ (nat_lt f.count (2 ^ 62))
    (and_true _ (nat_le (f.oldest + gap_in f) (f.newest + 1)) (and_true (nat_lt f.newest (2 ^ 62)) (nat_le f.oldest (2 ^ 62)) (le-leb (suc f.newest) (2 ^ 62) (omega (arith, h.newest))) (le-leb f.oldest (2 ^ 62) h.oldest)) (le-leb (f.oldest + gap_in f) (f.newest + 1) h.order))
    (le-leb (suc f.count) (2 ^ 62) (omega (arith, h.count)))) (le-leb (suc f.end) (2 ^ 62) (omega (arith, h.end)))) (le-leb f.flying (2 ^ 25) h.flying)) (le-leb (suc f.pieces) (2 ^ 62) (omega (arith, h.pieces)))) (still_is f.flying (is_starting f.step) h.still)

order_at : (f : Folder) (step : Step) (far : ℕ) → f.oldest + gap_of step ≤ far → f.oldest + cond f.ended 0 (gap_of step) ≤ far
order_at f step far order = cond_both f.ended 0 (gap_of step) (λ (n : ℕ). f.oldest + n ≤ far) (λ e. omega (arith, order)) (λ e. order)

stepped : (f : Folder) (step : Step) → Fits f → f.oldest + gap_of step ≤ f.newest + 1 → (f.flying ≡ 0) ⊎ (is_starting step ≡ false) → (wants_next step ≡ false) ⊎ (f.newest + 1 < 2 ^ 62) → Fits (at_step f step)
stepped f step h order still next =
    record { newest = h.newest; oldest = h.oldest; order = order_at f step (f.newest + 1) order; count = h.count; end = h.end; flying = h.flying; pieces = h.pieces; still = still; room = h.room; next = inr next }

over : (f : Folder) → Fits f → Fits (ended f)
over f h =
    record { newest = h.newest; oldest = h.oldest; order = omega (arith, h.order); count = h.count; end = h.end; flying = omega arith; pieces = h.pieces; still = inl refl; room = inl refl; next = inl refl }

grows : (f : Folder) (step : Step) → Fits f → f.newest + 1 < 2 ^ 62 → f.oldest + gap_of step ≤ f.newest + 1 + 1 → wants_next step ≡ false → Fits (grown f step)
grows f step h room order next =
    record { newest = room; oldest = h.oldest; order = order_at f step (f.newest + 1 + 1) order; count = omega arith; end = omega arith; flying = omega arith; pieces = omega arith; still = inl refl; room = inl refl; next = inr (inl next) }

has_next : (f : Folder) → Fits f → f.ended ≡ false → wants_next f.step ≡ true → f.newest + 1 < 2 ^ 62
has_next f h going wants = at h.next
  where
    at : (f.ended ≡ true) ⊎ ((wants_next f.step ≡ false) ⊎ (f.newest + 1 < 2 ^ 62)) → f.newest + 1 < 2 ^ 62
    at (inl over) = absurd (true≢false (sym over ∙ going))
    at (inr (inl none)) = absurd (true≢false (sym wants ∙ none))
    at (inr (inr room)) = room

unflown : (f : Folder) → Fits f → is_starting f.step ≡ true → f.flying ≡ 0
unflown f h starts = ⊎_elim (λ none. none) (λ grows. absurd (true≢false (sym starts ∙ grows))) h.still

removes : (f : Folder) → Fits (at_step f Removing) → f.ended ≡ false → f.oldest + 2 ≤ f.newest + 1 → Fits (removed (at_step f Removing))
removes f h going order =
    let last = nat_le f.newest (f.oldest + 1) in
    cond_both last Idle Removing
    (λ (step : Step). Fits (record { step = step; oldest = f.oldest + 1; newest = f.newest; ended = f.ended; count = f.count; end = f.end; flying = f.flying; pieces = f.pieces }))
    (λ e. record { newest = h.newest; oldest = omega (arith, order, h.newest); order = order_at (record { step = Idle; oldest = f.oldest + 1; newest = f.newest; ended = f.ended; count = f.count; end = f.end; flying = f.flying; pieces = f.pieces }) Idle (f.newest + 1) (omega (arith, order)); count = h.count; end = h.end; flying = h.flying; pieces = h.pieces; still = inr refl; room = h.room; next = inr (inl refl) })
    (λ e. record { newest = h.newest; oldest = omega (arith, order, h.newest); order = order_at (record { step = Removing; oldest = f.oldest + 1; newest = f.newest; ended = f.ended; count = f.count; end = f.end; flying = f.flying; pieces = f.pieces }) Removing (f.newest + 1) (omega (arith, order, leb-false f.newest (f.oldest + 1) e)); count = h.count; end = h.end; flying = h.flying; pieces = h.pieces; still = inr refl; room = h.room; next = inr (inl refl) })

answers : (step : Step) (ok : Bool) (f : Folder) → Fits (at_step f step) → f.ended ≡ false → f.oldest + gap_of step ≤ f.newest + 1 → is_idle step ≡ false → Fits (answered (at_step f step) ok)
answers Idle ok f h going order due = absurd (true≢false due)
answers Starting true f h going order due = stepped (at_step f Starting) Entering h order (inl (unflown (at_step f Starting) h refl)) (inr (has_next (at_step f Starting) h going refl))
answers Starting false f h going order due = over (at_step f Starting) h
answers Entering true f h going order due = grows (at_step f Entering) Idle h (has_next (at_step f Entering) h going refl) (omega (arith, order)) refl
answers Entering false f h going order due = over (at_step f Entering) h
answers Creating true f h going order due = stepped (at_step f Creating) Naming h order (inr refl) (inr (has_next (at_step f Creating) h going refl))
answers Creating false f h going order due = stepped (at_step f Creating) Idle h order (inr refl) (inl refl)
answers Naming true f h going order due = grows (at_step f Naming) Writing h (has_next (at_step f Naming) h going refl) (omega (arith, order)) refl
answers Naming false f h going order due = over (at_step f Naming) h
answers Writing true f h going order due = h
answers Writing false f h going order due = stepped (at_step f Writing) Idle h (omega (arith, order)) (inr refl) (inl refl)
answers Ending true f h going order due = stepped (at_step f Ending) Syncing h order (inr refl) (inl refl)
answers Ending false f h going order due = stepped (at_step f Ending) Idle h (omega (arith, order)) (inr refl) (inl refl)
answers Syncing true f h going order due = stepped (at_step f Syncing) Renaming h order (inr refl) (inl refl)
answers Syncing false f h going order due = stepped (at_step f Syncing) Idle h (omega (arith, order)) (inr refl) (inl refl)
answers Renaming true f h going order due = stepped (at_step f Renaming) Publishing h order (inr refl) (inl refl)
answers Renaming false f h going order due = stepped (at_step f Renaming) Idle h (omega (arith, order)) (inr refl) (inl refl)
answers Publishing true f h going order due = stepped (at_step f Publishing) Removing h order (inr refl) (inl refl)
answers Publishing false f h going order due = over (at_step f Publishing) h
answers Removing true f h going order due = removes f h going order
answers Removing false f h going order due = stepped (at_step f Removing) Idle h (omega (arith, order)) (inr refl) (inl refl)

begins : (step : Step) (f : Folder) → Fits (at_step f step) → is_idle step ≡ true → f.newest + 1 < 2 ^ 62 → f.oldest + gap_of step ≤ f.newest + 1 → Fits (begun (at_step f step))
begins Idle f h idle room order = stepped (at_step f Idle) Creating h order (inr refl) (inr room)
begins Starting f h idle room order = absurd (false≢true idle)
begins Entering f h idle room order = absurd (false≢true idle)
begins Creating f h idle room order = absurd (false≢true idle)
begins Naming f h idle room order = absurd (false≢true idle)
begins Writing f h idle room order = absurd (false≢true idle)
begins Ending f h idle room order = absurd (false≢true idle)
begins Syncing f h idle room order = absurd (false≢true idle)
begins Renaming f h idle room order = absurd (false≢true idle)
begins Publishing f h idle room order = absurd (false≢true idle)
begins Removing f h idle room order = absurd (false≢true idle)

room_to_begin : (f : Folder) → begin_fault f ≡ None → (f.newest + 1 < 2 ^ 62) × (f.oldest + gap_of f.step ≤ f.newest + 1)
room_to_begin f e =
    let full = (Full, nat_le (2 ^ 62) (f.newest + 1)) ∷ [] in
    let r = ready f ((Busy, not (is_idle f.step)) ∷ full) e in
    let one = first_none Busy (not (is_idle f.step)) full r.rest in
    (leb-false (2 ^ 62) (f.newest + 1) (first_none Full (nat_le (2 ^ 62) (f.newest + 1)) [] one.1).0, in_order f r.fit r.going)

order_of : (f : Folder) (ok : Bool) → answer_fault f ok ≡ None → (f.ended ≡ false) × (f.oldest + gap_of f.step ≤ f.newest + 1)
order_of f ok e = let a = is_answer f ok e in (a.0, a.1)

room_to_put : (f : Folder) (len : ℕ) → put_fault f len ≡ None → (f.count + 1 < 2 ^ 62) × (f.end + 2 ^ 25 < 2 ^ 62)
room_to_put f len e =
    let last = (Full, nat_le (2 ^ 62) (f.end + 2 ^ 25)) ∷ [] in
    let full = (Full, nat_le (2 ^ 62) (f.count + 1)) ∷ last in
    let long = (TooLong, nat_le (2 ^ 24) len) ∷ full in
    let flies = (Flying, nat_lt 0 f.flying) ∷ long in
    let r = ready f ((NotGrowing, is_starting f.step) ∷ flies) e in
    let one = first_none NotGrowing (is_starting f.step) flies r.rest in
    let two = first_none Flying (nat_lt 0 f.flying) long one.1 in
    let three = first_none TooLong (nat_le (2 ^ 24) len) full two.1 in
    let four = first_none Full (nat_le (2 ^ 62) (f.count + 1)) last three.1 in
    (leb-false (2 ^ 62) (f.count + 1) four.0, leb-false (2 ^ 62) (f.end + 2 ^ 25) (first_none Full (nat_le (2 ^ 62) (f.end + 2 ^ 25)) [] four.1).0)

room_to_piece : (f : Folder) (len : ℕ) → piece_fault f len ≡ None → (f.pieces + 1 < 2 ^ 62) × (f.ended ≡ false) × (f.oldest + gap_of f.step ≤ f.newest + 1)
room_to_piece f len e =
    let last = (Full, nat_le (2 ^ 62) (f.pieces + 1)) ∷ [] in
    let long = (TooLong, nat_le (2 ^ 24) len) ∷ last in
    let r = ready f ((NotWriting, not (is_writing f.step)) ∷ long) e in
    let one = first_none NotWriting (not (is_writing f.step)) long r.rest in
    let two = first_none TooLong (nat_le (2 ^ 24) len) last one.1 in
    (leb-false (2 ^ 62) (f.pieces + 1) (first_none Full (nat_le (2 ^ 62) (f.pieces + 1)) [] two.1).0, r.going, in_order f r.fit r.going)

short_frame : (len : ℕ) → len < 2 ^ 24 → frame_len len ≤ 2 ^ 25
unfolding gap
short_frame len short = omega (arith, short)

flies : (f : Folder) (len : ℕ) → Fits f → put_fault f len ≡ None → Fits (flown f len)
flies f len h e =
    let p = is_put f len e in
    let r = room_to_put f len e in
    let short = short_frame len p.2 in
    record { newest = h.newest; oldest = h.oldest; order = h.order; count = h.count; end = h.end; flying = short; pieces = h.pieces; still = inr p.1; room = inr (r.0, omega (arith, r.1, short)); next = h.next }

drops : (f : Folder) → Fits f → Fits (lost f)
drops f h = record { newest = h.newest; oldest = h.oldest; order = h.order; count = h.count; end = h.end; flying = omega arith; pieces = h.pieces; still = inl refl; room = inl refl; next = h.next }

lands : (f : Folder) → Fits f → (f.flying == 0) ≡ false → Fits (landed f)
lands f h some =
    let room = ⊎_elim (λ none. absurd (true≢false (sym (eq-eqb f.flying 0 none) ∙ some))) (λ r. r) h.room in
    record { newest = h.newest; oldest = h.oldest; order = h.order; count = room.0; end = room.1; flying = omega arith; pieces = h.pieces; still = inl refl; room = inl refl; next = h.next }

pieces_fit : (step : Step) (ok : Bool) (f : Folder) (len : ℕ) → Fits (at_step f step) → is_writing step ≡ true → f.pieces + 1 < 2 ^ 62 → f.oldest + gap_of step ≤ f.newest + 1 → Fits (cond ok (pieced (at_step f step) len) (given_up step (at_step f step)))
pieces_fit Writing false f len h writes room order = stepped (at_step f Writing) Idle h (omega (arith, order)) (inr refl) (inl refl)
pieces_fit Writing true f len h writes room order =
    cond_both (len == 0) Ending Writing
    (λ (step : Step). Fits (record { step = step; oldest = f.oldest; newest = f.newest; ended = f.ended; count = f.count; end = f.end; flying = f.flying; pieces = f.pieces + 1 }))
    (λ e. record { newest = h.newest; oldest = h.oldest; order = order_at f Ending (f.newest + 1) order; count = h.count; end = h.end; flying = h.flying; pieces = room; still = inr refl; room = h.room; next = inr (inl refl) })
    (λ e. record { newest = h.newest; oldest = h.oldest; order = order_at f Writing (f.newest + 1) order; count = h.count; end = h.end; flying = h.flying; pieces = room; still = inr refl; room = h.room; next = inr (inl refl) })
pieces_fit Idle ok f len h writes room order = absurd (false≢true writes)
pieces_fit Starting ok f len h writes room order = absurd (false≢true writes)
pieces_fit Entering ok f len h writes room order = absurd (false≢true writes)
pieces_fit Creating ok f len h writes room order = absurd (false≢true writes)
pieces_fit Naming ok f len h writes room order = absurd (false≢true writes)
pieces_fit Ending ok f len h writes room order = absurd (false≢true writes)
pieces_fit Syncing ok f len h writes room order = absurd (false≢true writes)
pieces_fit Renaming ok f len h writes room order = absurd (false≢true writes)
pieces_fit Publishing ok f len h writes room order = absurd (false≢true writes)
pieces_fit Removing ok f len h writes room order = absurd (false≢true writes)

fits_first : (oldest newest : ℕ) → newest + 1 < 2 ^ 62 → oldest < suc (newest + 1) → Fits (opened oldest newest)
fits_first oldest newest room order =
    record { newest = omega (arith, room); oldest = omega (arith, order, room); order = omega (arith, order); count = omega arith; end = omega arith; flying = omega arith; pieces = omega arith; still = inl refl; room = inl refl; next = inr (inr room) }

opens : (oldest newest : ℕ) → open_fault oldest newest ≡ None → Fits (opened oldest newest)
opens oldest newest e =
    let last = (Unfit, nat_lt (newest + 1) oldest) ∷ [] in
    let one = first_none Full (nat_le (2 ^ 62) (newest + 1)) last e in
    fits_first oldest newest (leb-false (2 ^ 62) (newest + 1) one.0) (leb-false (suc (newest + 1)) oldest (first_none Unfit (nat_lt (newest + 1) oldest) [] one.1).0)

abbrev Fit : World → Type 0
Fit w = Fits w.folder

stays : (t : Titles) (w : World) (e : Event) → Fit w → StartsFit e → Fit (happens t w e)
stays t w Begin h s =
    unless_both (begin_fault w.folder) (record { folder = begun w.folder; disk = w.disk; home = w.home; log = w.log; logs = w.logs; flying = w.flying; parts = w.parts; acknowledged = w.acknowledged; memory = w.memory; noted = w.noted; texts = w.texts }) w Fit (λ e. let r = room_to_begin w.folder e in begins w.folder.step w.folder h (is_begin w.folder e).1 r.0 r.1) h
stays t w (Answer ok) h s = unless_both (answer_fault w.folder ok) (after_answer w ok) w Fit (λ e. let o = order_of w.folder ok e in answers w.folder.step ok w.folder h o.0 o.1 (is_due w.folder ok e)) h
stays t w (Piece payload ok landed) h s =
    unless_both (piece_fault w.folder (length payload)) (after_piece t w payload ok landed) w Fit (λ e. let r = room_to_piece w.folder (length payload) e in pieces_fit w.folder.step ok w.folder (length payload) h (is_piece w.folder (length payload) e).1 r.0 r.2) h
stays t w (Put payload true landed) h s = unless_both (put_fault w.folder (length payload)) (after_put t w payload true landed) w Fit (λ e. flies w.folder (length payload) h e) h
stays t w (Put payload false landed) h s = unless_both (put_fault w.folder (length payload)) (after_put t w payload false landed) w Fit (λ e. drops (flown w.folder (length payload)) (flies w.folder (length payload) h e)) h
stays t w (Grow at landed) h s = unless_both (grow_fault w.folder) (after_grow w at landed) w Fit (λ e. h) h
stays t w (Sync true) h s = unless_both (landed_fault w.folder) (after_sync w true) w Fit (λ e. lands w.folder h (is_landed w.folder e).2) h
stays t w (Sync false) h s = unless_both (landed_fault w.folder) (after_sync w false) w Fit (λ e. over w.folder h) h
stays t w (WriteId text ok landed) h s = unless_both (id_fault w.folder) (with_disk w (write_id (cond ok text landed) w.disk)) w Fit (λ e. h) h
stays t w (SyncId ok) h s = unless_both (id_fault w.folder) (with_disk w (sync_id ok w.disk)) w Fit (λ e. h) h
stays t w RenameId h s = unless_both (id_fault w.folder) (with_disk w (rename_id w.disk)) w Fit (λ e. h) h
stays t w (NameId ok) h s = unless_both (id_fault w.folder) (with_disk w (sync_folder ok w.disk)) w Fit (λ e. h) h
stays t w (Crash left) h s = over w.folder h
stays t w (Start oldest newest read) h s = opens oldest newest s

always : (t : Titles) (events : List Event) (w : World) → Fit w → AllByRecursion StartsFit events → Fit (history t events w)
always t [] w h s = h
always t (e ∷ events) w h s = always t events (happens t w e) (stays t w e h s.0) s.1

pub numbers_stay_fit : NumbersStayFit
numbers_stay_fit t events s = fit_of (history t events fresh).folder (always t events fresh (over (opened 1 0) (opens 1 0 refl)) s)

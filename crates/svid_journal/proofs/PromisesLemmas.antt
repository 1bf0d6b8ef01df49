-- What else holds over every history.
use Rattle.std.proofs.Common.{◌≡◌, ◌≢◌, ◌⊎◌, inl, inr, ℕ, ◌+◌, Bool, true, false, cond, List, [], ◌∷◌, ◌++◌, length, take, drop, refl, sym, ◌∙◌, ap, subst, arith, append_assoc, length-append, Option, Some, None}
use Rattle.std.specs.Prelude.{◌||◌}
use Rattle.std.specs.List.{AllByRecursion}
use Rattle.std.specs.Str.{bytes_eq}
use Rattle.std.proofs.lemmas.Bool.{cases_Bool, false≢true, true≢false}
use Rattle.std.proofs.lemmas.List.{take_at, drop_at, drop_all, append-nil}
use Rattle.std.proofs.lemmas.Slice.Eq.{bytes_eq-Decides}
use Rattle.svid_journal.specs.declared.fault.Fault.{Fault}
use Rattle.svid_journal.specs.declared.folder.Folder.{Folder}
use Rattle.svid_journal.specs.declared.step.Step.{Step}
use Rattle.svid_journal.specs.declared.step.Step.TheVariants.{Idle, Starting, Entering, Creating, Naming, Writing, Ending, Syncing, Renaming, Publishing, Removing}
use Rattle.svid_journal.specs.Titles.{bytes_of}
use Rattle.svid_journal.specs.Frames.{tag_of, numbers_of, gap, sealed, frame_of, frames_of, IsPayload, IsReading}
use Rattle.svid_journal.specs.Reading.{HasLater}
use Rattle.svid_journal.specs.Folder.{is_starting, is_idle, is_writing, due_at, at_step, given_up, ended, opened, begun, begin_fault, answer_fault, put_fault, landed_fault, piece_fault}
use Rattle.svid_journal.specs.History.{Titles, titles_of, World, Event, after_answer, after_piece, after_put, after_grow, after_sync, after_end, unless, grow_fault, id_fault, with_disk, happens, history, fresh, IsAllowed, AreAllowed, IsIdAllowed, IsIdKept, IsRead}
use Rattle.svid_journal.specs.Disk.{as_seen, sync_folder, write_id, sync_id, rename_id}
use Rattle.svid_journal.specs.History.Event.{Begin, Answer, Piece, Put, Grow, Sync, WriteId, SyncId, RenameId, NameId, Crash, Start}
use Rattle.svid_journal.specs.Promises.{Among, IsOfAnother, IsAsWritten, MakesUpNoTag, IsClash, EachAppended, OnlyAppended, JournalsAreRead, NothingElseIsRead, DamageIsSeen, IsNoStart, EndedAcknowledgesNothing, is_folder_sync, FailuresEnd, TornIsAsWritten, example, ExampleIsAllowed}
use Rattle.svid_journal.proofs.FramesLemmas.{head_front, frames_of-append, frames_of-push, each_push}
use Rattle.svid_journal.proofs.CrashLemmas.{damage_seen, on_behind}
use Rattle.svid_journal.proofs.ReadingLemmas.{too_short, zeros_begin_none, filler_begins_none}
use Rattle.svid_journal.proofs.HistoryLemmas.{unless_both, is_due, is_unflown, Front, is_begin, is_answer, is_piece, is_put, is_grow, is_landed, always, at_first, journal_left}

-- Nothing else is read.

-- a frame in bytes that are as they were written has the tag of one of the texts
record HasTag (title : List ℕ) (number : ℕ) (texts : List (List ℕ)) (payload : List ℕ) : Type 0 where
  text : List ℕ
  written : Among texts text
  one_tag : tag_of (sealed 2 title number payload) ≡ tag_of text

has_tag : (title : List ℕ) (number : ℕ) (texts : List (List ℕ)) (payload bytes behind : List ℕ) → IsPayload payload → bytes ≡ frame_of title number payload ++ behind → IsAsWritten texts title number bytes → HasTag title number texts payload
has_tag title number texts payload bytes behind fits stands written =
    let found = written payload behind fits stands in
    record { text = found.0; written = found.1; one_tag = sym (head_front 2 title number payload bytes behind stands) ∙ found.2 }

pub torn_is_as_written : TornIsAsWritten
torn_is_as_written texts title number bytes (inl short) payload behind fits stands = absurd (too_short 2 title number payload behind bytes short stands)
torn_is_as_written texts title number bytes (inr (inl zeros)) payload behind fits stands = absurd (zeros_begin_none 2 title number bytes (omega arith, omega arith) zeros payload behind fits stands)
torn_is_as_written texts title number bytes (inr (inr filled)) payload behind fits stands = absurd (filler_begins_none 2 title number bytes (omega arith, omega arith) filled payload behind fits stands)

-- a text that is sealed under a title belongs to no other file
another : (title text : List ℕ) (number : ℕ) (payload : List ℕ) → length title ≡ 31 → IsOfAnother title text → sealed 2 title number payload ≢ text
unfolding sealed
another title text number payload long other e = other (ap (λ (x : List ℕ). take 31 (drop 1 x)) (sym e) ∙ take_at title (numbers_of 2 number payload ++ payload) 31 long)

-- a text that equals the sealed one belongs to this file
in_texts : (title sealed_one : List ℕ) (others texts : List (List ℕ)) → ((text : List ℕ) → IsOfAnother title text → sealed_one ≢ text) → AllByRecursion (IsOfAnother title) others → Among (others ++ texts) sealed_one → Among texts sealed_one
in_texts title one [] texts apart all among = among
in_texts title one (o ∷ others) texts apart all (inl is) = absurd (apart o all.0 (sym is))
in_texts title one (o ∷ others) texts apart all (inr among) = in_texts title one others texts apart all.1 among

appended_or_clash : (title : List ℕ) (number : ℕ) (others texts : List (List ℕ)) (payload : List ℕ) → length title ≡ 31 → AllByRecursion (IsOfAnother title) others → HasTag title number (others ++ texts) payload → Among texts (sealed 2 title number payload) ⊎ IsClash (others ++ texts) title number payload
appended_or_clash title number others texts payload long all tag =
    let one = sealed 2 title number payload in
    elim (cases_Bool (bytes_eq one tag.text)) [
      | inl same ↦ inl (in_texts title one others texts (λ text other. another title text number payload long other) all (subst (Among (others ++ texts)) (sym ((bytes_eq-Decides one tag.text).0 same)) tag.written))
      | inr other ↦ inr (record { text = tag.text; written = tag.written; differs = λ e. false≢true (sym other ∙ (bytes_eq-Decides one tag.text).1 e); one_tag = tag.one_tag })
    ]

each_appended : (title bytes rest : List ℕ) (before payloads others texts : List (List ℕ)) → length title ≡ 31 → AllByRecursion (IsOfAnother title) others → MakesUpNoTag (others ++ texts) title bytes → AllByRecursion IsPayload before → AllByRecursion IsPayload payloads → bytes ≡ frames_of title 1 before ++ (frames_of title (1 + length before) payloads ++ rest)
    → EachAppended texts others title (1 + length before) payloads
each_appended title bytes rest before [] others texts long all true_to eb ep is = tt
each_appended title bytes rest before (p ∷ ps) others texts long all true_to eb ep is =
    let number = 1 + length before in
    let frame = frame_of title number p in
    let back = frames_of title (number + 1) ps in
    let stands : frames_of title number (p ∷ ps) ++ rest ≡ frame ++ (back ++ rest) = append_assoc frame back rest in
    let tag = has_tag title number (others ++ texts) p (frames_of title number (p ∷ ps) ++ rest) (back ++ rest) ep.0 stands (true_to before (frames_of title number (p ∷ ps) ++ rest) eb is) in
    let more : bytes ≡ frames_of title 1 (before ++ p ∷ []) ++ (back ++ rest) =
    is ∙ ap (λ (x : List ℕ). frames_of title 1 before ++ x) stands ∙ sym (append_assoc (frames_of title 1 before) frame (back ++ rest)) ∙ ap (λ (x : List ℕ). x ++ (back ++ rest)) (sym (frames_of-push title 1 before p)) in
    let count : 1 + length (before ++ p ∷ []) ≡ number + 1 = omega (arith, length-append before (p ∷ [])) in
    let further = each_appended title bytes rest (before ++ p ∷ []) ps others texts long all true_to (each_push before p eb ep.0) ep.1 (more ∙ ap (λ (n : ℕ). frames_of title 1 (before ++ p ∷ []) ++ (frames_of title n ps ++ rest)) (sym count)) in
    (appended_or_clash title number others texts p long all tag, subst (λ (n : ℕ). EachAppended texts others title n ps) count further)

only_appended : (w : World) (title bytes : List ℕ) → length title ≡ 31 → OnlyAppended w title bytes
only_appended w title bytes long others all true_to payloads rest reading = each_appended title bytes rest [] payloads others w.texts long all true_to tt reading.each reading.whole

title_long : (folder : List ℕ) (k : ℕ) → length folder ≡ 16 → (length ((titles_of folder).journal k) ≡ 31) × (length (titles_of folder).snapshot ≡ 31)
unfolding bytes_of
title_long folder k long = (omega (arith, long), omega (arith, long))

pub nothing_else_is_read : NothingElseIsRead
nothing_else_is_read folder long events bytes =
    let w = history (titles_of folder) events fresh in
    (λ k. only_appended w ((titles_of folder).journal k) bytes (title_long folder k long).0, only_appended w (titles_of folder).snapshot bytes (title_long folder 0 long).1)

-- Damage.

-- the bytes of a journal after a frame that was changed
back_is : (title bytes broken lost next : List ℕ) (before after : List (List ℕ)) → length broken ≡ length (frame_of title (1 + length before) lost) → (f : Front title (before ++ lost ∷ next ∷ after) bytes) → drop (length (frames_of title 1 before) + length broken) bytes ≡ frames_of title (2 + length before) (next ∷ after) ++ f.rest
back_is title bytes broken lost next before after long f =
    let front = frames_of title 1 before in
    let frame = frame_of title (1 + length before) lost in
    let back = frames_of title (1 + length before + 1) (next ∷ after) in
    let all : bytes ≡ (front ++ frame) ++ (back ++ f.rest) =
    f.is ∙ ap (λ (x : List ℕ). x ++ f.rest) (frames_of-append title 1 before (lost ∷ next ∷ after) ∙ sym (append_assoc front frame back)) ∙ append_assoc (front ++ frame) back f.rest in
    ap (drop (length front + length broken)) all ∙ drop_at (front ++ frame) (back ++ f.rest) (length front + length broken) (omega (arith, long, length-append front frame))
    ∙ ap (λ (n : ℕ). frames_of title n (next ∷ after) ++ f.rest) (omega arith)

parts_of : (before after : List (List ℕ)) (lost next : List ℕ) → AllByRecursion IsPayload (before ++ lost ∷ next ∷ after) → AllByRecursion IsPayload before × IsPayload next
parts_of [] after lost next all = (tt, all.1.0)
parts_of (b ∷ before) after lost next all = let rest = parts_of before after lost next all.1 in ((all.0, rest.0), rest.1)

pub damage_is_seen : DamageIsSeen
damage_is_seen has t events allowed o left k before after lost next broken log few long payloads rest reading =
    let title = t.journal k in
    let sound = always has t events fresh (at_first has t) allowed in
    let stands = journal_left has t (history t events fresh) sound o left k in
    let each = subst (AllByRecursion IsPayload) log stands.0 in
    let front = subst (λ (ps : List (List ℕ)). Front title ps (o.bytes k)) log stands.1 in
    let back = back_is title (o.bytes k) broken lost next before after long front in
    let fits = parts_of before after lost next each in
    let found = damage_seen title broken lost next front.rest rest before after payloads fits.0 fits.1 few long (subst (λ (x : List ℕ). IsReading title (frames_of title 1 before ++ (broken ++ x)) payloads rest) back reading) in
    subst (λ (x : List ℕ). ((payloads ≡ before) × HasLater title (1 + length before) rest) ⊎ ((payload behind : List ℕ) × IsPayload payload × (broken ++ x ≡ frame_of title (1 + length before) payload ++ behind))) (sym back) found

pub journals_are_read : JournalsAreRead
journals_are_read has t events allowed o left k payloads rest reading =
    let sound = always has t events fresh (at_first has t) allowed in
    let stands = journal_left has t (history t events fresh) sound o left k in
    let on = on_behind (t.journal k) (o.bytes k) stands.1.rest rest ((history t events fresh).logs k) payloads stands.0 stands.1.is reading in
    (on.more, on.first)

-- The end.

-- an event leaves the folder ended, and acknowledges nothing
record StaysEnded (w v : World) : Type 0 where
  over : v.folder.ended ≡ true
  none : v.acknowledged ≡ w.acknowledged

refused : (fault : Option Fault) (v w : World) → w.folder.ended ≡ true → (fault ≡ None → w.folder.ended ≡ false) → StaysEnded w (unless fault v w)
refused None v w over taken = absurd (true≢false (sym over ∙ taken refl))
refused (Some fault) v w over taken = record { over = over; none = refl }

stays : (t : Titles) (w : World) (e : Event) → w.folder.ended ≡ true → IsNoStart e → StaysEnded w (happens t w e)
stays t w Begin over is = refused (begin_fault w.folder) (record { folder = begun w.folder; disk = w.disk; home = w.home; log = w.log; logs = w.logs; flying = w.flying; parts = w.parts; acknowledged = w.acknowledged; memory = w.memory; noted = w.noted; texts = w.texts }) w over (λ e. (is_begin w.folder e).0)
stays t w (Answer ok) over is = refused (answer_fault w.folder ok) (after_answer w ok) w over (λ e. (is_answer w.folder ok e).0)
stays t w (Piece payload ok landed) over is = refused (piece_fault w.folder (length payload)) (after_piece t w payload ok landed) w over (λ e. (is_piece w.folder (length payload) e).0)
stays t w (Put payload ok landed) over is = refused (put_fault w.folder (length payload)) (after_put t w payload ok landed) w over (λ e. (is_put w.folder (length payload) e).0)
stays t w (Grow at landed) over is = refused (grow_fault w.folder) (after_grow w at landed) w over (λ e. (is_grow w.folder e).0)
stays t w (Sync ok) over is = refused (landed_fault w.folder) (after_sync w ok) w over (λ e. (is_landed w.folder e).0)
stays t w (WriteId text ok landed) over is = unless_both (id_fault w.folder) (with_disk w (write_id (cond ok text landed) w.disk)) w (StaysEnded w) (λ e. record { over = over; none = refl }) (record { over = over; none = refl })
stays t w (SyncId ok) over is = unless_both (id_fault w.folder) (with_disk w (sync_id ok w.disk)) w (StaysEnded w) (λ e. record { over = over; none = refl }) (record { over = over; none = refl })
stays t w RenameId over is = unless_both (id_fault w.folder) (with_disk w (rename_id w.disk)) w (StaysEnded w) (λ e. record { over = over; none = refl }) (record { over = over; none = refl })
stays t w (NameId ok) over is = unless_both (id_fault w.folder) (with_disk w (sync_folder ok w.disk)) w (StaysEnded w) (λ e. record { over = over; none = refl }) (record { over = over; none = refl })
stays t w (Crash left) over is = record { over = refl; none = refl }
stays t w (Start oldest newest read) over is = absurd is

pub ended_acknowledges_nothing : EndedAcknowledgesNothing
ended_acknowledges_nothing t [] w over is = refl
ended_acknowledges_nothing t (e ∷ events) w over is =
    let one = stays t w e over is.0 in
    ended_acknowledges_nothing t events (happens t w e) one.over is.1 ∙ one.none

taken : (fault : Option Fault) (v w : World) → fault ≡ None → unless fault v w ≡ v
taken fault v w none = ap (λ (f : Option Fault). unless f v w) none

-- the folder after the call that is due failed
fails : (step : Step) (f : Folder) → is_idle step ≡ false → given_up step f ≡ cond (is_starting step || is_folder_sync (due_at step f)) (ended f) (at_step f Idle)
fails Idle f due = absurd (true≢false due)
fails Starting f due = refl
fails Entering f due = refl
fails Creating f due = refl
fails Naming f due = refl
fails Writing f due = refl
fails Ending f due = refl
fails Syncing f due = refl
fails Renaming f due = refl
fails Publishing f due = refl
fails Removing f due = refl

piece_fails : (step : Step) (f : Folder) → is_writing step ≡ true → given_up step f ≡ at_step f Idle
piece_fails Idle f writes = absurd (false≢true writes)
piece_fails Starting f writes = absurd (false≢true writes)
piece_fails Entering f writes = absurd (false≢true writes)
piece_fails Creating f writes = absurd (false≢true writes)
piece_fails Naming f writes = absurd (false≢true writes)
piece_fails Writing f writes = refl
piece_fails Ending f writes = absurd (false≢true writes)
piece_fails Syncing f writes = absurd (false≢true writes)
piece_fails Renaming f writes = absurd (false≢true writes)
piece_fails Publishing f writes = absurd (false≢true writes)
piece_fails Removing f writes = absurd (false≢true writes)

put_fails : (f : Folder) → f.flying ≡ 0 → record { step = f.step; oldest = f.oldest; newest = f.newest; ended = f.ended; count = f.count; end = f.end; flying = 0; pieces = f.pieces } ≡ f
put_fails f none = λ i. record { step = f.step; oldest = f.oldest; newest = f.newest; ended = f.ended; count = f.count; end = f.end; flying = sym none i; pieces = f.pieces }

pub failures_end : FailuresEnd
failures_end t w =
    let f = w.folder in
    record {
      sync = λ e. ap (λ (v : World). v.folder) (taken (landed_fault f) (after_sync w false) w e);
      answer = λ e. ap (λ (v : World). v.folder) (taken (answer_fault f false) (after_answer w false) w e) ∙ fails f.step f (is_due f false e);
      piece = λ payload landed e. ap (λ (v : World). v.folder) (taken (piece_fault f (length payload)) (after_piece t w payload false landed) w e) ∙ piece_fails f.step f (is_piece f (length payload) e).1;
      put = λ payload landed e. ap (λ (v : World). v.folder) (taken (put_fault f (length payload)) (after_put t w payload false landed) w e) ∙ put_fails f (is_unflown f (length payload) e);
    }

-- The example.

then : (has : List ℕ → Bool) (t : Titles) (e : Event) (events : List Event) (w v : World) → IsAllowed has t w e → IsIdAllowed t w e → happens t w e ≡ v → AreAllowed has t events v × IsIdKept t events v → AreAllowed has t (e ∷ events) w × IsIdKept t (e ∷ events) w
then has t e events w v allowed kept is rest = ((allowed, subst (AreAllowed has t events) (sym is) rest.0), (kept, subst (IsIdKept t events) (sym is) rest.1))

abbrev one : List ℕ
one = 7 ∷ []

-- the worlds of the example, from its end
abbrev i1 : Titles → World
i1 t = with_disk fresh (write_id t.id fresh.disk)

abbrev i2 : Titles → World
i2 t = with_disk (i1 t) (sync_id true (i1 t).disk)

abbrev i3 : Titles → World
i3 t = with_disk (i2 t) (rename_id (i2 t).disk)

abbrev i4 : Titles → World
i4 t = with_disk (i3 t) (sync_folder true (i3 t).disk)

abbrev s1 : Titles → World
s1 t = after_end (i4 t) (opened 1 0) (i4 t).disk []

abbrev s2 : Titles → World
s2 t = after_answer (s1 t) true

abbrev s3 : Titles → World
s3 t = after_answer (s2 t) true

abbrev w1 : Titles → World
w1 t = after_put t (s3 t) one true []

abbrev w2 : Titles → World
w2 t = after_sync (w1 t) true

abbrev w3 : Titles → World
w3 t = let w = w2 t in record { folder = begun w.folder; disk = w.disk; home = w.home; log = w.log; logs = w.logs; flying = w.flying; parts = w.parts; acknowledged = w.acknowledged; memory = w.memory; noted = w.noted; texts = w.texts }

abbrev w4 : Titles → World
w4 t = after_answer (w3 t) true

abbrev w5 : Titles → World
w5 t = after_answer (w4 t) true

abbrev w6 : Titles → World
w6 t = after_piece t (w5 t) one true []

abbrev w7 : Titles → World
w7 t = after_piece t (w6 t) [] true []

abbrev w8 : Titles → World
w8 t = after_answer (w7 t) true

abbrev w9 : Titles → World
w9 t = after_answer (w8 t) true

abbrev w10 : Titles → World
w10 t = after_answer (w9 t) true

abbrev w11 : Titles → World
w11 t = after_answer (w10 t) true

abbrev w12 : Titles → World
w12 t = after_answer (w11 t) true

answer_taken : (w : World) → answer_fault w.folder true ≡ None → (t : Titles) → happens t w (Answer true) ≡ after_answer w true
answer_taken w none t = taken (answer_fault w.folder true) (after_answer w true) w none

makes_1 : (t : Titles) → happens t fresh (WriteId t.id true []) ≡ i1 t
makes_1 t = taken (id_fault fresh.folder) (i1 t) fresh refl

makes_2 : (t : Titles) → happens t (i1 t) (SyncId true) ≡ i2 t
makes_2 t = taken (id_fault (i1 t).folder) (i2 t) (i1 t) refl

makes_3 : (t : Titles) → happens t (i2 t) RenameId ≡ i3 t
makes_3 t = taken (id_fault (i2 t).folder) (i3 t) (i2 t) refl

makes_4 : (t : Titles) → happens t (i3 t) (NameId true) ≡ i4 t
makes_4 t = taken (id_fault (i3 t).folder) (i4 t) (i3 t) refl

starts_1 : (t : Titles) → happens t (i4 t) (Start 1 0 []) ≡ s1 t
starts_1 t = refl

starts_2 : (t : Titles) → happens t (s1 t) (Answer true) ≡ s2 t
starts_2 t = answer_taken (s1 t) refl t

starts_3 : (t : Titles) → happens t (s2 t) (Answer true) ≡ s3 t
starts_3 t = answer_taken (s2 t) refl t

e1 : (t : Titles) → happens t (s3 t) (Put one true []) ≡ w1 t
e1 t = taken (put_fault (s3 t).folder (length one)) (w1 t) (s3 t) refl

e2 : (t : Titles) → happens t (w1 t) (Sync true) ≡ w2 t
unfolding gap
e2 t = taken (landed_fault (w1 t).folder) (w2 t) (w1 t) refl

e3 : (t : Titles) → happens t (w2 t) Begin ≡ w3 t
unfolding gap
e3 t = taken (begin_fault (w2 t).folder) (w3 t) (w2 t) refl

e4 : (t : Titles) → happens t (w3 t) (Answer true) ≡ w4 t
unfolding gap
e4 t = answer_taken (w3 t) refl t

e5 : (t : Titles) → happens t (w4 t) (Answer true) ≡ w5 t
unfolding gap
e5 t = answer_taken (w4 t) refl t

e6 : (t : Titles) → happens t (w5 t) (Piece one true []) ≡ w6 t
unfolding gap
e6 t = taken (piece_fault (w5 t).folder (length one)) (w6 t) (w5 t) refl

e7 : (t : Titles) → happens t (w6 t) (Piece [] true []) ≡ w7 t
unfolding gap
e7 t = taken (piece_fault (w6 t).folder 0) (w7 t) (w6 t) refl

e8 : (t : Titles) → happens t (w7 t) (Answer true) ≡ w8 t
e8 t = answer_taken (w7 t) refl t

e9 : (t : Titles) → happens t (w8 t) (Answer true) ≡ w9 t
e9 t = answer_taken (w8 t) refl t

e10 : (t : Titles) → happens t (w9 t) (Answer true) ≡ w10 t
e10 t = answer_taken (w9 t) refl t

e11 : (t : Titles) → happens t (w10 t) (Answer true) ≡ w11 t
e11 t = answer_taken (w10 t) refl t

e12 : (t : Titles) → happens t (w11 t) (Answer true) ≡ w12 t
e12 t = answer_taken (w11 t) refl t

example_ends : (t : Titles) → history t (example t) fresh ≡ w12 t
example_ends t =
    ap (history t (drop 1 (example t))) (makes_1 t) ∙ ap (history t (drop 2 (example t))) (makes_2 t) ∙ ap (history t (drop 3 (example t))) (makes_3 t) ∙ ap (history t (drop 4 (example t))) (makes_4 t) ∙ ap (history t (drop 5 (example t))) (starts_1 t) ∙ ap (history t (drop 6 (example t))) (starts_2 t) ∙ ap (history t (drop 7 (example t))) (starts_3 t) ∙ ap (history t (drop 8 (example t))) (e1 t) ∙ ap (history t (drop 9 (example t))) (e2 t) ∙ ap (history t (drop 10 (example t))) (e3 t) ∙ ap (history t (drop 11 (example t))) (e4 t) ∙ ap (history t (drop 12 (example t))) (e5 t) ∙ ap (history t (drop 13 (example t))) (e6 t) ∙ ap (history t (drop 14 (example t))) (e7 t) ∙ ap (history t (drop 15 (example t))) (e8 t) ∙ ap (history t (drop 16 (example t))) (e9 t) ∙ ap (history t (drop 17 (example t))) (e10 t) ∙ ap (history t (drop 18 (example t))) (e11 t) ∙ e12 t

-- nothing is read of a folder without journals and a snapshot
nothing_read : (has : List ℕ → Bool) (t : Titles) → IsRead has t (as_seen (i4 t).disk) → ⊥
nothing_read has t (inl (bytes, there, found)) = cc
nothing_read has t (inr (k, here, found)) = false≢true here

id_is : (t : Titles) → (as_seen (i4 t).disk).id ≡ Some t.id
id_is t = ap (λ (b : List ℕ). Some (t.id ++ b)) (drop_all (0 + length t.id) [] (omega arith)) ∙ ap (λ (b : List ℕ). Some b) (append-nil t.id)

pub example_is_allowed : ExampleIsAllowed
example_is_allowed has t =
    let all =
    (then has t (WriteId t.id true []) (drop 1 (example t)) fresh (i1 t) tt tt (makes_1 t)
    (then has t (SyncId true) (drop 2 (example t)) (i1 t) (i2 t) tt tt (makes_2 t)
    (then has t RenameId (drop 3 (example t)) (i2 t) (i3 t) tt (refl, refl, inl refl) (makes_3 t)
    (then has t (NameId true) (drop 4 (example t)) (i3 t) (i4 t) tt tt (makes_4 t)
    (then has t (Start 1 0 []) (drop 5 (example t)) (i4 t) (s1 t) (refl, λ k here. absurd (false≢true here), λ found. absurd (nothing_read has t found)) (id_is t, refl) (starts_1 t)
    (then has t (Answer true) (drop 6 (example t)) (s1 t) (s2 t) tt tt (starts_2 t)
    (then has t (Answer true) (drop 7 (example t)) (s2 t) (s3 t) tt tt (starts_3 t)
    (then has t (Put one true []) (drop 8 (example t)) (s3 t) (w1 t) tt tt (e1 t)
    (then has t (Sync true) (drop 9 (example t)) (w1 t) (w2 t) tt tt (e2 t)
    (then has t Begin (drop 10 (example t)) (w2 t) (w3 t) tt tt (e3 t)
    (then has t (Answer true) (drop 11 (example t)) (w3 t) (w4 t) tt tt (e4 t)
    (then has t (Answer true) (drop 12 (example t)) (w4 t) (w5 t) tt tt (e5 t)
    (then has t (Piece one true []) (drop 13 (example t)) (w5 t) (w6 t) (λ e. absurd (omega (arith, e))) tt (e6 t)
    (then has t (Piece [] true []) (drop 14 (example t)) (w6 t) (w7 t) (λ e h. h) tt (e7 t)
    (then has t (Answer true) (drop 15 (example t)) (w7 t) (w8 t) tt tt (e8 t)
    (then has t (Answer true) (drop 16 (example t)) (w8 t) (w9 t) tt tt (e9 t)
    (then has t (Answer true) (drop 17 (example t)) (w9 t) (w10 t) tt tt (e10 t)
    (then has t (Answer true) (drop 18 (example t)) (w10 t) (w11 t) tt tt (e11 t)
    (then has t (Answer true) (drop 19 (example t)) (w11 t) (w12 t) tt tt (e12 t)
    (tt, tt)))))))))))))))))))) in
    (all.0, all.1, ap (λ (w : World). w.acknowledged) (example_ends t), ap (λ (w : World). w.folder) (example_ends t))

-- A crash may always come.
use Rattle.std.proofs.Common.{◌≡◌, inl, inr, ℕ, zero, suc, ◌+◌, Bool, true, false, cond, List, [], ◌∷◌, ◌++◌, length, take, drop, refl, ◌∙◌, ap, append_assoc, Option, Some, None}
use Rattle.std.specs.Prelude.{◌==◌, MatchBool}
use Rattle.std.proofs.lemmas.Bool.{cond_both}
use Rattle.svid_journal.specs.declared.call.Call.{Call}
use Rattle.svid_journal.specs.declared.call.Call.TheVariants.{Nothing, CreateJournal, SyncFolder, WriteSnapshot, SyncSnapshot, RenameSnapshot, RemoveJournal}
use Rattle.svid_journal.specs.Frames.{frame_of, frames_of}
use Rattle.svid_journal.specs.Folder.{begin_fault, answer_fault, put_fault, landed_fault, piece_fault, begun, due_at}
use Rattle.svid_journal.specs.Disk.{File, empty_file, written, forced, MayLeave, Name, settled, leads, named, Journal, Disk, put, create_journal, on_file, remove_journal, write_piece, sync_folder, write_id, sync_id, rename_id, Outcome, IsOneOf, MayLeaveFile, option_at_rest, after_crash, option_seen}
use Rattle.svid_journal.specs.History.{Titles, World, Event, called, after_answer, after_piece, after_put, after_grow, after_sync, grow_fault, id_fault, with_disk, happens, history, fresh}
use Rattle.svid_journal.specs.History.Event.{Begin, Answer, Piece, Put, Grow, Sync, WriteId, SyncId, RenameId, NameId, Crash, Start}
use Rattle.svid_journal.specs.Promises.{CrashesMayCome}
use Rattle.svid_journal.proofs.HistoryLemmas.{unless_both}

-- the first bytes of a longer list
take_front : (n : ℕ) (xs ys : List ℕ) → (zs : List ℕ) × (take n (xs ++ ys) ≡ take n xs ++ zs)
take_front zero xs ys = ([], refl)
take_front (suc n) [] ys = (take (suc n) ys, refl)
take_front (suc n) (x ∷ xs) ys = let more = take_front n xs ys in (more.0, λ i. x ∷ more.1 i)

-- a crash may leave what is seen of a file
abbrev IsPlainFile : File → Type 0
IsPlainFile f = MayLeave f f.seen

plain_written : (at : ℕ) (landed : List ℕ) (f : File) → IsPlainFile f → IsPlainFile (written at landed f)
plain_written at landed f plain = by f.whole plain
  where
    by : (whole : Bool) → MatchBool whole (f.seen ≡ f.kept) ((rest : List ℕ) × (f.seen ≡ f.kept ++ rest)) → (rest : List ℕ) × (take at f.seen ++ (landed ++ drop (at + length landed) f.seen) ≡ take at f.kept ++ rest)
    by true is = (landed ++ drop (at + length landed) f.seen, ap (λ (x : List ℕ). take at x ++ (landed ++ drop (at + length landed) f.seen)) is)
    by false is =
        let behind = landed ++ drop (at + length landed) f.seen in
        let front = take_front at f.kept is.0 in
        (front.0 ++ behind, ap (λ (x : List ℕ). x ++ behind) (ap (take at) is.1 ∙ front.1) ∙ append_assoc (take at f.kept) front.0 behind)

plain_forced : (ok : Bool) (f : File) → IsPlainFile f → IsPlainFile (forced ok f)
plain_forced false f plain = plain
plain_forced true f plain = cond_both f.spoiled f (record { seen = f.seen; kept = f.seen; whole = true; spoiled = false }) IsPlainFile (λ e. plain) (λ e. refl)

plain_empty : IsPlainFile empty_file
plain_empty = ([], refl)

-- after a crash a name may refer to what it refers to now
abbrev IsPlainName : {A : Type 0} → Name A → Type 0
IsPlainName name = IsOneOf name.may name.now

last_of : {A : Type 0} (xs : List A) (x : A) → IsOneOf (xs ++ x ∷ []) x
last_of [] x = inl refl
last_of (y ∷ xs) x = inr (last_of xs x)

plain_leads : {A : Type 0} (a : A) (name : Name A) → IsPlainName (leads a name)
plain_leads a name = last_of name.may a

plain_named : {A : Type 0} (ok : Bool) (name : Name A) → IsPlainName name → IsPlainName (named ok name)
plain_named {A = A} false name plain = plain
plain_named {A = A} true name plain = cond_both name.stuck name (settled name.now) (λ (n : Name A). IsOneOf n.may n.now) (λ e. plain) (λ e. inl refl)

abbrev IsPlainJournal : Journal → Type 0
IsPlainJournal j = IsPlainName j.here × IsPlainFile j.file

record IsPlain (d : Disk) : Type 0 where
  journals : (k : ℕ) → IsPlainJournal (d.journals k)
  snapshot : IsPlainName d.snapshot
  there : MayLeaveFile d.snapshot.now (option_seen d.snapshot.now)
  beside : IsPlainFile d.beside
  id : IsPlainName d.id.name
  id_there : MayLeaveFile d.id.name.now (option_seen d.id.name.now)
  id_beside : IsPlainFile d.id.beside

plain_put : (journals : ℕ → Journal) (n : ℕ) (j : Journal) → ((k : ℕ) → IsPlainJournal (journals k)) → IsPlainJournal j → (k : ℕ) → IsPlainJournal (put journals n j k)
plain_put journals n j old new k = cond_both (k == n) j (journals k) IsPlainJournal (λ e. new) (λ e. old k)

plain_create : (k : ℕ) (d : Disk) → IsPlain d → IsPlain (create_journal k d)
plain_create k d p = record { journals = plain_put d.journals k (record { file = empty_file; here = leads true (d.journals k).here }) p.journals (plain_leads true (d.journals k).here, plain_empty); snapshot = p.snapshot; there = p.there; beside = p.beside; id = p.id; id_there = p.id_there; id_beside = p.id_beside }

plain_on_file : (k : ℕ) (f : File → File) (d : Disk) → IsPlain d → IsPlainFile (f (d.journals k).file) → IsPlain (on_file k f d)
plain_on_file k f d p new = record { journals = plain_put d.journals k (record { file = f (d.journals k).file; here = (d.journals k).here }) p.journals ((p.journals k).0, new); snapshot = p.snapshot; there = p.there; beside = p.beside; id = p.id; id_there = p.id_there; id_beside = p.id_beside }

plain_remove : (k : ℕ) (d : Disk) → IsPlain d → IsPlain (remove_journal k d)
plain_remove k d p = record { journals = plain_put d.journals k (record { file = (d.journals k).file; here = leads false (d.journals k).here }) p.journals (plain_leads false (d.journals k).here, (p.journals k).1); snapshot = p.snapshot; there = p.there; beside = p.beside; id = p.id; id_there = p.id_there; id_beside = p.id_beside }

plain_sync : (ok : Bool) (d : Disk) → IsPlain d → IsPlain (sync_folder ok d)
plain_sync ok d p =
    record {
      journals = λ k. (plain_named ok (d.journals k).here (p.journals k).0, (p.journals k).1);
      snapshot = plain_named ok d.snapshot p.snapshot;
      there = by ok d.snapshot p.there;
      beside = p.beside;
      id = plain_named ok d.id.name p.id;
      id_there = by ok d.id.name p.id_there;
      id_beside = p.id_beside;
    }
  where
    by : (ok : Bool) (name : Name (Option File)) → MayLeaveFile name.now (option_seen name.now) → MayLeaveFile (named ok name).now (option_seen (named ok name).now)
    by false name there = there
    by true name there = cond_both name.stuck name (settled name.now) (λ (n : Name (Option File)). MayLeaveFile n.now (option_seen n.now)) (λ e. there) (λ e. there)

plain_called : (c : Call) (ok : Bool) (d : Disk) → IsPlain d → IsPlain (called c ok d)
plain_called Nothing ok d p = p
plain_called (CreateJournal k) true d p = plain_create k d p
plain_called (CreateJournal k) false d p = p
plain_called SyncFolder ok d p = plain_sync ok d p
plain_called WriteSnapshot ok d p = p
plain_called SyncSnapshot ok d p = record { journals = p.journals; snapshot = p.snapshot; there = p.there; beside = plain_forced ok d.beside p.beside; id = p.id; id_there = p.id_there; id_beside = p.id_beside }
plain_called RenameSnapshot true d p = record { journals = p.journals; snapshot = plain_leads (Some d.beside) d.snapshot; there = p.beside; beside = p.beside; id = p.id; id_there = p.id_there; id_beside = p.id_beside }
plain_called RenameSnapshot false d p = p
plain_called (RemoveJournal k) true d p = plain_remove k d p
plain_called (RemoveJournal k) false d p = p

plain_piece : (pieces at : ℕ) (landed : List ℕ) (d : Disk) → IsPlain d → IsPlain (write_piece pieces at landed d)
plain_piece pieces at landed d p =
    record {
      journals = p.journals;
      snapshot = p.snapshot;
      there = p.there;
      beside = plain_written at landed (cond (pieces == 0) empty_file d.beside) (cond_both (pieces == 0) empty_file d.beside IsPlainFile (λ e. plain_empty) (λ e. p.beside));
      id = p.id;
      id_there = p.id_there;
      id_beside = p.id_beside;
    }

plain_crash : (o : Outcome) → IsPlain (after_crash o)
plain_crash o = record { journals = λ k. (inl refl, refl); snapshot = inl refl; there = by o.snapshot; beside = refl; id = inl refl; id_there = by o.id; id_beside = refl }
  where
    by : (left : Option (List ℕ)) → MayLeaveFile (option_at_rest left) (option_seen (option_at_rest left))
    by None = tt
    by (Some bytes) = refl

abbrev Plain : World → Type 0
Plain w = IsPlain w.disk

stays_plain : (t : Titles) (w : World) (e : Event) → Plain w → Plain (happens t w e)
stays_plain t w Begin p = unless_both (begin_fault w.folder) (record { folder = begun w.folder; disk = w.disk; home = w.home; log = w.log; logs = w.logs; flying = w.flying; parts = w.parts; acknowledged = w.acknowledged; memory = w.memory; noted = w.noted; texts = w.texts }) w Plain (λ e. p) p
stays_plain t w (Answer ok) p = unless_both (answer_fault w.folder ok) (after_answer w ok) w Plain (λ e. plain_called (due_at w.folder.step w.folder) ok w.disk p) p
stays_plain t w (Piece payload ok landed) p =
    unless_both (piece_fault w.folder (length payload)) (after_piece t w payload ok landed) w Plain (λ e. plain_piece w.folder.pieces (length (frames_of t.snapshot 1 w.parts)) (cond ok (frame_of t.snapshot (1 + w.folder.pieces) payload) landed) w.disk p) p
stays_plain t w (Put payload ok landed) p =
    let at = w.folder.end in
    let bytes = cond ok (frame_of (t.journal w.folder.newest) (1 + w.folder.count) payload) landed in
    unless_both (put_fault w.folder (length payload)) (after_put t w payload ok landed) w Plain (λ e. plain_on_file w.folder.newest (written at bytes) w.disk p (plain_written at bytes (w.disk.journals w.folder.newest).file (p.journals w.folder.newest).1)) p
stays_plain t w (Grow at landed) p =
    unless_both (grow_fault w.folder) (after_grow w at landed) w Plain (λ e. plain_on_file w.folder.newest (written at landed) w.disk p (plain_written at landed (w.disk.journals w.folder.newest).file (p.journals w.folder.newest).1)) p
stays_plain t w (Sync ok) p =
    unless_both (landed_fault w.folder) (after_sync w ok) w Plain (λ e. plain_on_file w.folder.newest (forced ok) w.disk p (plain_forced ok (w.disk.journals w.folder.newest).file (p.journals w.folder.newest).1)) p
stays_plain t w (WriteId text ok landed) p =
    let bytes = cond ok text landed in
    unless_both (id_fault w.folder) (with_disk w (write_id bytes w.disk)) w Plain (λ e. record { journals = p.journals; snapshot = p.snapshot; there = p.there; beside = p.beside; id = p.id; id_there = p.id_there; id_beside = plain_written 0 bytes empty_file plain_empty }) p
stays_plain t w (SyncId ok) p =
    unless_both (id_fault w.folder) (with_disk w (sync_id ok w.disk)) w Plain (λ e. record { journals = p.journals; snapshot = p.snapshot; there = p.there; beside = p.beside; id = p.id; id_there = p.id_there; id_beside = plain_forced ok w.disk.id.beside p.id_beside }) p
stays_plain t w RenameId p =
    unless_both (id_fault w.folder) (with_disk w (rename_id w.disk)) w Plain (λ e. record { journals = p.journals; snapshot = p.snapshot; there = p.there; beside = p.beside; id = plain_leads (Some w.disk.id.beside) w.disk.id.name; id_there = p.id_beside; id_beside = p.id_beside }) p
stays_plain t w (NameId ok) p = unless_both (id_fault w.folder) (with_disk w (sync_folder ok w.disk)) w Plain (λ e. plain_sync ok w.disk p) p
stays_plain t w (Crash left) p = plain_crash left
stays_plain t w (Start oldest newest read) p = p

always_plain : (t : Titles) (events : List Event) (w : World) → Plain w → Plain (history t events w)
always_plain t [] w p = p
always_plain t (e ∷ events) w p = always_plain t events (happens t w e) (stays_plain t w e p)

plain_at_first : Plain fresh
plain_at_first = record { journals = λ k. (inl refl, plain_empty); snapshot = inl refl; there = tt; beside = plain_empty; id = inl refl; id_there = tt; id_beside = plain_empty }

pub crashes_may_come : CrashesMayCome
crashes_may_come t events =
    let d = (history t events fresh).disk in
    let p = always_plain t events fresh plain_at_first in
    record { names = λ k. (p.journals k).0; journals = λ k. (p.journals k).1; snapshot = (d.snapshot.now, p.snapshot, p.there); beside = p.beside; id = (d.id.name.now, p.id, p.id_there); id_beside = p.id_beside }

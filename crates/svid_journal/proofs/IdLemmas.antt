-- The file with the folder's ID lasts.
use Rattle.std.proofs.Common.{◌≡◌, ◌⊎◌, inl, inr, ⊎_elim, ℕ, ◌+◌, ◌<◌, Bool, true, false, cond, List, [], ◌∷◌, length, refl, sym, ◌∙◌, ap, subst, arith, Option, Some, None}
use Rattle.std.specs.Prelude.{nat_le, ◌==◌}
use Rattle.std.proofs.lemmas.Bool.{cond_both, cond-false, false≢true, true≢false}
use Rattle.svid_journal.specs.declared.step.Step.{Step}
use Rattle.svid_journal.specs.declared.step.Step.TheVariants.{Idle, Starting, Entering, Creating, Naming, Writing, Ending, Syncing, Renaming, Publishing, Removing}
use Rattle.svid_journal.specs.Folder.{is_starting, is_idle, is_writing, begin_fault, answer_fault, put_fault, landed_fault, piece_fault, begun, at_step}
use Rattle.svid_journal.specs.Disk.{File, Name, settled, leads, named, sync_folder, write_id, sync_id, rename_id, Outcome, IsOneOf, MayLeaveFile, IsOutcome, at_rest, option_at_rest, option_seen, as_seen, IsLeft}
use Rattle.svid_journal.specs.History.{Titles, World, Event, after_answer, after_piece, after_put, after_grow, after_sync, grow_fault, id_fault, with_disk, happens, history, fresh, IsIdAllowed, IsIdKept}
use Rattle.svid_journal.specs.History.Event.{Begin, Answer, Piece, Put, Grow, Sync, WriteId, SyncId, RenameId, NameId, Crash, Start}
use Rattle.svid_journal.specs.Promises.{IdIsRead}
use Rattle.svid_journal.proofs.HistoryLemmas.{IsOneOf-push, IsOneOf-cases, IsOneOf-only, whole_left, unless_both, is_begin, is_due, is_answer, is_piece, is_landed, is_closed}

-- the file of a name was synced
abbrev IsOnDisk : Option File → Type 0
IsOnDisk None = Unit {0}
IsOnDisk (Some f) = (f.whole ≡ true) × (f.kept ≡ f.seen)

-- and has this text
record HasText (text : List ℕ) (there : Option File) : Type 0 where
  file : File
  is : there ≡ Some file
  whole : file.whole ≡ true
  kept : file.kept ≡ text
  seen : file.seen ≡ text

has_text : (text : List ℕ) (there : Option File) → IsOnDisk there → option_seen there ≡ Some text → HasText text there
has_text text None on_disk e = absurd cc
has_text text (Some f) on_disk e = let seen : f.seen ≡ text = cc in record { file = f; is = refl; whole = on_disk.0; kept = on_disk.1 ∙ seen; seen = seen }

all_named : (P : Option File → Type 0) (ok : Bool) (name : Name (Option File)) → IsOneOf name.may name.now → ((there : Option File) → IsOneOf name.may there → P there) → (there : Option File) → IsOneOf (named ok name).may there → P there
all_named P false name now all = all
all_named P true name now all =
    cond_both name.stuck name (settled name.now) (λ (n : Name (Option File)). (there : Option File) → IsOneOf n.may there → P there) (λ stuck. all) (λ free there among. all there (subst (IsOneOf name.may) (IsOneOf-only name.now there among) now))

now_named : (ok : Bool) (name : Name (Option File)) → IsOneOf name.may name.now → IsOneOf (named ok name).may (named ok name).now
now_named false name now = now
now_named true name now = cond_both name.stuck name (settled name.now) (λ (n : Name (Option File)). IsOneOf n.may n.now) (λ stuck. now) (λ free. inl refl)

all_leads : (P : Option File → Type 0) (f : File) (name : Name (Option File)) → P (Some f) → ((there : Option File) → IsOneOf name.may there → P there) → (there : Option File) → IsOneOf (leads (Some f) name).may there → P there
all_leads P f name new all there among = ⊎_elim (λ old. all there old) (λ is. subst P is new) (IsOneOf-cases name.may (Some f) there among)

-- what is left of the file
text_left : (text : List ℕ) (there : Option File) (left : Option (List ℕ)) → MayLeaveFile there left → HasText text there → left ≡ Some text
text_left text None left may h = absurd cc
text_left text (Some f) None may h = absurd may
text_left text (Some f) (Some bytes) may h =
    let same : f ≡ h.file = cc in
    ap (λ (b : List ℕ). Some b) (whole_left f bytes (ap (λ (g : File). g.whole) same ∙ h.whole) may ∙ ap (λ (g : File). g.kept) same ∙ h.kept)

rest_on_disk : (left : Option (List ℕ)) → IsOnDisk (option_at_rest left)
rest_on_disk None = tt
rest_on_disk (Some bytes) = (refl, refl)

seen_text : (text : List ℕ) (there : Option File) → HasText text there → option_seen there ≡ Some text
seen_text text there h = ap option_seen h.is ∙ ap (λ (b : List ℕ). Some b) h.seen

module _ (text : List ℕ) where
  -- what always holds of the name of that file, where the program is at this step, and this journal grew last
  record IsHeld (name : Name (Option File)) (ended : Bool) (step : Step) (home : ℕ) (acknowledged : List (List ℕ)) : Type 0 where
    among : IsOneOf name.may name.now
    each : (there : Option File) → IsOneOf name.may there → IsOnDisk there
    sure : 0 < home → (there : Option File) → IsOneOf name.may there → HasText text there
    starts : ended ≡ false → is_starting step ≡ true → (option_seen name.now ≡ Some text) × (name.stuck ≡ false)
    grown : ended ≡ false → is_starting step ≡ false → 0 < home
    some : (acknowledged ≡ []) ⊎ (0 < home)

  abbrev Held : World → Type 0
  Held w = IsHeld w.disk.id.name w.folder.ended w.folder.step w.home w.acknowledged

  -- the program goes to another step
  goes : (name : Name (Option File)) (ended later : Bool) (step next : Step) (home : ℕ) (acknowledged : List (List ℕ)) → IsHeld name ended step home acknowledged → (later ≡ false → ended ≡ false) → (later ≡ false → is_starting next ≡ is_starting step) → IsHeld name later next home acknowledged
  goes name ended later step next home acknowledged h going same =
      record { among = h.among; each = h.each; sure = h.sure; starts = λ on starting. h.starts (going on) (sym (same on) ∙ starting); grown = λ on growing. h.grown (going on) (sym (same on) ∙ growing); some = h.some }

  -- the folder is synced, and no start is under way
  syncs : (ok : Bool) (name : Name (Option File)) (ended later : Bool) (step next : Step) (home : ℕ) (acknowledged : List (List ℕ)) → IsHeld name ended step home acknowledged → (later ≡ false → (is_starting next ≡ false) × (0 < home)) → IsHeld (named ok name) later next home acknowledged
  syncs ok name ended later step next home acknowledged h up =
      record {
        among = now_named ok name h.among;
        each = all_named IsOnDisk ok name h.among h.each;
        sure = λ some. all_named (HasText text) ok name h.among (h.sure some);
        starts = λ on starting. absurd (true≢false (sym starting ∙ (up on).0));
        grown = λ on growing. (up on).1;
        some = h.some;
      }

  -- the first journal of a start grows
  enters : (name : Name (Option File)) (ended later : Bool) (home next : ℕ) (acknowledged : List (List ℕ)) → IsHeld name ended Entering home acknowledged → ended ≡ false → 0 < next → IsHeld (named true name) later Idle next acknowledged
  enters name ended later home next acknowledged h going up =
      let ready = h.starts going refl in
      let is : named true name ≡ settled name.now = cond-false name.stuck name (settled name.now) ready.1 in
      subst (λ (n : Name (Option File)). IsHeld n later Idle next acknowledged) (sym is)
      (record {
        among = inl refl;
        each = λ there among. subst IsOnDisk (IsOneOf-only name.now there among) (h.each name.now h.among);
        sure = λ some there among. subst (HasText text) (IsOneOf-only name.now there among) (has_text text name.now (h.each name.now h.among) ready.0);
        starts = λ on starting. absurd (false≢true starting);
        grown = λ on growing. up;
        some = inr up;
      })

  -- the same at a step
  abbrev staged : Step → World → World
  staged step w = record { folder = at_step w.folder step; disk = w.disk; home = w.home; log = w.log; logs = w.logs; flying = w.flying; parts = w.parts; acknowledged = w.acknowledged; memory = w.memory; noted = w.noted; texts = w.texts }

  -- the call that is due returns
  answers : (step : Step) (ok : Bool) (w : World) → Held (staged step w) → w.folder.ended ≡ false → is_idle step ≡ false → Held (after_answer (staged step w) ok)
  answers Idle ok w h going due = absurd (true≢false due)
  answers Starting true w h going due = goes w.disk.id.name w.folder.ended w.folder.ended Starting Entering w.home w.acknowledged h (λ on. on) (λ on. refl)
  answers Starting false w h going due = goes w.disk.id.name w.folder.ended true Starting Idle w.home w.acknowledged h (λ on. absurd (true≢false on)) (λ on. absurd (true≢false on))
  answers Entering true w h going due = enters w.disk.id.name w.folder.ended w.folder.ended w.home (w.folder.newest + 1) w.acknowledged h going (omega arith)
  answers Entering false w h going due = syncs false w.disk.id.name w.folder.ended true Entering Idle w.home w.acknowledged h (λ on. absurd (true≢false on))
  answers Creating true w h going due = goes w.disk.id.name w.folder.ended w.folder.ended Creating Naming w.home w.acknowledged h (λ on. on) (λ on. refl)
  answers Creating false w h going due = goes w.disk.id.name w.folder.ended w.folder.ended Creating Idle w.home w.acknowledged h (λ on. on) (λ on. refl)
  answers Naming true w h going due = names (syncs true w.disk.id.name w.folder.ended w.folder.ended Naming Writing w.home w.acknowledged h (λ on. (refl, h.grown on refl)))
    where
      names : IsHeld (named true w.disk.id.name) w.folder.ended Writing w.home w.acknowledged → IsHeld (named true w.disk.id.name) w.folder.ended Writing (w.folder.newest + 1) w.acknowledged
      names k = record { among = k.among; each = k.each; sure = λ some. k.sure (h.grown going refl); starts = k.starts; grown = λ on growing. omega arith; some = inr (omega arith) }
  answers Naming false w h going due = syncs false w.disk.id.name w.folder.ended true Naming Idle w.home w.acknowledged h (λ on. absurd (true≢false on))
  answers Writing true w h going due = h
  answers Writing false w h going due = goes w.disk.id.name w.folder.ended w.folder.ended Writing Idle w.home w.acknowledged h (λ on. on) (λ on. refl)
  answers Ending true w h going due = goes w.disk.id.name w.folder.ended w.folder.ended Ending Syncing w.home w.acknowledged h (λ on. on) (λ on. refl)
  answers Ending false w h going due = goes w.disk.id.name w.folder.ended w.folder.ended Ending Idle w.home w.acknowledged h (λ on. on) (λ on. refl)
  answers Syncing true w h going due = goes w.disk.id.name w.folder.ended w.folder.ended Syncing Renaming w.home w.acknowledged h (λ on. on) (λ on. refl)
  answers Syncing false w h going due = goes w.disk.id.name w.folder.ended w.folder.ended Syncing Idle w.home w.acknowledged h (λ on. on) (λ on. refl)
  answers Renaming true w h going due = goes w.disk.id.name w.folder.ended w.folder.ended Renaming Publishing w.home w.acknowledged h (λ on. on) (λ on. refl)
  answers Renaming false w h going due = goes w.disk.id.name w.folder.ended w.folder.ended Renaming Idle w.home w.acknowledged h (λ on. on) (λ on. refl)
  answers Publishing true w h going due = syncs true w.disk.id.name w.folder.ended w.folder.ended Publishing Removing w.home w.acknowledged h (λ on. (refl, h.grown on refl))
  answers Publishing false w h going due = syncs false w.disk.id.name w.folder.ended true Publishing Idle w.home w.acknowledged h (λ on. absurd (true≢false on))
  answers Removing true w h going due =
      cond_both (nat_le w.folder.newest (w.folder.oldest + 1)) Idle Removing (λ (s : Step). IsHeld w.disk.id.name w.folder.ended s w.home w.acknowledged) (λ e. goes w.disk.id.name w.folder.ended w.folder.ended Removing Idle w.home w.acknowledged h (λ on. on) (λ on. refl)) (λ e. h)
  answers Removing false w h going due = goes w.disk.id.name w.folder.ended w.folder.ended Removing Idle w.home w.acknowledged h (λ on. on) (λ on. refl)

  begins : (step : Step) (w : World) → Held (staged step w) → is_idle step ≡ true → IsHeld w.disk.id.name w.folder.ended Creating w.home w.acknowledged
  begins Idle w h idle = goes w.disk.id.name w.folder.ended w.folder.ended Idle Creating w.home w.acknowledged h (λ on. on) (λ on. refl)
  begins Starting w h idle = absurd (false≢true idle)
  begins Entering w h idle = absurd (false≢true idle)
  begins Creating w h idle = absurd (false≢true idle)
  begins Naming w h idle = absurd (false≢true idle)
  begins Writing w h idle = absurd (false≢true idle)
  begins Ending w h idle = absurd (false≢true idle)
  begins Syncing w h idle = absurd (false≢true idle)
  begins Renaming w h idle = absurd (false≢true idle)
  begins Publishing w h idle = absurd (false≢true idle)
  begins Removing w h idle = absurd (false≢true idle)

  pieces : (t : Titles) (step : Step) (ok : Bool) (w : World) (payload landed : List ℕ) → Held (staged step w) → is_writing step ≡ true → Held (after_piece t (staged step w) payload ok landed)
  pieces t Writing true w payload landed h writes =
      cond_both (length payload == 0) Ending Writing (λ (s : Step). IsHeld w.disk.id.name w.folder.ended s w.home w.acknowledged) (λ e. goes w.disk.id.name w.folder.ended w.folder.ended Writing Ending w.home w.acknowledged h (λ on. on) (λ on. refl)) (λ e. h)
  pieces t Writing false w payload landed h writes = goes w.disk.id.name w.folder.ended w.folder.ended Writing Idle w.home w.acknowledged h (λ on. on) (λ on. refl)
  pieces t Idle ok w payload landed h writes = absurd (false≢true writes)
  pieces t Starting ok w payload landed h writes = absurd (false≢true writes)
  pieces t Entering ok w payload landed h writes = absurd (false≢true writes)
  pieces t Creating ok w payload landed h writes = absurd (false≢true writes)
  pieces t Naming ok w payload landed h writes = absurd (false≢true writes)
  pieces t Ending ok w payload landed h writes = absurd (false≢true writes)
  pieces t Syncing ok w payload landed h writes = absurd (false≢true writes)
  pieces t Renaming ok w payload landed h writes = absurd (false≢true writes)
  pieces t Publishing ok w payload landed h writes = absurd (false≢true writes)
  pieces t Removing ok w payload landed h writes = absurd (false≢true writes)

  renames : (w : World) → Held w → w.folder.ended ≡ true → w.disk.id.beside.whole ≡ true → w.disk.id.beside.kept ≡ w.disk.id.beside.seen → ((as_seen w.disk).id ≡ None) ⊎ ((as_seen w.disk).id ≡ Some w.disk.id.beside.seen) → Held (with_disk w (rename_id w.disk))
  renames w h closed whole kept none_or_same =
      let name = w.disk.id.name in
      let f = w.disk.id.beside in
      record {
        among = IsOneOf-push name.may (Some f);
        each = all_leads IsOnDisk f name (whole, kept) h.each;
        sure = λ some. all_leads (HasText text) f name (has_text text (Some f) (whole, kept) (same (seen_text text name.now (h.sure some name.now h.among)) none_or_same)) (h.sure some);
        starts = λ on starting. absurd (true≢false (sym closed ∙ on));
        grown = λ on growing. absurd (true≢false (sym closed ∙ on));
        some = h.some;
      }
    where
      same : (as_seen w.disk).id ≡ Some text → ((as_seen w.disk).id ≡ None) ⊎ ((as_seen w.disk).id ≡ Some w.disk.id.beside.seen) → Some w.disk.id.beside.seen ≡ Some text
      same is (inl none) = absurd (let e : None ≡ Some text = sym none ∙ is in cc)
      same is (inr there) = sym there ∙ is

  crashes : (w : World) (o : Outcome) → Held w → IsOutcome w.disk o → IsHeld (settled (option_at_rest o.id)) true Idle w.home w.acknowledged
  crashes w o h left =
      record {
        among = inl refl;
        each = λ there among. subst IsOnDisk (IsOneOf-only (option_at_rest o.id) there among) (rest_on_disk o.id);
        sure = λ some there among.
            let is = text_left text left.id.0 o.id left.id.2 (h.sure some left.id.0 left.id.1) in
            subst (HasText text) (ap option_at_rest (sym is) ∙ IsOneOf-only (option_at_rest o.id) there among) (record { file = at_rest text; is = refl; whole = refl; kept = refl; seen = refl });
        starts = λ on starting. absurd (true≢false on);
        grown = λ on growing. absurd (true≢false on);
        some = h.some;
      }

  keeps : (t : Titles) (w : World) (e : Event) → text ≡ t.id → Held w → IsIdAllowed t w e → Held (happens t w e)
  keeps t w Begin is h a =
      unless_both (begin_fault w.folder) (record { folder = begun w.folder; disk = w.disk; home = w.home; log = w.log; logs = w.logs; flying = w.flying; parts = w.parts; acknowledged = w.acknowledged; memory = w.memory; noted = w.noted; texts = w.texts }) w Held (λ e. begins w.folder.step w h (is_begin w.folder e).1) h
  keeps t w (Answer ok) is h a = unless_both (answer_fault w.folder ok) (after_answer w ok) w Held (λ e. answers w.folder.step ok w h (is_answer w.folder ok e).0 (is_due w.folder ok e)) h
  keeps t w (Piece payload ok landed) is h a = unless_both (piece_fault w.folder (length payload)) (after_piece t w payload ok landed) w Held (λ e. pieces t w.folder.step ok w payload landed h (is_piece w.folder (length payload) e).1) h
  keeps t w (Put payload true landed) is h a = unless_both (put_fault w.folder (length payload)) (after_put t w payload true landed) w Held (λ e. h) h
  keeps t w (Put payload false landed) is h a = unless_both (put_fault w.folder (length payload)) (after_put t w payload false landed) w Held (λ e. h) h
  keeps t w (Grow at landed) is h a = unless_both (grow_fault w.folder) (after_grow w at landed) w Held (λ e. h) h
  keeps t w (Sync true) is h a =
      unless_both (landed_fault w.folder) (after_sync w true) w Held
      (λ e. let p = is_landed w.folder e in record { among = h.among; each = h.each; sure = h.sure; starts = h.starts; grown = h.grown; some = inr (h.grown p.0 p.1) }) h
  keeps t w (Sync false) is h a = unless_both (landed_fault w.folder) (after_sync w false) w Held (λ e. goes w.disk.id.name w.folder.ended true w.folder.step Idle w.home w.acknowledged h (λ on. absurd (true≢false on)) (λ on. absurd (true≢false on))) h
  keeps t w (WriteId x ok landed) is h a = unless_both (id_fault w.folder) (with_disk w (write_id (cond ok x landed) w.disk)) w Held (λ e. h) h
  keeps t w (SyncId ok) is h a = unless_both (id_fault w.folder) (with_disk w (sync_id ok w.disk)) w Held (λ e. h) h
  keeps t w RenameId is h a = unless_both (id_fault w.folder) (with_disk w (rename_id w.disk)) w Held (λ e. renames w h (is_closed w.folder e) a.0 a.1 a.2) h
  keeps t w (NameId ok) is h a =
      unless_both (id_fault w.folder) (with_disk w (sync_folder ok w.disk)) w Held (λ e. syncs ok w.disk.id.name w.folder.ended w.folder.ended w.folder.step w.folder.step w.home w.acknowledged h (λ on. absurd (true≢false (sym (is_closed w.folder e) ∙ on)))) h
  keeps t w (Crash o) is h a = crashes w o h a
  keeps t w (Start oldest newest read) is h a =
      record { among = h.among; each = h.each; sure = h.sure; starts = λ on starting. (a.0 ∙ ap (λ (b : List ℕ). Some b) (sym is), a.1); grown = λ on growing. absurd (true≢false growing); some = h.some }

  always : (t : Titles) (events : List Event) (w : World) → text ≡ t.id → Held w → IsIdKept t events w → Held (history t events w)
  always t [] w is h a = h
  always t (e ∷ events) w is h a = always t events (happens t w e) is (keeps t w e is h a.0) a.1

  at_first : Held fresh
  at_first = record { among = inl refl; each = λ there among. subst IsOnDisk (IsOneOf-only None there among) tt; sure = λ some. absurd (omega (arith, some)); starts = λ on starting. absurd (true≢false on); grown = λ on growing. absurd (true≢false on); some = inl refl }

  left_is : (w : World) (o : Outcome) → Held w → 0 < w.home → IsLeft w.disk o → o.id ≡ Some text
  left_is w o h some (inl left) = text_left text left.id.0 o.id left.id.2 (h.sure some left.id.0 left.id.1)
  left_is w o h some (inr seen) = ap (λ (x : Outcome). x.id) seen ∙ seen_text text w.disk.id.name.now (h.sure some w.disk.id.name.now h.among)

pub id_is_read : IdIsRead
id_is_read t events kept =
    let h = always t.id t events fresh refl (at_first t.id) kept in
    (h.some, λ some o left. left_is t.id (history t events fresh) o h some left)

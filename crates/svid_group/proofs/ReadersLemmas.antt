-- What happens in a group that reads a log is, of its readers, what a list of events of svid_log's groups leaves.
use mathlib.Core.Path.{fun_ext}
use Rattle.std.proofs.Common.{◌≡◌, inl, inr, ℕ, zero, suc, max, Bool, true, false, not, nat_lt, ◌&&◌, ◌||◌, List, [], ◌∷◌, ◌++◌, length, drop, Option, Some, None, refl, sym, ap, ◌∙◌, subst, arith, if◌then◌else◌}
use Rattle.std.specs.Prelude.{◌==◌, IsTrue, slice_get}
use Rattle.std.specs.List.{AllByRecursion}
use Rattle.std.proofs.lemmas.Bool.{and_parts, cases_eq, cond-false, cond-true, eq-eqb, false≢true, ltb-true, ne_eqb, not-true, true≢false}
use Rattle.std.proofs.lemmas.Option.{none-some}
use Rattle.svid_replay.specs.declared.token_use.Use.{Use}
use Rattle.svid_replay.specs.Records.{State, join}
use Rattle.svid_replay.specs.Sets.{holds, keep}
use Rattle.svid_replay.proofs.RecordsLemmas.{is_join}
use Rattle.svid_replay.proofs.SetsLemmas.{holds-keep}
use Rattle.svid_replay.proofs.UseLemmas.{use_exact, use_total}
use Rattle.svid_replay.proofs.UsesLemmas.{holds-live}
use Rattle.svid_check.specs.Changes.{gains}
use Rattle.svid_check.specs.Runs.{Terms}
use Rattle.svid_check.specs.Saves.{IsLater}
use Rattle.svid_check.specs.Setting.{Renewal}
use Rattle.svid_check.specs.World as check
use Rattle.svid_check.specs.World.{Answer, Check, Member, OldSend, Piece, Renew, Restart, Save, Saved, Send, Sum, Take, Tick, Withdraw, ticked}
use Rattle.svid_check.proofs.MembersLemmas.{IsTold}
use Rattle.svid_check.proofs.SaveEventsLemmas.{events_leave_later}
use Rattle.svid_log.specs.declared.fate.Fate.{Fate}
use Rattle.svid_log.specs.declared.fate.Fate.TheVariants.{Accepted, First, Expired, TooFarAhead, Withdrawal, Withdrawn, Replayed}
use Rattle.svid_log.specs.Groups as log
use Rattle.svid_log.specs.Once.{TellsNoUseOf}
use Rattle.svid_log.specs.Steps.{fate_at, gains_by, is_early, reached}
use Rattle.svid_group.specs.Once.{AddNoUseOf, AddsNoUseOf}
use Rattle.svid_group.specs.World.{Anew, Aside, Call, Event, Look, Miss, Put, Read, World, anew, as_readers, as_terms, aside_of, gain_by, happen, happens, miss, passed, put, put_aside, put_back, read_next, reader, reader_at, saves_of, told_by}
use Rattle.svid_group.proofs.ChangesLemmas.{Changes, event_changes, renewal_then, who}
use Rattle.svid_group.proofs.StandsLemmas.{IsWhole, happens_whole}

-- What a record gained is joined to it.

-- the moment of a later record, and those of its uses that the earlier one had not
abbrev news : State → State → State
news x y = record { moment = y.moment; uses = keep (λ u. not (holds x.uses u)) y.uses }

holds-news : (x y : State) (u : Use) → holds (news x y).uses u ≡ (not (holds x.uses u) && holds y.uses u)
holds-news x y u = holds-keep use_total use_exact (λ v. not (holds x.uses v)) y.uses u

news_tests : (lives had has : Bool) → (has ≡ true → lives ≡ true) → (had ≡ true → lives ≡ true → has ≡ true) → has ≡ (lives && ((not had && has) || had))
news_tests true true true k l = refl
news_tests true true false k l = absurd (false≢true (l refl refl))
news_tests true false true k l = refl
news_tests true false false k l = refl
news_tests false had true k l = absurd (false≢true (k refl))
news_tests false had false k l = refl

pub lives : (y : Member) → IsTold y → (u : Use) → holds y.held.uses u ≡ true → nat_lt y.held.moment u.exp ≡ true
lives y is u h =
    subst (λ (r : State). holds r.uses u ≡ true → nat_lt r.moment u.exp ≡ true) (sym is)
    (λ k. (and_parts (nat_lt y.told.greatest u.exp) (holds y.told.uses u) (sym (holds-live y.told.uses y.told.greatest u) ∙ k)).0) h

news_join : (x : State) (y : Member) → IsTold y → IsLater x y.held → join x (news x y.held) ≡ y.held
news_join x y is later =
    let m : y.held.moment ≡ max x.moment y.held.moment = omega (arith, later.moment) in
    sym (is_join x (news x y.held) y.held m (λ u.
    news_tests (nat_lt y.held.moment u.exp) (holds x.uses u) (holds y.held.uses u) (lives y is u)
    (λ had lt. later.uses u had (ltb-true y.held.moment u.exp lt))
    ∙ ap (λ h. nat_lt y.held.moment u.exp && (h || holds x.uses u)) (sym (holds-news x y.held u))
    ∙ ap (λ n. nat_lt n u.exp && (holds (news x y.held).uses u || holds x.uses u)) m))

-- The saves.

saves_push : (saves : List Saved) (asides : List Aside) (s : Saved) (a : Aside) → length asides ≡ length saves
    → saves_of (saves ++ s ∷ []) (asides ++ a ∷ []) ≡ saves_of saves asides ++ record { owner = s.owner; was = reader s.was a } ∷ []
saves_push [] [] s a same = refl
saves_push [] (b ∷ asides) s a same = absurd (omega (arith, same))
saves_push (r ∷ saves) [] s a same = absurd (omega (arith, same))
saves_push (r ∷ saves) (b ∷ asides) s a same = ap (λ l. record { owner = r.owner; was = reader r.was b } ∷ l) (saves_push saves asides s a (omega (arith, same)))

-- a save of a reader is one of the group with what stood beside it
abbrev both : Option Saved → Option Aside → Option log.Saved
both (Some s) (Some a) = Some (record { owner = s.owner; was = reader s.was a })
both _ _ = None

both_none : (o : Option Saved) → None ≡ both o None
both_none None = refl
both_none (Some s) = refl

saves_index : (saves : List Saved) (asides : List Aside) (k : ℕ) → slice_get (saves_of saves asides) k ≡ both (slice_get saves k) (slice_get asides k)
saves_index [] asides k = refl
saves_index (s ∷ saves) [] k = both_none (slice_get (s ∷ saves) k)
saves_index (s ∷ saves) (a ∷ asides) zero = refl
saves_index (s ∷ saves) (a ∷ asides) (suc k) = saves_index saves asides k

both_there : (saves : List Saved) (asides : List Aside) (k : ℕ) (s : Saved) → length asides ≡ length saves → slice_get saves k ≡ Some s → slice_get asides k ≡ None → ⊥
both_there [] asides k s same there none = none-some s there
both_there (r ∷ saves) [] k s same there none = omega (arith, same)
both_there (r ∷ saves) (a ∷ asides) zero s same there none = none-some a (sym none)
both_there (r ∷ saves) (a ∷ asides) (suc k) s same there none = both_there saves asides k s (omega (arith, same)) there none

-- A validator with what stands beside its record is a reader.

one_reader : (b : Bool) (x y : Member) (a c : Aside) → reader (if b then x else y) (if b then a else c) ≡ (if b then reader x a else reader y c)
one_reader true x y a c = refl
one_reader false x y a c = refl

put_readers : (w : World) (v : ℕ) (x : Member) (a : Aside) → as_readers (put w v x a) ≡ log.put (as_readers w) v (reader x a)
put_readers w v x a =
    ap (λ (members : ℕ → log.Reader). record { members = members; log = w.log; saves = saves_of w.group.saves w.saved })
    (fun_ext (λ n. one_reader (n == v) x (w.group.members n) a (w.asides n)))

-- so is one that is a reader with this record
put_reads : (w : World) (v : ℕ) (x : Member) (r : log.Reader) → x.held ≡ r.held → as_readers (put w v x (aside_of r)) ≡ log.put (as_readers w) v r
put_reads w v x r held =
    put_readers w v x (aside_of r)
    ∙ ap (λ (h : State). log.put (as_readers w) v (record { held = h; beside = r.beside; read = r.read; ready = r.ready; deaf = r.deaf })) held

held_if : (b : Bool) (x y : Member) → (if b then x else y).held ≡ (if b then x.held else y.held)
held_if true x y = refl
held_if false x y = refl

passed_held : (far : ℕ) (x : Member) (now : ℕ) (c : Use) → (passed far x now c).held ≡ reached x.held now far c
passed_held far x now c = let y = ticked x now in held_if (is_early y.held far c) y (ticked y c.at)

gain_held : (fate : Fate) (x : State) (c : Use) → gains x (gain_by fate c) ≡ gains_by fate x c
gain_held First x c = refl
gain_held Withdrawal x c = refl
gain_held Accepted x c = refl
gain_held Expired x c = refl
gain_held TooFarAhead x c = refl
gain_held Withdrawn x c = refl
gain_held Replayed x c = refl

gained_held : (x : Member) (added : Option Use) → (check.gained x added).held ≡ gains x.held added
gained_held x added = refl

told_held : (far : ℕ) (x : Member) (a : Aside) (now : ℕ) (refused : Bool) (c : Use) → (told_by far x a now refused c).held ≡ (log.reads far (reader x a) now refused c).held
told_held far x a now true c = passed_held far x now c
told_held far x a now false c =
    let fate = fate_at x.held a.uses now far c in
    ap (λ (r : State). gains r (gain_by fate c)) (passed_held far x now c) ∙ gain_held fate (reached x.held now far c) c

pub read_readers : (far : ℕ) (w : World) (v now : ℕ) (refused : Bool) (o : Option Use) → as_readers (read_next far w v now refused o) ≡ log.read_next far (as_readers w) v now refused o
read_readers far w v now refused None = refl
read_readers far w v now refused (Some c) =
    let x = w.group.members v in
    put_reads w v (told_by far x (w.asides v) now refused c) (log.reads far (reader_at w v) now refused c) (told_held far x (w.asides v) now refused c)

-- one way or the other, it is the same group of readers
either_readers : (b : Bool) (x y : World) (r s : log.World) → as_readers x ≡ r → as_readers y ≡ s → as_readers (if b then x else y) ≡ (if b then r else s)
either_readers true x y r s one other = one
either_readers false x y r s one other = other

anew_readers : (w : World) (v front until : ℕ) → as_readers (anew w v front until) ≡ log.anew (as_readers w) v front until
anew_readers w v front until =
    let r = log.begins (reader_at w v) (log.reader_behind front until) in
    let x = check.with_renewal check.new_member (w.group.members v).renewal in
    either_readers (log.is_gone until front w.log) (put w v x (aside_of r)) w (log.put (as_readers w) v r) (as_readers w) (put_reads w v x r refl) refl

pub miss_readers : (w : World) (v more until : ℕ) → as_readers (miss w v more until) ≡ log.miss (as_readers w) v more until
miss_readers w v more until =
    let r = log.missed (reader_at w v) more until in
    let x = w.group.members v in
    either_readers (log.is_gone until more (drop (w.asides v).read w.log)) (put w v x (aside_of r)) w (log.put (as_readers w) v r) (as_readers w) (put_reads w v x r refl) refl

-- a restart puts back both
restart_by : (b : Bool) (w : World) (v : ℕ) (x : Member) (a : Aside)
    → as_readers (record { group = if b then check.put w.group v x else w.group; log = w.log; asides = if b then put_aside w.asides v a else w.asides; saved = w.saved })
    ≡ (if b then log.put (as_readers w) v (reader x a) else as_readers w)
restart_by true w v x a = put_readers w v x a
restart_by false w v x a = refl

restart_readers : (w : World) (v k : ℕ) → length w.saved ≡ length w.group.saves → (o : Option Saved) (p : Option Aside) → slice_get w.group.saves k ≡ o → slice_get w.saved k ≡ p
    → as_readers (record { group = check.restart w.group v o; log = w.log; asides = put_back w v o p; saved = w.saved }) ≡ log.restart (as_readers w) v (both o p)
restart_readers w v k same None p at beside = refl
restart_readers w v k same (Some s) None at beside = absurd (both_there w.group.saves w.saved k s same at beside)
restart_readers w v k same (Some s) (Some a) at beside =
    restart_by (s.owner == v) w v (check.with_renewal s.was (w.group.members v).renewal) (aside_of (log.begins (reader_at w v) (reader s.was a)))

module _ (group : ℕ → Terms) where
  -- an event leaves of the readers what these events leave, which tell no use of a key that it does not add
  pub record Simulates (w : World) (e : Event) : Type 0 where
    pub events : List log.Event
    pub leads : as_readers (happens group w e) ≡ log.happen (as_terms group) (as_readers w) events
    pub silent : (key : List ℕ) → AddsNoUseOf group key w e → AllByRecursion (TellsNoUseOf key) events

  -- an event that is one validator's tells what its record gained
  module _ (w : World) (v : ℕ) (given : Option Renewal) (after : check.World) (c : Changes w.group v w.group.saves given after) (is : IsTold (after.members v)) (later : IsLater (w.group.members v).held (after.members v).held) where
    abbrev gained : State
    gained = news (w.group.members v).held (after.members v).held

    abbrev told : log.Reader
    told = log.told (reader_at w v) gained

    own_tells : (n : ℕ) → n ≡ v → reader (after.members n) (w.asides n) ≡ (if n == v then told else reader_at w n)
    own_tells n e =
        ap (λ i. reader (after.members i) (w.asides i)) e
        ∙ ap (λ (h : State). reader (record { held = h; told = (after.members v).told; log = (after.members v).log; renewal = (after.members v).renewal }) (w.asides v)) (sym (news_join (w.group.members v).held (after.members v) is later))
        ∙ sym (cond-true (n == v) told (reader_at w n) (eq-eqb n v e))

    each_tells : (n : ℕ) → reader (after.members n) (w.asides n) ≡ (if n == v then told else reader_at w n)
    each_tells n = elim (cases_eq n v) [
      | inl e ↦ own_tells n e
      | inr d ↦ ap (λ (x : Member). reader x (w.asides n)) (c.others n d) ∙ sym (cond-false (n == v) told (reader_at w n) (ne_eqb n v d))
    ]

    tells : as_readers (record { group = after; log = w.log; asides = w.asides; saved = w.saved }) ≡ log.happens (as_terms group) (as_readers w) (log.Tell v gained)
    tells =
        ap (λ (saves : List Saved). record { members = λ n. reader (after.members n) (w.asides n); log = w.log; saves = saves_of saves w.saved }) c.saves
        ∙ ap (λ (members : ℕ → log.Reader). record { members = members; log = w.log; saves = saves_of w.group.saves w.saved }) (fun_ext each_tells)

  silent_news : (x y : State) (key : List ℕ) → ((u : Use) → IsTrue (holds y.uses u) → u.key ≡ key → IsTrue (holds x.uses u)) → (u : Use) → IsTrue (holds (news x y).uses u) → u.key ≡ key → ⊥
  silent_news x y key none u h same =
      let parts = and_parts (not (holds x.uses u)) (holds y.uses u) (sym (holds-news x y u) ∙ h) in
      true≢false (sym (none u parts.1 same) ∙ not-true (holds x.uses u) parts.0)

  simulates : (w : World) (e : Event) → IsWhole w → Simulates w e
  simulates w (Call (Save v)) h = record {
    events = log.Save v ∷ [];
    leads = ap (λ (saves : List log.Saved). record { members = reader_at w; log = w.log; saves = saves }) (saves_push w.group.saves w.saved (record { owner = v; was = w.group.members v }) (w.asides v) h.beside);
    silent = λ key adds. (tt, tt);
  }
  simulates w (Call (Restart v k)) h = record {
    events = log.Restart v k ∷ [];
    leads = restart_readers w v k h.beside (slice_get w.group.saves k) (slice_get w.saved k) refl refl
        ∙ ap (λ (o : Option log.Saved). log.restart (as_readers w) v o) (sym (saves_index w.group.saves w.saved k));
    silent = λ key adds. (tt, tt);
  }
  simulates w (Call e) h =
      let after = check.happens group w.group e in
      let v = who e in
      record {
        events = log.Tell v (news (w.group.members v).held (after.members v).held) ∷ [];
        leads = tells w v (renewal_then w.group e) after (event_changes group w.group e) (((happens_whole group w (Call e) h).sound.members v).is_told) (events_leave_later group w.group v e tt);
        silent = λ key adds. (λ u held same. silent_news (w.group.members v).held (after.members v).held key (adds v) u held same, tt);
      }
  simulates w (Put u) h = record { events = log.Put u ∷ []; leads = refl; silent = λ key adds. (tt, tt) }
  simulates w (Read v now refused) h = record {
    events = log.Read v now refused ∷ [];
    leads = read_readers (check.far group v now) w v now refused (slice_get w.log (w.asides v).read);
    silent = λ key adds. (tt, tt);
  }
  simulates w (Look v) h = record {
    events = log.Look v ∷ [];
    leads = put_reads w v (w.group.members v) (log.looked (reader_at w v)) refl;
    silent = λ key adds. (tt, tt);
  }
  simulates w (Anew v front until) h = record { events = log.Anew v front until ∷ []; leads = anew_readers w v front until; silent = λ key adds. (tt, tt) }
  simulates w (Miss v more until) h = record { events = log.Miss v more until ∷ []; leads = miss_readers w v more until; silent = λ key adds. (tt, tt) }

  append_happen : (z : log.World) (events more : List log.Event) → log.happen (as_terms group) z (events ++ more) ≡ log.happen (as_terms group) (log.happen (as_terms group) z events) more
  append_happen z [] more = refl
  append_happen z (e ∷ events) more = append_happen (log.happens (as_terms group) z e) events more

  append_all : (P : log.Event → Type 0) (events more : List log.Event) → AllByRecursion P events → AllByRecursion P more → AllByRecursion P (events ++ more)
  append_all P [] more h k = k
  append_all P (e ∷ events) more h k = (h.0, append_all P events more h.1 k)

  -- so does a list of events
  pub record Leads (w : World) (es : List Event) : Type 0 where
    pub events : List log.Event
    pub leads : as_readers (happen group w es) ≡ log.happen (as_terms group) (as_readers w) events
    pub silent : (key : List ℕ) → AddNoUseOf group key w es → AllByRecursion (TellsNoUseOf key) events

  pub leads_to : (w : World) (es : List Event) → IsWhole w → Leads w es
  leads_to w [] h = record { events = []; leads = refl; silent = λ key adds. tt }
  leads_to w (e ∷ es) h =
      let one = simulates w e h in
      let more = leads_to (happens group w e) es (happens_whole group w e h) in
      record {
        events = one.events ++ more.events;
        leads = more.leads ∙ (ap (λ (z : log.World). log.happen (as_terms group) z more.events) one.leads ∙ sym (append_happen (as_readers w) one.events more.events));
        silent = λ key adds. append_all (TellsNoUseOf key) one.events more.events (one.silent key adds.0) (more.silent key adds.1);
      }

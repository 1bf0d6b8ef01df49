-- What a send tells.
use Rattle.std.proofs.Common.{◌≡◌, ◌≢◌, ℕ, ◌<◌, ◌≤◌, Bool, true, false, not, cond, ◌||◌, nat_lt, List, [], ◌∷◌, length, refl, sym, ap, ◌∙◌, subst, inl, inr, arith}
use Rattle.std.specs.Prelude.{IsTrue, Option, Some, None, Result, Ok, slice_get, ◌==◌}
use Rattle.std.specs.Cmp.{both_ways}
use Rattle.std.specs.List.{AllByRecursion}
use Rattle.std.specs.Ordering.{eq_by_cmp, is_eq}
use Rattle.std.proofs.lemmas.Cmp.{tied_itself}
use Rattle.svid_token.specs.declared.refusal.Refusal.{Refusal}
use Rattle.std.proofs.lemmas.Bool.{and_from, cases_eq, cases_lt, cond-false, cond-true, cond_both, eq-eqb, eqb-true, lt-ltb, ne_eqb, or_left, or_right}
use Rattle.std.proofs.lemmas.Bool.Decides.{nat_tests}
use Rattle.std.proofs.lemmas.Option.{same_Some}
use Rattle.svid_replay.specs.declared.token_use.Use.{Use}
use Rattle.svid_replay.specs.Batches.{BatchData}
use Rattle.svid_replay.specs.Buckets.{answer_to, summary_of}
use Rattle.svid_replay.specs.Parts.{parts_of}
use Rattle.svid_replay.specs.Records.{State}
use Rattle.svid_replay.specs.Sets.{holds, rising}
use Rattle.svid_replay.specs.Summary.{SummaryData}
use Rattle.svid_replay.specs.Use.{use_cmp}
use Rattle.svid_replay.specs.Uses.{Uses, live, uses_in}
use Rattle.svid_replay.proofs.UseLemmas.{use_total}
use Rattle.svid_replay.proofs.UsesLemmas.{holds-live, same_uses, uses_in-rising, with_holds_one_more}
use Rattle.svid_check.specs.declared.accepted.Accepted.{Accepted}
use Rattle.svid_check.specs.Headline.{AcceptanceGoesAlong, AcceptanceTells, AcceptedIsRefused, ChainsTell, HasTaken, IsRefusedBy, IsSend, IsUseOf, IsWithin, RestartsPutBack, SendsMakeEqual, SendsTellAll, TakesOnly, ToldIsRefused, WentAlong, WithdrawnAreRefused}
use Rattle.svid_check.specs.Lawful.{Accepts, input_of}
use Rattle.svid_check.specs.Runs.{Terms}
use Rattle.svid_check.specs.Setting.{Setting}
use Rattle.svid_check.specs.Told.{record_of}
use Rattle.svid_check.specs.Saves.{piece_of}
use Rattle.svid_check.specs.World.{Answer, Answered, Check, Content, Entry, Event, Made, Member, OldSend, Posting, Restart, Save, Saved, Send, Sent, Sum, Summed, Take, Tick, Took, Withdraw, World, answer_at, answer_content, answer_posting, answer_summary, carried, checked, far, front, happen, happens, has_withdrawal, joined, logged, old_parts_of, parts_in, post, put, restart, start, take_part, take_posting, ticked, took, withdrawal_at, withdrew, Renew, setting_at, with_renewal, Piece, Pieced}
use Rattle.svid_check.proofs.AnswersLemmas.{accepted_is}
use Rattle.svid_check.proofs.CutsLemmas.{AreCut, first_part, in_part}
use Rattle.svid_check.proofs.LawfulLemmas.{alive, fresh, is_accepted, said_is_of_its_input}
use Rattle.svid_check.proofs.MembersLemmas.{IsTold, carried_within, holds-carried, union_within}
use Rattle.svid_check.proofs.IndexesLemmas.{later_index, put_own}
use Rattle.svid_check.proofs.RestartsLemmas.{restart_absorbs}
use Rattle.svid_check.proofs.RunsLemmas.{told_now}
use Rattle.svid_check.proofs.SoundLemmas.{Arrived, Given, Sound, Stands, goes_on_sound, is_sound}

-- what a batch carries
pub carried_listed : (s : Uses) (b : BatchData) (u : Use) → IsTrue (holds s u) → IsTrue (holds (uses_in b.uses) u) → IsTrue (holds (carried s b) u)
carried_listed s b u h l =
    holds-carried s b u
    ∙ and_from (holds (uses_in b.uses) u || not (nat_lt b.moment u.exp)) (holds s u) (or_left (holds (uses_in b.uses) u) (not (nat_lt b.moment u.exp)) l) h

not_live : (b : Bool) → b ≡ false → not b ≡ true
not_live true e = sym e
not_live false e = refl

le_not_live : (m e : ℕ) → e ≤ m → nat_lt m e ≡ false
le_not_live m e le = grind (arith, nat_tests)

pub carried_expired : (s : Uses) (b : BatchData) (u : Use) → IsTrue (holds s u) → u.exp ≤ b.moment → IsTrue (holds (carried s b) u)
carried_expired s b u h l =
    holds-carried s b u
    ∙ and_from (holds (uses_in b.uses) u || not (nat_lt b.moment u.exp)) (holds s u)
    (or_right (holds (uses_in b.uses) u) (not (nat_lt b.moment u.exp)) (not_live (nat_lt b.moment u.exp) (le_not_live b.moment u.exp l))) h

pub is_live : (s : Uses) (m : ℕ) (u : Use) → IsTrue (holds s u) → m < u.exp → IsTrue (holds (live s m) u)
is_live s m u h l = holds-live s m u ∙ and_from (nat_lt m u.exp) (holds s u) (lt-ltb m u.exp l) h

-- each use that was learned and has not expired is in the record
pub told_is_held : (x : Member) (u : Use) → IsTold x → IsTrue (holds x.told.uses u) → x.held.moment < u.exp → IsTrue (holds x.held.uses u)
told_is_held x u is h l =
    ap (λ (r : State). holds r.uses u) is ∙ is_live x.told.uses x.told.greatest u h (subst (λ (r : State). r.moment < u.exp) is l)

-- what a part that was taken carries is learned
pub arrived_within : (pool : List Posting) (k p : ℕ) (told : Uses) (q : Posting) (b : BatchData) → Arrived pool k p told → slice_get pool k ≡ Some q → slice_get (parts_in q.content) p ≡ Some b → IsWithin (carried q.was.told.uses b) told
arrived_within pool k p told q b a e f =
    let same = same_Some a.posting q (sym a.stands ∙ e) in
    let part = same_Some a.part b (sym a.is_part ∙ (ap (λ (x : Posting). slice_get (parts_in x.content) p) same ∙ f)) in
    subst (λ (x : BatchData). IsWithin (carried q.was.told.uses x) told) part (subst (λ (x : Posting). IsWithin (carried x.was.told.uses a.part) told) same a.within)

-- some part of a record's parts carries each use that was learned
pub cut_carries : (x : Member) (parts : List BatchData) (u : Use) → AreCut x.held.moment (rising x.held.uses) parts → IsTold x → IsTrue (holds x.told.uses u) → (p : ℕ) × (b : BatchData) × (slice_get parts p ≡ Some b) × IsTrue (holds (carried x.told.uses b) u)
cut_carries x parts u are is h =
    elim (cases_lt x.held.moment u.exp) [
      | inl lt ↦
          let i = in_part x.held.moment (rising x.held.uses) parts u are (ap (λ (s : Uses). holds s u) (uses_in-rising x.held.uses) ∙ told_is_held x u is h lt) in
          (i.0, i.1, i.2, carried_listed x.told.uses i.1 u h i.3)
      | inr ge ↦
          let f = first_part x.held.moment (rising x.held.uses) parts are in
          (0, f.0, f.1, carried_expired x.told.uses f.0 u h (subst (λ (m : ℕ). u.exp ≤ m) (sym f.2) ge))
    ]

-- a validator of a group that took a send whole has learned what its sender had learned
pub send_told : (w : World) (x : Member) (k : ℕ) (q : Posting) → Sound w → Stands w.pool x → IsSend w k q → HasTaken x.log k q → IsWithin q.was.told.uses x.told.uses
send_told w x k q s stands send taken u h =
    let are : AreCut q.was.held.moment (rising q.was.held.uses) send.1.0 = subst (Given w.pool q.was.held) send.1.1 (s.pool k q send.0) in
    let i = cut_carries q.was send.1.0 u are (s.makers k q send.0).is_told h in
    let index = ap (λ (c : Content). slice_get (parts_in c) i.0) send.1.1 ∙ i.2 in
    arrived_within w.pool k i.0 x.told.uses q i.1 (stands.entries (Took k i.0) (taken i.0 i.1 index)) send.0 index u i.3

pub sends_tell : SendsTellAll
sends_tell group events v k q send taken = send_told (happen group start events) ((happen group start events).members v) k q (is_sound group events) ((is_sound group events).members v) send taken

-- the last maker of a chain has learned what went along it
went_along : (w : World) → Sound w → (u : Use) (k : ℕ) (chain : List ℕ) (q : Posting) → IsSend w k q → WentAlong w u k chain → IsTrue (holds q.was.told.uses u)
went_along w s u k [] q send along = subst (λ (p : Posting). IsTrue (holds p.was.told.uses u)) (same_Some along.0 q (sym along.1.0 ∙ send.0)) along.2
went_along w s u k (before ∷ chain) q send along =
    subst (λ (p : Posting). IsTrue (holds p.was.told.uses u)) (same_Some along.0 q (sym along.2.0 ∙ send.0))
    (send_told w along.0.was before along.1 s (s.makers k along.0 along.2.0) along.3 along.4 u (went_along w s u before chain along.1 along.3 along.5))

pub chains_tell : ChainsTell
chains_tell group events v k q u chain send taken along =
    sends_tell group events v k q send taken u (went_along (happen group start events) (is_sound group events) u k chain q send along)

accepted_told : (x : Member) (accepted : Accepted) → IsTrue (holds (checked x (Ok accepted)).told.uses accepted.used)
accepted_told x accepted =
    with_holds_one_more x.told.uses accepted.used accepted.used
    ∙ or_left (eq_by_cmp use_cmp accepted.used accepted.used) (holds x.told.uses accepted.used) (ap is_eq (tied_itself use_total accepted.used))

-- a use that was learned is in the record, unless it has expired, so tokens of its signing input are refused
pub told_refuses : (x : Member) (input : List ℕ) (u : Use) → IsTold x → IsTrue (holds x.told.uses u) → IsUseOf u input → IsRefusedBy x input
told_refuses x input u is h of s token now refused accepted is_input e =
    let y = ticked x now in
    let told : y.held ≡ record_of y.told = sym (told_now x.told x.held now (sym is)) in
    let accepts = accepted_is s y.held token refused accepted e in
    let by = is_accepted s y.held.moment y.held.uses token accepted.used accepts in
    let due = of token by.said is_input by.is_said in
    let same : (accepted.used.key ≡ u.key) × (accepted.used.exp ≡ u.exp) = (sym (ap (λ (v : Use). v.key) by.is_used) ∙ due.0, sym (ap (λ (v : Use). v.exp) by.is_used) ∙ due.1) in
    let lives : y.held.moment < u.exp = subst (λ (n : ℕ). y.held.moment < n) same.1 (alive s y.held.moment y.held.uses token accepted.used accepts) in
    fresh s y.held.moment y.held.uses token accepted.used u accepts (told_is_held y u told h lives) (sym same.0)

pub withdrawn_are_refused : WithdrawnAreRefused
withdrawn_are_refused group events v now token refused accepted u h gone lives e same =
    let x = (happen group start events).members v in
    let y = ticked x now in
    let told : y.held ≡ record_of y.told = sym (told_now x.told x.held now (sym ((is_sound group events).members v).is_told)) in
    let held = told_is_held y u told h (subst (λ (r : State). r.moment < u.exp) (sym told) lives) in
    let s = setting_at group (happen group start events) v in
    fresh s y.held.moment y.held.uses token accepted.used u (accepted_is s y.held token refused accepted e) held same

accepted_use_of : (s : Setting) (moment : ℕ) (uses : Uses) (token input : List ℕ) (u : Use) → Accepts s moment uses token u → input_of token ≡ Some input → IsUseOf u input
accepted_use_of s moment uses token input u first is again t same says = said_is_of_its_input s moment uses token again u t first (is ∙ sym same) says

pub told_is_refused : ToldIsRefused
told_is_refused group events v input u h of = told_refuses ((happen group start events).members v) input u ((is_sound group events).members v).is_told h of

pub accepted_is_refused : AcceptedIsRefused
accepted_is_refused group events v moment s uses token input u accepts is h = told_is_refused group events v input u h (accepted_use_of s moment uses token input u accepts is)

pub acceptance_goes_along : AcceptanceGoesAlong
acceptance_goes_along group events v k moment q chain s uses token input u accepts is send taken along =
    accepted_is_refused group events v moment s uses token input u accepts is (chains_tell group events v k q u chain send taken along)

pub acceptance_tells : AcceptanceTells
acceptance_tells group w v now token refused accepted e =
    let x = ticked (w.members v) now in
    subst (λ (y : Member). IsTrue (holds y.told.uses accepted.used)) (sym (put_own w v (checked x (answer_at group w v now token refused))))
    (subst (λ (a : Result Accepted Refusal). IsTrue (holds (checked x a).told.uses accepted.used)) (sym e) (accepted_told x accepted))

-- A send taken whole, with nothing between.

put_other : (w : World) (v n : ℕ) (x : Member) → n ≢ v → (put w n x).members v ≡ w.members v
put_other w v n x d = cond-false (v == n) x (w.members v) (ne_eqb v n (λ e. d (sym e)))

took_within : (limit : ℕ) (x : Member) (e : Entry) (s : Uses) (b : BatchData) (refused : Option ℕ) → IsWithin x.told.uses s → IsWithin (took limit x e s b refused).told.uses s
took_within limit x e s b None h =
    cond_both (nat_lt limit b.moment) x (logged (joined x s b) e) (λ (z : Member). IsWithin z.told.uses s)
    (λ _. h) (λ _. union_within x.told.uses (carried s b) s h (carried_within s b))
took_within limit x e s b (Some n) h =
    cond_both (nat_lt limit b.moment) x (joined x s (front n b)) (λ (z : Member). IsWithin z.told.uses s)
    (λ _. h) (λ _. union_within x.told.uses (carried s (front n b)) s h (carried_within s (front n b)))

module _ (group : ℕ → Terms) (v k : ℕ) (q : Posting) where
  -- posting k is q, and validator v has learned no more than its maker
  record Under (w : World) : Type 0 where
    index : slice_get w.pool k ≡ Some q
    told : IsWithin (w.members v).told.uses q.was.told.uses

  other_put : (w : World) (n : ℕ) (x : Member) → n ≢ v → Under w → Under (put w n x)
  other_put w n x d h = record { index = h.index; told = subst (λ (y : Member). IsWithin y.told.uses q.was.told.uses) (sym (put_other w v n x d)) h.told }

  posted : (w : World) (n : ℕ) (x : Member) (c : Content) → Under w → Under (post w n x c)
  posted w n x c h = record { index = later_index w.pool (record { maker = n; was = x; content = c }) k q h.index; told = h.told }

  own_part : (w : World) (n limit now : ℕ) (e : Entry) (refused : Option ℕ) (b : Option BatchData) → Under w → Under (take_part w n limit (ticked (w.members n) now) e refused q b)
  own_part w n limit now e refused None h = h
  own_part w n limit now e refused (Some b) h =
      let y = took limit (ticked (w.members n) now) e q.was.told.uses b refused in
      record {
        index = h.index;
        told = cond_both (v == n) y (w.members v) (λ (z : Member). IsWithin z.told.uses q.was.told.uses)
            (λ same. took_within limit (ticked (w.members n) now) e q.was.told.uses b refused (subst (λ (i : ℕ). IsWithin (w.members i).told.uses q.was.told.uses) (eqb-true v n same) h.told))
            (λ _. h.told);
      }

  other_part : (w : World) (n limit : ℕ) (x : Member) (e : Entry) (refused : Option ℕ) (r : Posting) (b : Option BatchData) → n ≢ v → Under w → Under (take_part w n limit x e refused r b)
  other_part w n limit x e refused r None d h = h
  other_part w n limit x e refused r (Some b) d h = other_put w n (took limit x e r.was.told.uses b refused) d h

  other_take : (w : World) (n limit : ℕ) (x : Member) (j p : ℕ) (refused : Option ℕ) (r : Option Posting) → n ≢ v → Under w → Under (take_posting w n limit x j p refused r)
  other_take w n limit x j p refused None d h = h
  other_take w n limit x j p refused (Some r) d h = other_part w n limit x (Took j p) refused r (slice_get (parts_in r.content) p) d h

  own_take : (w : World) (n now j p : ℕ) (refused : Option ℕ) → (n ≡ v → j ≡ k) → Under w → Under (happens group w (Take n now j p refused))
  own_take w n now j p refused own h =
      let x = ticked (w.members n) now in
      elim (cases_eq n v) [
        | inl e ↦
            let here : slice_get w.pool j ≡ Some q = ap (slice_get w.pool) (own e) ∙ h.index in
            subst (λ (r : Option Posting). Under (take_posting w n (far group n now) x j p refused r)) (sym here)
            (own_part w n (far group n now) now (Took j p) refused (slice_get (parts_in q.content) p) h)
        | inr d ↦ other_take w n (far group n now) x j p refused (slice_get w.pool j) d h
      ]

  other_summary : (w : World) (n limit : ℕ) (x : Member) (j : ℕ) (refused : Bool) (s : SummaryData) → n ≢ v → Under w → Under (answer_summary w n limit x j refused s)
  other_summary w n limit x j refused s d h =
      let y = ticked x s.moment in
      let raised = other_put w n y d h in
      let c = Answered j (answer_to x.held s) in
      cond_both (nat_lt limit s.moment) (put w n x) (cond refused (put w n y) (post (put w n y) n y c)) Under
      (λ _. other_put w n x d h)
      (λ _. cond_both refused (put w n y) (post (put w n y) n y c) Under (λ _. raised) (λ _. posted (put w n y) n y c raised))

  other_content : (w : World) (n limit : ℕ) (x : Member) (j : ℕ) (refused : Bool) (c : Content) → n ≢ v → Under w → Under (answer_content w n limit x j refused c)
  other_content w n limit x j refused (Sent parts) d h = h
  other_content w n limit x j refused (Summed s) d h = other_summary w n limit x j refused s d h
  other_content w n limit x j refused (Answered to parts) d h = h
  other_content w n limit x j refused (Pieced piece) d h = h

  other_answer : (w : World) (n limit : ℕ) (x : Member) (j : ℕ) (refused : Bool) (r : Option Posting) → n ≢ v → Under w → Under (answer_posting w n limit x j refused r)
  other_answer w n limit x j refused None d h = h
  other_answer w n limit x j refused (Some r) d h = other_content w n limit x j refused r.content d h

  other_restart : (w : World) (n : ℕ) (r : Option Saved) → n ≢ v → Under w → Under (restart w n r)
  other_restart w n None d h = h
  other_restart w n (Some r) d h = let x = with_renewal r.was (w.members n).renewal in cond_both (r.owner == n) (put w n x) w Under (λ _. other_put w n x d h) (λ _. h)

  one_under : (w : World) (e : Event) → TakesOnly v k e → Under w → Under (happens group w e)
  one_under w (Check n now token refused) d h = other_put w n (checked (ticked (w.members n) now) (answer_at group w n now token refused)) d h
  one_under w (Withdraw n now key exp refused) d h = other_put w n (withdrew (ticked (w.members n) now) (withdrawal_at group w n now key exp refused)) d h
  one_under w (OldSend n) d h =
      let x = w.members n in
      cond_both (has_withdrawal x.held) w (post w n x (Sent (old_parts_of x.held))) Under (λ _. h) (λ _. posted w n x (Sent (old_parts_of x.held)) h)
  one_under w (Tick n now) d h = other_put w n (ticked (w.members n) now) d h
  one_under w (Send n) d h = posted w n (w.members n) (Sent (parts_of (w.members n).held)) h
  one_under w (Sum n) d h =
      let x = logged (w.members n) (Made (length w.pool)) in
      posted (put w n x) n (w.members n) (Summed (summary_of (w.members n).held)) (other_put w n x d h)
  one_under w (Answer n now j refused) d h = other_answer w n (far group n now) (ticked (w.members n) now) j refused (slice_get w.pool j) d h
  one_under w (Take n now j p refused) own h = own_take w n now j p refused own h
  one_under w (Save n) d h = record { index = h.index; told = h.told }
  one_under w (Piece n after most) d h = posted w n (w.members n) (Pieced (piece_of (w.members n).held after most)) h
  one_under w (Restart n j) d h = other_restart w n (slice_get w.saves j) d h
  one_under w (Renew n renewal) d h = other_put w n (with_renewal (w.members n) (Some renewal)) d h

  all_under : (w : World) (events : List Event) → AllByRecursion (TakesOnly v k) events → Under w → Under (happen group w events)
  all_under w [] a h = h
  all_under w (e ∷ events) a h = all_under (happens group w e) events a.1 (one_under w e a.0 h)

pub sends_make_equal : SendsMakeEqual
sends_make_equal group events takes v k q send told only taken =
    let before = happen group start events in
    let after = happen group before takes in
    let under = all_under group v k q before takes only (record { index = send.0; told = told }) in
    let sound = goes_on_sound group before takes (is_sound group events) in
    same_uses (after.members v).told.uses q.was.told.uses (λ u.
    both_ways (holds (after.members v).told.uses u) (holds q.was.told.uses u) (under.told u) (send_told after (after.members v) k q sound (sound.members v) (under.index, send.1) taken u))

-- a restart puts back a save of its own
restarted : (w : World) (v : ℕ) (s : Saved) → s.owner ≡ v → (restart w v (Some s)).members v ≡ with_renewal s.was (w.members v).renewal
restarted w v s own =
    let x = with_renewal s.was (w.members v).renewal in
    ap (λ (after : World). after.members v) (cond-true (s.owner == v) (put w v x) w (eq-eqb s.owner v own)) ∙ put_own w v x

pub put_back : RestartsPutBack
put_back group events v k s at own =
    let w = happen group start events in
    let same : (restart w v (slice_get w.saves k)).members v ≡ with_renewal s.was (w.members v).renewal = ap (λ (r : Option Saved). (restart w v r).members v) at ∙ restarted w v s own in
    let held = restart_absorbs s.was ((is_sound group events).saves k s at).is_told in
    (ap (λ (x : Member). x.held) same ∙ sym held, ap (λ (x : Member). x.told) same, ap (λ (x : Member). x.log) same, ap (λ (x : Member). x.renewal) same)

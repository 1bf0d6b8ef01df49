-- What happens in a group while a record is saved piece by piece, and a restart from the pieces.
use Rattle.std.proofs.Common.{◌≡◌, ◌≢◌, ℕ, ◌<◌, ◌≤◌, ◌^◌, Bool, cond, nat_lt, List, [], ◌∷◌, ◌++◌, length, Option, None, Some, refl, sym, ap, ◌∙◌, subst, arith, if◌then◌else◌}
use Rattle.std.specs.Prelude.{◌==◌, slice_get}
use Rattle.std.specs.List.{AllByRecursion}
use Rattle.std.proofs.lemmas.Bool.{cond-true, cond_both, eq-eqb, eqb-true, le-ltb}
use Rattle.std.proofs.lemmas.List.{append-nil, append_assoc}
use Rattle.svid_replay.specs.declared.token_use.Use.{Use}
use Rattle.svid_replay.specs.Batches.{BatchData, last_of}
use Rattle.svid_replay.specs.Buckets.{answer_to, raised_to, summary_of}
use Rattle.svid_replay.specs.Parts.{join_all, parts_of}
use Rattle.svid_replay.specs.Records.{State, batch_state, join}
use Rattle.svid_replay.specs.Summary.{SummaryData}
use Rattle.svid_replay.specs.Uses.{Uses}
use Rattle.svid_replay.proofs.ListLemmas.{each_weaker}
use Rattle.svid_check.specs.Changes.{accepted_in, horizon, withdrawn_in}
use Rattle.svid_check.specs.Runs.{Terms}
use Rattle.svid_check.specs.SaveEvents.{EventsLeaveLater, IsNoRestartOf, IsSavedIn, PiecesAreSaved, RestartsFromPieces, takes_of, took_pieces}
use Rattle.svid_check.specs.Saves.{IsLater, IsSaved, piece_of}
use Rattle.svid_check.specs.World.{Answer, Answered, Check, Content, Entry, Event, Made, Member, OldSend, Piece, Pieced, Posting, Renew, Restart, Save, Saved, Send, Sent, Sum, Summed, Take, Tick, Took, Withdraw, World, answer_at, answer_content, answer_posting, answer_summary, checked, far, front, happen, happens, has_withdrawal, joined, logged, old_parts_of, parts_in, post, put, restart, take_part, take_posting, ticked, took, with_renewal, withdrawal_at, withdrew}
use Rattle.svid_check.proofs.LaterLemmas.{gains_later, join_later, later_goes_on, raised_first, raised_later, same_later, saved_moments, saved_whole}
use Rattle.svid_check.proofs.IndexesLemmas.{last_index, later_index, put_own}
use Rattle.svid_check.proofs.WholeEventsLemmas.{take_is}

-- Later records.

module _ (v : ℕ) (w : World) where
  -- validator v has its record of w, or a later one
  abbrev Later : World → Type 0
  Later z = IsLater (w.members v).held (z.members v).held

  put_later : (n : ℕ) (x : Member) → IsLater (w.members n).held x.held → Later (put w n x)
  put_later n x h =
      cond_both (v == n) x (w.members v) (λ (m : Member). IsLater (w.members v).held m.held)
      (λ e. subst (λ k. IsLater (w.members k).held x.held) (sym (eqb-true v n e)) h) (λ _. same_later (w.members v).held)

  took_later : (last : ℕ) (a : State) (x : Member) (entry : Entry) (sender : Uses) (b : BatchData) (refused : Option ℕ) → IsLater a x.held → IsLater a (took last x entry sender b refused).held
  took_later last a x entry sender b None h =
      cond_both (nat_lt last b.moment) x (logged (joined x sender b) entry) (λ (m : Member). IsLater a m.held) (λ _. h) (λ _. later_goes_on a x.held (join x.held (batch_state b)) h (join_later x.held (batch_state b)))
  took_later last a x entry sender b (Some n) h =
      let c = front n b in
      cond_both (nat_lt last b.moment) x (joined x sender c) (λ (m : Member). IsLater a m.held) (λ _. h) (λ _. later_goes_on a x.held (join x.held (batch_state c)) h (join_later x.held (batch_state c)))

  take_later : (n last : ℕ) (x : Member) (k p : ℕ) (refused : Option ℕ) (q : Option Posting) → IsLater (w.members n).held x.held → Later (take_posting w n last x k p refused q)
  take_later n last x k p refused None h = same_later (w.members v).held
  take_later n last x k p refused (Some q) h = part_later (slice_get (parts_in q.content) p)
    where
      part_later : (b : Option BatchData) → Later (take_part w n last x (Took k p) refused q b)
      part_later None = same_later (w.members v).held
      part_later (Some b) = put_later n (took last x (Took k p) q.was.told.uses b refused) (took_later last (w.members n).held x (Took k p) q.was.told.uses b refused h)

  summary_later : (n last : ℕ) (x : Member) (k : ℕ) (refused : Bool) (s : SummaryData) → IsLater (w.members n).held x.held → Later (answer_summary w n last x k refused s)
  summary_later n last x k refused s h =
      let y = ticked x s.moment in
      let posts = post (put w n y) n y (Answered k (answer_to x.held s)) in
      let later = put_later n y (later_goes_on (w.members n).held x.held y.held h (raised_later x.held s.moment)) in
      cond_both (nat_lt last s.moment) (put w n x) (cond refused (put w n y) posts) Later (λ _. put_later n x h) (λ _. cond_both refused (put w n y) posts Later (λ _. later) (λ _. later))

  answer_later : (n last : ℕ) (x : Member) (k : ℕ) (refused : Bool) (q : Option Posting) → IsLater (w.members n).held x.held → Later (answer_posting w n last x k refused q)
  answer_later n last x k refused None h = same_later (w.members v).held
  answer_later n last x k refused (Some q) h = content_later q.content
    where
      content_later : (c : Content) → Later (answer_content w n last x k refused c)
      content_later (Sent parts) = same_later (w.members v).held
      content_later (Summed s) = summary_later n last x k refused s h
      content_later (Answered summary parts) = same_later (w.members v).held
      content_later (Pieced piece) = same_later (w.members v).held

  restart_later : (n : ℕ) (s : Option Saved) → n ≢ v → Later (restart w n s)
  restart_later n None other = same_later (w.members v).held
  restart_later n (Some s) other =
      let x = with_renewal s.was (w.members n).renewal in
      cond_both (s.owner == n) (put w n x) w Later
      (λ _. cond_both (v == n) x (w.members v) (λ (m : Member). IsLater (w.members v).held m.held) (λ e. absurd (other (sym (eqb-true v n e)))) (λ _. same_later (w.members v).held))
      (λ _. same_later (w.members v).held)

pub events_leave_later : EventsLeaveLater
events_leave_later group w v (Check n now token refused) free =
    let a = (w.members n).held in
    let added = accepted_in (answer_at group w n now token refused) in
    put_later v w n (checked (ticked (w.members n) now) (answer_at group w n now token refused)) (gains_later a (raised_to a now) added (raised_later a now))
events_leave_later group w v (Withdraw n now key exp refused) free =
    let a = (w.members n).held in
    let added = withdrawn_in (withdrawal_at group w n now key exp refused) in
    put_later v w n (withdrew (ticked (w.members n) now) (withdrawal_at group w n now key exp refused)) (gains_later a (raised_to a now) added (raised_later a now))
events_leave_later group w v (Tick n now) free = put_later v w n (ticked (w.members n) now) (raised_later (w.members n).held now)
events_leave_later group w v (Send n) free = same_later (w.members v).held
events_leave_later group w v (OldSend n) free =
    let x = w.members n in
    cond_both (has_withdrawal x.held) w (post w n x (Sent (old_parts_of x.held))) (Later v w) (λ _. same_later (w.members v).held) (λ _. same_later (w.members v).held)
events_leave_later group w v (Sum n) free = put_later v w n (logged (w.members n) (Made (length w.pool))) (same_later (w.members n).held)
events_leave_later group w v (Answer n now k refused) free =
    answer_later v w n (far group n now) (ticked (w.members n) now) k refused (slice_get w.pool k) (raised_later (w.members n).held now)
events_leave_later group w v (Take n now k p refused) free =
    take_later v w n (far group n now) (ticked (w.members n) now) k p refused (slice_get w.pool k) (raised_later (w.members n).held now)
events_leave_later group w v (Save n) free = same_later (w.members v).held
events_leave_later group w v (Piece n after most) free = same_later (w.members v).held
events_leave_later group w v (Restart n k) free = restart_later v w n (slice_get w.saves k) free
events_leave_later group w v (Renew n renewal) free = put_later v w n (with_renewal (w.members n) (Some renewal)) (same_later (w.members n).held)

-- What is in the pool, and what was saved, stays.

record Grows (w z : World) : Type 0 where
  pool : (k : ℕ) (q : Posting) → slice_get w.pool k ≡ Some q → slice_get z.pool k ≡ Some q
  saves : (k : ℕ) (s : Saved) → slice_get w.saves k ≡ Some s → slice_get z.saves k ≡ Some s

grows_same : (w z : World) → z.pool ≡ w.pool → z.saves ≡ w.saves → Grows w z
grows_same w z pools saves = record {
  pool = λ k q e. ap (λ (l : List Posting). slice_get l k) pools ∙ e;
  saves = λ k s e. ap (λ (l : List Saved). slice_get l k) saves ∙ e;
}

grows_on : (w x z : World) → Grows w x → Grows x z → Grows w z
grows_on w x z one two = record { pool = λ k q e. two.pool k q (one.pool k q e); saves = λ k s e. two.saves k s (one.saves k s e) }

grows_put : (w : World) (n : ℕ) (x : Member) → Grows w (put w n x)
grows_put w n x = grows_same w (put w n x) refl refl

grows_post : (w : World) (n : ℕ) (x : Member) (c : Content) → Grows w (post w n x c)
grows_post w n x c = record { pool = λ k q e. later_index w.pool (record { maker = n; was = x; content = c }) k q e; saves = λ k s e. e }

module _ (w : World) where
  take_grows : (n last : ℕ) (x : Member) (k p : ℕ) (refused : Option ℕ) (q : Option Posting) → Grows w (take_posting w n last x k p refused q)
  take_grows n last x k p refused None = grows_same w w refl refl
  take_grows n last x k p refused (Some q) = part_grows (slice_get (parts_in q.content) p)
    where
      part_grows : (b : Option BatchData) → Grows w (take_part w n last x (Took k p) refused q b)
      part_grows None = grows_same w w refl refl
      part_grows (Some b) = grows_put w n (took last x (Took k p) q.was.told.uses b refused)

  answer_grows : (n last : ℕ) (x : Member) (k : ℕ) (refused : Bool) (q : Option Posting) → Grows w (answer_posting w n last x k refused q)
  answer_grows n last x k refused None = grows_same w w refl refl
  answer_grows n last x k refused (Some q) = content_grows q.content
    where
      content_grows : (c : Content) → Grows w (answer_content w n last x k refused c)
      content_grows (Sent parts) = grows_same w w refl refl
      content_grows (Summed s) =
          let y = ticked x s.moment in
          let posts = post (put w n y) n y (Answered k (answer_to x.held s)) in
          let more = grows_on w (put w n y) posts (grows_put w n y) (grows_post (put w n y) n y (Answered k (answer_to x.held s))) in
          cond_both (nat_lt last s.moment) (put w n x) (cond refused (put w n y) posts) (Grows w) (λ _. grows_put w n x) (λ _. cond_both refused (put w n y) posts (Grows w) (λ _. grows_put w n y) (λ _. more))
      content_grows (Answered summary parts) = grows_same w w refl refl
      content_grows (Pieced piece) = grows_same w w refl refl

  restart_grows : (n : ℕ) (s : Option Saved) → Grows w (restart w n s)
  restart_grows n None = grows_same w w refl refl
  restart_grows n (Some s) = let x = with_renewal s.was (w.members n).renewal in cond_both (s.owner == n) (put w n x) w (Grows w) (λ _. grows_put w n x) (λ _. grows_same w w refl refl)

module _ (group : ℕ → Terms) where
  event_grows : (w : World) (event : Event) → Grows w (happens group w event)
  event_grows w (Check n now token refused) = grows_put w n (checked (ticked (w.members n) now) (answer_at group w n now token refused))
  event_grows w (Withdraw n now key exp refused) = grows_put w n (withdrew (ticked (w.members n) now) (withdrawal_at group w n now key exp refused))
  event_grows w (Tick n now) = grows_put w n (ticked (w.members n) now)
  event_grows w (Send n) = grows_post w n (w.members n) (Sent (parts_of (w.members n).held))
  event_grows w (OldSend n) =
      let x = w.members n in
      cond_both (has_withdrawal x.held) w (post w n x (Sent (old_parts_of x.held))) (Grows w) (λ _. grows_same w w refl refl) (λ _. grows_post w n x (Sent (old_parts_of x.held)))
  event_grows w (Sum n) =
      let x = w.members n in
      let y = put w n (logged x (Made (length w.pool))) in
      grows_on w y (post y n x (Summed (summary_of x.held))) (grows_put w n (logged x (Made (length w.pool)))) (grows_post y n x (Summed (summary_of x.held)))
  event_grows w (Answer n now k refused) = answer_grows w n (far group n now) (ticked (w.members n) now) k refused (slice_get w.pool k)
  event_grows w (Take n now k p refused) = take_grows w n (far group n now) (ticked (w.members n) now) k p refused (slice_get w.pool k)
  event_grows w (Save n) = record { pool = λ k q e. e; saves = λ k s e. later_index w.saves (record { owner = n; was = w.members n }) k s e }
  event_grows w (Piece n after most) = grows_post w n (w.members n) (Pieced (piece_of (w.members n).held after most))
  event_grows w (Restart n k) = restart_grows w n (slice_get w.saves k)
  event_grows w (Renew n renewal) = grows_put w n (with_renewal (w.members n) (Some renewal))

  events_grow : (w : World) (events : List Event) → Grows w (happen group w events)
  events_grow w [] = grows_same w w refl refl
  events_grow w (e ∷ events) = grows_on w (happens group w e) (happen group w (e ∷ events)) (event_grows w e) (events_grow (happens group w e) events)

-- Pieces.

module _ (group : ℕ → Terms) (v : ℕ) where
  between_later : (w : World) (events : List Event) → AllByRecursion (IsNoRestartOf v) events → IsLater (w.members v).held ((happen group w events).members v).held
  between_later w [] free = same_later (w.members v).held
  between_later w (e ∷ events) free =
      let x = happens group w e in
      later_goes_on (w.members v).held (x.members v).held ((happen group x events).members v).held (events_leave_later group w v e free.0) (between_later x events free.1)

  pieces_saved : (w z : World) (after : Option Use) (indexes : List ℕ) (pieces : List BatchData) → IsSavedIn group v w after indexes pieces z → IsSaved (w.members v).held after pieces (z.members v).held
  pieces_saved w z after (k ∷ []) (b ∷ []) h = (h.0, h.2, h.3, ap (λ (x : World). (x.members v).held) h.4)
  pieces_saved w z after (k ∷ j ∷ indexes) (b ∷ c ∷ pieces) h =
      let x = happens group w (Piece v after h.0) in
      let y = happen group x h.1 in
      (h.0, (y.members v).held, h.3, between_later x h.1 h.4, pieces_saved y z (last_of after b.uses) (j ∷ indexes) (c ∷ pieces) h.5)
  pieces_saved w z after _ _ h = absurd h

  saving_grows : (w z : World) (after : Option Use) (indexes : List ℕ) (pieces : List BatchData) → IsSavedIn group v w after indexes pieces z → Grows w z
  saving_grows w z after (k ∷ []) (b ∷ []) h = subst (Grows w) (sym h.4) (event_grows group w (Piece v after h.0))
  saving_grows w z after (k ∷ j ∷ indexes) (b ∷ c ∷ pieces) h =
      let x = happens group w (Piece v after h.0) in
      let y = happen group x h.1 in
      grows_on w x z (event_grows group w (Piece v after h.0)) (grows_on x y z (events_grow group x h.1) (saving_grows y z (last_of after b.uses) (j ∷ indexes) (c ∷ pieces) h.5))
  saving_grows w z after _ _ h = absurd h

  -- these postings are these pieces
  abbrev ArePieces : List Posting → List ℕ → List BatchData → Type 0
  ArePieces pool [] [] = Unit {0}
  ArePieces pool (k ∷ indexes) (b ∷ pieces) = ((q : Posting) × (slice_get pool k ≡ Some q) × (q.content ≡ Pieced b)) × ArePieces pool indexes pieces
  ArePieces pool _ _ = ⊥

  -- a piece is posted at the end of the pool
  posted_piece : (w z : World) (after : Option Use) (most k : ℕ) (b : BatchData) → k ≡ length w.pool → b ≡ piece_of (w.members v).held after most → Grows (happens group w (Piece v after most)) z → (q : Posting) × (slice_get z.pool k ≡ Some q) × (q.content ≡ Pieced b)
  posted_piece w z after most k b at is grows =
      let q : Posting = record { maker = v; was = w.members v; content = Pieced (piece_of (w.members v).held after most) } in
      (q, ap (slice_get z.pool) at ∙ grows.pool (length w.pool) q (last_index w.pool q), ap Pieced (sym is))

  are_pieces : (w z y : World) (after : Option Use) (indexes : List ℕ) (pieces : List BatchData) → IsSavedIn group v w after indexes pieces z → Grows z y → ArePieces y.pool indexes pieces
  are_pieces w z y after (k ∷ []) (b ∷ []) h grows = (posted_piece w y after h.0 k b h.1 h.2 (subst (λ (x : World). Grows x y) h.4 grows), tt)
  are_pieces w z y after (k ∷ j ∷ indexes) (b ∷ c ∷ pieces) h grows =
      let x = happens group w (Piece v after h.0) in
      let next = happen group x h.1 in
      let rest = saving_grows next z (last_of after b.uses) (j ∷ indexes) (c ∷ pieces) h.5 in (
        posted_piece w y after h.0 k b h.2 h.3 (grows_on x z y (grows_on x next z (events_grow group x h.1) rest) grows),
        are_pieces next z y (last_of after b.uses) (j ∷ indexes) (c ∷ pieces) h.5 grows,
      )
  are_pieces w z y after _ _ h grows = absurd h

  within : (m ahead : ℕ) → m < 2 ^ 64 → m ≤ horizon m ahead
  within m ahead small = omega arith

  -- what takes of these pieces leave
  record Restored (w : World) (a : State) (indexes : List ℕ) (pieces : List BatchData) : Type 0 where
    held : ((happen group w (takes_of v indexes pieces)).members v).held ≡ join_all a pieces
    log : ((happen group w (takes_of v indexes pieces)).members v).log ≡ (w.members v).log ++ took_pieces indexes

  takes_restore : (w : World) (a : State) (indexes : List ℕ) (pieces : List BatchData) → ArePieces w.pool indexes pieces → AllByRecursion (λ b. b.moment < 2 ^ 64) pieces → (w.members v).held ≡ a → Restored w a indexes pieces
  takes_restore w a [] [] are small is = record { held = is; log = sym (append-nil (w.members v).log) }
  takes_restore w a (k ∷ indexes) (b ∷ pieces) are small is =
      let q = are.0.0 in
      let last = far group v b.moment in
      let x = ticked (w.members v) b.moment in
      let y = logged (joined x q.was.told.uses b) (Took k 0) in
      let taken : took last x (Took k 0) q.was.told.uses b None ≡ y = ap (λ (test : Bool). if test then x else y) (le-ltb last b.moment (within b.moment (group v).ahead small.0)) in
      let same : happens group w (Take v b.moment k 0 None) ≡ put w v y =
      take_is group v b.moment w k 0 q b None are.0.1 (ap (λ (c : Content). slice_get (parts_in c) 0) are.0.2) ∙ ap (put w v) taken in
      let held : ((put w v y).members v).held ≡ join a (batch_state b) = ap (λ (m : Member). m.held) (put_own w v y) ∙ raised_first (w.members v).held b.moment b (omega arith) ∙ ap (λ (r : State). join r (batch_state b)) is in
      let rest = takes_restore (put w v y) (join a (batch_state b)) indexes pieces are.1 small.1 held in
      record {
        held = ap (λ (after : World). ((happen group after (takes_of v indexes pieces)).members v).held) same ∙ rest.held;
        log = ap (λ (after : World). ((happen group after (takes_of v indexes pieces)).members v).log) same ∙ rest.log
            ∙ ap (λ (m : Member). m.log ++ took_pieces indexes) (put_own w v y) ∙ append_assoc (w.members v).log (Took k 0 ∷ []) (took_pieces indexes);
      }
  takes_restore w a [] (b ∷ pieces) are small is = absurd are
  takes_restore w a (k ∷ indexes) [] are small is = absurd are

pub pieces_are_saved : PiecesAreSaved
pieces_are_saved group w z v indexes pieces h = pieces_saved group v w z None indexes pieces h

pub restarts_from_pieces : RestartsFromPieces
restarts_from_pieces group w z v indexes pieces later small h =
    let x = w.members v in
    let began = happens group w (Save v) in
    let y = happen group z later in
    let k = length w.saves in
    let s : Saved = record { owner = v; was = x } in
    let on = events_grow group z later in
    let at : slice_get y.saves k ≡ Some s = on.saves k s ((saving_grows group v began z None indexes pieces h).saves k s (last_index w.saves s)) in
    let m = with_renewal x (y.members v).renewal in
    let back : happens group y (Restart v k) ≡ put y v m = ap (restart y v) at ∙ cond-true (v == v) (put y v m) y (eq-eqb v v refl) in
    let saved = pieces_saved group v began z None indexes pieces h in
    let moments = each_weaker (λ b. b.moment ≤ (z.members v).held.moment) (λ b. b.moment < 2 ^ 64) (λ b le. omega (arith, le, small)) pieces (saved_moments x.held None pieces (z.members v).held saved) in
    let r = takes_restore group v (put y v m) x.held indexes pieces (are_pieces group v began z y None indexes pieces h on) moments (ap (λ (n : Member). n.held) (put_own y v m)) in
    let takes = takes_of v indexes pieces in (
      ap (λ (after : World). ((happen group after takes).members v).held) back ∙ r.held ∙ saved_whole x.held (z.members v).held pieces saved,
      ap (λ (after : World). ((happen group after takes).members v).log) back ∙ r.log ∙ ap (λ (n : Member). n.log ++ took_pieces indexes) (put_own y v m),
    )

-- An event of the group is one validator's: the others stay, but for a save so do the saves, and but for a renewal so does its setting.
use Rattle.std.proofs.Common.{◌≡◌, ◌≢◌, ℕ, Bool, cond, nat_lt, List, [], ◌∷◌, ◌++◌, length, Option, Some, None, refl, ap, ◌∙◌, subst}
use Rattle.std.specs.Prelude.{◌==◌, slice_get}
use Rattle.std.proofs.lemmas.Bool.{cond-false, cond_both, ne_eqb}
use Rattle.svid_replay.specs.Batches.{BatchData}
use Rattle.svid_replay.specs.Buckets.{answer_to, summary_of}
use Rattle.svid_replay.specs.Parts.{parts_of}
use Rattle.svid_replay.specs.Summary.{SummaryData}
use Rattle.svid_replay.specs.Uses.{Uses}
use Rattle.svid_check.specs.Runs.{Terms}
use Rattle.svid_check.specs.Saves.{piece_of}
use Rattle.svid_check.specs.Setting.{Renewal}
use Rattle.svid_check.specs.World.{Answer, Answered, Check, Content, Entry, Event, Made, Member, OldSend, Piece, Pieced, Posting, Renew, Restart, Save, Saved, Send, Sent, Sum, Summed, Take, Tick, Took, Withdraw, World, answer_at, answer_content, answer_posting, answer_summary, checked, far, front, happens, has_withdrawal, joined, logged, old_parts_of, parts_in, post, put, restart, take_part, take_posting, ticked, took, with_renewal, withdrawal_at, withdrew}
use Rattle.svid_check.proofs.IndexesLemmas.{later_index, put_own}

-- whose event it is
abbrev pub who : Event → ℕ
who (Check v now token refused) = v
who (Withdraw v now key exp refused) = v
who (Tick v now) = v
who (Send v) = v
who (OldSend v) = v
who (Sum v) = v
who (Answer v now posting refused) = v
who (Take v now posting part refused) = v
who (Save v) = v
who (Piece v after most) = v
who (Restart v save) = v
who (Renew v renewal) = v

-- the saves that an event leaves
abbrev pub saves_then : World → Event → List Saved
saves_then w (Save v) = w.saves ++ record { owner = v; was = w.members v } ∷ []
saves_then w _ = w.saves

-- the renewal that its validator then has
abbrev pub renewal_then : World → Event → Option Renewal
renewal_then w (Renew v renewal) = Some renewal
renewal_then w e = (w.members (who e)).renewal

-- but for validator v, all are as they were; these are the saves, this is its renewal, and what was posted is there
pub record Changes (w : World) (v : ℕ) (left : List Saved) (given : Option Renewal) (after : World) : Type 0 where
  pub others : (n : ℕ) → n ≢ v → after.members n ≡ w.members n
  pub saves : after.saves ≡ left
  pub renewal : (after.members v).renewal ≡ given
  pub pool : (k : ℕ) (q : Posting) → slice_get w.pool k ≡ Some q → slice_get after.pool k ≡ Some q

took_renewal : (limit : ℕ) (x : Member) (entry : Entry) (sender : Uses) (b : BatchData) (refused : Option ℕ) → (took limit x entry sender b refused).renewal ≡ x.renewal
took_renewal limit x entry sender b None = cond_both (nat_lt limit b.moment) x (logged (joined x sender b) entry) (λ (y : Member). y.renewal ≡ x.renewal) (λ _. refl) (λ _. refl)
took_renewal limit x entry sender b (Some n) = cond_both (nat_lt limit b.moment) x (joined x sender (front n b)) (λ (y : Member). y.renewal ≡ x.renewal) (λ _. refl) (λ _. refl)

module _ (w : World) (v : ℕ) where
  abbrev Is : World → Type 0
  Is after = Changes w v w.saves (w.members v).renewal after

  stays : Is w
  stays = record { others = λ n d. refl; saves = refl; renewal = refl; pool = λ k q at. at }

  put_renewed : (x : Member) → Changes w v w.saves x.renewal (put w v x)
  put_renewed x = record {
    others = λ n d. cond-false (n == v) x (w.members n) (ne_eqb n v d);
    saves = refl;
    renewal = ap (λ (m : Member). m.renewal) (put_own w v x);
    pool = λ k q at. at;
  }

  put_changes : (x : Member) → x.renewal ≡ (w.members v).renewal → Is (put w v x)
  put_changes x same = subst (λ (given : Option Renewal). Changes w v w.saves given (put w v x)) same (put_renewed x)

  post_changes : (x : Member) (content : Content) (after : World) → Is after → Is (post after v x content)
  post_changes x content after h = record {
    others = h.others;
    saves = h.saves;
    renewal = h.renewal;
    pool = λ k q at. later_index after.pool (record { maker = v; was = x; content = content }) k q (h.pool k q at);
  }

  part_changes : (limit : ℕ) (x : Member) (entry : Entry) (refused : Option ℕ) (q : Posting) (b : Option BatchData) → x.renewal ≡ (w.members v).renewal → Is (take_part w v limit x entry refused q b)
  part_changes limit x entry refused q None same = stays
  part_changes limit x entry refused q (Some b) same = put_changes (took limit x entry q.was.told.uses b refused) (took_renewal limit x entry q.was.told.uses b refused ∙ same)

  take_changes : (limit : ℕ) (x : Member) (k p : ℕ) (refused : Option ℕ) (q : Option Posting) → x.renewal ≡ (w.members v).renewal → Is (take_posting w v limit x k p refused q)
  take_changes limit x k p refused None same = stays
  take_changes limit x k p refused (Some q) same = part_changes limit x (Took k p) refused q (slice_get (parts_in q.content) p) same

  summary_changes : (limit : ℕ) (x : Member) (k : ℕ) (refused : Bool) (s : SummaryData) → x.renewal ≡ (w.members v).renewal → Is (answer_summary w v limit x k refused s)
  summary_changes limit x k refused s same =
      let y = ticked x s.moment in
      let answered = post (put w v y) v y (Answered k (answer_to x.held s)) in
      cond_both (nat_lt limit s.moment) (put w v x) (cond refused (put w v y) answered) Is (λ _. put_changes x same)
      (λ _. cond_both refused (put w v y) answered Is (λ _. put_changes y same) (λ _. post_changes y (Answered k (answer_to x.held s)) (put w v y) (put_changes y same)))

  content_changes : (limit : ℕ) (x : Member) (k : ℕ) (refused : Bool) (c : Content) → x.renewal ≡ (w.members v).renewal → Is (answer_content w v limit x k refused c)
  content_changes limit x k refused (Sent parts) same = stays
  content_changes limit x k refused (Summed s) same = summary_changes limit x k refused s same
  content_changes limit x k refused (Answered summary parts) same = stays
  content_changes limit x k refused (Pieced piece) same = stays

  answer_changes : (limit : ℕ) (x : Member) (k : ℕ) (refused : Bool) (q : Option Posting) → x.renewal ≡ (w.members v).renewal → Is (answer_posting w v limit x k refused q)
  answer_changes limit x k refused None same = stays
  answer_changes limit x k refused (Some q) same = content_changes limit x k refused q.content same

  restart_changes : (s : Option Saved) → Is (restart w v s)
  restart_changes None = stays
  restart_changes (Some s) =
      let x = with_renewal s.was (w.members v).renewal in
      cond_both (s.owner == v) (put w v x) w Is (λ _. put_changes x refl) (λ _. stays)

module _ (group : ℕ → Terms) where
  pub event_changes : (w : World) (e : Event) → Changes w (who e) (saves_then w e) (renewal_then w e) (happens group w e)
  event_changes w (Check v now token refused) = put_changes w v (checked (ticked (w.members v) now) (answer_at group w v now token refused)) refl
  event_changes w (Withdraw v now key exp refused) = put_changes w v (withdrew (ticked (w.members v) now) (withdrawal_at group w v now key exp refused)) refl
  event_changes w (Tick v now) = put_changes w v (ticked (w.members v) now) refl
  event_changes w (Send v) = post_changes w v (w.members v) (Sent (parts_of (w.members v).held)) w (stays w v)
  event_changes w (OldSend v) =
      let x = w.members v in
      cond_both (has_withdrawal x.held) w (post w v x (Sent (old_parts_of x.held))) (Is w v) (λ _. stays w v) (λ _. post_changes w v x (Sent (old_parts_of x.held)) w (stays w v))
  event_changes w (Sum v) =
      let x = logged (w.members v) (Made (length w.pool)) in
      post_changes w v (w.members v) (Summed (summary_of (w.members v).held)) (put w v x) (put_changes w v x refl)
  event_changes w (Answer v now k refused) = answer_changes w v (far group v now) (ticked (w.members v) now) k refused (slice_get w.pool k) refl
  event_changes w (Take v now k p refused) = take_changes w v (far group v now) (ticked (w.members v) now) k p refused (slice_get w.pool k) refl
  event_changes w (Save v) = record { others = λ n d. refl; saves = refl; renewal = refl; pool = λ k q at. at }
  event_changes w (Piece v after most) = post_changes w v (w.members v) (Pieced (piece_of (w.members v).held after most)) w (stays w v)
  event_changes w (Restart v k) = restart_changes w v (slice_get w.saves k)
  event_changes w (Renew v renewal) = put_renewed w v (with_renewal (w.members v) (Some renewal))

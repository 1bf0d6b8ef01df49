-- What holds of a group whatever happened in it.
use Rattle.std.proofs.Common.{◌≡◌, ℕ, zero, suc, Bool, cond, ◌&&◌, nat_lt, List, [], ◌∷◌, ◌++◌, length, refl, sym, ap, ◌∙◌, subst, inl, inr}
use Rattle.std.specs.Prelude.{IsTrue, Option, Some, None, slice_get, ◌==◌}
use Rattle.std.specs.List.{Contains}
use Rattle.std.proofs.lemmas.Bool.{and_parts, cond_both}
use Rattle.std.proofs.lemmas.List.Elements.{Contains-push_cases}
use Rattle.std.proofs.lemmas.Option.{none-some, same_Some}
use Rattle.svid_replay.specs.declared.token_use.Use.{Use}
use Rattle.svid_replay.specs.Batches.{BatchData}
use Rattle.svid_replay.specs.Buckets.{answer_to, differs, stale, summary_of}
use Rattle.svid_replay.specs.Parts.{cut, parts_of}
use Rattle.svid_replay.specs.Records.{State}
use Rattle.svid_replay.specs.Sets.{holds, rising}
use Rattle.svid_replay.specs.Summary.{SummaryData}
use Rattle.svid_replay.specs.Uses.{Uses, live, no_uses, uses_in}
use Rattle.svid_replay.proofs.ListLemmas.{has_none}
use Rattle.svid_replay.proofs.UsesLemmas.{holds-live, no_uses_hold_none, same_uses, uses_in-rising}
use Rattle.svid_replay.proofs.BucketsLemmas.{stale_holds_differing}
use Rattle.svid_replay.proofs.TestsLemmas.{and-false}
use Rattle.svid_check.specs.Changes.{accepted_in, withdrawn_in}
use Rattle.svid_check.specs.Headline.{IsWithin}
use Rattle.svid_check.specs.Runs.{Terms}
use Rattle.svid_check.specs.Saves.{piece_of}
use Rattle.svid_check.specs.World.{Answer, Answered, Check, Content, Entry, Event, Made, Member, OldSend, Posting, Restart, Save, Saved, Send, Sent, Sum, Summed, Take, Tick, Took, Withdraw, World, answer_at, answer_content, answer_posting, answer_summary, carried, far, front, gained, happen, happens, has_withdrawal, joined, logged, new_member, old_parts_of, parts_in, post, put, restart, save, start, take_part, take_posting, ticked, took, withdrawal_at, Renew, with_renewal, Piece, Pieced}
use Rattle.svid_check.proofs.CutsLemmas.{AreCut, cut_are_cut, front_within, old_are_cut, part_within, piece_within}
use Rattle.svid_check.proofs.MembersLemmas.{IsTold, gained_told, joined_told, live_within, ticked_told, told_before, union_tells, within_union}
use Rattle.svid_check.proofs.IndexesLemmas.{last_index, later_index, index_cases}
use Rattle.svid_check.specs.Setting.{Renewal}

-- a part of a posting was taken: what it carries is learned
pub record Arrived (pool : List Posting) (k p : ℕ) (told : Uses) : Type 0 where
  pub posting : Posting
  pub part : BatchData
  pub stands : slice_get pool k ≡ Some posting
  pub is_part : slice_get (parts_in posting.content) p ≡ Some part
  pub within : IsWithin (carried posting.was.told.uses part) told

-- a summary was made when no more was learned
pub record Summarized (pool : List Posting) (k : ℕ) (told : Uses) : Type 0 where
  pub posting : Posting
  pub stands : slice_get pool k ≡ Some posting
  pub within : IsWithin posting.was.told.uses told

-- what an entry of a log says
abbrev pub Means : List Posting → Uses → Entry → Type 0
Means pool told (Took k p) = Arrived pool k p told
Means pool told (Made k) = Summarized pool k told

means_more : (pool : List Posting) (s t : Uses) (e : Entry) → IsWithin s t → Means pool s e → Means pool t e
means_more pool s t (Took k p) w a = record { posting = a.posting; part = a.part; stands = a.stands; is_part = a.is_part; within = λ u h. w u (a.within u h) }
means_more pool s t (Made k) w a = record { posting = a.posting; stands = a.stands; within = λ u h. w u (a.within u h) }

means_later : (pool : List Posting) (q : Posting) (s : Uses) (e : Entry) → Means pool s e → Means (pool ++ q ∷ []) s e
means_later pool q s (Took k p) a = record { posting = a.posting; part = a.part; stands = later_index pool q k a.posting a.stands; is_part = a.is_part; within = a.within }
means_later pool q s (Made k) a = record { posting = a.posting; stands = later_index pool q k a.posting a.stands; within = a.within }

-- a validator's record is what it has learned, and its log says what is so
pub record Stands (pool : List Posting) (x : Member) : Type 0 where
  pub is_told : IsTold x
  pub entries : (e : Entry) → Contains x.log e → Means pool x.told.uses e

stands_later : (pool : List Posting) (q : Posting) (x : Member) → Stands pool x → Stands (pool ++ q ∷ []) x
stands_later pool q x s = record { is_told = s.is_told; entries = λ e h. means_later pool q x.told.uses e (s.entries e h) }

stands_more : (pool : List Posting) (x y : Member) → y.log ≡ x.log → IsWithin x.told.uses y.told.uses → Stands pool x → IsTold y → Stands pool y
stands_more pool x y same w s told =
    record { is_told = told; entries = λ e h. means_more pool x.told.uses y.told.uses e w (s.entries e (subst (λ (l : List Entry). Contains l e) same h)) }

stands_logged : (pool : List Posting) (x : Member) (e : Entry) → Stands pool x → Means pool x.told.uses e → Stands pool (logged x e)
stands_logged pool x e s m = record {
  is_told = s.is_told;
  entries = λ f h. elim (Contains-push_cases x.log e f h) [ inl a ↦ s.entries f a | inr b ↦ subst (Means pool x.told.uses) b m ];
}

pub stands_ticked : (pool : List Posting) (x : Member) (now : ℕ) → Stands pool x → Stands pool (ticked x now)
stands_ticked pool x now s = stands_more pool x (ticked x now) refl (λ u h. h) s (ticked_told x now s.is_told)

stands_renewed : (pool : List Posting) (x : Member) (renewal : Option Renewal) → Stands pool x → Stands pool (with_renewal x renewal)
stands_renewed pool x renewal s = record { is_told = s.is_told; entries = s.entries }

stands_gained : (pool : List Posting) (x : Member) (added : Option Use) → Stands pool x → Stands pool (gained x added)
stands_gained pool x added s = stands_more pool x (gained x added) refl (told_before x.told added) s (gained_told x added s.is_told)

stands_joined : (pool : List Posting) (x : Member) (sender : Uses) (b : BatchData) → Stands pool x → IsWithin (uses_in b.uses) sender → Stands pool (joined x sender b)
stands_joined pool x sender b s w = stands_more pool x (joined x sender b) refl (within_union x.told.uses (carried sender b)) s (joined_told x sender b w s.is_told)

-- what is posted is what its maker's record gave
abbrev pub Given : List Posting → State → Content → Type 0
Given pool held (Sent parts) = AreCut held.moment (rising held.uses) parts
Given pool held (Summed s) = s ≡ summary_of held
Given pool held (Pieced piece) = (after : Option Use) × (most : ℕ) × (piece ≡ piece_of held after most)
Given pool held (Answered k parts) = (s : SummaryData) × (q : Posting) × (slice_get pool k ≡ Some q) × (q.content ≡ Summed s) × (parts ≡ cut held.moment (rising (stale s held.uses)))

given_later : (pool : List Posting) (q : Posting) (held : State) (c : Content) → Given pool held c → Given (pool ++ q ∷ []) held c
given_later pool q held (Sent parts) g = g
given_later pool q held (Summed s) g = g
given_later pool q held (Pieced piece) g = g
given_later pool q held (Answered k parts) g = (g.0, g.1, later_index pool q k g.1 g.2, g.3, g.4)

-- a record that is what was learned holds nothing else
pub held_within : (x : Member) → IsTold x → IsWithin x.held.uses x.told.uses
held_within x is u h = live_within x.told.uses x.told.greatest u (sym (ap (λ (r : State). holds r.uses u) is) ∙ h)

-- nor do the parts of a posting
pub parts_within : (pool : List Posting) (x : Member) (c : Content) → IsTold x → Given pool x.held c → (p : ℕ) (b : BatchData) → slice_get (parts_in c) p ≡ Some b → IsWithin (uses_in b.uses) x.told.uses
parts_within pool x (Sent parts) is g p b e u h =
    held_within x is u
    (sym (ap (λ (s : Uses). holds s u) (uses_in-rising x.held.uses))
    ∙ part_within x.held.moment (rising x.held.uses) parts p b g e u h)
parts_within pool x (Summed s) is g p b e u h = absurd (none-some b e)
parts_within pool x (Pieced piece) is g zero b e u h =
    held_within x is u (piece_within x.held g.0 g.1 u (subst (λ (c : BatchData). IsTrue (holds (uses_in c.uses) u)) (sym (same_Some piece b e) ∙ g.2) h))
parts_within pool x (Pieced piece) is g (suc p) b e u h = absurd (none-some b e)
parts_within pool x (Answered k parts) is g p b e u h =
    let us = rising (stale g.0 x.held.uses) in
    let w : IsTrue (holds (stale g.0 x.held.uses) u) =
    sym (ap (λ (s : Uses). holds s u) (uses_in-rising (stale g.0 x.held.uses)))
    ∙ part_within x.held.moment us (cut x.held.moment us) p b (cut_are_cut x.held.moment us) (subst (λ (ps : List BatchData). slice_get ps p ≡ Some b) g.4 e) u h in
    held_within x is u (and_parts (holds x.held.uses u) (differs g.0 x.held.uses u) (sym (stale_holds_differing g.0 x.held.uses u) ∙ w)).0

new_told : IsTold new_member
new_told = ap (λ (s : Uses). record { moment = 0; uses = s }) (same_uses no_uses (live no_uses 0) (λ u.
    no_uses_hold_none u ∙ sym (holds-live no_uses 0 u ∙ (ap (λ h. nat_lt 0 u.exp && h) (no_uses_hold_none u) ∙ and-false (nat_lt 0 u.exp)))))

-- what holds of a group: each validator stands, as it is, as it was saved and as it was when it posted, and each posting is what its maker's record gave
pub record Sound (w : World) : Type 0 where
  pub members : (v : ℕ) → Stands w.pool (w.members v)
  pub saves : (k : ℕ) (s : Saved) → slice_get w.saves k ≡ Some s → Stands w.pool s.was
  pub makers : (k : ℕ) (q : Posting) → slice_get w.pool k ≡ Some q → Stands w.pool q.was
  pub pool : (k : ℕ) (q : Posting) → slice_get w.pool k ≡ Some q → Given w.pool q.was.held q.content

start_sound : Sound start
start_sound = record {
  members = λ v. record { is_told = new_told; entries = λ e h. has_none e h };
  saves = λ k s e. absurd (none-some s e);
  makers = λ k q e. absurd (none-some q e);
  pool = λ k q e. absurd (none-some q e);
}

put_sound : (w : World) (v : ℕ) (x : Member) → Sound w → Stands w.pool x → Sound (put w v x)
put_sound w v x s h = record {
  members = λ n. cond_both (n == v) x (w.members n) (Stands w.pool) (λ _. h) (λ _. s.members n);
  saves = s.saves;
  makers = s.makers;
  pool = s.pool;
}

post_sound : (w : World) (v : ℕ) (x : Member) (c : Content) → Sound w → Stands w.pool x → Given w.pool x.held c → Sound (post w v x c)
post_sound w v x c s h g =
    let q : Posting = record { maker = v; was = x; content = c } in
    record {
      members = λ n. stands_later w.pool q (w.members n) (s.members n);
      saves = λ k r e. stands_later w.pool q r.was (s.saves k r e);
      makers = λ k r e. stands_later w.pool q r.was (elim (index_cases w.pool q k r e) [ inl a ↦ s.makers k r a | inr b ↦ subst (λ (p : Posting). Stands w.pool p.was) b h ]);
      pool = λ k r e. given_later w.pool q r.was.held r.content (elim (index_cases w.pool q k r e) [ inl a ↦ s.pool k r a | inr b ↦ subst (λ (p : Posting). Given w.pool p.was.held p.content) b g ]);
    }

save_sound : (w : World) (v : ℕ) (x : Member) → Sound w → Stands w.pool x → Sound (save w v x)
save_sound w v x s h =
    let r : Saved = record { owner = v; was = x } in
    record {
      members = s.members;
      saves = λ k t e. elim (index_cases w.saves r k t e) [ inl a ↦ s.saves k t a | inr b ↦ subst (λ (p : Saved). Stands w.pool p.was) b h ];
      makers = s.makers;
      pool = s.pool;
    }

-- one event
took_stands : (w : World) (limit : ℕ) (x : Member) (k p : ℕ) (q : Posting) (b : BatchData) (refused : Option ℕ) → Sound w → Stands w.pool x
    → slice_get w.pool k ≡ Some q → slice_get (parts_in q.content) p ≡ Some b → Stands w.pool (took limit x (Took k p) q.was.told.uses b refused)
took_stands w limit x k p q b None s h e f =
    let sender = q.was.told.uses in
    let within = parts_within w.pool q.was q.content (s.makers k q e).is_told (s.pool k q e) p b f in
    cond_both (nat_lt limit b.moment) x (logged (joined x sender b) (Took k p)) (Stands w.pool)
    (λ _. h)
    (λ _. stands_logged w.pool (joined x sender b) (Took k p) (stands_joined w.pool x sender b h within)
    (record { posting = q; part = b; stands = e; is_part = f; within = union_tells x.told.uses (carried sender b) }))
took_stands w limit x k p q b (Some n) s h e f =
    let sender = q.was.told.uses in
    let within = parts_within w.pool q.was q.content (s.makers k q e).is_told (s.pool k q e) p b f in
    cond_both (nat_lt limit b.moment) x (joined x sender (front n b)) (Stands w.pool)
    (λ _. h)
    (λ _. stands_joined w.pool x sender (front n b) h (λ u a. within u (front_within n b u a)))

take_part_sound : (w : World) (v limit : ℕ) (x : Member) (k p : ℕ) (refused : Option ℕ) (q : Posting) (b : Option BatchData) → Sound w → Stands w.pool x
    → slice_get w.pool k ≡ Some q → slice_get (parts_in q.content) p ≡ b → Sound (take_part w v limit x (Took k p) refused q b)
take_part_sound w v limit x k p refused q None s h e f = s
take_part_sound w v limit x k p refused q (Some b) s h e f =
    put_sound w v (took limit x (Took k p) q.was.told.uses b refused) s (took_stands w limit x k p q b refused s h e f)

take_sound : (w : World) (v limit : ℕ) (x : Member) (k p : ℕ) (refused : Option ℕ) (q : Option Posting) → Sound w → Stands w.pool x → slice_get w.pool k ≡ q → Sound (take_posting w v limit x k p refused q)
take_sound w v limit x k p refused None s h e = s
take_sound w v limit x k p refused (Some q) s h e = take_part_sound w v limit x k p refused q (slice_get (parts_in q.content) p) s h e refl

answer_given : (x : Member) (s : SummaryData) → answer_to x.held s ≡ cut (ticked x s.moment).held.moment (rising (stale s (ticked x s.moment).held.uses))
unfolding answer_to
answer_given x s = refl

summary_sound : (w : World) (v limit : ℕ) (x : Member) (k : ℕ) (refused : Bool) (q : Posting) (m : SummaryData) → Sound w → Stands w.pool x → slice_get w.pool k ≡ Some q → q.content ≡ Summed m → Sound (answer_summary w v limit x k refused m)
summary_sound w v limit x k refused q m s h e f =
    let y = ticked x m.moment in
    let told = stands_ticked w.pool x m.moment h in
    let raised = put_sound w v y s told in
    cond_both (nat_lt limit m.moment) (put w v x) (cond refused (put w v y) (post (put w v y) v y (Answered k (answer_to x.held m)))) Sound
    (λ _. put_sound w v x s h)
    (λ _. cond_both refused (put w v y) (post (put w v y) v y (Answered k (answer_to x.held m))) Sound
    (λ _. raised)
    (λ _. post_sound (put w v y) v y (Answered k (answer_to x.held m)) raised told (m, q, e, f, answer_given x m)))

content_sound : (w : World) (v limit : ℕ) (x : Member) (k : ℕ) (refused : Bool) (q : Posting) (c : Content) → Sound w → Stands w.pool x → slice_get w.pool k ≡ Some q → q.content ≡ c → Sound (answer_content w v limit x k refused c)
content_sound w v limit x k refused q (Sent parts) s h e f = s
content_sound w v limit x k refused q (Summed m) s h e f = summary_sound w v limit x k refused q m s h e f
content_sound w v limit x k refused q (Answered to parts) s h e f = s
content_sound w v limit x k refused q (Pieced piece) s h e f = s

answer_sound : (w : World) (v limit : ℕ) (x : Member) (k : ℕ) (refused : Bool) (q : Option Posting) → Sound w → Stands w.pool x → slice_get w.pool k ≡ q → Sound (answer_posting w v limit x k refused q)
answer_sound w v limit x k refused None s h e = s
answer_sound w v limit x k refused (Some q) s h e = content_sound w v limit x k refused q q.content s h e refl

sum_sound : (w : World) (v : ℕ) → Sound w → Sound (post (put w v (logged (w.members v) (Made (length w.pool)))) v (w.members v) (Summed (summary_of (w.members v).held)))
sum_sound w v s =
    let x = w.members v in
    let q : Posting = record { maker = v; was = x; content = Summed (summary_of x.held) } in
    let later = post_sound w v x (Summed (summary_of x.held)) s (s.members v) refl in
    put_sound (post w v x (Summed (summary_of x.held))) v (logged x (Made (length w.pool))) later
    (stands_logged (w.pool ++ q ∷ []) x (Made (length w.pool)) (later.members v) (record { posting = q; stands = last_index w.pool q; within = λ u h. h }))

restart_sound : (w : World) (v k : ℕ) (r : Option Saved) → Sound w → slice_get w.saves k ≡ r → Sound (restart w v r)
restart_sound w v k None s e = s
restart_sound w v k (Some r) s e =
    let x = with_renewal r.was (w.members v).renewal in
    cond_both (r.owner == v) (put w v x) w Sound (λ _. put_sound w v x s (stands_renewed w.pool r.was (w.members v).renewal (s.saves k r e))) (λ _. s)

module _ (group : ℕ → Terms) where
  happens_sound : (w : World) (e : Event) → Sound w → Sound (happens group w e)
  happens_sound w (Check v now token refused) s =
      let x = ticked (w.members v) now in
      let added = accepted_in (answer_at group w v now token refused) in
      put_sound w v (gained x added) s (stands_gained w.pool x added (stands_ticked w.pool (w.members v) now (s.members v)))
  happens_sound w (Withdraw v now key exp refused) s =
      let x = ticked (w.members v) now in
      let added = withdrawn_in (withdrawal_at group w v now key exp refused) in
      put_sound w v (gained x added) s (stands_gained w.pool x added (stands_ticked w.pool (w.members v) now (s.members v)))
  happens_sound w (Tick v now) s = put_sound w v (ticked (w.members v) now) s (stands_ticked w.pool (w.members v) now (s.members v))
  happens_sound w (Send v) s =
      let x = w.members v in
      post_sound w v x (Sent (parts_of x.held)) s (s.members v) (cut_are_cut x.held.moment (rising x.held.uses))
  happens_sound w (OldSend v) s =
      let x = w.members v in
      cond_both (has_withdrawal x.held) w (post w v x (Sent (old_parts_of x.held))) Sound (λ _. s) (λ _. post_sound w v x (Sent (old_parts_of x.held)) s (s.members v) (old_are_cut x.held))
  happens_sound w (Sum v) s = sum_sound w v s
  happens_sound w (Answer v now k refused) s =
      answer_sound w v (far group v now) (ticked (w.members v) now) k refused (slice_get w.pool k) s (stands_ticked w.pool (w.members v) now (s.members v)) refl
  happens_sound w (Take v now k p refused) s =
      take_sound w v (far group v now) (ticked (w.members v) now) k p refused (slice_get w.pool k) s (stands_ticked w.pool (w.members v) now (s.members v)) refl
  happens_sound w (Save v) s = save_sound w v (w.members v) s (s.members v)
  happens_sound w (Piece v after most) s = post_sound w v (w.members v) (Pieced (piece_of (w.members v).held after most)) s (s.members v) (after, most, refl)
  happens_sound w (Restart v k) s = restart_sound w v k (slice_get w.saves k) s refl
  happens_sound w (Renew v renewal) s = put_sound w v (with_renewal (w.members v) (Some renewal)) s (stands_renewed w.pool (w.members v) (Some renewal) (s.members v))

  pub goes_on_sound : (w : World) (events : List Event) → Sound w → Sound (happen group w events)
  goes_on_sound w [] s = s
  goes_on_sound w (e ∷ events) s = goes_on_sound (happens group w e) events (happens_sound w e s)

  pub is_sound : (events : List Event) → Sound (happen group start events)
  is_sound events = goes_on_sound start events start_sound

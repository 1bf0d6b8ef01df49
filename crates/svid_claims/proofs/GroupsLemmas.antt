-- What holds of a group that claims tokens at stores, whatever happened in it.
use Rattle.std.proofs.Common.{◌≡◌, ◌⊎◌, inl, inr, ℕ, ◌+◌, ◌-◌, ◌<◌, ◌≤◌, max, List, [], ◌∷◌, length, refl, sym, ap, ◌∙◌, subst, arith}
use Rattle.std.specs.Prelude.{Option, Some, None, slice_get, ◌==◌, nat_le}
use Rattle.std.proofs.lemmas.Bool.{cases_order, cond-true, cond_both, eq-eqb, eqb-true, leb-true}
use Rattle.std.proofs.lemmas.Option.{none-some, same_Some}
use Rattle.svid_claims.specs.Groups.{Accept, Answer, End, Entry, Event, Member, Put, Remove, Restart, Store, Tell, Terms, Tick, World, add_answer, answer_of, happen, happens, look, next_epoch, put, put_member, put_store, shown, stands, start, with_entry, with_put, with_removal, without_entry}
use Rattle.svid_claims.specs.Owners.{same}
use Rattle.svid_claims.proofs.RowsLemmas.{index_cases, is_same, later_index, same_is}

-- What a store still knows of an answer. Of its epoch: what was found stands, or was removed, and the time is counted. Of an earlier one: the store's
-- `deaf` covers its time.
pub record IsKept (margin lasts : ℕ) (s : Store) (a : Answer) : Type 0 where
  pub epoch : a.epoch ≤ s.epoch
  pub kept : a.epoch ≡ s.epoch → (s.entries a.key ≡ Some a.found) ⊎ (a.found.exp + margin ≤ s.swept)
  pub counted : a.epoch ≡ s.epoch → a.time ≤ s.latest
  pub past : a.epoch < s.epoch → a.time + lasts ≤ s.deaf

-- under a key
pub entry_at : (entries : List ℕ → Option Entry) (key : List ℕ) (now : Option Entry) → with_entry entries key now key ≡ now
entry_at entries key now = cond-true (same key key) now (entries key) (is_same key key refl)

pub stands_same : (o : Option Entry) (e found : Entry) → o ≡ Some found → stands o e ≡ found
stands_same None e found is = absurd (none-some found is)
stands_same (Some f) e found is = same_Some f found is

up_to : (e a b : ℕ) → e ≤ a → e ≤ max a b
up_to e a b le = omega arith

up_to_other : (e a b : ℕ) → e ≤ b → e ≤ max a b
up_to_other e a b le = omega arith

-- a put leaves what stood
put_keeps : (margin lasts : ℕ) (s : Store) (key : List ℕ) (e : Entry) (time : ℕ) (a : Answer) → IsKept margin lasts s a → IsKept margin lasts (with_put s key e time) a
put_keeps margin lasts s key e time a k = record {
  epoch = k.epoch;
  kept = λ now. elim (k.kept now) [
    | inl stood ↦ inl (cond_both (same key a.key) (Some (stands (s.entries key) e)) (s.entries a.key) (λ o. o ≡ Some a.found)
        (λ is. ap (λ (x : Entry). Some x) (stands_same (s.entries key) e a.found (ap s.entries (same_is key a.key is) ∙ stood))) (λ _. stood))
    | inr gone ↦ inr gone
  ];
  counted = λ now. up_to a.time s.latest time (k.counted now);
  past = k.past;
}

answer_is_kept : (margin lasts : ℕ) (s : Store) (key : List ℕ) (e : Entry) (time : ℕ) → IsKept margin lasts (with_put s key e time) (answer_of s key e time)
answer_is_kept margin lasts s key e time = record {
  epoch = omega arith;
  kept = λ _. inl (entry_at s.entries key (Some (stands (s.entries key) e)));
  counted = λ _. up_to_other time s.latest time (omega arith);
  past = λ lt. absurd (not_itself s.epoch lt);
}
  where
    not_itself : (n : ℕ) → n < n → ⊥
    not_itself n lt = omega arith

-- a removal leaves what stood, or has swept it
without_keeps : (margin lasts : ℕ) (s : Store) (key : List ℕ) (e : Entry) (now : ℕ) (a : Answer) → s.entries key ≡ Some e → e.exp + margin ≤ now → IsKept margin lasts s a
    → IsKept margin lasts (without_entry s key now) a
without_keeps margin lasts s key e now a is over k = record {
  epoch = k.epoch;
  kept = λ same_epoch. elim (k.kept same_epoch) [
    | inl stood ↦ cond_both (same key a.key) None (s.entries a.key) (λ o. (o ≡ Some a.found) ⊎ (a.found.exp + margin ≤ max s.swept now))
        (λ at. let one : e ≡ a.found = same_Some e a.found (sym is ∙ (ap s.entries (same_is key a.key at) ∙ stood)) in
        inr (up_to_other (a.found.exp + margin) s.swept now (subst (λ (x : Entry). x.exp + margin ≤ now) one over)))
        (λ _. inl stood)
    | inr gone ↦ inr (up_to (a.found.exp + margin) s.swept now gone)
  ];
  counted = k.counted;
  past = k.past;
}

removal_keeps : (margin lasts : ℕ) (s : Store) (key : List ℕ) (o : Option Entry) (now : ℕ) (a : Answer) → s.entries key ≡ o → IsKept margin lasts s a → IsKept margin lasts (with_removal margin s key o now) a
removal_keeps margin lasts s key None now a is k = k
removal_keeps margin lasts s key (Some e) now a is k =
    cond_both (nat_le (e.exp + margin) now) (without_entry s key now) s (λ x. IsKept margin lasts x a)
    (λ over. without_keeps margin lasts s key e now a is (leb-true (e.exp + margin) now over) k) (λ _. k)

-- a removal begins no epoch
removal_stays : (margin : ℕ) (s : Store) (key : List ℕ) (o : Option Entry) (now : ℕ) → (with_removal margin s key o now).epoch ≡ s.epoch
removal_stays margin s key None now = refl
removal_stays margin s key (Some e) now = cond_both (nat_le (e.exp + margin) now) (without_entry s key now) s (λ x. x.epoch ≡ s.epoch) (λ _. refl) (λ _. refl)

next_keeps : (margin lasts : ℕ) (s : Store) (entries : List ℕ → Option Entry) (deaf : ℕ) (a : Answer) → IsKept margin lasts s a → IsKept margin lasts (next_epoch lasts s entries deaf) a
next_keeps margin lasts s entries deaf a k = record {
  epoch = up a.epoch s.epoch k.epoch;
  kept = λ now. absurd (not_next a.epoch s.epoch k.epoch now);
  counted = λ now. absurd (not_next a.epoch s.epoch k.epoch now);
  past = λ lt. elim (last_or_before a.epoch s.epoch lt) [
    | inl now ↦ by_time a.time s.latest s.deaf (k.counted now)
    | inr before ↦ by_deaf (a.time + lasts) s.deaf s.latest (k.past before)
  ];
}
  where
    up : (x y : ℕ) → x ≤ y → x ≤ y + 1
    up x y le = omega arith

    not_next : (x y : ℕ) → x ≤ y → x ≡ y + 1 → ⊥
    not_next x y le is = omega arith

    none_between : (x y : ℕ) → x < y + 1 → y < x → ⊥
    none_between x y lt more = omega arith

    last_or_before : (x y : ℕ) → x < y + 1 → (x ≡ y) ⊎ (x < y)
    last_or_before x y lt = elim (cases_order x y) [
      | inl is ↦ inl is
      | inr (inl less) ↦ inr less
      | inr (inr more) ↦ absurd (none_between x y lt more)
    ]

    by_time : (time latest before : ℕ) → time ≤ latest → time + lasts ≤ max deaf (max before (latest + lasts))
    by_time time latest before le = omega arith

    by_deaf : (x before latest : ℕ) → x ≤ before → x ≤ max deaf (max before (latest + lasts))
    by_deaf x before latest le = omega arith

-- store s, where it was replaced
pub store_at : (w : World) (s : ℕ) (y : Store) → (put_store w s y).stores s ≡ y
store_at w s y = cond-true (s == s) y (w.stores s) (eq-eqb s s refl)

-- of two worlds, the later one
pub record Grows (a b : World) : Type 0 where
  pub kept : (j : ℕ) (c : Answer) → slice_get a.answers j ≡ Some c → slice_get b.answers j ≡ Some c

same_grows : (w : World) → Grows w w
same_grows w = record { kept = λ j c e. e }

pub grows_on : (a b c : World) → Grows a b → Grows b c → Grows a c
grows_on a b c one other = record { kept = λ j d e. other.kept j d (one.kept j d e) }

module _ (t : Terms) where
  -- each store knows its answers; of two answers to one key in one epoch, the first was removed or both are one; and an answer covers all of earlier
  -- epochs by its `deaf`
  pub record Sound (w : World) : Type 0 where
    pub kept : (j : ℕ) (a : Answer) → slice_get w.answers j ≡ Some a → IsKept t.margin t.lasts (w.stores (t.shard a.key)) a
    pub order : (i j : ℕ) (a b : Answer) → slice_get w.answers i ≡ Some a → slice_get w.answers j ≡ Some b → i < j → a.key ≡ b.key → a.epoch ≡ b.epoch → (a.found ≡ b.found) ⊎ (a.found.exp + t.margin ≤ b.time + t.back)
    pub past : (i j : ℕ) (a b : Answer) → slice_get w.answers i ≡ Some a → slice_get w.answers j ≡ Some b → t.shard a.key ≡ t.shard b.key → a.epoch < b.epoch → a.time + t.lasts ≤ b.deaf

  start_sound : Sound start
  start_sound = record {
    kept = λ j a e. absurd (none-some a e);
    order = λ i j a b e f lt keys epochs. absurd (none-some a e);
    past = λ i j a b e f at lt. absurd (none-some a e);
  }

  -- a member changes
  member_sound : (w : World) (v : ℕ) (x : Member) → Sound w → Sound (put_member w v x)
  member_sound w v x sound = record { kept = sound.kept; order = sound.order; past = sound.past }

  -- a store changes
  store_sound : (w : World) (s : ℕ) (y : Store) → ((a : Answer) → IsKept t.margin t.lasts (w.stores s) a → IsKept t.margin t.lasts y a) → Sound w → Sound (put_store w s y)
  store_sound w s y keeps sound = record {
    kept = λ j a e. cond_both (t.shard a.key == s) y (w.stores (t.shard a.key)) (λ (z : Store). IsKept t.margin t.lasts z a)
        (λ is. keeps a (subst (λ i. IsKept t.margin t.lasts (w.stores i) a) (eqb-true (t.shard a.key) s is) (sound.kept j a e))) (λ _. sound.kept j a e);
    order = sound.order;
    past = sound.past;
  }

  -- what stands in a list that has one answer more
  Found : World → Answer → (j : ℕ) (c : Answer) → Type 0
  Found w a j c = ((slice_get w.answers j ≡ Some c) × (j < length w.answers)) ⊎ ((a ≡ c) × (j ≡ length w.answers))

  -- a store answers
  answer_sound : (w : World) (a : Answer) → IsKept t.margin t.lasts (w.stores (t.shard a.key)) a
      → ((i : ℕ) (b : Answer) → slice_get w.answers i ≡ Some b → b.key ≡ a.key → b.epoch ≡ a.epoch → (b.found ≡ a.found) ⊎ (b.found.exp + t.margin ≤ a.time + t.back))
      → ((i : ℕ) (b : Answer) → slice_get w.answers i ≡ Some b → t.shard b.key ≡ t.shard a.key → (b.epoch ≤ a.epoch) × (b.epoch < a.epoch → b.time + t.lasts ≤ a.deaf))
      → Sound w → Sound (add_answer w a)
  unfolding Found
  answer_sound w a is first before sound = record {
    kept = λ j c e. kept_by c j (index_cases w.answers a j c e);
    order = λ i j b c e f lt keys epochs. order_by i j b c lt keys epochs (index_cases w.answers a i b e) (index_cases w.answers a j c f);
    past = λ i j b c e f at lt. past_by i j b c at lt (index_cases w.answers a i b e) (index_cases w.answers a j c f);
  }
    where
      kept_by : (c : Answer) (j : ℕ) → Found w a j c → IsKept t.margin t.lasts (w.stores (t.shard c.key)) c
      kept_by c j (inl old) = sound.kept j c old.0
      kept_by c j (inr new) = subst (λ (x : Answer). IsKept t.margin t.lasts (w.stores (t.shard x.key)) x) new.0 is

      later_none : (x y n : ℕ) → x < y → x ≡ n → y < n → ⊥
      later_none x y n one two three = omega arith

      one_place : (x y n : ℕ) → x < y → x ≡ n → y ≡ n → ⊥
      one_place x y n one two three = omega arith

      order_by : (i j : ℕ) (b c : Answer) → i < j → b.key ≡ c.key → b.epoch ≡ c.epoch → Found w a i b → Found w a j c → (b.found ≡ c.found) ⊎ (b.found.exp + t.margin ≤ c.time + t.back)
      order_by i j b c lt keys epochs (inl old) (inl later) = sound.order i j b c old.0 later.0 lt keys epochs
      order_by i j b c lt keys epochs (inl old) (inr new) =
          subst (λ (x : Answer). (b.found ≡ x.found) ⊎ (b.found.exp + t.margin ≤ x.time + t.back)) new.0
          (first i b old.0 (keys ∙ ap (λ (x : Answer). x.key) (sym new.0)) (epochs ∙ ap (λ (x : Answer). x.epoch) (sym new.0)))
      order_by i j b c lt keys epochs (inr new) (inl later) = absurd (later_none i j (length w.answers) lt new.1 later.1)
      order_by i j b c lt keys epochs (inr new) (inr newer) = absurd (one_place i j (length w.answers) lt new.1 newer.1)

      not_both : (x y : ℕ) → x ≤ y → y < x → ⊥
      not_both x y le lt = omega arith

      not_itself : (x y : ℕ) → x < y → y ≡ x → ⊥
      not_itself x y lt same_one = omega arith

      past_by : (i j : ℕ) (b c : Answer) → t.shard b.key ≡ t.shard c.key → b.epoch < c.epoch → Found w a i b → Found w a j c → b.time + t.lasts ≤ c.deaf
      past_by i j b c at lt (inl old) (inl later) = sound.past i j b c old.0 later.0 at lt
      past_by i j b c at lt (inl old) (inr new) =
          subst (λ (x : Answer). b.time + t.lasts ≤ x.deaf) new.0
          ((before i b old.0 (at ∙ ap (λ (x : Answer). t.shard x.key) (sym new.0))).1 (subst (λ (x : Answer). b.epoch < x.epoch) (sym new.0) lt))
      past_by i j b c at lt (inr new) (inl later) =
          absurd (not_both c.epoch b.epoch (subst (λ (x : Answer). c.epoch ≤ x.epoch) new.0 (before j c later.0 (sym at ∙ ap (λ (x : Answer). t.shard x.key) (sym new.0))).0) lt)
      past_by i j b c at lt (inr new) (inr newer) = absurd (not_itself b.epoch c.epoch lt (ap (λ (x : Answer). x.epoch) (sym newer.0 ∙ new.0)))

  -- what a put leaves whose answer's time is not long before what was swept
  module _ (w : World) (key : List ℕ) (e : Entry) (time : ℕ) where
    abbrev store_now : Store
    store_now = w.stores (t.shard key)

    abbrev store_then : Store
    store_then = with_put store_now key e time

    abbrev world_then : World
    world_then = put_store w (t.shard key) store_then

    abbrev made : Answer
    made = answer_of store_now key e time

    put_sound : store_now.swept ≤ time + t.back → Sound w → Sound (put t w key e time)
    put_sound swept sound =
        answer_sound world_then made
        (subst (λ (z : Store). IsKept t.margin t.lasts z made) (sym (store_at w (t.shard key) store_then)) (answer_is_kept t.margin t.lasts store_now key e time))
        (λ i b at keys epochs. by_kept b keys ((subst (λ k. IsKept t.margin t.lasts (w.stores (t.shard k)) b) keys (sound.kept i b at)).kept epochs))
        (λ i b at shards. let k = subst (λ s. IsKept t.margin t.lasts (w.stores s) b) shards (sound.kept i b at) in (k.epoch, k.past))
        (store_sound w (t.shard key) store_then (λ a k. put_keeps t.margin t.lasts store_now key e time a k) sound)
      where
        up : (x y z : ℕ) → x ≤ y → y ≤ z → x ≤ z
        up x y z one other = omega arith

        by_kept : (b : Answer) → b.key ≡ key → (store_now.entries b.key ≡ Some b.found) ⊎ (b.found.exp + t.margin ≤ store_now.swept)
            → (b.found ≡ stands (store_now.entries key) e) ⊎ (b.found.exp + t.margin ≤ time + t.back)
        by_kept b keys (inl stood) = inl (sym (stands_same (store_now.entries key) e b.found (ap store_now.entries (sym keys) ∙ stood)))
        by_kept b keys (inr gone) = inr (up (b.found.exp + t.margin) store_now.swept (time + t.back) gone swept)

    put_grows : Grows w (put t w key e time)
    put_grows = record { kept = λ j c e. later_index w.answers made j c e }

  look_sound : (w : World) (v now : ℕ) (o : Option Answer) → Sound w → Sound (look t w v now o)
  look_sound w v now None sound = sound
  look_sound w v now (Some a) sound = record { kept = sound.kept; order = sound.order; past = sound.past }

  look_grows : (w : World) (v now : ℕ) (o : Option Answer) → Grows w (look t w v now o)
  look_grows w v now None = same_grows w
  look_grows w v now (Some a) = record { kept = λ j c e. e }

  shown_is_late : (time swept : ℕ) → swept ≤ max time (swept - t.back) + t.back
  shown_is_late time swept = omega arith

  pub happens_sound : (w : World) (event : Event) → Sound w → Sound (happens t w event)
  happens_sound w (Put key owner exp time) sound =
      let s = w.stores (t.shard key) in
      put_sound w key (record { owner = owner; exp = exp }) (shown t.back s time) (shown_is_late time s.swept) sound
  happens_sound w (Remove key now) sound =
      let s = w.stores (t.shard key) in
      store_sound w (t.shard key) (with_removal t.margin s key (s.entries key) (shown t.back s now))
      (λ a k. removal_keeps t.margin t.lasts s key (s.entries key) (shown t.back s now) a refl k) sound
  happens_sound w (End s entries deaf) sound =
      store_sound w s (next_epoch t.lasts (w.stores s) entries deaf) (λ a k. next_keeps t.margin t.lasts (w.stores s) entries deaf a k) sound
  happens_sound w (Tick v now) sound = record { kept = sound.kept; order = sound.order; past = sound.past }
  happens_sound w (Accept v now index) sound = look_sound w v now (slice_get w.answers index) sound
  happens_sound w (Tell v u) sound = record { kept = sound.kept; order = sound.order; past = sound.past }
  happens_sound w (Restart v moment uses) sound = record { kept = sound.kept; order = sound.order; past = sound.past }

  pub happens_grows : (w : World) (event : Event) → Grows w (happens t w event)
  happens_grows w (Put key owner exp time) = put_grows w key (record { owner = owner; exp = exp }) (shown t.back (w.stores (t.shard key)) time)
  happens_grows w (Remove key now) = record { kept = λ j c e. e }
  happens_grows w (End s entries deaf) = record { kept = λ j c e. e }
  happens_grows w (Tick v now) = record { kept = λ j c e. e }
  happens_grows w (Accept v now index) = look_grows w v now (slice_get w.answers index)
  happens_grows w (Tell v u) = record { kept = λ j c e. e }
  happens_grows w (Restart v moment uses) = record { kept = λ j c e. e }

  pub happen_sound : (events : List Event) (w : World) → Sound w → Sound (happen t w events)
  happen_sound [] w sound = sound
  happen_sound (event ∷ events) w sound = happen_sound events (happens t w event) (happens_sound w event sound)

  pub happen_grows : (events : List Event) (w : World) → Grows w (happen t w events)
  happen_grows [] w = same_grows w
  happen_grows (event ∷ events) w = grows_on w (happens t w event) (happen t (happens t w event) events) (happens_grows w event) (happen_grows events (happens t w event))

  pub is_sound : (events : List Event) → Sound (happen t start events)
  is_sound events = happen_sound events start start_sound

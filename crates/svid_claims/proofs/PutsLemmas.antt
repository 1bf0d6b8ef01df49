-- What is so of each entry that was put is so of each that an answer found.
use Rattle.std.proofs.Common.{◌≡◌, inl, inr, ℕ, ◌+◌, List, [], ◌∷◌, refl, subst}
use Rattle.std.specs.Prelude.{Option, Some, None, slice_get, ◌==◌, nat_le}
use Rattle.std.specs.List.{AllByRecursion}
use Rattle.std.proofs.lemmas.Bool.{cond_both}
use Rattle.std.proofs.lemmas.Option.{none-some, same_Some}
use Rattle.svid_claims.specs.Groups.{Accept, Answer, End, Entry, Event, Put, Remove, Restart, Store, Tell, Terms, Tick, World, add_answer, answer_of, happen, happens, look, next_epoch, put, put_store, shown, stands, start, with_put, with_removal, without_entry}
use Rattle.svid_claims.specs.Owners.{same}
use Rattle.svid_claims.proofs.RowsLemmas.{index_cases}

module _ (t : Terms) (P : Entry → Type 0) where
  -- so it is with what an event puts
  abbrev pub PutsOnly : Event → Type 0
  PutsOnly (Put key owner exp time) = P (record { owner = owner; exp = exp })
  PutsOnly (End s entries deaf) = (key : List ℕ) (e : Entry) → entries key ≡ Some e → P e
  PutsOnly (Remove key now) = Unit {0}
  PutsOnly (Tick v now) = Unit {0}
  PutsOnly (Accept v now index) = Unit {0}
  PutsOnly (Tell v u) = Unit {0}
  PutsOnly (Restart v moment uses) = Unit {0}

  record AllAre (w : World) : Type 0 where
    answers : (j : ℕ) (a : Answer) → slice_get w.answers j ≡ Some a → P a.found
    entries : (s : ℕ) (key : List ℕ) (e : Entry) → (w.stores s).entries key ≡ Some e → P e

  store_are : (w : World) (s : ℕ) (y : Store) → ((key : List ℕ) (e : Entry) → y.entries key ≡ Some e → P e) → AllAre w → AllAre (put_store w s y)
  store_are w s y each h = record {
    answers = h.answers;
    entries = λ n key e. cond_both (n == s) y (w.stores n) (λ (z : Store). z.entries key ≡ Some e → P e) (λ _. each key e) (λ _. h.entries n key e);
  }

  answer_are : (w : World) (a : Answer) → P a.found → AllAre w → AllAre (add_answer w a)
  answer_are w a is h = record {
    answers = λ j c e. elim (index_cases w.answers a j c e) [
      | inl old ↦ h.answers j c old.0
      | inr new ↦ subst (λ (x : Answer). P x.found) new.0 is
    ];
    entries = h.entries;
  }

  stands_are : (o : Option Entry) (e : Entry) → ((f : Entry) → o ≡ Some f → P f) → P e → P (stands o e)
  stands_are None e h is = is
  stands_are (Some f) e h is = h f refl

  put_are : (w : World) (key : List ℕ) (e : Entry) (time : ℕ) → P e → AllAre w → AllAre (put t w key e time)
  put_are w key e time is h =
      let s = w.stores (t.shard key) in
      let found = stands_are (s.entries key) e (λ f at. h.entries (t.shard key) key f at) is in
      answer_are (put_store w (t.shard key) (with_put s key e time)) (answer_of s key e time) found
      (store_are w (t.shard key) (with_put s key e time)
      (λ k f. cond_both (same key k) (Some (stands (s.entries key) e)) (s.entries k) (λ o. o ≡ Some f → P f)
      (λ _ at. subst (P) (same_Some (stands (s.entries key) e) f at) found) (λ _ at. h.entries (t.shard key) k f at)) h)

  removal_are : (s : Store) (key : List ℕ) (o : Option Entry) (now : ℕ) → ((k : List ℕ) (e : Entry) → s.entries k ≡ Some e → P e) → (k : List ℕ) (f : Entry) → (with_removal t.margin s key o now).entries k ≡ Some f → P f
  removal_are s key None now h k f = h k f
  removal_are s key (Some e) now h k f =
      cond_both (nat_le (e.exp + t.margin) now) (without_entry s key now) s (λ (z : Store). z.entries k ≡ Some f → P f)
      (λ _. cond_both (same key k) None (s.entries k) (λ o. o ≡ Some f → P f) (λ _ at. absurd (none-some f at)) (λ _. h k f)) (λ _. h k f)

  look_are : (w : World) (v now : ℕ) (o : Option Answer) → AllAre w → AllAre (look t w v now o)
  look_are w v now None h = h
  look_are w v now (Some a) h = record { answers = h.answers; entries = h.entries }

  happens_are : (w : World) (event : Event) → PutsOnly event → AllAre w → AllAre (happens t w event)
  happens_are w (Put key owner exp time) is h = put_are w key (record { owner = owner; exp = exp }) (shown t.back (w.stores (t.shard key)) time) is h
  happens_are w (Remove key now) is h =
      let s = w.stores (t.shard key) in
      store_are w (t.shard key) (with_removal t.margin s key (s.entries key) (shown t.back s now)) (removal_are s key (s.entries key) (shown t.back s now) (h.entries (t.shard key))) h
  happens_are w (End s entries deaf) is h = store_are w s (next_epoch t.lasts (w.stores s) entries deaf) is h
  happens_are w (Tick v now) is h = record { answers = h.answers; entries = h.entries }
  happens_are w (Accept v now index) is h = look_are w v now (slice_get w.answers index) h
  happens_are w (Tell v u) is h = record { answers = h.answers; entries = h.entries }
  happens_are w (Restart v moment uses) is h = record { answers = h.answers; entries = h.entries }

  happen_are : (events : List Event) (w : World) → AllByRecursion (PutsOnly) events → AllAre w → AllAre (happen t w events)
  happen_are [] w is h = h
  happen_are (event ∷ events) w is h = happen_are events (happens t w event) is.1 (happens_are w event is.0 h)

  start_are : AllAre start
  start_are = record { answers = λ j a e. absurd (none-some a e); entries = λ s key e at. absurd (none-some e at) }

  pub found_are : (events : List Event) (i : ℕ) (a : Answer) → AllByRecursion PutsOnly events → slice_get (happen t start events).answers i ≡ Some a → P a.found
  found_are events i a is at = (happen_are events start is start_are).answers i a at

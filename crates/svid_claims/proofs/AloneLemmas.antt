-- A claim that nothing stands against is accepted.
use Rattle.std.proofs.Common.{◌≡◌, ◌≢◌, ℕ, ◌+◌, ◌<◌, ◌≤◌, true, false, List, [], ◌∷◌, ◌++◌, length, refl, sym, ◌∙◌, subst}
use Rattle.std.specs.Prelude.{Option, Some, None, slice_get, ◌==◌, nat_le}
use Rattle.std.specs.List.{AllByRecursion}
use Rattle.std.proofs.lemmas.Bool.{cond-false, cond_both}
use Rattle.svid_claims.specs.Alone.{IsOpen, LoneIsAccepted, PutsNoneOf, UnclaimedIsOpen}
use Rattle.svid_claims.specs.Groups.{Accept, Accepts, Answer, End, Entry, Event, Member, Put, Remove, Restart, Store, Tell, Terms, Tick, World, happen, happens, is_used, look, moment_of, next_epoch, put_store, shown, stands, start, with_put, with_removal, without_entry}
use Rattle.svid_claims.specs.Owners.{same, withdrawn}
use Rattle.svid_claims.proofs.AcceptsLemmas.{mode_from, says_accepted}
use Rattle.svid_claims.proofs.GroupsLemmas.{Grows, happen_grows}
use Rattle.svid_claims.proofs.RowsLemmas.{last_index, not_same}

open_stands : (o : Option Entry) (e : Entry) → IsOpen o e → stands o e ≡ e
open_stands None e h = refl
open_stands (Some found) e h = h

module _ (t : Terms) (events between : List Event) (v now exp time : ℕ) (key owner : List ℕ) where
  abbrev w : World
  w = happen t start events

  abbrev s : Store
  s = w.stores (t.shard key)

  abbrev a : Answer
  a = record { key = key; found = record { owner = owner; exp = exp }; time = shown t.back s time; epoch = s.epoch; deaf = s.deaf }

  abbrev next : World
  next = happens t w (Put key owner exp time)

  abbrev b : World
  b = happen t next between

  abbrev x : Member
  x = b.members v

  abbrev moment : ℕ
  moment = moment_of (t.ahead v) x now a

  grown : Grows next b
  grown = happen_grows t between next

  alone : IsOpen (s.entries key) (record { owner = owner; exp = exp }) → exp ≤ a.time + t.lasts → s.deaf < exp → moment < exp → owner ≢ withdrawn
      → (t.strict ≡ true → (owner ≡ t.owner v x.life exp) × (is_used x.uses key moment ≡ false)) → Accepts t b v now (length w.answers) a
  alone unheld near heard live claims mode =
      record {
        given = grown.kept (length w.answers) a
            (subst (λ (e : Entry). slice_get (w.answers ++ record { key = key; found = e; time = shown t.back s time; epoch = s.epoch; deaf = s.deaf } ∷ []) (length w.answers) ≡ Some a)
            (sym (open_stands (s.entries key) (record { owner = owner; exp = exp }) unheld)) (last_index w.answers a));
        accepted = says_accepted t v x now a (record {
          near = near;
          heard = heard;
          live = live;
          claims = not_same owner withdrawn claims;
          mode = mode_from t v x moment a mode;
        });
      }

pub lone_is_accepted : LoneIsAccepted
lone_is_accepted t events between v now exp time key owner unheld near heard live claims mode = alone t events between v now exp time key owner unheld near heard live claims mode

-- nothing stands under a key in any store
abbrev AllNone : List ℕ → World → Type 0
AllNone key w = (s : ℕ) → (w.stores s).entries key ≡ None

put_none : (key : List ℕ) (w : World) (s : ℕ) (y : Store) → y.entries key ≡ None → AllNone key w → AllNone key (put_store w s y)
put_none key w s y h all n = cond_both (n == s) y (w.stores n) (λ (z : Store). z.entries key ≡ None) (λ _. h) (λ _. all n)

removal_none : (key other : List ℕ) (margin : ℕ) (s : Store) (o : Option Entry) (now : ℕ) → s.entries key ≡ None → (with_removal margin s other o now).entries key ≡ None
removal_none key other margin s None now h = h
removal_none key other margin s (Some e) now h =
    cond_both (nat_le (e.exp + margin) now) (without_entry s other now) s (λ (z : Store). z.entries key ≡ None)
    (λ _. cond_both (same other key) None (s.entries key) (λ o. o ≡ None) (λ _. refl) (λ _. h)) (λ _. h)

module _ (t : Terms) (key : List ℕ) where
  look_none : (w : World) (v now : ℕ) (o : Option Answer) → AllNone key w → AllNone key (look t w v now o)
  look_none w v now None all = all
  look_none w v now (Some a) all = all

  happens_none : (w : World) (event : Event) → PutsNoneOf key event → AllNone key w → AllNone key (happens t w event)
  happens_none w (Put other owner exp time) ne all =
      let e : Entry = record { owner = owner; exp = exp } in
      let s = w.stores (t.shard other) in
      put_none key w (t.shard other) (with_put s other e (shown t.back s time))
      (cond-false (same other key) (Some (stands (s.entries other) e)) (s.entries key) (not_same other key ne) ∙ all (t.shard other)) all
  happens_none w (Remove other now) h all =
      let s = w.stores (t.shard other) in
      put_none key w (t.shard other) (with_removal t.margin s other (s.entries other) (shown t.back s now)) (removal_none key other t.margin s (s.entries other) (shown t.back s now) (all (t.shard other))) all
  happens_none w (End s entries deaf) h all = put_none key w s (next_epoch t.lasts (w.stores s) entries deaf) h all
  happens_none w (Tick v now) h all = all
  happens_none w (Accept v now index) h all = look_none w v now (slice_get w.answers index) all
  happens_none w (Tell v u) h all = all
  happens_none w (Restart v from uses) h all = all

  happen_none : (events : List Event) (w : World) → AllByRecursion (PutsNoneOf key) events → AllNone key w → AllNone key (happen t w events)
  happen_none [] w h all = all
  happen_none (event ∷ events) w h all = happen_none events (happens t w event) h.1 (happens_none w event h.0 all)

pub unclaimed_is_open : UnclaimedIsOpen
unclaimed_is_open t events s key h = happen_none t key events start h (λ n. refl) s

-- A group whose members claim tokens at stores, which keep the first entry of each key: what may happen in it, and what that leaves.
use Rattle.std.specs.Prelude.{◌≡◌, ℕ, ◌+◌, ◌-◌, max, Bool, true, not, ◌&&◌, nat_lt, nat_le, ◌==◌, List, [], ◌∷◌, ◌++◌, slice_get, Option, Some, None, if◌then◌else◌}
use Rattle.std.specs.List.{list_any}
use Rattle.svid_claims.specs.Owners.{same, withdrawn}
use Rattle.svid_claims.specs.Times.{deaf_after, moment_by}

-- what stands under a key: whose claim it is, and the expiry of the token that was claimed
pub record Entry : Type 0 where
  pub owner : List ℕ
  pub exp : ℕ

-- A store, one of several: what stands under each key; of its epoch, the latest time that its clock showed as it removed an entry, and the
-- latest time of its answers; the number of the epoch, which is how often it may have lost entries; and the expiry up to which tokens may
-- have been claimed in earlier epochs.
pub record Store : Type 0 where
  pub entries : List ℕ → Option Entry
  pub swept : ℕ
  pub latest : ℕ
  pub epoch : ℕ
  pub deaf : ℕ

-- an answer of a store to a put: what stands under the key then; a time of the store's clock; the store's epoch, and its `deaf`
pub record Answer : Type 0 where
  pub key : List ℕ
  pub found : Entry
  pub time : ℕ
  pub epoch : ℕ
  pub deaf : ℕ

-- a use of a key that a member knows
pub record KnownUse : Type 0 where
  pub key : List ℕ
  pub exp : ℕ

-- a member: the number of its lives before this one, its record's moment, and the uses that it accepted or heard of
pub record Member : Type 0 where
  pub life : ℕ
  pub moment : ℕ
  pub uses : List KnownUse

-- a group: its members, its stores, and all answers that the stores gave, in their order
pub record World : Type 0 where
  pub members : ℕ → Member
  pub stores : ℕ → Store
  pub answers : List Answer

-- What a group has for good: whether a token may be used once (`strict`), or any number of times by one owner; how long past its expiry a store
-- keeps an entry; how far a store's clock may step back to before what it has removed; how many seconds past a store's time a token may expire;
-- how far a member lets a store's time be ahead of its own; the store of a key; and, where the group is strict, the owner that a member
-- claims for in each of its lives, by the token's expiry.
pub record Terms : Type 0 where
  pub strict : Bool
  pub margin : ℕ
  pub back : ℕ
  pub lasts : ℕ
  pub ahead : ℕ → ℕ
  pub shard : List ℕ → ℕ
  pub owner : (v life exp : ℕ) → List ℕ

-- What may happen.
-- - `Put`: anyone puts an entry. It stands unless one stands already, and the answer says which does. The answer's time is `time`, but none so
--   far before a removal of the epoch: the clock is read at the put, or later in the epoch.
-- - `Remove`: the store of a key, whose clock shows `now`, removes the entry, if its time is over.
-- - `End`: a store may have lost entries. The next epoch begins, with any entries, any clock, and a `deaf` that is great enough.
-- - `Tick`: the clock of member v says any time.
-- - `Accept`: member v, whose clock says any time, looks at any answer that a store gave, however late and how often, and accepts by it if it can.
-- - `Tell`: member v hears of a use.
-- - `Restart`: member v begins its next life, with any moment and any uses.
pub data Event : Type 0 where
  Put : (key owner : List ℕ) (exp time : ℕ) → Event
  Remove : (key : List ℕ) (now : ℕ) → Event
  End : (s : ℕ) (entries : List ℕ → Option Entry) (deaf : ℕ) → Event
  Tick : (v now : ℕ) → Event
  Accept : (v now index : ℕ) → Event
  Tell : (v : ℕ) (u : KnownUse) → Event
  Restart : (v moment : ℕ) (uses : List KnownUse) → Event

-- a member that nothing happened to
abbrev pub new_member : Member
new_member = record { life = 0; moment = 0; uses = [] }

-- a store that nothing happened to
abbrev pub new_store : Store
new_store = record { entries = λ key. None; swept = 0; latest = 0; epoch = 0; deaf = 0 }

-- a group that nothing happened in
abbrev pub start : World
start = record { members = λ v. new_member; stores = λ s. new_store; answers = [] }

-- member v is now x
abbrev pub put_member : World → ℕ → Member → World
put_member w v x = record { members = λ n. if n == v then x else w.members n; stores = w.stores; answers = w.answers }

-- store s is now y
abbrev pub put_store : World → ℕ → Store → World
put_store w s y = record { members = w.members; stores = λ n. if n == s then y else w.stores n; answers = w.answers }

-- one answer more was given
abbrev pub add_answer : World → Answer → World
add_answer w a = record { members = w.members; stores = w.stores; answers = w.answers ++ a ∷ [] }

-- under a key stands this now
abbrev pub with_entry : (List ℕ → Option Entry) → List ℕ → Option Entry → List ℕ → Option Entry
with_entry entries key now k = if same key k then now else entries k

-- what stands under a key after a put: what stood there, or else what was put
abbrev pub stands : Option Entry → Entry → Entry
stands None e = e
stands (Some found) e = found

-- what a store's clock shows: any time, but none so far before one at which it removed an entry
abbrev pub shown : (back : ℕ) → Store → ℕ → ℕ
shown back s time = max time (s.swept - back)

-- a store after a put whose answer has this time
abbrev pub with_put : Store → List ℕ → Entry → (time : ℕ) → Store
with_put s key e time = record {
  entries = with_entry s.entries key (Some (stands (s.entries key) e));
  swept = s.swept;
  latest = max s.latest time;
  epoch = s.epoch;
  deaf = s.deaf;
}

-- its answer
abbrev pub answer_of : Store → List ℕ → Entry → (time : ℕ) → Answer
answer_of s key e time = record { key = key; found = stands (s.entries key) e; time = time; epoch = s.epoch; deaf = s.deaf }

-- a store without the entry of a key, which it removed at this time
abbrev pub without_entry : Store → List ℕ → (now : ℕ) → Store
without_entry s key now = record {
  entries = with_entry s.entries key None;
  swept = max s.swept now;
  latest = s.latest;
  epoch = s.epoch;
  deaf = s.deaf;
}

-- a store that removes the entry of a key at this time, if there is one whose time is over
abbrev pub with_removal : (margin : ℕ) → Store → List ℕ → Option Entry → (now : ℕ) → Store
with_removal margin s key None now = s
with_removal margin s key (Some e) now = if nat_le (e.exp + margin) now then without_entry s key now else s

-- a store in its next epoch
abbrev pub next_epoch : (lasts : ℕ) → Store → (List ℕ → Option Entry) → (deaf : ℕ) → Store
next_epoch lasts s entries deaf = record {
  entries = entries;
  swept = 0;
  latest = 0;
  epoch = s.epoch + 1;
  deaf = max deaf (deaf_after s.latest lasts s.deaf);
}

-- a member whose moment advances
abbrev pub at_moment : Member → ℕ → Member
at_moment x now = record { life = x.life; moment = max x.moment now; uses = x.uses }

-- a member that knows one use more
abbrev pub with_use : Member → KnownUse → Member
with_use x u = record { life = x.life; moment = x.moment; uses = u ∷ x.uses }

-- a member in its next life
abbrev pub next_life : Member → ℕ → List KnownUse → Member
next_life x moment uses = record { life = x.life + 1; moment = moment; uses = uses }

-- some use of a key is live at a moment
abbrev pub is_used : List KnownUse → List ℕ → ℕ → Bool
is_used uses key moment = list_any (λ u. same u.key key && nat_lt moment u.exp) uses

-- the moment at which a member looks at an answer
abbrev pub moment_of : (ahead : ℕ) → Member → ℕ → Answer → ℕ
moment_of ahead x now a = moment_by (max x.moment now) a.time ahead

-- the use that is made of the token of an answer
abbrev pub use_of : Answer → KnownUse
use_of a = record { key = a.key; exp = a.found.exp }

module _ (t : Terms) where
  -- a strict member accepts the claims of its own life alone, and no key that it knows a live use of
  abbrev pub is_fresh : ℕ → Member → ℕ → Answer → Bool
  is_fresh v x moment a = same a.found.owner (t.owner v x.life a.found.exp) && not (is_used x.uses a.key moment)

  -- Member v accepts the token of the claim that an answer found: it does not live too long by the store's time, no earlier epoch can have had a
  -- claim of it, it has not expired, and it was not withdrawn.
  abbrev pub is_accepted : ℕ → Member → ℕ → Answer → Bool
  is_accepted v x now a =
      let moment = moment_of (t.ahead v) x now a in
      nat_le a.found.exp (a.time + t.lasts) && nat_lt a.deaf a.found.exp && nat_lt moment a.found.exp && not (same a.found.owner withdrawn)
      && (if t.strict then is_fresh v x moment a else true)

  -- A member after it looked at an answer. Its own moment does not advance to the store's time, so that a store whose clock is wrong does no
  -- lasting harm.
  abbrev pub with_look : ℕ → Member → ℕ → Answer → Member
  with_look v x now a = record {
    life = x.life;
    moment = max x.moment now;
    uses = if is_accepted v x now a then use_of a ∷ x.uses else x.uses;
  }

  -- member v looks at an answer, if there is one
  abbrev pub look : World → (v now : ℕ) → Option Answer → World
  look w v now None = w
  look w v now (Some a) = put_member w v (with_look v (w.members v) now a)

  -- what a put leaves whose answer has this time
  abbrev pub put : World → List ℕ → Entry → (time : ℕ) → World
  put w key e time =
      let s = w.stores (t.shard key) in
      add_answer (put_store w (t.shard key) (with_put s key e time)) (answer_of s key e time)

  -- what a removal leaves
  abbrev pub remove : World → List ℕ → (now : ℕ) → World
  remove w key now = let s = w.stores (t.shard key) in put_store w (t.shard key) (with_removal t.margin s key (s.entries key) now)

  -- what an event leaves
  abbrev pub happens : World → Event → World
  happens w (Put key owner exp time) = put w key (record { owner = owner; exp = exp }) (shown t.back (w.stores (t.shard key)) time)
  happens w (Remove key now) = remove w key (shown t.back (w.stores (t.shard key)) now)
  happens w (End s entries deaf) = put_store w s (next_epoch t.lasts (w.stores s) entries deaf)
  happens w (Tick v now) = put_member w v (at_moment (w.members v) now)
  happens w (Accept v now index) = look w v now (slice_get w.answers index)
  happens w (Tell v u) = put_member w v (with_use (w.members v) u)
  happens w (Restart v moment uses) = put_member w v (next_life (w.members v) moment uses)

  -- what a list of events leaves
  abbrev pub happen : World → List Event → World
  happen w [] = w
  happen w (event ∷ events) = happen (happens w event) events

  -- member v accepts the token of this answer, if it looks at it at this time
  pub record Accepts (w : World) (v now index : ℕ) (a : Answer) : Type 0 where
    pub given : slice_get w.answers index ≡ Some a
    pub accepted : is_accepted v (w.members v) now a ≡ true

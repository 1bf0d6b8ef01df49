-- A member is restored from its save.
use Rattle.std.proofs.Common.{◌≡◌, ◌⊎◌, inl, inr, ℕ, ◌+◌, ◌<◌, ◌≤◌, ◌^◌, max, Bool, true, false, nat_lt, List, [], ◌∷◌, ◌++◌, length, map, take, get_or, Option, Some, None, refl, sym, ap, ◌∙◌, subst, arith, append-nil, append_assoc}
use Rattle.std.specs.Prelude.{IsTrue, find}
use Rattle.std.specs.List.{AllByRecursion, filter, flat_map}
use Rattle.std.proofs.lemmas.Bool.{and_from, cond-true, lt-ltb}
use Rattle.std.proofs.lemmas.List.{take_more}
use Rattle.std.proofs.lemmas.List.Elements.{recursion_from_All}
use Rattle.std.specs.List.Sorted.{IsStrictlySortedBy}
use Rattle.svid_replay.specs.declared.token_use.Use.{Use}
use Rattle.svid_replay.specs.Batches.{BatchData, IsBatch, is_after}
use Rattle.svid_replay.specs.Records.{IsHeldAt, State}
use Rattle.svid_replay.specs.Sets.{holds, rising, with, with_all}
use Rattle.svid_replay.specs.Uses.{Uses, live, no_uses, uses_in as set_in}
use Rattle.svid_replay.proofs.PartsLemmas.{held_is_batch}
use Rattle.svid_replay.proofs.SetsLemmas.{rising_rises}
use Rattle.svid_replay.proofs.UsesLemmas.{IsWalked, found_held, held_in_rising, next_is, none_left, uses_in-rising, walk_none}
use Rattle.svid_wire.specs.BatchText.{batch_text}
use Rattle.svid_wire.specs.Messages.{Splits, batch_in, batches_of}
use Rattle.svid_wire.specs.declared.message.Message.{Message}
use Rattle.svid_wire.specs.declared.message.Message.TheVariants.{Batch}
use Rattle.svid_wire.specs.declared.version.Version.TheVariants.{Two}
use Rattle.svid_wire.proofs.MessagesLemmas.{written_is}
use Rattle.svid_log.specs.Calls.{IsMember, index_in}
use Rattle.svid_log.specs.Groups.{Reader, begins, looked}
use Rattle.svid_log.specs.Members.{MemberState}
use Rattle.svid_log.specs.Saves.{LooksAreEvents, NewAreEvents, RestartsAreEvents, SavesPutBack, alone, put_all, saved_of}
use Rattle.svid_log.specs.Steps.{AreSound, IsSound, counts, put_beside}
use Rattle.svid_log.specs.Values.{IsValue, uses_in}

-- a use that is alone is a batch
pub alone_is_batch : (u : Use) → IsSound u → IsBatch (alone u)
unfolding IsStrictlySortedBy
alone_is_batch u h = held_is_batch u.at (u ∷ []) h.fields.at (one_is_few u) (tt, tt) (record { fields = h.fields; made = same_le u.at; live = h.sound }, tt)
  where
    one_is_few : (v : Use) → length (v ∷ []) ≤ 65536
    one_is_few v = omega arith

    same_le : (n : ℕ) → n ≤ n
    same_le n = omega arith

-- the uses up to one were saved
pub record IsSavedTo (s : Uses) (after : Option Use) (saved : List BatchData) : Type 0 where
  pub front : List Use
  pub walked : IsWalked (rising s) after front
  pub are : saved ≡ map alone front

pub saved_none : (s : Uses) → IsSavedTo s None []
saved_none s = record { front = []; walked = walk_none (rising s); are = refl }

map_push : (xs : List Use) (u : Use) → map alone (xs ++ u ∷ []) ≡ map alone xs ++ alone u ∷ []
map_push [] u = refl
map_push (x ∷ xs) u = ap (λ bs. alone x ∷ bs) (map_push xs u)

pub saved_more : (s : Uses) (after : Option Use) (saved more : List BatchData) (u : Use) → find (is_after after) (rising s) ≡ Some u → IsSavedTo s after saved → more ≡ saved ++ alone u ∷ [] → IsSavedTo s (Some u) more
saved_more s after saved more u found r grown = record {
  front = r.front ++ u ∷ [];
  walked = record { parts = r.walked.parts ∙ (ap (λ us. r.front ++ us) (next_is after (rising s) u (rising_rises _ s) found) ∙ sym (append_assoc r.front (u ∷ []) (filter (is_after (Some u)) (rising s)))) };
  are = grown ∙ (ap (λ bs. bs ++ alone u ∷ []) r.are ∙ sym (map_push r.front u));
}

pub saved_all : (s : Uses) (after : Option Use) (saved : List BatchData) → find (is_after after) (rising s) ≡ None → IsSavedTo s after saved → saved ≡ saved_of s
saved_all s after saved none r = r.are ∙ ap (map alone) (sym (r.walked.parts ∙ (ap (λ us. r.front ++ us) (none_left (is_after after) (rising s) none) ∙ append-nil r.front)))

-- each use of a set of sound uses is sound
all_sound : (s : Uses) → AreSound s → AllByRecursion IsSound (rising s)
all_sound s sound = recursion_from_All IsSound (rising s) (λ k d lt. sound (get_or (rising s) k d) (held_in_rising s k d lt))

are_batches : (us : List Use) → AllByRecursion IsSound us → AllByRecursion IsBatch (map alone us)
are_batches [] h = tt
are_batches (u ∷ us) h = (alone_is_batch u h.0, are_batches us h.1)

uses_of_alone : (us : List Use) → uses_in (map alone us) ≡ us
uses_of_alone [] = refl
uses_of_alone (u ∷ us) = ap (λ xs. u ∷ xs) (uses_of_alone us)

text_splits : (bs : List BatchData) → AllByRecursion IsBatch bs → Splits (flat_map batch_text bs) (map (λ b. Batch b) bs) []
text_splits [] h = record { written = []; good = tt; told = refl; parts = refl }
text_splits (b ∷ bs) h =
    let rest = text_splits bs h.1 in
    record {
      written = batch_in Two b ∷ rest.written;
      good = (written_is (Batch b) h.0, rest.good);
      told = ap (λ ms. Batch b ∷ ms) rest.told;
      parts = ap (λ text. batch_text b ++ text) rest.parts ∙ sym (append_assoc (batch_text b) _ []);
    }

batches_again : (bs : List BatchData) → batches_of (map (λ b. Batch b) bs) ≡ bs
batches_again [] = refl
batches_again (b ∷ bs) = ap (λ xs. b ∷ xs) (batches_again bs)

puts_all : (us : List Use) (s : Uses) → AllByRecursion IsSound us → put_all s us ≡ with_all s us
puts_all [] s h = refl
puts_all (u ∷ us) s h =
    let lt = lt-ltb u.at u.exp h.0.sound in
    ap (λ t. put_all t us) (cond-true (counts u.at u) (with s u) s (and_from (nat_lt u.at u.exp) (nat_lt u.at u.exp) lt lt)) ∙ puts_all us (with s u) h.1

put_back : (s : Uses) → AreSound s → put_all no_uses (uses_in (saved_of s)) ≡ s
put_back s sound = ap (put_all no_uses) (uses_of_alone (rising s)) ∙ (puts_all (rising s) no_uses (all_sound s sound) ∙ uses_in-rising s)

pub saves_put_back : SavesPutBack
saves_put_back s sound = (
  are_batches (rising s) (all_sound s sound),
  record { messages = map (λ b. Batch b) (saved_of s); whole = text_splits (saved_of s) (are_batches (rising s) (all_sound s sound)); told = ap uses_in (sym (batches_again (saved_of s))) },
  put_back s sound,
)

put_push : (us : List Use) (s : Uses) (u : Use) → put_all s (us ++ u ∷ []) ≡ put_beside u.at (put_all s us) u
put_push [] s u = refl
put_push (x ∷ us) s u = put_push us (put_beside x.at s x) u

pub puts_more : (us : List Use) (i : ℕ) (d : Use) (before after : Uses) → i < length us → before ≡ put_all no_uses (take i us) → after ≡ put_beside (get_or us i d).at before (get_or us i d) → after ≡ put_all no_uses (take (i + 1) us)
puts_more us i d before after lt so_far is =
    let u = get_or us i d in
    is ∙ (ap (λ s. put_beside u.at s u) so_far ∙ (sym (put_push (take i us) no_uses u) ∙ ap (put_all no_uses) (sym (take_more us i d lt))))

both_before : (a b c : ℕ) → a ≤ c → b ≤ c → max b a ≤ c
both_before a b c one other = omega arith

pub restarts_are_events : RestartsAreEvents
restarts_are_events values m x was before ready sound is read earlier = record {
  held = is.held;
  beside = is.beside ∙ sym (put_back m.beside sound);
  read = is.read;
  ready = both_before before.read before.ready (index_in values ready 0) read earlier;
  deaf = is.deaf;
  begun = is.begun;
}

pub new_are_events : NewAreEvents
new_are_events values validator_id lasts passed ready deaf before read earlier = record {
  held = refl;
  beside = refl;
  read = refl;
  ready = both_before before.read before.ready (index_in values ready 0) read earlier;
  deaf = refl;
  begun = λ us e. none (length us);
}
  where
    none : (n : ℕ) → 0 ≤ n
    none n = omega arith

pub looks_are_events : LooksAreEvents
looks_are_events values m x r is = record {
  held = is.held;
  beside = ap (λ s. live s r.held.moment) is.beside ∙ ap (λ (y : State). live m.beside y.moment) is.held;
  read = is.read;
  ready = is.ready;
  deaf = is.deaf;
  begun = is.begun;
}

use Rattle.std.proofs.Common.{◌≡◌, ℕ, ◌+◌, ◌<◌, ◌≤◌, zero, suc, List, [], ◌∷◌, ◌++◌, length, take, drop, get_or, set, Option, refl, sym, ◌∙◌, ap, subst, arith, append-nil}
use Rattle.std.proofs.Math.Seq.{take-append-add}
use Rattle.std.proofs.lemmas.List.{take_all, drop-set-lt, drop-drop, length-take-le}
use Rattle.std.proofs.lemmas.Grind.{flat_map-append}
use Rattle.svid_replay.specs.Parts.{join_all}
use Rattle.svid_replay.specs.Records.{State}
use Rattle.svid_wire.specs.Messages.{batches_of}
use Rattle.svid_wire.specs.Streams.{Drawn, drawn}
use Rattle.svid_wire.specs.declared.message.Message.{Message}
use Rattle.svid_wire.specs.declared.read_fault.ReadFault.{ReadFault}
use Rattle.svid_wire.specs.declared.read_fault.ReadFault.TheVariants as reading
use Rattle.svid_share.specs.declared.tool_fault.ToolFault.{ToolFault}
use Rattle.svid_share.specs.declared.tool_fault.ToolFault.TheVariants as fault
use Rattle.svid_share.specs.Inputs.{AreWhole, IsInputFault, IsRefused, IsUnread, IsWhole, Sources, all_of, each_drawn, inputs_of, read_fault_of, sources}
use Rattle.svid_share.specs.Joined.{Joins, JoinsAll}
use Rattle.svid_share.proofs.JoinedLemmas.{join_all-append}

-- an input that could not be read has another fault than a write
pub not_write : (number : ℕ) (input : Drawn) → IsUnread number input fault.Write → ⊥
not_write number input unread = by_kind unread.why unread.is
  where
    by_kind : (why : ReadFault) → fault.Write ≡ read_fault_of number why → ⊥
    by_kind reading.Stopped is = cc
    by_kind reading.TooMuch is = cc
    by_kind reading.OutOfMemory is = cc

AreWhole-push : (inputs : List Drawn) (told : List (List Message)) (input : Drawn) (more : List Message) → AreWhole inputs told → IsWhole input more → AreWhole (inputs ++ input ∷ []) (told ++ more ∷ [])
AreWhole-push [] [] input more whole is = (is, tt)
AreWhole-push (i ∷ inputs) (t ∷ told) input more whole is = (whole.0, AreWhole-push inputs told input more whole.1 is)
AreWhole-push [] (t ∷ told) input more whole is = absurd whole
AreWhole-push (i ∷ inputs) [] input more whole is = absurd whole

all_of-push : (told : List (List Message)) (more : List Message) → all_of (told ++ more ∷ []) ≡ all_of told ++ batches_of more
all_of-push told more = flat_map-append batches_of told (more ∷ []) ∙ ap (λ r. all_of told ++ r) (append-nil (batches_of more))

module _ {S : Type 0} (left : S → Option (List ℕ)) (stops : S → ℕ) where
  each_drawn-length : (olds news : List S) → length news ≡ length olds → length (each_drawn left stops olds news) ≡ length olds
  each_drawn-length [] news long = refl
  each_drawn-length (o ∷ olds) [] long = omega arith
  each_drawn-length (o ∷ olds) (n ∷ news) long = let e : length news ≡ length olds = omega arith in ap suc (each_drawn-length olds news e)

  -- the inputs after one was read: those before it, the one itself, and those after it
  each_drawn-set : (i : ℕ) (olds news : List S) (d x : S) → i < length olds → length news ≡ length olds → drop i news ≡ drop i olds
      → each_drawn left stops olds (set news i x) ≡ take i (each_drawn left stops olds news) ++ drawn left stops (get_or news i d) x ∷ drop (suc i) (each_drawn left stops olds news)
  each_drawn-set i [] news d x within long same = absurd (let no : i < 0 = within in omega arith)
  each_drawn-set i (o ∷ olds) [] d x within long same = absurd (let no : 0 ≡ suc (length olds) = long in omega arith)
  each_drawn-set zero (o ∷ olds) (n ∷ news) d x within long same = ap (λ p. drawn left stops (get_or p 0 d) x ∷ each_drawn left stops olds news) (sym same)
  each_drawn-set (suc i) (o ∷ olds) (n ∷ news) d x within long same =
      let below : i < length olds = omega arith in
      let e : length news ≡ length olds = omega arith in
      ap (λ r. drawn left stops o n ∷ r) (each_drawn-set i olds news d x below e same)

-- the inputs before this index are whole and joined, and the sources from it on are as they were
pub record HasJoined {S : Type 0} (i : ℕ) (s : Sources S) (old new : State) : Type 0 where
  pub told : List (List Message)
  pub whole : AreWhole (take i (inputs_of s)) told
  pub untouched : drop i s.new ≡ drop i s.old
  pub joins : new ≡ join_all old (all_of told)

-- no input was read yet
pub joined_none : {S : Type 0} (left : S → Option (List ℕ)) (stops : S → ℕ) (inputs : List S) (old : State) → HasJoined 0 (sources left stops inputs inputs) old old
joined_none left stops inputs old = record { told = []; whole = tt; untouched = refl; joins = refl }

-- those after the one that was read are as they were
behind_it : {S : Type 0} (i : ℕ) (olds news : List S) (x : S) → drop i news ≡ drop i olds → drop (i + 1) (set news i x) ≡ drop (i + 1) olds
behind_it i olds news x behind =
    let past : i < i + 1 = omega arith in
    drop-set-lt (i + 1) news i x past ∙ sym (drop-drop 1 i news) ∙ ap (drop 1) behind ∙ drop-drop 1 i olds

-- there are as many inputs before the index as it says
front_length : {S : Type 0} (i : ℕ) (left : S → Option (List ℕ)) (stops : S → ℕ) (olds news : List S) → i < length olds → length news ≡ length olds → length (take i (each_drawn left stops olds news)) ≡ i
front_length i left stops olds news within long =
    let all : i ≤ length (each_drawn left stops olds news) = omega (arith, each_drawn-length left stops olds news long) in
    length-take-le i (each_drawn left stops olds news) all

take-front : {A : Type 0} (front : List A) (x : A) (behind : List A) → take (length front + 1) (front ++ x ∷ behind) ≡ front ++ x ∷ []
take-front front x behind = take-append-add front (x ∷ behind) 1

-- one more input was read and joined
pub joined_more : {S : Type 0} (left : S → Option (List ℕ)) (stops : S → ℕ) (i : ℕ) (olds news : List S) (d x : S) (old mid new : State) → i < length olds → length news ≡ length olds
    → HasJoined i (sources left stops olds news) old mid → Joins (drawn left stops (get_or news i d) x) mid new → HasJoined (i + 1) (sources left stops olds (set news i x)) old new
joined_more left stops i olds news d x old mid new within long so_far more =
    let front = take i (each_drawn left stops olds news) in
    let seen : take (i + 1) (each_drawn left stops olds (set news i x)) ≡ front ++ drawn left stops (get_or news i d) x ∷ [] =
    ap (take (i + 1)) (each_drawn-set left stops i olds news d x within long so_far.untouched)
    ∙ subst (λ n. take (n + 1) (front ++ drawn left stops (get_or news i d) x ∷ drop (suc i) (each_drawn left stops olds news)) ≡ front ++ drawn left stops (get_or news i d) x ∷ []) (front_length i left stops olds news within long) (take-front front (drawn left stops (get_or news i d) x) (drop (suc i) (each_drawn left stops olds news))) in
    record {
      told = so_far.told ++ more.told ∷ [];
      whole = rw seen (AreWhole-push front so_far.told (drawn left stops (get_or news i d) x) more.told so_far.whole more.whole);
      untouched = behind_it i olds news x so_far.untouched;
      joins = more.joins ∙ ap (λ r. join_all r (batches_of more.told)) so_far.joins ∙ sym (join_all-append old (all_of so_far.told) (batches_of more.told)) ∙ ap (join_all old) (sym (all_of-push so_far.told more.told));
    }

-- the input at this index was refused
pub refused_at : {S : Type 0} (left : S → Option (List ℕ)) (stops : S → ℕ) (i : ℕ) (olds news : List S) (d x : S) (old mid : State) (given : ToolFault) → i < length olds → length news ≡ length olds
    → HasJoined i (sources left stops olds news) old mid → IsInputFault (i + 1) (drawn left stops (get_or news i d) x) given → IsRefused (sources left stops olds (set news i x)) given
refused_at left stops i olds news d x old mid given within long so_far why =
    let front = take i (each_drawn left stops olds news) in
    let many : length front ≡ i = front_length i left stops olds news within long in
    record {
      before = front;
      refused = drawn left stops (get_or news i d) x;
      behind = drop (suc i) (each_drawn left stops olds news);
      parts = each_drawn-set left stops i olds news d x within long so_far.untouched;
      told = so_far.told;
      whole = so_far.whole;
      why = rw many why;
      untouched = rw many (behind_it i olds news x so_far.untouched);
    }

-- all inputs were read and joined
pub joined_all : {S : Type 0} (left : S → Option (List ℕ)) (stops : S → ℕ) (i : ℕ) (olds news : List S) (old new : State) → length olds ≤ i → length news ≡ length olds
    → HasJoined i (sources left stops olds news) old new → JoinsAll (each_drawn left stops olds news) old new
joined_all left stops i olds news old new past long so_far =
    let all : take i (each_drawn left stops olds news) ≡ each_drawn left stops olds news = take_all i (each_drawn left stops olds news) (omega (arith, each_drawn-length left stops olds news long)) in
    record { told = so_far.told; whole = rw (sym all) so_far.whole; joins = so_far.joins }

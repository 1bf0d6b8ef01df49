-- Piece after piece of an input.
use Rattle.std.proofs.Common.{◌≡◌, ◌≢◌, ℕ, ◌+◌, ◌<◌, ◌≤◌, List, [], ◌∷◌, ◌++◌, length, take, drop, min, Option, Some, None, Result, Ok, Err, OnOk, IfErr, MatchResult, refl, sym, ap, subst, ◌∙◌, append_assoc, append-nil, length-append, arith, inl, inr}
use Rattle.std.specs.List.{flat_map}
use Rattle.std.proofs.lemmas.List.{take-append-drop, take-take, length-take, length-drop, length-map}
use Rattle.std.proofs.lemmas.List.Concat.{flat_map-cons}
use Rattle.std.specs.Io.KnownBytes.{Consumes, Keeps, IsAtEnd}
use Rattle.std.proofs.KnownBytes.{Consumes-trans}
use Rattle.svid_replay.specs.Parts.{join_all}
use Rattle.svid_replay.specs.Records.{State}
use Rattle.svid_wire.specs.Faults.{raised}
use Rattle.svid_wire.specs.Feed.{IsPushFault, Pushed, end_of}
use Rattle.svid_wire.specs.Messages.{Appended, Splits, StopsIn, Written, batches_of, read_as, written_text}
use Rattle.svid_wire.specs.Streams.{Drawn, Gave, IsRead}
use Rattle.svid_wire.specs.WireFault.{IsFieldRefusal, in_magic}
use Rattle.svid_wire.specs.declared.message.Message.{Message}
use Rattle.svid_wire.specs.declared.reason.Reason.{Reason}
use Rattle.svid_wire.specs.declared.reason.Reason.TheVariants as wire
use Rattle.svid_wire.specs.declared.wire_fault.WireFault.{WireFault}
use Rattle.svid_wire.proofs.MessagesLemmas.{Appended-more, Appended-trans, batches_of-append, some_bytes}
use Rattle.svid_share.specs.declared.reader.Reader.{Reader}
use Rattle.svid_share.specs.declared.tool_fault.ToolFault.{ToolFault}
use Rattle.svid_share.specs.Inputs.{HasBadField, IsInputFault, IsTooLong, IsWhole, StopsWithin, WantsMemory, most_bytes, wire_fault_at}
use Rattle.svid_share.specs.Joined.{Joins}
use Rattle.svid_share.specs.Reader.{HasCome}
use Rattle.svid_share.proofs.JoinedLemmas.{join_all-append}

Consumes-none : (a : Option (List ℕ)) → Consumes a a []
Consumes-none None = tt
Consumes-none (Some bytes) = refl

-- before the first piece
pub nothing_came : (left : Option (List ℕ)) (stops : ℕ) (reader : Reader) → reader.feed ≡ Some [] → reader.still ≡ 67108864 → reader.whole ≡ 0 → HasCome (record { left_before = left; left_after = left; stops_before = stops; stops_after = stops }) reader []
nothing_came left stops reader is full none = record {
  bytes = [];
  rest = [];
  holds = is;
  given = Consumes-none left;
  unstopped = refl;
  good = record { splits = record { written = []; good = tt; told = refl; parts = refl }; unfinished = in_magic (omega arith) };
  few = omega (arith, full);
  count = none;
}

Splits-of : (bytes rest : List ℕ) (messages : List Message) → Appended bytes [] messages rest → Splits bytes messages rest
Splits-of bytes rest messages came = rw came.grown came.splits

Appended-of : (bytes rest : List ℕ) (messages : List Message) → Splits bytes messages rest → Appended bytes [] messages rest
Appended-of bytes rest messages splits = record { came = messages; grown = refl; splits = splits }

-- a message has at least one byte
length-texts : (written : List Written) → length written ≤ length (flat_map written_text written)
length-texts [] = omega arith
length-texts (w ∷ written) = omega (arith, ap length (flat_map-cons written_text w written), length-append (written_text w) (flat_map written_text written), some_bytes w, length-texts written)

few_messages : (bytes rest : List ℕ) (messages : List Message) → Splits bytes messages rest → length messages ≤ length bytes
few_messages bytes rest messages splits =
    omega (arith, ap length splits.told, length-map splits.written read_as, ap length splits.parts, length-append (flat_map written_text splits.written) rest, length-texts splits.written)

-- the messages of the bytes that came, and of the next piece
splits_on : (bytes piece rest last : List ℕ) (messages came : List Message) → Splits bytes messages rest → Appended (rest ++ piece) [] came last → Splits (bytes ++ piece) (messages ++ came) last
splits_on bytes piece rest last messages came splits more =
    Splits-of (bytes ++ piece) last (messages ++ came)
    (Appended-trans (bytes ++ piece) (rest ++ piece) last [] messages (messages ++ came) (Appended-more bytes piece rest [] messages (Appended-of bytes rest messages splits))
    (record { came = came; grown = refl; splits = Splits-of (rest ++ piece) last came more }))

-- there are no more messages than bytes may come
few_came : (input : Drawn) (reader : Reader) (told : List Message) (piece last : List ℕ) (came : List Message) (so_far : HasCome input reader told) → Appended (so_far.rest ++ piece) [] came last → length piece ≤ reader.still → reader.whole + length came ≤ most_bytes
few_came input reader told piece last came so_far more fits =
    omega (
      arith,
      few_messages (so_far.bytes ++ piece) last (told ++ came) (splits_on so_far.bytes piece so_far.rest last told came so_far.good.splits more),
      length-append so_far.bytes piece,
      length-append told came,
      so_far.few,
      so_far.count,
    )

pub few_piece : (input : Drawn) (reader : Reader) (told : List Message) (piece : List ℕ) (came : List Message) (why : WireFault) → HasCome input reader told → IsPushFault reader.feed [] came piece why → length piece ≤ reader.still → reader.whole + length came ≤ most_bytes
few_piece input reader told piece came why so_far wrong fits = let p = rw so_far.holds at wrong in few_came input reader told piece p.rest came so_far p.read fits

pub few_pushed : (input : Drawn) (reader : Reader) (told : List Message) (next : Option (List ℕ)) (piece : List ℕ) (came : List Message) → HasCome input reader told → Pushed reader.feed next [] came piece → length piece ≤ reader.still → reader.whole + length came ≤ most_bytes
few_pushed input reader told next piece came so_far pushed fits = go next (rw so_far.holds at pushed)
  where
    go : (next : Option (List ℕ)) → Pushed (Some so_far.rest) next [] came piece → reader.whole + length came ≤ most_bytes
    go None p = absurd p
    go (Some last) p = few_came input reader told piece last came so_far p.0 fits

pub few_whole : (input : Drawn) (reader : Reader) (told : List Message) → HasCome input reader told → reader.whole ≤ most_bytes
few_whole input reader told so_far = omega (arith, few_messages so_far.bytes so_far.rest told so_far.good.splits, so_far.few, so_far.count)

module _ (a b c : Option (List ℕ)) (first before after : ℕ) where
  abbrev pub so_far : Drawn
  so_far = record { left_before = a; left_after = b; stops_before = first; stops_after = before }

  abbrev pub now : Drawn
  now = record { left_before = a; left_after = c; stops_before = first; stops_after = after }

  -- a piece came
  pub more_came : (old new : Reader) (told : List Message) (given fits : ℕ) (room piece : List ℕ) (came : List Message) → HasCome so_far old told → Consumes b c (take given room) → after ≡ before
      → piece ≡ take fits room → fits ≡ given → length piece ≡ fits → given ≤ old.still → Pushed old.feed new.feed [] came piece → new.still + given ≡ old.still → new.whole ≡ old.whole + length came → HasCome now new (told ++ came)
  more_came old new told given fits room piece came h took unstopped is all long few pushed left many = go new.feed refl (rw h.holds at pushed)
    where
      whole_piece : Consumes b c piece
      whole_piece = subst (Consumes b c) (ap (λ n. take n room) (sym all) ∙ sym is) took

      go : (next : Option (List ℕ)) → new.feed ≡ next → Pushed (Some h.rest) next [] came piece → HasCome now new (told ++ came)
      go None same p = absurd p
      go (Some last) same p = record {
        bytes = h.bytes ++ piece;
        rest = last;
        holds = same;
        given = Consumes-trans a b c h.bytes piece h.given whole_piece;
        unstopped = unstopped ∙ h.unstopped;
        good = record { splits = splits_on h.bytes piece h.rest last told came h.good.splits p.0; unfinished = p.1.unfinished };
        few = omega (arith, length-append h.bytes piece, h.few, all, long, few, left);
        count = omega (arith, length-append told came, h.count, many);
      }

  -- no byte came
  pub none_came : (reader : Reader) (told : List Message) (given : ℕ) (room : List ℕ) → HasCome so_far reader told → Consumes b c (take given room) → after ≡ before → given ≡ 0 → HasCome now reader (told ++ [])
  none_came reader told given room h took unstopped none =
      rw (append-nil told) (record {
        bytes = h.bytes;
        rest = h.rest;
        holds = h.holds;
        given = subst (λ x. Consumes a c x) (ap (λ n. h.bytes ++ take n room) none ∙ append-nil h.bytes) (Consumes-trans a b c h.bytes (take given room) h.given took);
        unstopped = unstopped ∙ h.unstopped;
        good = h.good;
        few = h.few;
        count = h.count;
      })

  -- the bytes that were asked for are a piece and others
  took_piece : (room piece : List ℕ) (given fits : ℕ) → fits ≤ given → piece ≡ take fits room → take given room ≡ piece ++ drop fits (take given room)
  took_piece room piece given fits le is = sym (ap (λ t. t ++ drop fits (take given room)) (is ∙ sym (take-take fits given room le)) ∙ take-append-drop fits (take given room))

  given_on : (bytes room piece : List ℕ) (given fits : ℕ) → Consumes a b bytes → Consumes b c (take given room) → fits ≤ given → piece ≡ take fits room → Consumes a c ((bytes ++ piece) ++ drop fits (take given room))
  given_on bytes room piece given fits before now le is =
      subst (λ x. Consumes a c x) (ap (λ t. bytes ++ t) (took_piece room piece given fits le is) ∙ sym (append_assoc bytes piece (drop fits (take given room))))
      (Consumes-trans a b c bytes (take given room) before now)

  -- a piece came that is bad
  pub broken : (old : Reader) (told : List Message) (given fits count : ℕ) (room piece : List ℕ) (came : List Message) (why : WireFault) → HasCome so_far old told → Consumes b c (take given room) → after ≡ before
      → piece ≡ take fits room → fits ≡ min given old.still → length piece ≡ fits → 0 < given → count ≡ length came → IsPushFault old.feed [] came piece why
      → IsInputFault old.number now (wire_fault_at why.reason old.number (old.whole + count + 1) why.offset)
  broken old told given fits count room piece came why h took unstopped is least long more many wrong = go (rw h.holds at wrong)
    where
      le : fits ≤ given
      le = omega arith

      few : length piece ≤ old.still
      few = omega arith

      Fault : Type 0
      Fault = IsInputFault old.number now (wire_fault_at why.reason old.number (old.whole + count + 1) why.offset)

      wants : WantsMemory now
      wants = record {
        bytes = h.bytes ++ piece;
        others = drop fits (take given room);
        given = given_on h.bytes room piece given fits h.given took le is;
        unstopped = unstopped ∙ h.unstopped;
        some = omega (arith, length-append h.bytes piece, h.few);
        within = omega (arith, length-append h.bytes piece, h.few, few);
      }

      named : (number_of : ℕ) (reason : Reason) (offset : ℕ) → reason ≢ wire.Truncated → HasBadField now number_of offset reason → IsInputFault old.number now (wire_fault_at reason old.number number_of offset)
      named number_of wire.OutOfMemory offset not bad = wants
      named number_of wire.Truncated offset not bad = absurd (not refl)
      named number_of reason offset not bad = (refl, bad)

      go : StopsIn (h.rest ++ piece) [] came why → Fault
      go p = by p.why
        where
          by : IsFieldRefusal p.rest why → Fault
          by (inr memory) = rw memory wants
          by (inl field) = named (old.whole + count + 1) why.reason why.offset field.1 (record {
            bytes = h.bytes ++ piece;
            others = drop fits (take given room);
            given = given_on h.bytes room piece given fits h.given took le is;
            unstopped = unstopped ∙ h.unstopped;
            within = omega (arith, length-append h.bytes piece, h.few, few);
            messages = told ++ came;
            rest = p.rest;
            splits = splits_on h.bytes piece h.rest p.rest told came h.good.splits p.read;
            number = omega (arith, length-append told came, h.count, many);
            why = field;
          })

  -- a piece came that goes past the limit
  pub beyond : (old : Reader) (next : Option (List ℕ)) (told : List Message) (given fits : ℕ) (room piece : List ℕ) (came : List Message) → HasCome so_far old told → Consumes b c (take given room) → after ≡ before
      → piece ≡ take fits room → fits ≡ old.still → old.still < given → given ≤ length room → Pushed old.feed next [] came piece → IsTooLong now
  beyond old next told given fits room piece came h took unstopped is all lt inside pushed = go next (rw h.holds at pushed)
    where
      go : (next : Option (List ℕ)) → Pushed (Some h.rest) next [] came piece → IsTooLong now
      go None p = absurd p
      go (Some last) p = record {
        bytes = h.bytes ++ piece;
        others = drop fits (take given room);
        given = given_on h.bytes room piece given fits h.given took (omega arith) is;
        unstopped = unstopped ∙ h.unstopped;
        full = omega (arith, length-append h.bytes piece, h.few, ap length is, length-take fits room);
        some = omega (arith, length-drop fits (take given room), length-take given room);
        messages = told ++ came;
        rest = last;
        good = record { splits = splits_on h.bytes piece h.rest last told came h.good.splits p.0; unfinished = p.1.unfinished };
      }

  keeps : (b c : Option (List ℕ)) (bytes : List ℕ) (x : Option (List ℕ)) → Consumes x b bytes → Keeps b c → Consumes x c bytes
  keeps b c bytes None before kept = tt
  keeps None c bytes (Some xs) before kept = absurd before
  keeps (Some ys) None bytes (Some xs) before kept = absurd kept
  keeps (Some ys) (Some zs) bytes (Some xs) before kept = rw kept before

  -- the input stopped
  pub stopped : (reader : Reader) (told : List Message) → HasCome so_far reader told → Keeps b c → after ≡ raised before → StopsWithin now
  stopped reader told h kept rose = record {
    bytes = h.bytes;
    given = keeps b c h.bytes a h.given kept;
    stopped = rose ∙ ap raised h.unstopped;
    within = omega (arith, h.few);
    messages = told;
    rest = h.rest;
    good = h.good;
  }

-- the input was read to its end
read_to_end : (input : Drawn) (reader : Reader) (told : List Message) → (h : HasCome input reader told) → IsAtEnd input.left_after → IsRead input most_bytes h.bytes
read_to_end input reader told h end = record { given = h.given; ended = end; within = omega (arith, h.few); unstopped = h.unstopped }

-- it ends with a whole message
pub ended : (input : Drawn) (reader : Reader) (told : List Message) → HasCome input reader told → IsAtEnd input.left_after → end_of reader.feed ≡ Ok tt → IsWhole input told
ended input reader told h end good = record { bytes = h.bytes; read = read_to_end input reader told h end; splits = rw (no_rest h.rest (rw h.holds at good)) at h.good.splits }
  where
    no_rest : (rest : List ℕ) → end_of (Some rest) ≡ Ok tt → rest ≡ []
    no_rest [] is = refl
    no_rest (x ∷ rest) is = absurd cc

-- it ends within a message
pub ended_within : (input : Drawn) (reader : Reader) (told : List Message) (number : ℕ) (why : WireFault) → HasCome input reader told → IsAtEnd input.left_after → end_of reader.feed ≡ Err why → IsInputFault number input (wire_fault_at why.reason number (reader.whole + 1) why.offset)
ended_within input reader told number why h end bad = go h.rest refl (rw h.holds at bad)
  where
    go : (rest : List ℕ) → h.rest ≡ rest → end_of (Some rest) ≡ Err why → IsInputFault number input (wire_fault_at why.reason number (reader.whole + 1) why.offset)
    go [] same is = absurd cc
    go (x ∷ rest) same is =
        let cut : why ≡ record { offset = length (x ∷ rest); reason = wire.Truncated } = cc in
        rw cut (
          refl,
          record {
            bytes = h.bytes;
            read = read_to_end input reader told h end;
            messages = told;
            rest = h.rest;
            good = h.good;
            number = ap (λ n. n + 1) h.count;
            some = rw same (omega arith);
            at = sym (ap length same);
          },
        )

-- memory was refused for what came
pub wants_memory : (input : Drawn) (reader : Reader) (told : List Message) → HasCome input reader told → reader.still < most_bytes → WantsMemory input
wants_memory input reader told h less = record {
  bytes = h.bytes;
  others = [];
  given = subst (λ x. Gave input x) (sym (append-nil h.bytes)) h.given;
  unstopped = h.unstopped;
  some = omega (arith, h.few);
  within = omega (arith, h.few);
}

-- the input so far was joined
pub record JoinsSoFar (input : Drawn) (reader : Reader) (number : ℕ) (old new : State) : Type 0 where
  pub told : List Message
  pub come : HasCome input reader told
  pub numbered : reader.number ≡ number
  pub joins : new ≡ join_all old (batches_of told)

-- the messages of one more piece were joined
pub joins_more : (input later : Drawn) (before after : Reader) (number : ℕ) (old mid new : State) (more : List Message) → (j : JoinsSoFar input before number old mid) → HasCome later after (j.told ++ more) → after.number ≡ before.number → new ≡ join_all mid (batches_of more) → JoinsSoFar later after number old new
joins_more input later before after number old mid new more j come same joins = record {
  told = j.told ++ more;
  come = come;
  numbered = same ∙ j.numbered;
  joins = joins ∙ ap (λ r. join_all r (batches_of more)) j.joins ∙ sym (join_all-append old (batches_of j.told) (batches_of more)) ∙ ap (join_all old) (sym (batches_of-append j.told more));
}

-- no further piece came
pub joins_no_more : (input later : Drawn) (before after : Reader) (number : ℕ) (old new : State) (more : List Message) → (j : JoinsSoFar input before number old new) → HasCome later after (j.told ++ more) → after.number ≡ before.number → more ≡ [] → JoinsSoFar later after number old new
joins_no_more input later before after number old new more j come same none = joins_more input later before after number old new new more j come same (ap (λ ms. join_all new (batches_of ms)) (sym none))

-- the whole input is the one whose batches were joined
pub joins_end : (input : Drawn) (reader : Reader) (number : ℕ) (old new : State) (r : Result Unit ToolFault) → (j : JoinsSoFar input reader number old new) → MatchResult r (λ _. IsWhole input j.told) (IsInputFault reader.number input) → OnOk r (Joins input old new) × IfErr r (IsInputFault number input)
joins_end input reader number old new (Ok _) j whole = (record { told = j.told; whole = whole; joins = j.joins }, tt)
joins_end input reader number old new (Err fault) j why = (tt, subst (λ n. IsInputFault n input fault) j.numbered why)

-- a fault of the input has the input's number
pub numbered_fault : (input : Drawn) (own number : ℕ) (fault : ToolFault) → own ≡ number → IsInputFault own input fault → IsInputFault number input fault
numbered_fault input own number fault same why = subst (λ n. IsInputFault n input fault) same why

-- The uses of a value of the log are unique.
use Rattle.std.proofs.Common.{◌≡◌, ◌≢◌, ◌⊎◌, inl, inr, ℕ, ◌+◌, ◌<◌, ◌≤◌, List, [], ◌∷◌, ◌++◌, length, take, drop, get_or, refl, sym, ap, ◌∙◌, subst, arith, append-nil, append_assoc}
use Rattle.std.specs.Prelude.{Option, Some, None, slice_get, IfErr, IfOk, Result, Ok, Err}
use Rattle.std.proofs.lemmas.List.{take-append-drop, take_more}
use Rattle.std.proofs.lemmas.List.Concat.{flat_map-append}
use Rattle.std.proofs.lemmas.Option.{none-some, same_Some}
use Rattle.svid_replay.specs.declared.token_use.Use.{Use}
use Rattle.svid_replay.specs.Batches.{BatchData}
use Rattle.svid_replay.specs.Summary.{SummaryData}
use Rattle.svid_wire.specs.Feed.{IsHeld, IsPushFault, Pushed, end_of}
use Rattle.svid_wire.specs.Messages.{Appended, Splits, StopsAt, StopsIn, batches_of}
use Rattle.svid_wire.specs.WireFault.{IsFault, IsFieldRefusal, IsRefusal, in_magic, no_memory}
use Rattle.svid_wire.specs.declared.message.Message.{Message}
use Rattle.svid_wire.specs.declared.message.Message.TheVariants.{Batch, Summary}
use Rattle.svid_wire.specs.declared.reason.Reason.TheVariants.{Truncated}
use Rattle.svid_wire.specs.declared.wire_fault.WireFault.{WireFault}
use Rattle.svid_wire.proofs.FeedLemmas.{ended}
use Rattle.svid_wire.proofs.MessagesLemmas.{Appended-more, Appended-trans, batches_of-append, parse_ends, parses_one_way}
use Rattle.svid_wire.proofs.WireFaultLemmas.{IsFieldRefusal-append}
use Rattle.svid_log.specs.Values.{AreValues, HasUses, IsNoValue, IsValue, ValuesAreRead, ValuesHaveOneReading, uses_in}

one_reading : (bytes : List ℕ) (uses others : List Use) → IsValue bytes uses → IsValue bytes others → uses ≡ others
one_reading bytes uses others a b =
    let same = parses_one_way bytes a.messages b.messages [] [] (parse_ends bytes a.messages [] a.whole (inl refl)) (parse_ends bytes b.messages [] b.whole (inl refl)) in
    a.told ∙ ap (λ ms. uses_in (batches_of ms)) same.0 ∙ sym b.told

some_is_none : {A : Type 0} (xs : List A) → 0 < length xs → [] ≡ xs → ⊥
some_is_none [] some none = absurd (below_none some)
  where
    below_none : 0 < 0 → ⊥
    below_none lt = omega arith
some_is_none (x ∷ xs) some none = absurd (cc)

-- a value has no fault other than out of memory
no_fault : (bytes : List ℕ) (uses : List Use) (fault : WireFault) → IsValue bytes uses → IsNoValue bytes fault → fault ≡ no_memory
no_fault bytes uses fault a (inr e) = e
no_fault bytes uses fault a (inl (messages, stops)) = by_why stops.why
  where
    by_why : IsFault stops.rest fault ⊎ (fault ≡ no_memory) → fault ≡ no_memory
    by_why (inr e) = e
    by_why (inl faulty) =
        absurd (some_is_none stops.rest stops.some (parses_one_way bytes a.messages stops.read.came [] stops.rest (parse_ends bytes a.messages [] a.whole (inl refl)) (parse_ends bytes stops.read.came stops.rest stops.read.splits (inr (fault, faulty)))).1)

pub values_have_one_reading : ValuesHaveOneReading
values_have_one_reading bytes uses others None None a b = one_reading bytes uses others a b
values_have_one_reading bytes uses others None (Some f) a b = absurd (b.1 (no_fault bytes uses f a b.2))
values_have_one_reading bytes uses others (Some f) None a b = absurd (a.1 (no_fault bytes others f b a.2))
values_have_one_reading bytes uses others (Some f) (Some g) a b = a.0 ∙ sym b.0

pub values_are_read : ValuesAreRead
values_are_read texts values i bytes uses fault are at has =
    let there = are i bytes at in
    there.2 ∙ ap (λ us. Some us) (values_have_one_reading bytes there.0 uses there.1 fault there.3 has)

uses_push : (ms : List Message) (m : Message) → uses_in (batches_of (ms ++ m ∷ [])) ≡ uses_in (batches_of ms) ++ uses_in (batches_of (m ∷ []))
uses_push ms m = ap uses_in (batches_of-append ms (m ∷ [])) ∙ flat_map-append (λ (b : BatchData). b.uses) (batches_of ms) (batches_of (m ∷ []))

uses_join : (ms ns : List Message) → uses_in (batches_of (ms ++ ns)) ≡ uses_in (batches_of ms) ++ uses_in (batches_of ns)
uses_join ms ns = ap uses_in (batches_of-append ms ns) ∙ flat_map-append (λ (b : BatchData). b.uses) (batches_of ms) (batches_of ns)

-- one message more
more_uses : (ms : List Message) (i : ℕ) (m : Message) → i < length ms → m ≡ get_or ms i m → uses_in (batches_of (take (i + 1) ms)) ≡ uses_in (batches_of (take i ms)) ++ uses_in (batches_of (m ∷ []))
more_uses ms i m lt item =
    ap (λ xs. uses_in (batches_of xs)) (take_more ms i m lt ∙ ap (λ x. take i ms ++ x ∷ []) (sym item)) ∙ uses_push (take i ms) m

pub push_batch : (first : List Use) (ms : List Message) (i : ℕ) (m : Message) (b : BatchData) (us new : List Use) → i < length ms → m ≡ get_or ms i m → m ≡ Batch b
    → us ≡ first ++ uses_in (batches_of (take i ms)) → new ≡ us ++ b.uses → new ≡ first ++ uses_in (batches_of (take (i + 1) ms))
push_batch first ms i m b us new lt item is so_far is_new =
    is_new ∙ (ap (λ u. u ++ b.uses) so_far ∙ (append_assoc first (uses_in (batches_of (take i ms))) b.uses
    ∙ ap (λ u. first ++ u) (sym (more_uses ms i m lt item ∙ ap (λ x. uses_in (batches_of (take i ms)) ++ uses_in (batches_of (x ∷ []))) is ∙ ap (λ u. uses_in (batches_of (take i ms)) ++ u) (append-nil b.uses)))))

pub pass_summary : (first : List Use) (ms : List Message) (i : ℕ) (m : Message) (us : List Use) → i < length ms → m ≡ get_or ms i m → ((b : BatchData) → m ≡ Batch b → ⊥)
    → us ≡ first ++ uses_in (batches_of (take i ms)) → us ≡ first ++ uses_in (batches_of (take (i + 1) ms))
pass_summary first ms i m us lt item no_batch so_far =
    so_far ∙ ap (λ u. first ++ u) (sym (more_uses ms i m lt item ∙ ap (λ u. uses_in (batches_of (take i ms)) ++ u) (none m no_batch) ∙ append-nil (uses_in (batches_of (take i ms)))))
  where
    none : (x : Message) → ((b : BatchData) → x ≡ Batch b → ⊥) → uses_in (batches_of (x ∷ [])) ≡ []
    none (Batch b) is_none = absurd (is_none b refl)
    none (Summary s) is_none = refl

pub no_batch_is : (m : Message) (s : SummaryData) (b : BatchData) → m ≡ Summary s → m ≡ Batch b → ⊥
no_batch_is m s b is e = clash (sym is ∙ e)
  where
    clash : Summary s ≡ Batch b → ⊥
    clash h = absurd (cc)

-- a value was read up to a rest, and these are the uses of the messages that came
pub record IsReadTo (value rest : List ℕ) (feed : Option (List ℕ)) (uses : List Use) : Type 0 where
  pub front : List ℕ
  pub messages : List Message
  pub held : List ℕ
  pub parts : value ≡ front ++ rest
  pub feeds : feed ≡ Some held
  pub unfinished : IsHeld held
  pub came : Appended front [] messages held
  pub told : uses ≡ uses_in (batches_of messages)

pub read_none : (value : List ℕ) (feed : Option (List ℕ)) (uses : List Use) → feed ≡ Some [] → uses ≡ [] → IsReadTo value value feed uses
read_none value feed uses is none = record {
  front = [];
  messages = [];
  held = [];
  parts = refl;
  feeds = is;
  unfinished = record { unfinished = in_magic (omega arith); few = omega arith };
  came = record { came = []; grown = refl; splits = record { written = []; good = tt; told = refl; parts = refl } };
  told = none;
}

behind : (front piece held after : List ℕ) (ms out : List Message) → Appended front [] ms held → Appended (held ++ piece) [] out after → Appended (front ++ piece) [] (ms ++ out) after
behind front piece held after ms out p q =
    Appended-trans (front ++ piece) (held ++ piece) after [] ms (ms ++ out) (Appended-more front piece held [] ms p) (record { came = out; grown = refl; splits = subst (λ xs. Splits (held ++ piece) xs after) (sym q.grown) q.splits })

pub read_more : (value rest piece after : List ℕ) (feed next : Option (List ℕ)) (uses more : List Use) (out : List Message) → IsReadTo value rest feed uses → rest ≡ piece ++ after → Pushed feed next [] out piece → more ≡ uses ++ uses_in (batches_of out) → IsReadTo value after next more
read_more value rest piece after feed next uses more out r cut pushed grown = by_next next (subst (λ f. Pushed f next [] out piece) r.feeds pushed)
  where
    by_next : (f : Option (List ℕ)) → Pushed (Some r.held) f [] out piece → IsReadTo value after f more
    by_next None p = absurd p
    by_next (Some new) p = record {
      front = r.front ++ piece;
      messages = r.messages ++ out;
      held = new;
      parts = r.parts ∙ (ap (λ x. r.front ++ x) cut ∙ sym (append_assoc r.front piece after));
      feeds = refl;
      unfinished = p.1;
      came = behind r.front piece r.held new r.messages out r.came p.0;
      told = grown ∙ (ap (λ u. u ++ uses_in (batches_of out)) r.told ∙ sym (uses_join r.messages out));
    }

-- the reason that a push was refused is the reason that the value has no uses
pub stops_behind : (value rest piece after : List ℕ) (feed : Option (List ℕ)) (uses : List Use) (out : List Message) (fault : WireFault) → IsReadTo value rest feed uses → rest ≡ piece ++ after → IsPushFault feed [] out piece fault → IsNoValue value fault
stops_behind value rest piece after feed uses out fault r cut refused = by_stop (subst (λ f. IsPushFault f [] out piece fault) r.feeds refused)
  where
    refusal : (bytes : List ℕ) → IsFieldRefusal bytes fault → IsRefusal bytes fault
    refusal bytes (inl field) = inl field.0
    refusal bytes (inr want) = inr want

    some_more : (xs ys : List ℕ) → 0 < length xs → 0 < length (xs ++ ys)
    some_more [] ys lt = absurd (omega arith)
    some_more (x ∷ xs) ys lt = omega arith

    by_stop : StopsIn (r.held ++ piece) [] out fault → IsNoValue value fault
    by_stop s =
        let whole = Appended-more (r.front ++ piece) after s.rest [] (r.messages ++ out) (behind r.front piece r.held s.rest r.messages out r.came s.read) in
        inl (
          r.messages ++ out,
          record {
            rest = s.rest ++ after;
            some = some_more s.rest after s.some;
            read = subst (λ bytes. Appended bytes [] (r.messages ++ out) (s.rest ++ after)) (append_assoc r.front piece after ∙ (ap (λ x. r.front ++ x) (sym cut) ∙ sym r.parts)) whole;
            why = refusal (s.rest ++ after) (IsFieldRefusal-append (s.rest ++ after) s.rest after fault refl s.why);
          },
        )

-- the end of a value
pub read_end : (value rest : List ℕ) (feed : Option (List ℕ)) (uses : List Use) (r : Result Unit WireFault) → IsReadTo value rest feed uses → rest ≡ [] → r ≡ end_of feed
    → IfOk r (λ _. IsValue value uses) × IfErr r (IsNoValue value)
read_end value rest feed uses result r none is =
    rw (is ∙ ap end_of r.feeds) (by_end r.held refl)
  where
    whole : value ≡ r.front
    whole = r.parts ∙ (ap (λ x. r.front ++ x) none ∙ append-nil r.front)

    by_end : (held : List ℕ) → r.held ≡ held → IfOk (end_of (Some held)) (λ _. IsValue value uses) × IfErr (end_of (Some held)) (IsNoValue value)
    by_end [] e = (record { messages = r.messages; whole = subst (λ x. Splits x r.messages []) (sym whole) (subst (λ h. Splits r.front r.messages h) e (subst (λ ms. Splits r.front ms r.held) (sym r.came.grown) r.came.splits)); told = r.told }, tt)
    by_end (b ∷ x) e = (
      tt,
      inl (
        r.messages,
        subst (λ bytes. StopsAt bytes [] r.messages (record { offset = length (b ∷ x); reason = Truncated })) (sym whole)
            (ended (Some (b ∷ x)) [] r.messages r.front (subst (λ h. Appended r.front [] r.messages h) e r.came, subst IsHeld e r.unfinished)),
      ),
    )

pub halves : (xs front back : List ℕ) (n : ℕ) → front ≡ take n xs → back ≡ drop n xs → xs ≡ front ++ back
halves xs front back n one other = sym (take-append-drop n xs) ∙ (ap (λ ys. ys ++ drop n xs) (sym one) ∙ ap (λ ys. front ++ ys) (sym other))

pub no_bytes : (xs : List ℕ) → length xs ≡ 0 → xs ≡ []
no_bytes [] e = refl
no_bytes (x ∷ xs) e = absurd (omega arith)

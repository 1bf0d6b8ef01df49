use Rattle.std.proofs.Common.{◌≡◌, ℕ, zero, suc, ◌<◌, ◌≤◌, inl, inr, List, [], ◌∷◌, ◌++◌, length, map, drop, All, refl, sym, ap, ◌∙◌, subst, arith, append_assoc, append-nil, length-append}
use Rattle.std.specs.List.{AllByRecursion, flat_map}
use Rattle.std.proofs.lemmas.Grind.{flat_map-append}
use Rattle.std.proofs.lemmas.List.{drop_at, map-append}
use Rattle.std.proofs.lemmas.List.Elements.{All-drop, All-same}
use Rattle.svid_replay.specs.declared.token_use.Use.{Use}
use Rattle.svid_replay.specs.Batches.{BatchData, IsBatch}
use Rattle.svid_replay.proofs.ListLemmas.{each_append}
use Rattle.svid_wire.specs.WireFault.{IsFault}
use Rattle.svid_wire.specs.BatchText.{IsBatchIn}
use Rattle.svid_wire.specs.Messages.{Written, batch_in, summary, written_text, read_as, IsWritten, IsMessage, batches_of, BeginsMessage, Splits, Appended, Parses, HasFault, NoTextIsLonger, OldBatchIsRead, ParsesOneWay, EachParses, ParseEnds, CutAnywhere, WrittenIsRead}
use Rattle.svid_wire.specs.Versions.{CanTell}
use Rattle.svid_wire.specs.declared.version.Version.TheVariants.{One, Two}
use Rattle.svid_wire.specs.declared.message.Message.{Message}
use Rattle.svid_wire.specs.declared.message.Message.TheVariants.{Batch, Summary}
use Rattle.svid_wire.proofs.FirstMessage.{begins_one_message, text_has_no_fault}
use Rattle.svid_wire.proofs.FirstMessageTells.{begins_or_faults}

pub batches_of-append : (ms ns : List Message) → batches_of (ms ++ ns) ≡ batches_of ms ++ batches_of ns
batches_of-append [] ns = refl
batches_of-append (Batch b ∷ ms) ns = ap (λ x. b ∷ x) (batches_of-append ms ns)
batches_of-append (Summary s ∷ ms) ns = batches_of-append ms ns

-- messages after messages
Splits-append : (bytes : List ℕ) (ms ns : List Message) (mid rest : List ℕ) → Splits bytes ms mid → Splits mid ns rest → Splits bytes (ms ++ ns) rest
Splits-append bytes ms ns mid rest p q = record {
  written = p.written ++ q.written;
  good = each_append IsWritten p.written q.written p.good q.good;
  told = ap (λ x. x ++ ns) p.told ∙ ap (λ x. map read_as p.written ++ x) q.told ∙ sym (map-append read_as p.written q.written);
  parts = p.parts ∙ ap (λ x. flat_map written_text p.written ++ x) q.parts ∙ sym (append_assoc (flat_map written_text p.written) (flat_map written_text q.written) rest) ∙ ap (λ x. x ++ rest) (sym (flat_map-append written_text p.written q.written));
}

-- more bytes after the rest
Splits-more : (bytes more : List ℕ) (ms : List Message) (rest : List ℕ) → Splits bytes ms rest → Splits (bytes ++ more) ms (rest ++ more)
Splits-more bytes more ms rest p = record { written = p.written; good = p.good; told = p.told; parts = ap (λ x. x ++ more) p.parts ∙ append_assoc (flat_map written_text p.written) rest more }

pub cut_anywhere : CutAnywhere
cut_anywhere first others ms ns rest last p q = record { splits = Splits-append (first ++ others) ms ns (rest ++ others) last (Splits-more first others ms rest p.splits) q.splits; ends = q.ends }

-- messages from some bytes, and others from their rest
pub Appended-trans : (bytes mid rest : List ℕ) (a b c : List Message) → Appended bytes a b mid → Appended mid b c rest → Appended bytes a c rest
Appended-trans bytes mid rest a b c p q = record {
  came = p.came ++ q.came;
  grown = q.grown ∙ ap (λ x. x ++ q.came) p.grown ∙ append_assoc a p.came q.came;
  splits = Splits-append bytes p.came q.came mid rest p.splits q.splits;
}

pub Appended-more : (bytes more rest : List ℕ) (a b : List Message) → Appended bytes a b rest → Appended (bytes ++ more) a b (rest ++ more)
Appended-more bytes more rest a b p = record { came = p.came; grown = p.grown; splits = Splits-more bytes more p.came rest p.splits }

pub no_text_is_longer : NoTextIsLonger
no_text_is_longer a b more good_a good_b same =
    (begins_one_message a b more [] good_a good_b (same ∙ sym (append-nil (written_text b)))).1

no_bytes_begin : ¬ BeginsMessage []
no_bytes_begin h = none h.message h.rest h.parts where
  none : (m : Written) (rest : List ℕ) → [] ≡ written_text m ++ rest → ⊥
  none (batch_in One b) rest e = cc
  none (batch_in Two b) rest e = cc
  none (summary s) rest e = cc

-- bytes with a fault do not begin with a message
fault_begins_none : (bytes : List ℕ) → HasFault bytes → ¬ BeginsMessage bytes
fault_begins_none bytes (fault, bad) h =
    text_has_no_fault h.message h.rest fault h.good (subst (λ (x : List ℕ). IsFault x fault) h.parts bad)

pub parse_ends : ParseEnds
parse_ends bytes ms rest splits (inl none) = record { splits = splits; ends = subst (λ (x : List ℕ). ¬ BeginsMessage x) (sym none) no_bytes_begin }
parse_ends bytes ms rest splits (inr faulty) = record { splits = splits; ends = fault_begins_none rest faulty }

-- bytes split into messages and a rest in one way
one_way : (ms ns : List Written) (x y : List ℕ) → AllByRecursion IsWritten ms → AllByRecursion IsWritten ns → ¬ BeginsMessage x → ¬ BeginsMessage y → flat_map written_text ms ++ x ≡ flat_map written_text ns ++ y → (ms ≡ ns) × (x ≡ y)
one_way [] [] x y good_m good_n end_x end_y same = (refl, same)
one_way [] (n ∷ ns) x y good_m good_n end_x end_y same =
    absurd (end_x (record { message = n; rest = flat_map written_text ns ++ y; good = good_n.0; parts = same ∙ append_assoc (written_text n) (flat_map written_text ns) y }))
one_way (m ∷ ms) [] x y good_m good_n end_x end_y same =
    absurd (end_y (record { message = m; rest = flat_map written_text ms ++ x; good = good_m.0; parts = sym same ∙ append_assoc (written_text m) (flat_map written_text ms) x }))
one_way (m ∷ ms) (n ∷ ns) x y good_m good_n end_x end_y same =
    let (first, behind) = begins_one_message m n (flat_map written_text ms ++ x) (flat_map written_text ns ++ y) good_m.0 good_n.0 (sym (append_assoc (written_text m) (flat_map written_text ms) x) ∙ same ∙ append_assoc (written_text n) (flat_map written_text ns) y) in
    let (others, rest) = one_way ms ns x y good_m.1 good_n.1 end_x end_y behind in
    (ap (λ k. k ∷ ms) first ∙ ap (λ ks. n ∷ ks) others, rest)

pub parses_one_way : ParsesOneWay
parses_one_way bytes ms ns x y p q =
    let (written, rest) = one_way p.splits.written q.splits.written x y p.splits.good q.splits.good p.ends q.ends (sym p.splits.parts ∙ q.splits.parts) in
    (p.splits.told ∙ ap (map read_as) written ∙ sym q.splits.told, rest)

-- What is written is read.

-- version 2 has a text for each use
two_tells : (us : List Use) → AllByRecursion (CanTell Two) us
two_tells [] = tt
two_tells (u ∷ us) = (tt, two_tells us)

in_two : (b : BatchData) → IsBatch b → IsBatchIn Two b
in_two b good = record { batch = good; few = good.few; tells = two_tells b.uses }

-- one message is read from its text
pub one_is_read : (w : Written) → IsWritten w → Splits (written_text w) (read_as w ∷ []) []
one_is_read w good = record {
  written = w ∷ [];
  good = (good, tt);
  told = refl;
  parts = sym (append-nil (written_text w)) ∙ sym (append-nil (written_text w ++ []));
}

-- the text of a message, as it is written
abbrev pub as_written : Message → Written
as_written (Batch b) = batch_in Two b
as_written (Summary s) = summary s

pub written_is : (m : Message) → IsMessage m → IsWritten (as_written m)
written_is (Batch b) good = in_two b good
written_is (Summary s) good = good

-- a message was appended whose text is the bytes
pub came_whole : (bytes text held : List ℕ) (w : Written) (a b : List Message) → IsWritten w → written_text w ≡ text → text ≡ bytes → b ≡ a ++ read_as w ∷ [] → held ≡ [] → Appended bytes a b held
came_whole bytes text held w a b good is whole grown none = record {
  came = read_as w ∷ [];
  grown = grown;
  splits = subst (λ (x : List ℕ). Splits bytes (read_as w ∷ []) x) (sym none) (subst (λ (x : List ℕ). Splits x (read_as w ∷ []) []) (is ∙ whole) (one_is_read w good));
}

pub written_is_read : WrittenIsRead
written_is_read (Batch b) good = one_is_read (batch_in Two b) (in_two b good)
written_is_read (Summary s) good = one_is_read (summary s) good

pub old_batches_are_read : OldBatchIsRead
old_batches_are_read b good = (one_is_read (batch_in One b) good, one_is_read (batch_in Two b) (in_two b good.batch))

-- bytes that do parse
IsParsed : List ℕ → Type 0
IsParsed bytes = (messages : List Message) × (rest : List ℕ) × Parses bytes messages rest

-- one message before bytes that parse
parse_more : (bytes : List ℕ) (h : BeginsMessage bytes) → IsParsed h.rest → IsParsed bytes
unfolding IsParsed
parse_more bytes h (ms, rest, p) = (
  read_as h.message ∷ ms,
  rest,
  record {
    splits = record {
      written = h.message ∷ p.splits.written;
      good = (h.good, p.splits.good);
      told = ap (λ x. read_as h.message ∷ x) p.splits.told;
      parts = h.parts ∙ ap (λ x. written_text h.message ++ x) p.splits.parts ∙ sym (append_assoc (written_text h.message) (flat_map written_text p.splits.written) rest);
    };
    ends = p.ends;
  },
)

-- bytes after others
All-behind : (P : ℕ → Type 0) (bytes front rest : List ℕ) → bytes ≡ front ++ rest → All P bytes → All P rest
All-behind P bytes front rest parts h =
    All-same P rest (drop (length front) bytes) (sym (ap (drop (length front)) parts ∙ drop_at front rest (length front) refl)) (All-drop P (length front) bytes h)

-- a message has bytes
pub some_bytes : (m : Written) → 0 < length (written_text m)
some_bytes (batch_in One b) = omega arith
some_bytes (batch_in Two b) = omega arith
some_bytes (summary s) = omega arith

-- at most so many bytes are parsed
parses_within : (n : ℕ) (bytes : List ℕ) → length bytes ≤ n → All (λ b. b < 256) bytes → IsParsed bytes
unfolding IsParsed
parses_within n [] few h = ([], [], record { splits = record { written = []; good = tt; told = refl; parts = refl }; ends = no_bytes_begin })
parses_within zero (b ∷ x) few h = absurd (omega arith)
parses_within (suc n) (b ∷ x) few h = elim (begins_or_faults (b ∷ x) h (omega arith)) [
  | inl begins ↦ parse_more (b ∷ x) begins (parses_within n begins.rest (omega (arith, ap length begins.parts, length-append (written_text begins.message) begins.rest, some_bytes begins.message)) (All-behind (λ k. k < 256) (b ∷ x) (written_text begins.message) begins.rest begins.parts h))
  | inr faulty ↦ ([], b ∷ x, record { splits = record { written = []; good = tt; told = refl; parts = refl }; ends = fault_begins_none (b ∷ x) faulty })
]

pub each_parses : EachParses
unfolding IsParsed
each_parses bytes h = parses_within (length bytes) bytes (omega arith) h

-- What `first_message` finds is true of the bytes, so that all bytes begin with a message or have a fault.
use Rattle.std.proofs.Common.{◌≡◌, ◌≢◌, ℕ, zero, suc, ◌+◌, ◌*◌, ◌^◌, ◌<◌, ◌≤◌, ◌⊎◌, inl, inr, Bool, true, false, nat_lt, if◌then◌else◌, List, [], ◌∷◌, ◌++◌, length, take, drop, get_or, refl, sym, ap, ◌∙◌, subst, arith, append_assoc, append-nil, length-append, length-drop, Option, None, Some, All}
use Rattle.std.specs.Int.{from_be_bytes, from_bool, to_be_bytes, w32, w64}
use Rattle.std.specs.List.{flat_map, AllByRecursion}
use Rattle.std.specs.Str.{bytes_eq}
use Rattle.std.proofs.lemmas.Slice.Eq.{bytes_eq-Decides}
use Rattle.std.proofs.lemmas.Bool.{false≢true}
use Rattle.std.proofs.lemmas.Nat.{be_bytes_4, be_bytes_8}
use Rattle.std.proofs.lemmas.List.{take-append-drop, take_at, nil_from_length, length-take-le, flat_map_more, length_push, get_or_append_left, get_or-append-add}
use Rattle.std.proofs.lemmas.List.Elements.{All-take, All-drop, All-same}
use Rattle.std.proofs.lemmas.Bool.Decides.{nat_tests}
use Rattle.std.proofs.Math.Seq.{take-add}
use Rattle.svid_replay.specs.declared.token_use.Use.{Use}
use Rattle.svid_replay.specs.declared.flaw.Flaw.{Flaw}
use Rattle.svid_replay.specs.Use.{IsUse, IsBytes, front_text}
use Rattle.svid_replay.specs.Batches.{AllGood, flaw, last_of}
use Rattle.svid_replay.proofs.BatchesLemmas.{AllGood-push, AllByRecursion-push}
use Rattle.svid_wire.specs.BatchText.{batch_kind, moment_and_count_text, head_text}
use Rattle.svid_wire.specs.Versions.{CanTell, magic_of, most_of, use_len_of, use_text}
use Rattle.svid_wire.specs.declared.version.Version.{Version}
use Rattle.svid_wire.specs.declared.version.Version.TheVariants.{One, Two}
use Rattle.svid_wire.specs.WireFault.{IsUnfinished, in_magic, in_kind, in_moment_and_count, in_uses, in_moment, in_digests, AreBegun, IsBegun, IsFault, IsUseFault}
use Rattle.svid_wire.specs.Messages.{written_text, IsWritten, BeginsMessage, HasFault, BeginsOrFaults}
use Rattle.svid_wire.specs.SummaryText.{summary_kind, moment_text, summary_head, digest_text}
use Rattle.svid_wire.specs.declared.reason.Reason.TheVariants as reason
use Rattle.svid_wire.proofs.StageLemmas.{IsFieldFault-use}
use Rattle.svid_wire.proofs.FirstMessage.{Found, message, fault, cut, fault_at, at_field, front_of, use_of_pieces, kind_of, use_with, use_in, text_of-front, judged, with_use, find_uses, found_uses, find_moment_and_count, find_digests, find_moment, find_summary_kind, find_kind, find_magic}

-- bytes as a slice knows them
AreBytes : List ℕ → Type 0
AreBytes = All (λ b. b < 256)

AreBytes-at : (bytes : List ℕ) → AreBytes bytes → (i : ℕ) → get_or bytes i 0 < 256
unfolding AreBytes
AreBytes-at [] h i = omega arith
AreBytes-at (b ∷ x) h zero = h 0 0 (omega arith)
AreBytes-at (b ∷ x) h (suc i) = AreBytes-at x (λ k d within. h (suc k) d (omega arith)) i

-- what it means that such a thing was found
Tells : List ℕ → Found → Type 0
Tells bytes (message m rest) = IsWritten m × (bytes ≡ written_text m ++ rest)
Tells bytes (fault found) = IsFault bytes found
Tells bytes cut = IsUnfinished bytes

-- the next field, by whether it is whole
Tells-test : (bytes : List ℕ) (n : ℕ) (x : List ℕ) (next : List ℕ → List ℕ → Found) (b : Bool) → nat_lt (length x) n ≡ b → (length x < n → IsUnfinished bytes) → ((f rest : List ℕ) → x ≡ f ++ rest → length f ≡ n → Tells bytes (next f rest)) → Tells bytes (if b then cut else next (take n x) (drop n x))
unfolding Tells
Tells-test bytes n x next true test ends goes = ends (grind (arith, nat_tests))
Tells-test bytes n x next false test ends goes =
    let long : n ≤ length x = grind (arith, nat_tests) in
    goes (take n x) (drop n x) (sym (take-append-drop n x)) (length-take-le n x long)

Tells-field : (bytes : List ℕ) (n : ℕ) (x : List ℕ) (next : List ℕ → List ℕ → Found) → (length x < n → IsUnfinished bytes) → ((f rest : List ℕ) → x ≡ f ++ rest → length f ≡ n → Tells bytes (next f rest)) → Tells bytes (at_field n x next)
unfolding at_field
Tells-field bytes n x next = Tells-test bytes n x next (nat_lt (length x) n) refl

-- the bytes of a whole field
field_bytes : (x f rest : List ℕ) → x ≡ f ++ rest → AreBytes x → AreBytes f × AreBytes rest
unfolding AreBytes
field_bytes x f rest parts h =
    let whole : All (λ b. b < 256) (f ++ rest) = All-same (λ b. b < 256) (f ++ rest) x (sym parts) h in (
      λ k d within. subst (λ n. n < 256) (get_or_append_left f rest d k within) (whole k d (omega (arith, length-append f rest))),
      λ k d within. subst (λ n. n < 256) (get_or-append-add f rest k d) (whole (length f + k) d (omega (arith, length-append f rest))),
    )

AreBytes-take : (n : ℕ) (f : List ℕ) → AreBytes f → AreBytes (take n f)
unfolding AreBytes
AreBytes-take n f h = All-take (λ b. b < 256) n f h

AreBytes-drop : (n : ℕ) (f : List ℕ) → AreBytes f → AreBytes (drop n f)
unfolding AreBytes
AreBytes-drop n f h = All-drop (λ b. b < 256) n f h

from_be_bytes-lt : (bytes : List ℕ) → AreBytes bytes → from_be_bytes w64 bytes < 2 ^ 64
from_be_bytes-lt bytes h =
    let at = AreBytes-at bytes h in
    omega (arith, at 0, at 1, at 2, at 3, at 4, at 5, at 6, at 7)

-- the moment and the number of uses in a field
moment_and_count_text-of : (f : List ℕ) → length f ≡ 12 → AreBytes f → moment_and_count_text (from_be_bytes w64 (take 8 f)) (from_be_bytes w32 (drop 8 f)) ≡ f
unfolding moment_and_count_text
moment_and_count_text-of f size h =
    ap (λ x. x ++ to_be_bytes w32 (from_be_bytes w32 (drop 8 f))) (be_bytes_8 (take 8 f) _ (length-take-le 8 f (omega arith)) (AreBytes-at _ (AreBytes-take 8 f h)) refl)
    ∙ ap (λ x. take 8 f ++ x) (be_bytes_4 (drop 8 f) _ (omega (arith, length-drop 8 f)) (AreBytes-at _ (AreBytes-drop 8 f h)) refl)
    ∙ take-append-drop 8 f

-- the first 64 bytes of a use
front_text-of : (f : List ℕ) (w : Bool) → length f ≡ 64 → AreBytes f → front_text (front_of f w) ≡ f
unfolding front_text front_of use_of_pieces
front_text-of f w size h =
    ap (λ x. x ++ take 32 (drop 8 f) ++ take 16 (drop 40 f) ++ to_be_bytes w64 (from_be_bytes w64 (drop 56 f))) (be_bytes_8 (take 8 f) _ (length-take-le 8 f (omega arith)) (AreBytes-at _ (AreBytes-take 8 f h)) refl)
    ∙ ap (λ x. take 8 f ++ take 32 (drop 8 f) ++ take 16 (drop 40 f) ++ x) (be_bytes_8 (drop 56 f) _ (omega (arith, length-drop 56 f)) (AreBytes-at _ (AreBytes-drop 56 f h)) refl)
    ∙ ap (λ x. x ++ take 16 (drop 40 f) ++ drop 56 f) (sym (take-add 8 32 f))
    ∙ ap (λ x. x ++ drop 56 f) (sym (take-add 40 16 f))
    ∙ take-append-drop 56 f

IsBytes-part : (f : List ℕ) (at n : ℕ) → at + n ≤ length f → AreBytes f → IsBytes n (take n (drop at f))
unfolding AreBytes
IsBytes-part f at n within h = record {
  size = length-take-le n (drop at f) (omega (arith, length-drop at f));
  each = AreBytes-take n (drop at f) (AreBytes-drop at f h);
}

IsUse-front_of : (f : List ℕ) (w : Bool) → length f ≡ 64 → AreBytes f → IsUse (front_of f w)
unfolding front_of use_of_pieces
IsUse-front_of f w size h = record {
  exp = from_be_bytes-lt (take 8 f) (AreBytes-take 8 f h);
  key = IsBytes-part f 8 32 (omega arith) h;
  validator_id = IsBytes-part f 40 16 (omega arith) h;
  at = from_be_bytes-lt (drop 56 f) (AreBytes-drop 56 f h);
}

-- a field that is the use that was read from it
record IsReadAs (v : Version) (f : List ℕ) (u : Use) : Type 0 where
  text : use_text v u ≡ f
  fields : IsUse u
  tells : CanTell v u

-- a field of version 2 whose last byte is no kind
record HasNoKind (v : Version) (f : List ℕ) : Type 0 where
  two : v ≡ Two
  front : List ℕ
  kind : ℕ
  parts : f ≡ front ++ kind ∷ []
  size : length front ≡ 64
  no_use : kind ≢ 0
  no_withdrawal : kind ≢ 1

-- what it means that this use was read from a field, or none
IsReading : Version → List ℕ → Option Use → Type 0
IsReading v f None = HasNoKind v f
IsReading v f (Some u) = IsReadAs v f u

-- a byte that gives the kind of a use
IsKind : ℕ → Option Bool → Type 0
IsKind k None = (k ≢ 0) × (k ≢ 1)
IsKind k (Some w) = from_bool w ≡ k

same_byte : (k n : ℕ) → k ∷ [] ≡ n ∷ [] → k ≡ n
same_byte k n e = cc

kind_by : (k : ℕ) (a b : Bool) → bytes_eq (k ∷ []) (0 ∷ []) ≡ a → bytes_eq (k ∷ []) (1 ∷ []) ≡ b → IsKind k (if a then Some false else (if b then Some true else None))
unfolding IsKind
kind_by k true b no_use no_withdrawal = sym (same_byte k 0 ((bytes_eq-Decides (k ∷ []) (0 ∷ [])).0 no_use))
kind_by k false true no_use no_withdrawal = sym (same_byte k 1 ((bytes_eq-Decides (k ∷ []) (1 ∷ [])).0 no_withdrawal))
kind_by k false false no_use no_withdrawal = (
  λ e. false≢true (sym no_use ∙ (bytes_eq-Decides (k ∷ []) (0 ∷ [])).1 (ap (λ n. n ∷ []) e)),
  λ e. false≢true (sym no_withdrawal ∙ (bytes_eq-Decides (k ∷ []) (1 ∷ [])).1 (ap (λ n. n ∷ []) e)),
)

kind_is : (k : ℕ) → IsKind k (kind_of (k ∷ []))
kind_is k = kind_by k _ _ refl refl

front_kind : (f : List ℕ) (w : Bool) → (front_of f w).withdrawn ≡ w
unfolding front_of use_of_pieces
front_kind f w = refl

read_with : (f front : List ℕ) (k : ℕ) (o : Option Bool) → f ≡ front ++ k ∷ [] → length front ≡ 64 → AreBytes front → IsKind k o → IsReading Two f (use_with front o)
unfolding IsReading IsKind
read_with f front k None parts size are is = record { two = refl; front = front; kind = k; parts = parts; size = size; no_use = is.0; no_withdrawal = is.1 }
read_with f front k (Some w) parts size are is = record {
  text = text_of-front (front_of front w) ∙ ap (λ b. front_text (front_of front w) ++ from_bool b ∷ []) (front_kind front w) ∙ ap (λ x. x ++ from_bool w ∷ []) (front_text-of front w size are) ∙ ap (λ n. front ++ n ∷ []) is ∙ sym parts;
  fields = IsUse-front_of front w size are;
  tells = tt;
}

one_byte : (f : List ℕ) → length f ≡ 1 → (k : ℕ) × (f ≡ k ∷ [])
one_byte [] size = absurd (omega arith)
one_byte (k ∷ []) size = (k, refl)
one_byte (k ∷ b ∷ f) size = absurd (omega arith)

reading_is : (v : Version) (f : List ℕ) → length f ≡ use_len_of v → AreBytes f → IsReading v f (use_in v f)
unfolding IsReading use_in
reading_is One f size are = record { text = front_text-of f false size are; fields = IsUse-front_of f false size are; tells = front_kind f false }
reading_is Two f size are =
    let front = take 64 f in
    let (k, last) = one_byte (drop 64 f) (omega (arith, length-drop 64 f)) in
    subst (λ (x : List ℕ). IsReading Two f (use_with front (kind_of x))) (sym last) (read_with f front k (kind_of (k ∷ [])) (sym (take-append-drop 64 f) ∙ ap (λ x. front ++ x) last) (length-take-le 64 f (omega arith)) (AreBytes-take 64 f are) (kind_is k))

Tells-judged : (bytes : List ℕ) (v : Version) (us : List Use) (o : Option Flaw) (next : Found) → (o ≡ None → Tells bytes next) → ((f : Flaw) → o ≡ Some f → IsUseFault bytes (17 + use_len_of v * length us) f) → Tells bytes (judged v o us next)
unfolding Tells
Tells-judged bytes v us None next good bad = good refl
Tells-judged bytes v us (Some f) next good bad = (IsFieldFault-use bytes _ f (bad f refl)).0

-- a use that was read after the good ones, or not
Tells-use : (bytes : List ℕ) (v : Version) (f rest : List ℕ) (m c : ℕ) (us : List Use) (o : Option Use) (next : Use → Found) → IsReading v f o → IsBegun v m c us → bytes ≡ head_text v m c ++ (flat_map (use_text v) us ++ (f ++ rest)) → ((u : Use) → IsReadAs v f u → flaw m (last_of None us) u ≡ None → Tells bytes (next u)) → Tells bytes (with_use v o m us next)
unfolding Tells IsReading
Tells-use bytes One f rest m c us None next is begun parts good = absurd (no_two is.two)
  where
    no_two : ◌≡◌ {A = Version} One Two → ⊥
    no_two e = cc
Tells-use bytes Two f rest m c us None next is begun parts good = record {
  moment = m;
  count = c;
  uses = us;
  front = is.front;
  kind = is.kind;
  after = rest;
  parts = parts ∙ ap (λ y. head_text Two m c ++ (flat_map (use_text Two) us ++ y)) (ap (λ y. y ++ rest) is.parts ∙ append_assoc is.front (is.kind ∷ []) rest);
  begun = begun;
  size = is.size;
  no_use = is.no_use;
  no_withdrawal = is.no_withdrawal;
  at = refl;
}
Tells-use bytes v f rest m c us (Some u) next is begun parts good =
    Tells-judged bytes v us (flaw m (last_of None us) u) (next u) (good u is) (λ found flawed. record {
      version = v;
      moment = m;
      count = c;
      uses = us;
      bad = u;
      after = rest;
      parts = parts ∙ ap (λ y. head_text v m c ++ (flat_map (use_text v) us ++ (y ++ rest))) (sym is.text);
      begun = begun;
      fields = is.fields;
      tells = is.tells;
      flawed = flawed;
      at = refl;
    })

most_is_most : (v : Version) → most_of v ≤ 65536
most_is_most One = omega arith
most_is_most Two = omega arith

-- the uses of a batch after some were found good
Tells-uses : (v : Version) (n m c : ℕ) (us : List Use) (x bytes : List ℕ) → c ≡ length us + n → m < 2 ^ 64 → c ≤ most_of v → AllByRecursion IsUse us → AllByRecursion (CanTell v) us → AllGood m None us → AreBytes x → bytes ≡ head_text v m c ++ (flat_map (use_text v) us ++ x) → Tells bytes (find_uses v n m us x)
unfolding Tells find_uses
Tells-uses v zero m c us x bytes left fits few fields tells good h parts =
    let all : c ≡ length us = omega arith in (
      record { batch = record { few = omega (arith, most_is_most v, few, all); moment = fits; fields = fields; good = good }; few = omega (arith, few, all); tells = tells },
      parts ∙ sym (append_assoc (head_text v m c) (flat_map (use_text v) us) x) ∙ ap (λ k. head_text v m k ++ flat_map (use_text v) us ++ x) all,
    )
Tells-uses v (suc n) m c us x bytes left fits few fields tells good h parts =
    let begun : IsBegun v m c us = record { moment_fits = fits; few = few; more = omega arith; fields = fields; tells = tells; good = good } in
    Tells-field bytes (use_len_of v) x _ (λ short. in_uses v m c us x begun parts short) (λ f rest split size.
    let (are, after) = field_bytes x f rest split h in
    let behind = parts ∙ ap (λ y. head_text v m c ++ (flat_map (use_text v) us ++ y)) split in
    Tells-use bytes v f rest m c us (use_in v f) _ (reading_is v f size are) begun behind
    (λ u is fine. Tells-uses v n m c (us ++ u ∷ []) rest bytes (omega (arith, length_push us u)) fits few (AllByRecursion-push IsUse us u fields is.fields) (AllByRecursion-push (CanTell v) us u tells is.tells) (AllGood-push m None us u good fine) after
    (behind ∙ ap (λ y. head_text v m c ++ y) (ap (λ y. flat_map (use_text v) us ++ (y ++ rest)) (sym is.text) ∙ sym (append_assoc (flat_map (use_text v) us) (use_text v u) rest) ∙ ap (λ y. y ++ rest) (flat_map_more (use_text v) [] us u)))))

is_over : (most c : ℕ) → nat_lt most c ≡ true → most < c
is_over most c test = grind (arith, nat_tests)

is_within : (most c : ℕ) → nat_lt most c ≡ false → c ≤ most
is_within most c test = grind (arith, nat_tests)

-- the head of a batch, and the bytes after it
Tells-head : (bytes : List ℕ) (v : Version) (m c : ℕ) (rest : List ℕ) (b : Bool) → m < 2 ^ 64 → c < 2 ^ 32 → AreBytes rest → bytes ≡ head_text v m c ++ rest → nat_lt (most_of v) c ≡ b → Tells bytes (if b then fault_at 13 reason.Count else find_uses v c m [] rest)
unfolding Tells
Tells-head bytes v m c rest true fm fc h parts test =
    (refl, record { version = v; moment = m; count = c; after = rest; parts = parts; moment_fits = fm; count_fits = fc; many = is_over (most_of v) c test })
Tells-head bytes v m c rest false fm fc h parts test =
    Tells-uses v c m c [] rest bytes (omega arith) fm (is_within (most_of v) c test) tt tt tt h parts

find_moment_and_count-tells : (v : Version) (x bytes : List ℕ) → AreBytes x → bytes ≡ magic_of v ++ batch_kind ∷ x → Tells bytes (find_moment_and_count v x)
unfolding find_moment_and_count found_uses
find_moment_and_count-tells v x bytes h parts =
    Tells-field bytes 12 x _ (λ short. in_moment_and_count v x parts short) (λ f rest split size.
    let (are, after) = field_bytes x f rest split h in
    let count = AreBytes-at (drop 8 f) (AreBytes-drop 8 f are) in
    Tells-head bytes v (from_be_bytes w64 (take 8 f)) (from_be_bytes w32 (drop 8 f)) rest _ (from_be_bytes-lt (take 8 f) (AreBytes-take 8 f are)) (omega (arith, count 0, count 1, count 2, count 3)) after
    (parts ∙ ap (λ y. magic_of v ++ batch_kind ∷ y) (split ∙ ap (λ y. y ++ rest) (sym (moment_and_count_text-of f size are))) ∙ head_parts v _ _ rest) refl)
  where
    head_parts : (v : Version) (m c : ℕ) (x : List ℕ) → magic_of v ++ batch_kind ∷ (moment_and_count_text m c ++ x) ≡ head_text v m c ++ x
    head_parts One m c x = refl
    head_parts Two m c x = refl

-- the digests of a summary after some came
Tells-digests : (n m : ℕ) (ds : List (List ℕ)) (x bytes : List ℕ) → 256 ≡ length ds + n → m < 2 ^ 64 → AllByRecursion (IsBytes 32) ds → AreBytes x → bytes ≡ summary_head m ++ (flat_map digest_text ds ++ x) → Tells bytes (find_digests n m ds x)
unfolding Tells find_digests AreBytes
Tells-digests zero m ds x bytes left fits fields h parts =
    (record { moment = fits; full = omega arith; fields = fields }, parts ∙ sym (append_assoc (summary_head m) (flat_map digest_text ds) x))
Tells-digests (suc n) m ds x bytes left fits fields h parts =
    let begun : AreBegun m ds = record { moment_fits = fits; more = omega arith; fields = fields } in
    Tells-field bytes 32 x _ (λ short. in_digests m ds x begun parts short) (λ f rest split size.
    let (are, after) = field_bytes x f rest split h in
    let is : IsBytes 32 f = record { size = size; each = are } in
    Tells-digests n m (ds ++ f ∷ []) rest bytes (omega (arith, length_push ds f)) fits (AllByRecursion-push (IsBytes 32) ds f fields is) after
    (parts ∙ ap (λ y. summary_head m ++ (flat_map digest_text ds ++ y)) split ∙ ap (λ y. summary_head m ++ y) (sym (append_assoc (flat_map digest_text ds) f rest) ∙ ap (λ y. y ++ rest) (flat_map_more digest_text [] ds f))))

moment_text-of : (f : List ℕ) → length f ≡ 8 → AreBytes f → moment_text (from_be_bytes w64 f) ≡ f
unfolding moment_text
moment_text-of f size h = be_bytes_8 f _ size (AreBytes-at f h) refl

find_moment-tells : (x bytes : List ℕ) → AreBytes x → bytes ≡ magic_of Two ++ summary_kind ∷ x → Tells bytes (find_moment x)
unfolding find_moment
find_moment-tells x bytes h parts =
    Tells-field bytes 8 x _ (λ short. in_moment x parts short) (λ f rest split size.
    let (are, after) = field_bytes x f rest split h in
    Tells-digests 256 (from_be_bytes w64 f) [] rest bytes refl (from_be_bytes-lt f are) tt after
    (parts ∙ ap (λ y. magic_of Two ++ summary_kind ∷ y) (split ∙ ap (λ y. y ++ rest) (sym (moment_text-of f size are)))))

-- a field that is compared with the bytes that it may be
Tells-compared : (bytes f want : List ℕ) (good bad : Found) (b : Bool) → bytes_eq f want ≡ b → (f ≡ want → Tells bytes good) → (f ≢ want → Tells bytes bad) → Tells bytes (if b then good else bad)
Tells-compared bytes f want good bad true test same other = same ((bytes_eq-Decides f want).0 test)
Tells-compared bytes f want good bad false test same other = other (λ e. false≢true (sym test ∙ (bytes_eq-Decides f want).1 e))

-- a byte that is not that of a batch
Tells-other : (v : Version) (kind : ℕ) (f rest bytes : List ℕ) → AreBytes rest → f ≡ kind ∷ [] → f ≢ batch_kind ∷ [] → bytes ≡ magic_of v ++ (f ++ rest) → Tells bytes (find_summary_kind v f rest)
unfolding Tells
Tells-other One kind f rest bytes h is no_batch parts =
    (refl, record { version = One; kind = kind; after = rest; parts = parts ∙ ap (λ y. magic_of One ++ (y ++ rest)) is; no_batch = λ e. no_batch (is ∙ ap (λ k. k ∷ []) e); no_summary = λ none. absurd none })
Tells-other Two kind f rest bytes h is no_batch parts =
    Tells-compared bytes f (summary_kind ∷ []) (find_moment rest) (fault_at 4 reason.Kind) _ refl
    (λ same. find_moment-tells rest bytes h (parts ∙ ap (λ y. magic_of Two ++ (y ++ rest)) same))
    (λ other. (refl, record { version = Two; kind = kind; after = rest; parts = parts ∙ ap (λ y. magic_of Two ++ (y ++ rest)) is; no_batch = λ e. no_batch (is ∙ ap (λ k. k ∷ []) e); no_summary = λ _ e. other (is ∙ ap (λ k. k ∷ []) e) }))

find_kind-tells : (v : Version) (x bytes : List ℕ) → AreBytes x → bytes ≡ magic_of v ++ x → Tells bytes (find_kind v x)
unfolding find_kind
find_kind-tells v x bytes h parts =
    Tells-field bytes 1 x _ (λ short. in_kind v (parts ∙ ap (λ y. magic_of v ++ y) (nil_from_length x (omega arith)) ∙ append-nil (magic_of v))) (λ f rest split size.
    let (are, after) = field_bytes x f rest split h in
    let (kind, is) = one_byte f size in
    Tells-compared bytes f (batch_kind ∷ []) (find_moment_and_count v rest) (find_summary_kind v f rest) _ refl
    (λ same. find_moment_and_count-tells v rest bytes after (parts ∙ ap (λ y. magic_of v ++ y) (split ∙ ap (λ y. y ++ rest) same)))
    (λ no_batch. Tells-other v kind f rest bytes after is no_batch (parts ∙ ap (λ y. magic_of v ++ y) split)))

find_magic-tells : (bytes : List ℕ) → AreBytes bytes → Tells bytes (find_magic bytes)
unfolding Tells find_magic
find_magic-tells bytes h =
    Tells-field bytes 4 bytes _ (λ short. in_magic short) (λ f rest split size.
    let (are, after) = field_bytes bytes f rest split h in
    let front : take 4 bytes ≡ f = ap (take 4) split ∙ take_at f rest 4 size in
    Tells-compared bytes f (magic_of Two) (find_kind Two rest) (if bytes_eq f (magic_of One) then find_kind One rest else fault_at 0 reason.Magic) _ refl
    (λ same. find_kind-tells Two rest bytes after (split ∙ ap (λ y. y ++ rest) same))
    (λ not_two. Tells-compared bytes f (magic_of One) (find_kind One rest) (fault_at 0 reason.Magic) _ refl
    (λ same. find_kind-tells One rest bytes after (split ∙ ap (λ y. y ++ rest) same))
    (λ not_one. (refl, omega (arith, ap length split, length-append f rest), neither not_one not_two front))))
  where
    neither : {f x : List ℕ} → f ≢ magic_of One → f ≢ magic_of Two → x ≡ f → (v : Version) → x ≢ magic_of v
    neither not_one not_two front One = λ e. not_one (sym front ∙ e)
    neither not_one not_two front Two = λ e. not_two (sym front ∙ e)

tells_end : (bytes : List ℕ) (found : Found) → 0 < length bytes → Tells bytes found → BeginsMessage bytes ⊎ HasFault bytes
unfolding Tells
tells_end bytes (message m rest) some (good, parts) = inl (record { message = m; rest = rest; good = good; parts = parts })
tells_end bytes (fault found) some is = inr (found, is)
tells_end bytes cut some is = inr (record { offset = length bytes; reason = reason.Truncated }, (refl, some, is))

pub begins_or_faults : BeginsOrFaults
unfolding AreBytes
begins_or_faults bytes h some = tells_end bytes (find_magic bytes) some (find_magic-tells bytes h)

-- A function that finds what bytes begin with, so that no bytes begin with two different things.
use Rattle.std.proofs.Common.{◌≡◌, ◌≢◌, ℕ, zero, suc, ◌+◌, ◌-◌, ◌*◌, ◌^◌, ◌<◌, ◌≤◌, Bool, true, false, nat_lt, if◌then◌else◌, List, [], ◌∷◌, ◌++◌, length, take, drop, refl, sym, ap, ◌∙◌, subst, arith, append_assoc, append-nil, Option, None, Some, length-append}
use Rattle.std.specs.Int.{from_be_bytes, from_bool, to_be_bytes, w32, w64}
use Rattle.std.specs.List.{flat_map, AllByRecursion}
use Rattle.std.specs.Str.{bytes_eq}
use Rattle.std.proofs.lemmas.Slice.Eq.{bytes_eq-Decides}
use Rattle.std.proofs.lemmas.Nat.{from_be_bytes-to_be_bytes_4, from_be_bytes-to_be_bytes_8}
use Rattle.std.proofs.lemmas.List.{take_at, drop_at, take-append-drop, length-take-le}
use Rattle.std.proofs.lemmas.Bool.Decides.{nat_tests}
use Rattle.svid_replay.specs.declared.token_use.Use.{Use}
use Rattle.svid_replay.specs.declared.flaw.Flaw.{Flaw}
use Rattle.svid_replay.specs.declared.flaw.Flaw.TheVariants.{Expired, Future, Order}
use Rattle.svid_replay.specs.Use.{IsBytes, IsUse, front_text, text_of}
use Rattle.svid_replay.specs.Batches.{BatchData, AllGood, flaw, last_of}
use Rattle.svid_replay.specs.Summary.{SummaryData, IsSummary}
use Rattle.svid_replay.proofs.BatchesLemmas.{last_of-push}
use Rattle.svid_wire.specs.BatchText.{IsBatchIn, batch_kind, moment_and_count_text, head_text, batch_text_in}
use Rattle.svid_wire.specs.Versions.{CanTell, magic_of, most_of, use_len_of, use_text}
use Rattle.svid_wire.specs.SummaryText.{summary_kind, moment_text, summary_head, digest_text, summary_text}
use Rattle.svid_wire.specs.Messages.{Written, batch_in, summary, written_text, IsWritten, BeginsOneMessage, TextHasNoFault}
use Rattle.svid_wire.specs.WireFault.{IsUnfinished, in_magic, in_kind, in_moment_and_count, in_uses, in_moment, in_digests, IsBegun, IsFaultFor, FaultIsUnique, HasSummaries, IsUseFault, IsUseKindFault, IsKindFault, IsCountFault, flaw_reason}
use Rattle.svid_wire.specs.declared.version.Version.{Version}
use Rattle.svid_wire.specs.declared.version.Version.TheVariants.{One, Two}
use Rattle.svid_wire.specs.declared.wire_fault.WireFault.{WireFault}
use Rattle.svid_wire.specs.declared.reason.Reason.{Reason}
use Rattle.svid_wire.specs.declared.reason.Reason.TheVariants as reason

-- what bytes begin with: a message, with the bytes after it, a fault, or a message that is cut
pub data Found : Type 0 where
  message : Written → List ℕ → Found
  fault : WireFault → Found
  cut : Found

abbrev pub fault_at : ℕ → Reason → Found
fault_at offset reason = fault (record { offset = offset; reason = reason })

-- looks at the first n bytes, where there are as many, and at those after them
unfoldable pub at_field : ℕ → List ℕ → (List ℕ → List ℕ → Found) → Found
at_field n x next = if nat_lt (length x) n then cut else next (take n x) (drop n x)

at_whole : (n : ℕ) (a x : List ℕ) (next : List ℕ → List ℕ → Found) → length a ≡ n → at_field n (a ++ x) next ≡ next a x
unfolding at_field
at_whole n a x next e =
    let long : nat_lt (length (a ++ x)) n ≡ false = grind (arith, nat_tests, length-append a x) in
    ap (λ b. if b then cut else next (take n (a ++ x)) (drop n (a ++ x))) long
    ∙ ap (λ f. next f (drop n (a ++ x))) (take_at a x n e)
    ∙ ap (next a) (drop_at a x n e)

at_short : (n : ℕ) (x : List ℕ) (next : List ℕ → List ℕ → Found) → length x < n → at_field n x next ≡ cut
unfolding at_field
at_short n x next h =
    let short : nat_lt (length x) n ≡ true = grind (arith, nat_tests) in
    ap (λ b. if b then cut else next (take n x) (drop n x)) short

-- the use of these four pieces and this kind
unfoldable pub use_of_pieces : List ℕ → List ℕ → List ℕ → List ℕ → Bool → Use
use_of_pieces e k p a w = record { exp = from_be_bytes w64 e; key = k; validator_id = p; at = from_be_bytes w64 a; withdrawn = w }

-- the use of this kind whose first 64 bytes these are
unfoldable pub front_of : List ℕ → Bool → Use
front_of f w = use_of_pieces (take 8 f) (take 32 (drop 8 f)) (take 16 (drop 40 f)) (drop 56 f) w

front_of-append : (e k p a : List ℕ) (w : Bool) → length e ≡ 8 → length k ≡ 32 → length p ≡ 16 → front_of (e ++ k ++ p ++ a) w ≡ use_of_pieces e k p a w
unfolding front_of
front_of-append e k p a w le lk lp =
    let two : length (e ++ k) ≡ 40 = omega (arith, length-append e k) in
    let three : length (e ++ k ++ p) ≡ 56 = omega (arith, length-append e k, length-append (e ++ k) p) in
    let exp : take 8 (e ++ k ++ p ++ a) ≡ e = ap (take 8) (append_assoc (e ++ k) p a ∙ append_assoc e k (p ++ a)) ∙ take_at e (k ++ (p ++ a)) 8 le in
    let key : take 32 (drop 8 (e ++ k ++ p ++ a)) ≡ k = ap (λ x. take 32 (drop 8 x)) (append_assoc (e ++ k) p a ∙ append_assoc e k (p ++ a)) ∙ ap (take 32) (drop_at e (k ++ (p ++ a)) 8 le) ∙ take_at k (p ++ a) 32 lk in
    let validator_id : take 16 (drop 40 (e ++ k ++ p ++ a)) ≡ p = ap (λ x. take 16 (drop 40 x)) (append_assoc (e ++ k) p a) ∙ ap (take 16) (drop_at (e ++ k) (p ++ a) 40 two) ∙ take_at p a 16 lp in
    let at : drop 56 (e ++ k ++ p ++ a) ≡ a = drop_at (e ++ k ++ p) a 56 three in
    rw (exp, key, validator_id, at)

front_of-front : (u : Use) → IsUse u → front_of (front_text u) u.withdrawn ≡ u
unfolding front_text use_of_pieces
front_of-front u h =
    front_of-append (to_be_bytes w64 u.exp) u.key u.validator_id (to_be_bytes w64 u.at) u.withdrawn refl h.key.size h.validator_id.size
    ∙ ap (λ (n : ℕ). record u { exp = n; at = from_be_bytes w64 (to_be_bytes w64 u.at) }) (from_be_bytes-to_be_bytes_8 u.exp h.exp)
    ∙ ap (λ (n : ℕ). record u { at = n }) (from_be_bytes-to_be_bytes_8 u.at h.at)

-- the text of a use is its front and its kind
pub text_of-front : (u : Use) → text_of u ≡ front_text u ++ from_bool u.withdrawn ∷ []
unfolding text_of
text_of-front u = refl

length_pieces : (e k p a : List ℕ) → length e ≡ 8 → length k ≡ 32 → length p ≡ 16 → length a ≡ 8 → length (e ++ k ++ p ++ a) ≡ 64
length_pieces e k p a le lk lp la =
    omega (arith, length-append e k, length-append (e ++ k) p, length-append (e ++ k ++ p) a)

length-front : (u : Use) → IsUse u → length (front_text u) ≡ 64
unfolding front_text
length-front u h =
    length_pieces (to_be_bytes w64 u.exp) u.key u.validator_id (to_be_bytes w64 u.at) refl h.key.size h.validator_id.size refl

pub length-use_text : (v : Version) (u : Use) → IsUse u → length (use_text v u) ≡ use_len_of v
length-use_text One u h = length-front u h
length-use_text Two u h = omega (arith, ap length (text_of-front u), length-append (front_text u) (from_bool u.withdrawn ∷ []), length-front u h)

-- the use with these bytes, or none, where the last is no kind
abbrev pub kind_of : List ℕ → Option Bool
kind_of k = if bytes_eq k (0 ∷ []) then Some false else (if bytes_eq k (1 ∷ []) then Some true else None)

abbrev pub use_with : List ℕ → Option Bool → Option Use
use_with f None = None
use_with f (Some w) = Some (front_of f w)

unfoldable pub use_in : Version → List ℕ → Option Use
use_in One f = Some (front_of f false)
use_in Two f = use_with (take 64 f) (kind_of (drop 64 f))

kind_of-bool : (w : Bool) → kind_of (from_bool w ∷ []) ≡ Some w
kind_of-bool false = refl
kind_of-bool true = refl

use_in-text : (v : Version) (u : Use) → IsUse u → CanTell v u → use_in v (use_text v u) ≡ Some u
unfolding use_in
use_in-text One u h tells = ap (λ w. Some (front_of (front_text u) w)) (sym tells) ∙ ap Some (front_of-front u h)
use_in-text Two u h tells =
    let long = length-front u h in
    ap (λ x. use_with (take 64 x) (kind_of (drop 64 x))) (text_of-front u)
    ∙ ap (λ x. use_with x (kind_of (drop 64 (front_text u ++ from_bool u.withdrawn ∷ [])))) (take_at (front_text u) (from_bool u.withdrawn ∷ []) 64 long)
    ∙ ap (λ x. use_with (front_text u) (kind_of x)) (drop_at (front_text u) (from_bool u.withdrawn ∷ []) 64 long)
    ∙ ap (use_with (front_text u)) (kind_of-bool u.withdrawn)
    ∙ ap Some (front_of-front u h)

-- goes on after a good use
abbrev pub judged : Version → Option Flaw → List Use → Found → Found
judged v None us next = next
judged v (Some f) us next = fault_at (17 + use_len_of v * length us) (flaw_reason f)

-- goes on with the use that was read, if one was
abbrev pub with_use : Version → Option Use → ℕ → List Use → (Use → Found) → Found
with_use v None m us next = fault_at (17 + use_len_of v * length us) reason.UseKind
with_use v (Some u) m us next = judged v (flaw m (last_of None us) u) us (next u)

-- so many more uses, after those that were found good
unfoldable pub find_uses : Version → ℕ → ℕ → List Use → List ℕ → Found
find_uses v zero m us x = message (batch_in v (record { moment = m; uses = us })) x
find_uses v (suc n) m us x = at_field (use_len_of v) x (λ f rest. with_use v (use_in v f) m us (λ u. find_uses v n m (us ++ u ∷ []) rest))

unfoldable pub found_uses : Version → ℕ → ℕ → List ℕ → Found
found_uses v m c rest = if nat_lt (most_of v) c then fault_at 13 reason.Count else find_uses v c m [] rest

unfoldable pub find_moment_and_count : Version → List ℕ → Found
find_moment_and_count v x = at_field 12 x (λ f rest. found_uses v (from_be_bytes w64 (take 8 f)) (from_be_bytes w32 (drop 8 f)) rest)

-- so many more digests, after those that came
unfoldable pub find_digests : ℕ → ℕ → List (List ℕ) → List ℕ → Found
find_digests zero m ds x = message (summary (record { moment = m; digests = ds })) x
find_digests (suc n) m ds x = at_field 32 x (λ f rest. find_digests n m (ds ++ f ∷ []) rest)

unfoldable pub find_moment : List ℕ → Found
find_moment x = at_field 8 x (λ f rest. find_digests 256 (from_be_bytes w64 f) [] rest)

abbrev pub find_summary_kind : Version → List ℕ → List ℕ → Found
find_summary_kind One f rest = fault_at 4 reason.Kind
find_summary_kind Two f rest = if bytes_eq f (summary_kind ∷ []) then find_moment rest else fault_at 4 reason.Kind

unfoldable pub find_kind : Version → List ℕ → Found
find_kind v x = at_field 1 x (λ f rest. if bytes_eq f (batch_kind ∷ []) then find_moment_and_count v rest else find_summary_kind v f rest)

abbrev pub find_version : List ℕ → List ℕ → Found
find_version f rest = if bytes_eq f (magic_of Two) then find_kind Two rest else (if bytes_eq f (magic_of One) then find_kind One rest else fault_at 0 reason.Magic)

unfoldable pub find_magic : List ℕ → Found
find_magic x = at_field 4 x find_version

-- bytes that end before a message does have a fault at their end
abbrev pub settled : List ℕ → Found → Found
settled bytes (message m rest) = message m rest
settled bytes (fault found) = fault found
settled bytes cut = fault_at (length bytes) reason.Truncated

-- what the bytes begin with
unfoldable pub first_message : List ℕ → Found
first_message bytes = settled bytes (find_magic bytes)

-- one use, good or not
find_uses-next : (v : Version) (n m : ℕ) (us : List Use) (u : Use) (x : List ℕ) (o : Option Flaw) → IsUse u → CanTell v u → flaw m (last_of None us) u ≡ o → find_uses v (suc n) m us (use_text v u ++ x) ≡ judged v o us (find_uses v n m (us ++ u ∷ []) x)
unfolding find_uses
find_uses-next v n m us u x o fits tells e =
    at_whole (use_len_of v) (use_text v u) x _ (length-use_text v u fits) ∙ rw (use_in-text v u fits tells, e)

-- good uses
find_uses-good : (v : Version) (ws us : List Use) (k n m : ℕ) (x : List ℕ) → k ≡ length ws + n → AllByRecursion IsUse ws → AllByRecursion (CanTell v) ws → AllGood m (last_of None us) ws → find_uses v k m us (flat_map (use_text v) ws ++ x) ≡ find_uses v n m (us ++ ws) x
find_uses-good v [] us k n m x e fits tells good =
    let same : k ≡ n = omega arith in
    rw (same, append-nil us)
find_uses-good v (w ∷ ws) us zero n m x e fits tells good = absurd (omega arith)
find_uses-good v (w ∷ ws) us (suc k) n m x e fits tells good =
    ap (find_uses v (suc k) m us) (append_assoc (use_text v w) (flat_map (use_text v) ws) x)
    ∙ find_uses-next v k m us w (flat_map (use_text v) ws ++ x) None fits.0 tells.0 good.0
    ∙ find_uses-good v ws (us ++ w ∷ []) k n m x (omega arith) fits.1 tells.1 (subst (λ o. AllGood m o ws) (sym (last_of-push None us w)) good.1)
    ∙ ap (λ ts. find_uses v n m ts x) (append_assoc us (w ∷ []) ws)

-- the first uses of a batch, all good
find_uses-begun : (v : Version) (m c k : ℕ) (us : List Use) (x : List ℕ) → c ≡ length us + k → AllByRecursion IsUse us → AllByRecursion (CanTell v) us → AllGood m None us → find_uses v c m [] (flat_map (use_text v) us ++ x) ≡ find_uses v k m us x
find_uses-begun v m c k us x = find_uses-good v us [] c k m x

find_magic-good : (v : Version) (x : List ℕ) → find_magic (magic_of v ++ x) ≡ find_kind v x
unfolding find_magic
find_magic-good One x = at_whole 4 (magic_of One) x _ refl
find_magic-good Two x = at_whole 4 (magic_of Two) x _ refl

find_kind-good : (v : Version) (x : List ℕ) → find_kind v (batch_kind ∷ x) ≡ find_moment_and_count v x
unfolding find_kind
find_kind-good v x = at_whole 1 (batch_kind ∷ []) x _ refl

find_moment_and_count-next : (v : Version) (m c : ℕ) (x : List ℕ) → m < 2 ^ 64 → c < 2 ^ 32 → find_moment_and_count v (moment_and_count_text m c ++ x) ≡ found_uses v m c x
unfolding find_moment_and_count moment_and_count_text
find_moment_and_count-next v m c x fm fc =
    at_whole 12 (moment_and_count_text m c) x _ refl
    ∙ ap (λ n. found_uses v n (from_be_bytes w32 (to_be_bytes w32 c)) x) (from_be_bytes-to_be_bytes_8 m fm)
    ∙ ap (λ n. found_uses v m n x) (from_be_bytes-to_be_bytes_4 c fc)

-- the head of a batch
find_head : (v : Version) (m c : ℕ) (x : List ℕ) → m < 2 ^ 64 → c < 2 ^ 32 → find_magic (head_text v m c ++ x) ≡ found_uses v m c x
find_head v m c x fm fc = ap find_magic (head_parts v m c x) ∙ find_magic-good v _ ∙ find_kind-good v _ ∙ find_moment_and_count-next v m c x fm fc
  where
    head_parts : (v : Version) (m c : ℕ) (x : List ℕ) → head_text v m c ++ x ≡ magic_of v ++ (batch_kind ∷ (moment_and_count_text m c ++ x))
    head_parts One m c x = refl
    head_parts Two m c x = refl

-- no version has batches with more uses than a count of 32 bits can give
most_fits : (v : Version) → most_of v < 2 ^ 32
most_fits One = omega arith
most_fits Two = omega arith

find_head-few : (v : Version) (m c : ℕ) (x : List ℕ) → m < 2 ^ 64 → c ≤ most_of v → find_magic (head_text v m c ++ x) ≡ find_uses v c m [] x
unfolding found_uses
find_head-few v m c x fm few =
    let small : nat_lt (most_of v) c ≡ false = grind (arith, nat_tests) in
    find_head v m c x fm (omega (arith, few, most_fits v)) ∙ ap (λ b. if b then fault_at 13 reason.Count else find_uses v c m [] x) small

-- a batch, and the bytes after it
find_batch : (v : Version) (b : BatchData) (rest : List ℕ) → IsBatchIn v b → find_magic (batch_text_in v b ++ rest) ≡ message (batch_in v b) rest
unfolding find_uses
find_batch v b rest good =
    let m = b.moment in
    let us = b.uses in
    ap find_magic (append_assoc (head_text v m (length us)) (flat_map (use_text v) us) rest)
    ∙ find_head-few v m (length us) _ good.batch.moment good.few
    ∙ find_uses-begun v m (length us) 0 us rest (omega arith) good.batch.fields good.tells good.batch.good

-- digests that came
find_digests-more : (es ds : List (List ℕ)) (k n m : ℕ) (x : List ℕ) → k ≡ length es + n → AllByRecursion (IsBytes 32) es → find_digests k m ds (flat_map digest_text es ++ x) ≡ find_digests n m (ds ++ es) x
unfolding find_digests
find_digests-more [] ds k n m x e fits =
    let same : k ≡ n = omega arith in
    rw (same, append-nil ds)
find_digests-more (d ∷ es) ds zero n m x e fits = absurd (omega arith)
find_digests-more (d ∷ es) ds (suc k) n m x e fits =
    ap (find_digests (suc k) m ds) (append_assoc d (flat_map digest_text es) x)
    ∙ at_whole 32 d (flat_map digest_text es ++ x) _ fits.0.size
    ∙ find_digests-more es (ds ++ d ∷ []) k n m x (omega arith) fits.1
    ∙ ap (λ fs. find_digests n m fs x) (append_assoc ds (d ∷ []) es)

find_digests-all : (m : ℕ) (ds : List (List ℕ)) (x : List ℕ) → find_digests 0 m ds x ≡ message (summary (record { moment = m; digests = ds })) x
unfolding find_digests
find_digests-all m ds x = refl

find_digests-short : (k m : ℕ) (ds : List (List ℕ)) (x : List ℕ) → length x < 32 → find_digests (suc k) m ds x ≡ cut
unfolding find_digests
find_digests-short k m ds x short = at_short 32 x _ short

find_kind-summary : (x : List ℕ) → find_kind Two (summary_kind ∷ x) ≡ find_moment x
unfolding find_kind
find_kind-summary x = at_whole 1 (summary_kind ∷ []) x _ refl

find_moment-next : (m : ℕ) (x : List ℕ) → m < 2 ^ 64 → find_moment (moment_text m ++ x) ≡ find_digests 256 m [] x
unfolding find_moment moment_text
find_moment-next m x fm = at_whole 8 (moment_text m) x _ refl ∙ ap (λ n. find_digests 256 n [] x) (from_be_bytes-to_be_bytes_8 m fm)

-- the head of a summary, and some of its digests
find_summary_digests : (m n : ℕ) (ds : List (List ℕ)) (x : List ℕ) → m < 2 ^ 64 → 256 ≡ length ds + n → AllByRecursion (IsBytes 32) ds → find_magic (summary_head m ++ (flat_map digest_text ds ++ x)) ≡ find_digests n m ds x
find_summary_digests m n ds x fm left fits =
    find_magic-good Two _ ∙ find_kind-summary _ ∙ find_moment-next m _ fm ∙ find_digests-more ds [] 256 n m x left fits

-- a summary, and the bytes after it
find_summary : (s : SummaryData) (rest : List ℕ) → IsSummary s → find_magic (summary_text s ++ rest) ≡ message (summary s) rest
find_summary s rest good =
    ap find_magic (append_assoc (summary_head s.moment) (flat_map digest_text s.digests) rest)
    ∙ find_summary_digests s.moment 0 s.digests rest good.moment (omega (arith, good.full)) good.fields
    ∙ find_digests-all s.moment s.digests rest

-- good uses of a batch, and at least one is to come
find_begun : (v : Version) (m c : ℕ) (us : List Use) (x : List ℕ) → IsBegun v m c us → (k : ℕ) × (find_magic (head_text v m c ++ (flat_map (use_text v) us ++ x)) ≡ find_uses v (suc k) m us x)
find_begun v m c us x begun =
    let k = c - length us - 1 in
    let left : c ≡ length us + suc k = omega (arith, begun.more) in
    (k, find_head-few v m c _ begun.moment_fits begun.few ∙ find_uses-begun v m c (suc k) us x left begun.fields begun.tells begun.good)

find_cut : (bytes : List ℕ) → IsUnfinished bytes → find_magic bytes ≡ cut
unfolding find_magic find_kind find_moment_and_count find_uses find_moment
find_cut bytes (in_magic short) = at_short 4 bytes _ short
find_cut bytes (in_kind v parts) = ap find_magic (parts ∙ sym (append-nil (magic_of v))) ∙ find_magic-good v [] ∙ at_short 1 [] _ (omega arith)
find_cut bytes (in_moment_and_count v part parts short) = ap find_magic parts ∙ find_magic-good v _ ∙ find_kind-good v part ∙ at_short 12 part _ short
find_cut bytes (in_uses v m c us part begun parts short) =
    ap find_magic parts ∙ (find_begun v m c us part begun).1 ∙ at_short (use_len_of v) part _ short
find_cut bytes (in_moment part parts short) = ap find_magic parts ∙ find_magic-good Two _ ∙ find_kind-summary part ∙ at_short 8 part _ short
find_cut bytes (in_digests m ds part begun parts short) =
    let k = 255 - length ds in
    ap find_magic parts ∙ find_summary_digests m (suc k) ds part begun.moment_fits (omega (arith, begun.more)) begun.fields ∙ find_digests-short k m ds part short

find_use_fault : (bytes : List ℕ) (offset : ℕ) (f : Flaw) → IsUseFault bytes offset f → find_magic bytes ≡ fault_at offset (flaw_reason f)
find_use_fault bytes offset f h =
    let v = h.version in
    let (k, e) = find_begun v h.moment h.count h.uses (use_text v h.bad ++ h.after) h.begun in
    ap find_magic h.parts ∙ e ∙ find_uses-next v k h.moment h.uses h.bad h.after (Some f) h.fields h.tells h.flawed ∙ ap (λ n. fault_at n (flaw_reason f)) (sym h.at)

false_of : (b : Bool) → b ≢ true → b ≡ false
false_of true ne = absurd (ne refl)
false_of false ne = refl

bytes_eq-false : (xs ys : List ℕ) → xs ≢ ys → bytes_eq xs ys ≡ false
bytes_eq-false xs ys ne = false_of (bytes_eq xs ys) (λ e. ne ((bytes_eq-Decides xs ys).0 e))

-- a byte that is no kind of use
no_kind_of : (k : ℕ) → k ≢ 0 → k ≢ 1 → kind_of (k ∷ []) ≡ None
no_kind_of k no_use no_withdrawal =
    ap (λ b. if b then Some false else (if bytes_eq (k ∷ []) (1 ∷ []) then Some true else None)) (bytes_eq-false (k ∷ []) (0 ∷ []) (λ e. no_use cc))
    ∙ ap (λ b. if b then Some true else None) (bytes_eq-false (k ∷ []) (1 ∷ []) (λ e. no_withdrawal cc))

no_use_in : (front : List ℕ) (k : ℕ) → length front ≡ 64 → k ≢ 0 → k ≢ 1 → use_in Two (front ++ k ∷ []) ≡ None
unfolding use_in
no_use_in front k long no_use no_withdrawal =
    ap (λ x. use_with (take 64 (front ++ k ∷ [])) (kind_of x)) (drop_at front (k ∷ []) 64 long) ∙ ap (use_with (take 64 (front ++ k ∷ []))) (no_kind_of k no_use no_withdrawal)

find_use_kind_fault : (bytes : List ℕ) (offset : ℕ) → IsUseKindFault bytes offset → find_magic bytes ≡ fault_at offset reason.UseKind
unfolding find_uses
find_use_kind_fault bytes offset h =
    let field = h.front ++ h.kind ∷ [] in
    let (k, e) = find_begun Two h.moment h.count h.uses (h.front ++ h.kind ∷ h.after) h.begun in
    ap find_magic h.parts ∙ e ∙ ap (find_uses Two (suc k) h.moment h.uses) (sym (append_assoc h.front (h.kind ∷ []) h.after))
    ∙ at_whole 65 field h.after _ (omega (arith, length-append h.front (h.kind ∷ []), h.size))
    ∙ ap (λ o. with_use Two o h.moment h.uses (λ u. find_uses Two k h.moment (h.uses ++ u ∷ []) h.after)) (no_use_in h.front h.kind h.size h.no_use h.no_withdrawal)
    ∙ ap (λ n. fault_at n reason.UseKind) (sym h.at)

find_magic_fault : (bytes : List ℕ) → 4 ≤ length bytes → ((v : Version) → take 4 bytes ≢ magic_of v) → find_magic bytes ≡ fault_at 0 reason.Magic
unfolding find_magic
find_magic_fault bytes long bad =
    ap find_magic (sym (take-append-drop 4 bytes))
    ∙ at_whole 4 (take 4 bytes) (drop 4 bytes) _ (length-take-le 4 bytes long)
    ∙ ap (λ b. if b then find_kind Two (drop 4 bytes) else (if bytes_eq (take 4 bytes) (magic_of One) then find_kind One (drop 4 bytes) else fault_at 0 reason.Magic)) (bytes_eq-false _ (magic_of Two) (bad Two))
    ∙ ap (λ b. if b then find_kind One (drop 4 bytes) else fault_at 0 reason.Magic) (bytes_eq-false _ (magic_of One) (bad One))

no_summary_kind : (v : Version) (k : ℕ) (rest : List ℕ) → (HasSummaries v → k ≢ summary_kind) → find_summary_kind v (k ∷ []) rest ≡ fault_at 4 reason.Kind
no_summary_kind One k rest no_summary = refl
no_summary_kind Two k rest no_summary = ap (λ b. if b then find_moment rest else fault_at 4 reason.Kind) (bytes_eq-false (k ∷ []) (summary_kind ∷ []) (λ e. no_summary tt cc))

find_kind_fault : (bytes : List ℕ) → IsKindFault bytes → find_magic bytes ≡ fault_at 4 reason.Kind
unfolding find_kind
find_kind_fault bytes h =
    let v = h.version in
    ap find_magic h.parts
    ∙ find_magic-good v _
    ∙ at_whole 1 (h.kind ∷ []) h.after _ refl
    ∙ ap (λ b. if b then find_moment_and_count v h.after else find_summary_kind v (h.kind ∷ []) h.after) (bytes_eq-false (h.kind ∷ []) (batch_kind ∷ []) (λ e. h.no_batch cc))
    ∙ no_summary_kind v h.kind h.after h.no_summary

find_count_fault : (bytes : List ℕ) → IsCountFault bytes → find_magic bytes ≡ fault_at 13 reason.Count
unfolding found_uses
find_count_fault bytes h =
    let v = h.version in
    let over : most_of v < h.count = h.many in
    let many : nat_lt (most_of v) h.count ≡ true = grind (arith, nat_tests) in
    ap find_magic h.parts
    ∙ find_head v h.moment h.count h.after h.moment_fits h.count_fits
    ∙ ap (λ b. if b then fault_at 13 reason.Count else find_uses v h.count h.moment [] h.after) many

-- the function finds each fault
finds_fault : (r : Reason) (bytes : List ℕ) (offset : ℕ) → IsFaultFor r bytes offset → first_message bytes ≡ fault_at offset r
unfolding first_message
finds_fault reason.Magic bytes offset (at, long, bad) = ap (settled bytes) (find_magic_fault bytes long bad) ∙ ap (λ n. fault_at n reason.Magic) (sym at)
finds_fault reason.Kind bytes offset (at, h) = ap (settled bytes) (find_kind_fault bytes h) ∙ ap (λ n. fault_at n reason.Kind) (sym at)
finds_fault reason.Count bytes offset (at, h) = ap (settled bytes) (find_count_fault bytes h) ∙ ap (λ n. fault_at n reason.Count) (sym at)
finds_fault reason.UseKind bytes offset h = ap (settled bytes) (find_use_kind_fault bytes offset h)
finds_fault reason.UseExpired bytes offset h = ap (settled bytes) (find_use_fault bytes offset Expired h)
finds_fault reason.UseFuture bytes offset h = ap (settled bytes) (find_use_fault bytes offset Future h)
finds_fault reason.UseOrder bytes offset h = ap (settled bytes) (find_use_fault bytes offset Order h)
finds_fault reason.Truncated bytes offset (at, some, h) = ap (settled bytes) (find_cut bytes h) ∙ ap (λ n. fault_at n reason.Truncated) (sym at)
finds_fault reason.OutOfMemory bytes offset h = absurd h
finds_fault reason.Failed bytes offset h = absurd h

-- the function finds a message, and the bytes after it
finds_message : (m : Written) (rest : List ℕ) → IsWritten m → first_message (written_text m ++ rest) ≡ message m rest
unfolding first_message
finds_message (batch_in v b) rest good = ap (settled (batch_text_in v b ++ rest)) (find_batch v b rest good)
finds_message (summary s) rest good = ap (settled (summary_text s ++ rest)) (find_summary s rest good)

pub begins_one_message : BeginsOneMessage
begins_one_message a b x y good_a good_b same =
    let e : message a x ≡ message b y = sym (finds_message a x good_a) ∙ ap first_message same ∙ finds_message b y good_b in
    (cc, cc)

pub text_has_no_fault : TextHasNoFault
text_has_no_fault m rest found good bad =
    let e : message m rest ≡ fault found = sym (finds_message m rest good) ∙ finds_fault found.reason _ found.offset bad in
    cc

pub fault_is_unique : FaultIsUnique
fault_is_unique bytes x y bad_x bad_y =
    let e : fault x ≡ fault y = sym (finds_fault x.reason bytes x.offset bad_x) ∙ finds_fault y.reason bytes y.offset bad_y in
    cc

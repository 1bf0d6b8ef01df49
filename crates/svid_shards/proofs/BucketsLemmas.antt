-- The digest and the live uses of one bucket of a set at a moment, and its answer to a summary.
use Rattle.std.proofs.Common.{◌≡◌, ℕ, ◌+◌, ◌<◌, ◌≤◌, zero, suc, max, All, Bool, true, false, ◌&&◌, List, [], ◌∷◌, ◌++◌, map, length, get_or, nat_eq, nat_lt, not, refl, sym, ◌∙◌, ap, arith, cond}
use Rattle.std.proofs.lemmas.Bool.{eqb-false, eqb-true, false≢true, false_from_ne_true}
use Rattle.std.proofs.lemmas.Bool.Decides.{nat_tests}
use Rattle.std.proofs.lemmas.List.{get_or_past}
use Rattle.std.proofs.lemmas.List.FromFn.{get_or-map-range_with_len, length-map-range_with_len}
use Rattle.std.specs.List.{filter, flat_map, range_with_len, slice_index}
use Rattle.std.specs.Ordering.{is_eq}
use Rattle.sha2.specs.Sha256.{sha256}
use Rattle.svid_replay.specs.declared.token_use.Use.{Use}
use Rattle.svid_replay.specs.Buckets.{answer_to, bucket, bucket_of, bucket_digest, differs, digests_of, raised_to, stale, summary_of}
use Rattle.svid_replay.specs.Records.{State, IsRecord}
use Rattle.svid_replay.specs.Sets.{holds, rising}
use Rattle.svid_replay.specs.Summary.{SummaryData}
use Rattle.svid_replay.specs.Use.{bytes_cmp, text_of}
use Rattle.svid_replay.specs.Uses.{Uses, count, live, no_uses, uses_in}
use Rattle.svid_replay.proofs.BucketsLemmas.{bucket_holds_its_uses, stale_holds_differing}
use Rattle.svid_replay.proofs.BucketsLemmas.{digest_at as digest_in}
use Rattle.svid_replay.proofs.PartsLemmas.{cut_gives_parts}
use Rattle.svid_replay.proofs.RecordsLemmas.{raised}
use Rattle.svid_replay.proofs.TestsLemmas.{and-false}
use Rattle.svid_replay.proofs.UsesLemmas.{holds-live, no_uses_hold_none, rising-keep, same_uses, uses_in-rising}
use Rattle.svid_shards.specs.Buckets.{answer_at, differs_at, digest_at, uses_at, uses_told, AnswersTellAnswer, DigestsAreSummary}
use Rattle.svid_shards.specs.declared.bucket_digest.BucketDigest.{BucketDigest}
use Rattle.svid_shards.specs.Shards.{AreApart, all_in, shard}
use Rattle.svid_shards.proofs.ShardsLemmas.{holds_all, rising_none}

-- the live uses of a bucket are the bucket of the live uses
pub live_of_bucket : (b moment : ℕ) (s : Uses) → live (bucket b s) moment ≡ bucket b (live s moment)
live_of_bucket b moment s = same_uses (live (bucket b s) moment) (bucket b (live s moment)) (λ u.
    let is_live = nat_lt moment u.exp in
    let is_in = nat_eq (bucket_of u) b in
    holds-live (bucket b s) moment u ∙ ap (λ h. is_live && h) (bucket_holds_its_uses b s u) ∙ turned is_live (holds s u) is_in
    ∙ sym (bucket_holds_its_uses b (live s moment) u ∙ ap (λ h. h && is_in) (holds-live s moment u)))
  where
    turned : (a b c : Bool) → (a && (b && c)) ≡ ((a && b) && c)
    turned true b c = refl
    turned false b c = refl

-- the digest of the live uses in the store of a bucket
pub digest_is : (d : BucketDigest) (here s : Uses) (b moment : ℕ) → here ≡ bucket b s → d.digest ≡ sha256 (flat_map text_of (rising (live here moment))) → d.uses ≡ count (live here moment) → d ≡ digest_at b moment s
unfolding digest_at bucket_digest
digest_is d here s b moment at digest uses =
    let same = ap (λ t. live t moment) at ∙ live_of_bucket b moment s in
    (λ i. record { digest = (digest ∙ ap (λ t. sha256 (flat_map text_of (rising t))) same) i; uses = (uses ∙ ap count same) i })

-- whether the digest of a bucket differs from this one
pub differs_is : (own : BucketDigest) (digest : List ℕ) (b moment : ℕ) (uses : Uses) → own ≡ digest_at b moment uses → not (is_eq (bytes_cmp own.digest digest)) ≡ differs_at b moment digest uses
unfolding differs_at digest_at
differs_is own digest b moment uses is = ap (λ (d : BucketDigest). not (is_eq (bytes_cmp d.digest digest))) is

-- the live uses in the store of a bucket
pub uses_are : (here uses : Uses) (b moment : ℕ) → here ≡ bucket b uses → filter (λ u. nat_lt moment u.exp) (rising here) ≡ uses_at b moment uses
unfolding uses_at
uses_are here uses b moment at = sym (rising-keep (λ u. nat_lt moment u.exp) here) ∙ ap (λ t. rising (live t moment)) at ∙ ap rising (live_of_bucket b moment uses)

-- the digests of all buckets are the summary
pub digests_are_summary : DigestsAreSummary
unfolding summary_of digests_of digest_at
digests_are_summary r moment later =
    let greater : moment ≡ max r.moment moment = omega (arith, later) in
    ap summary_of (sym (raised r moment moment (live r.uses moment) greater refl))

-- the buckets of a set as stores of their own
buckets : Uses → List Uses
buckets s = map (λ b. bucket b s) (range_with_len 0 256)

within : (s : Uses) (i : ℕ) → i < 256 → shard (buckets s) i ≡ bucket i s
unfolding buckets
within s i low = get_or-map-range_with_len (λ b. bucket b s) 0 256 i i no_uses low (omega arith)

beyond : (s : Uses) (i : ℕ) → 256 ≤ i → shard (buckets s) i ≡ no_uses
unfolding buckets
beyond s i high = get_or_past (buckets s) i no_uses (omega (arith, high, length-map-range_with_len (λ b. bucket b s) 0 256))

and_both : (a b : Bool) → (a && b) ≡ true → (a ≡ true) × (b ≡ true)
and_both true b e = (refl, e)
and_both false b e = absurd (false≢true e)

same_number : (n : ℕ) → nat_eq n n ≡ true
same_number n = elim (nat_eq n n) as (λ t. nat_eq n n ≡ t → nat_eq n n ≡ true) [
  | true ↦ λ e. e
  | false ↦ λ e. absurd (eqb-false n n e refl)
] refl

buckets_apart : (s : Uses) → AreApart (buckets s)
buckets_apart s = λ i u h. elim (nat_lt i 256) as (λ t. nat_lt i 256 ≡ t → bucket_of u ≡ i) [
  | true ↦ λ e. eqb-true (bucket_of u) i (and_both (holds s u) (nat_eq (bucket_of u) i) (sym (ap (λ t. holds t u) (within s i (grind (arith, nat_tests))) ∙ bucket_holds_its_uses i s u) ∙ h)).1
  | false ↦ λ e. absurd (false≢true (sym (ap (λ t. holds t u) (beyond s i (grind (arith, nat_tests))) ∙ no_uses_hold_none u) ∙ h))
] refl

-- together they hold what the set holds, where each of its uses is of one of 256 buckets
whole : (s : Uses) → ((u : Use) → holds s u ≡ true → bucket_of u < 256) → all_in (buckets s) ≡ s
whole s low = same_uses (all_in (buckets s)) s (λ u.
    let b = bucket_of u in
    holds_all (buckets s) (buckets_apart s) u ∙ elim (nat_lt b 256) as (λ t. nat_lt b 256 ≡ t → holds (shard (buckets s) b) u ≡ holds s u) [
      | true ↦ λ e. ap (λ t. holds t u) (within s b (grind (arith, nat_tests))) ∙ bucket_holds_its_uses b s u ∙ ap (λ t. holds s u && t) (same_number b) ∙ and_true (holds s u)
      | false ↦ λ e. ap (λ t. holds t u) (beyond s b (grind (arith, nat_tests))) ∙ no_uses_hold_none u ∙ sym (false_from_ne_true (holds s u) (λ h. let under = low u h in absurd (grind (arith, nat_tests))))
    ] refl)
  where
    and_true : (a : Bool) → (a && true) ≡ a
    and_true true = refl
    and_true false = refl

-- the answer of a bucket is what the bucket has of the whole answer
at_bucket : (s : SummaryData) (l : Uses) (b : ℕ) (u : Use) → b < 256 → bucket_of u ≡ b → differs s l u ≡ not (is_eq (bytes_cmp (bucket_digest b l) (get_or s.digests b [])))
at_bucket s l b u low e =
    ap (λ k. not (is_eq (bytes_cmp (get_or (digests_of l) k []) (get_or s.digests k [])))) e ∙ ap (λ d. not (is_eq (bytes_cmp d (get_or s.digests b [])))) (digest_in l b [] low)

agrees : (s : SummaryData) (l : Uses) (b : ℕ) → b < 256 → is_eq (bytes_cmp (bucket_digest b l) (get_or s.digests b [])) ≡ true → bucket b (stale s l) ≡ no_uses
agrees s l b low same = same_uses (bucket b (stale s l)) no_uses (λ u.
    bucket_holds_its_uses b (stale s l) u ∙ elim (nat_eq (bucket_of u) b) as (λ t. nat_eq (bucket_of u) b ≡ t → (holds (stale s l) u && t) ≡ holds no_uses u) [
      | true ↦ λ e. ap (λ t. t && true) (stale_holds_differing s l u ∙ ap (λ t. holds l u && t) (at_bucket s l b u low (eqb-true (bucket_of u) b e) ∙ ap not same) ∙ and-false (holds l u)) ∙ sym (no_uses_hold_none u)
      | false ↦ λ e. and-false (holds (stale s l) u) ∙ sym (no_uses_hold_none u)
    ] refl)

disagrees : (s : SummaryData) (l : Uses) (b : ℕ) → b < 256 → is_eq (bytes_cmp (bucket_digest b l) (get_or s.digests b [])) ≡ false → bucket b (stale s l) ≡ bucket b l
disagrees s l b low other = same_uses (bucket b (stale s l)) (bucket b l) (λ u.
    bucket_holds_its_uses b (stale s l) u ∙ elim (nat_eq (bucket_of u) b) as (λ t. nat_eq (bucket_of u) b ≡ t → (holds (stale s l) u && t) ≡ (holds l u && t)) [
      | true ↦ λ e. ap (λ t. t && true) (stale_holds_differing s l u ∙ ap (λ t. holds l u && t) (at_bucket s l b u low (eqb-true (bucket_of u) b e) ∙ ap not other) ∙ and_true (holds l u))
      | false ↦ λ e. and-false (holds (stale s l) u) ∙ sym (and-false (holds l u))
    ] refl ∙ sym (bucket_holds_its_uses b l u))
  where
    and_true : (a : Bool) → (a && true) ≡ a
    and_true true = refl
    and_true false = refl

answer_of_bucket : (s : SummaryData) (uses : Uses) (b : ℕ) → b < 256 → answer_at s uses b ≡ rising (bucket b (stale s (live uses s.moment)))
unfolding answer_at differs_at uses_at
answer_of_bucket s uses b low =
    let l = live uses s.moment in
    let same = is_eq (bytes_cmp (bucket_digest b l) (get_or s.digests b [])) in
    elim same as (λ t. same ≡ t → cond (not t) (rising (bucket b l)) [] ≡ rising (bucket b (stale s l))) [
      | true ↦ λ e. sym (ap rising (agrees s l b low e) ∙ rising_none)
      | false ↦ λ e. sym (ap rising (disagrees s l b low e))
    ] refl

-- the answers of all buckets, one after the other
each_answer : (s : SummaryData) (uses : Uses) (n k : ℕ) → n + k ≤ 256 → flat_map (answer_at s uses) (range_with_len n k) ≡ flat_map rising (map (λ b. bucket b (stale s (live uses s.moment))) (range_with_len n k))
each_answer s uses n zero few = refl
each_answer s uses n (suc k) few = (λ i. answer_of_bucket s uses n (omega (arith, few)) i ++ each_answer s uses (n + 1) k (omega (arith, few)) i)

-- the live uses of an advanced record are those that are live at the moment alone
live_later : (r : State) (moment : ℕ) → IsRecord r → live r.uses (max r.moment moment) ≡ live r.uses moment
live_later r moment is = same_uses (live r.uses (max r.moment moment)) (live r.uses moment) (λ u.
    holds-live r.uses (max r.moment moment) u ∙ elim (holds r.uses u) as (λ t. holds r.uses u ≡ t → (nat_lt (max r.moment moment) u.exp && t) ≡ (nat_lt moment u.exp && t)) [
      | true ↦ λ h. ap (λ t. t && true) (later u (is.each u h).live)
      | false ↦ λ h. and-false (nat_lt (max r.moment moment) u.exp) ∙ sym (and-false (nat_lt moment u.exp))
    ] refl ∙ sym (holds-live r.uses moment u))
  where
    later : (u : Use) → r.moment < u.exp → nat_lt (max r.moment moment) u.exp ≡ nat_lt moment u.exp
    later u low = grind (arith, nat_tests)

raised_uses : (r : State) (moment : ℕ) → IsRecord r → (raised_to r moment).uses ≡ live r.uses moment
raised_uses r moment is = ap (λ (q : State). q.uses) (sym (raised r moment (max r.moment moment) (live r.uses (max r.moment moment)) refl refl)) ∙ live_later r moment is

first_byte : (bytes : List ℕ) → length bytes ≡ 32 → All (λ b. b < 256) bytes → slice_index bytes 0 < 256
first_byte [] long each = absurd (omega (arith, long))
first_byte (b ∷ bytes) long each = each 0 0 (omega arith)

all_uses : (t : Uses) → uses_in (flat_map rising (map (λ b. bucket b t) (range_with_len 0 256))) ≡ all_in (buckets t)
unfolding buckets all_in
all_uses t = refl

pub answers_tell_answer : AnswersTellAnswer
unfolding answer_to
answers_tell_answer r s is =
    let l = live r.uses s.moment in
    let low = λ (u : Use) (h : holds (stale s l) u ≡ true).
    let held = and_both (nat_lt s.moment u.exp) (holds r.uses u) (sym (holds-live r.uses s.moment u) ∙ (and_both (holds l u) (differs s l u) (sym (stale_holds_differing s l u) ∙ h)).0) in
    let key = (is.each u held.1).fields.key in first_byte u.key key.size key.each in
    let left : uses_in (flat_map (answer_at s r.uses) (range_with_len 0 256)) ≡ stale s l = ap uses_in (each_answer s r.uses 0 256 (omega arith)) ∙ all_uses (stale s l) ∙ whole (stale s l) low in
    let right : uses_told (answer_to r s) ≡ stale s l =
    ap uses_in (cut_gives_parts (raised_to r s.moment).moment (rising (stale s (raised_to r s.moment).uses))).whole ∙ uses_in-rising (stale s (raised_to r s.moment).uses) ∙ ap (stale s) (raised_uses r s.moment is) in
    left ∙ sym right

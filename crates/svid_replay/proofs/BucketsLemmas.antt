use Rattle.std.proofs.Common.{◌≡◌, ℕ, ◌<◌, ◌≤◌, ◌+◌, ◌≢◌, ◌==◌, nat_eq, subst, true, false, Bool, List, [], ◌∷◌, map, length, get_or, ap, sym, refl, ◌∙◌, arith, Option, not}
use Rattle.std.specs.List.{AllByRecursion, filter, flat_map, range_with_len}
use Rattle.std.proofs.lemmas.List.{same_lists}
use Rattle.std.proofs.lemmas.List.FromFn.{get_or-map-range_with_len, length-map-range_with_len}
use Rattle.std.proofs.lemmas.Cmp.{nat_list_cmp_total, tied_itself}
use Rattle.std.specs.Ordering.{is_eq}
use Rattle.sha2.specs.Sha256.{sha256}
use Rattle.sha2.specs.declared.Sha256.{Sha256}
use Rattle.std.proofs.Math.ListN.{set}
use Rattle.std.proofs.lemmas.Bool.{eqb-true, eqb-false}
use Rattle.std.proofs.lemmas.List.{get_or-set_same, get_or-set_other, length-set}
use Rattle.svid_replay.specs.declared.token_use.Use.{Use}
use Rattle.svid_replay.specs.Buckets.{answer_to, bucket_of, bucket_digest, differ_at, differs, digests_of, raised_to, stale, summary_of, BucketHoldsItsUses, StaleHoldsDiffering, RaisedIsRecord, AnswerIsBatches, OwnSummaryAsksNothing}
use Rattle.svid_replay.specs.Hashers.{HoldBuckets, HoldsText, digests_in, text_in}
use Rattle.svid_replay.specs.Parts.{cut}
use Rattle.svid_replay.specs.Records.{State, IsHeldAt, IsRecord, state_of}
use Rattle.svid_replay.specs.Sets.{holds, keep, rising}
use Rattle.svid_replay.specs.Summary.{SummaryData}
use Rattle.svid_replay.specs.Use.{text_of}
use Rattle.svid_replay.specs.Uses.{Uses}
use Rattle.svid_replay.proofs.ListLemmas.{each_true, none_same}
use Rattle.svid_replay.proofs.PartsLemmas.{cut_few, each_held, parts_are_batches}
use Rattle.svid_replay.proofs.RecordsLemmas.{join_closed, kept_is_record, nothing_held, raised_to_own}
use Rattle.svid_replay.proofs.SetsLemmas.{holds-keep}
use Rattle.svid_replay.proofs.TestsLemmas.{and-comm}
use Rattle.svid_replay.proofs.UseLemmas.{use_exact, use_total}
use Rattle.svid_replay.proofs.UsesLemmas.{rising-keep}

-- the digests of all buckets
pub digests_are : (digests : List (List ℕ)) (us : List Use) → length digests ≡ 256 → ((b : ℕ) (d : List ℕ) → b < 256 → get_or digests b d ≡ sha256 (text_in b us)) → digests ≡ digests_in us
unfolding digests_in
digests_are digests us full each = same_lists digests _ (full ∙ sym (length-map-range_with_len (λ b. sha256 (text_in b us)) 0 256)) (λ b d within. let below : b < 256 = omega (arith, full) in each b d below ∙ sym (get_or-map-range_with_len (λ c. sha256 (text_in c us)) 0 256 b b d below (omega arith)))

-- the first of the slots are finished, and the others hold what they held
pub record AreFinished (us : List Use) (slots : List (Option Sha256)) (digests : List (List ℕ)) (count : ℕ) : Type 0 where
  pub full : length slots ≡ 256
  pub long : length digests ≡ 256
  pub done : (b : ℕ) (d : List ℕ) → b < count → get_or digests b d ≡ sha256 (text_in b us)
  pub left : (b : ℕ) (d : Option Sha256) → count ≤ b → b < 256 → HoldsText (get_or slots b d) (text_in b us)

pub finished_none : (us : List Use) (slots : List (Option Sha256)) (digests : List (List ℕ)) → HoldBuckets slots us → length digests ≡ 256 → AreFinished us slots digests 0
finished_none us slots digests held long = record {
  full = held.full;
  long = long;
  done = λ b d below. absurd (omega (arith, below));
  left = λ b d above within. held.each b d within;
}

pub finished_more : (us : List Use) (slots : List (Option Sha256)) (digests : List (List ℕ)) (n : ℕ) (slot : Option Sha256) (digest : List ℕ) → AreFinished us slots digests n → n < 256 → digest ≡ sha256 (text_in n us) → AreFinished us (set slots n slot) (set digests n digest) (n + 1)
finished_more us slots digests n slot digest so_far within is = record {
  full = length-set slots n slot ∙ so_far.full;
  long = length-set digests n digest ∙ so_far.long;
  done = λ b d below. at_or_below b d below (nat_eq b n) refl;
  left = λ b d above fits.
      let other : b ≢ n = omega arith in
      subst (λ h. HoldsText h (text_in b us)) (sym (get_or-set_other slots n b slot d other)) (so_far.left b d (omega arith) fits);
}
  where
    at_or_below : (b : ℕ) (d : List ℕ) → b < n + 1 → (same : Bool) → nat_eq b n ≡ same → get_or (set digests n digest) b d ≡ sha256 (text_in b us)
    at_or_below b d below true e =
        let here : b ≡ n = eqb-true b n e in
        let inside : n < length digests = omega (arith, so_far.long) in
        subst (λ k. get_or (set digests n digest) k d ≡ sha256 (text_in k us)) (sym here) (get_or-set_same digests n digest d inside ∙ is)
    at_or_below b d below false e =
        let other : b ≢ n = eqb-false b n e in
        get_or-set_other digests n b digest d other ∙ so_far.done b d (omega (arith, other))

pub digest_at : (uses : Uses) (b : ℕ) (d : List ℕ) → b < 256 → get_or (digests_of uses) b d ≡ bucket_digest b uses
unfolding digests_of
digest_at uses b d within = get_or-map-range_with_len (λ c. bucket_digest c uses) 0 256 b b d within (omega arith)

pub digests_in-rising : (uses : Uses) → digests_in (rising uses) ≡ digests_of uses
unfolding digests_in digests_of bucket_digest
digests_in-rising uses = same_map_all (λ b. sha256 (text_in b (rising uses))) (λ b. bucket_digest b uses) (range_with_len 0 256) (λ b. ap (λ us. sha256 (flat_map text_of us)) (sym (rising-keep (λ u. bucket_of u == b) uses)))
  where
    same_map_all : (f g : ℕ → List ℕ) (ns : List ℕ) → ((n : ℕ) → f n ≡ g n) → map f ns ≡ map g ns
    same_map_all f g [] h = refl
    same_map_all f g (n ∷ ns) h = ap (λ d. d ∷ map f ns) (h n) ∙ ap (λ ds. g n ∷ ds) (same_map_all f g ns h)

-- the stale uses of a set
rising-stale : (summary : SummaryData) (s : Uses) → rising (stale summary s) ≡ filter (differs summary s) (rising s)
unfolding stale
rising-stale summary s = rising-keep (differs summary s) s

pub kept_stale : (summary : SummaryData) (digests : List (List ℕ)) (s : Uses) (us : List Use) → digests ≡ digests_of s → us ≡ rising s → filter (differ_at digests summary.digests) us ≡ rising (stale summary s)
kept_stale summary digests s us are all = (λ i. filter (differ_at (are i) summary.digests) (all i)) ∙ sym (rising-stale summary s)

-- answers
pub stale_is_held : (s : SummaryData) (r : State) → IsRecord r → AllByRecursion (IsHeldAt r.moment) (rising (stale s r.uses))
unfolding stale
stale_is_held s r is = each_held (record { moment = r.moment; uses = keep (differs s r.uses) r.uses }) (kept_is_record (differs s r.uses) r is)

pub answered : (old r : State) (s : SummaryData) (us : List Use) → r ≡ raised_to old s.moment → us ≡ rising (stale s r.uses) → cut r.moment us ≡ answer_to old s
unfolding answer_to
answered old r s us raised are = ap (cut r.moment) are ∙ ap (λ (q : State). cut q.moment (rising (stale s q.uses))) raised

-- the laws of buckets and answers
pub bucket_holds_its_uses : BucketHoldsItsUses
bucket_holds_its_uses b s u = holds-keep use_total use_exact (λ v. bucket_of v == b) s u ∙ and-comm (bucket_of u == b) (holds s u)

pub stale_holds_differing : StaleHoldsDiffering
unfolding stale
stale_holds_differing summary s u = holds-keep use_total use_exact (differs summary s) s u ∙ and-comm (differs summary s u) (holds s u)

pub raised_to_is_record : RaisedIsRecord
raised_to_is_record r moment is fits = join_closed r (state_of moment []) is (nothing_held moment fits)

pub answer_is_batches : AnswerIsBatches
unfolding answer_to stale
answer_is_batches r s is fits =
    let raised = raised_to r s.moment in
    parts_are_batches (record { moment = raised.moment; uses = keep (differs s raised.uses) raised.uses }) (kept_is_record (differs s raised.uses) raised (raised_to_is_record r s.moment is fits))

-- the digests of a use's bucket agree in a record and its own summary
own_agrees : (r : State) (u : Use) → differs (summary_of r) r.uses u ≡ false
unfolding summary_of
own_agrees r u = ap (λ o. not (is_eq o)) (tied_itself nat_list_cmp_total (get_or (digests_of r.uses) (bucket_of u) []))

own_moment : (r : State) → IsRecord r → r ≡ raised_to r (summary_of r).moment
unfolding summary_of
own_moment r is = sym (raised_to_own r is)

pub own_summary_asks_nothing : OwnSummaryAsksNothing
own_summary_asks_nothing r is =
    let none : rising (stale (summary_of r) r.uses) ≡ [] =
    rising-stale (summary_of r) r.uses ∙ none_same (differs (summary_of r) r.uses) (rising r.uses) (each_true _ (own_agrees r) (rising r.uses)) in
    sym (answered r r (summary_of r) [] (own_moment r is) (sym none)) ∙ cut_few r.moment [] (omega arith)

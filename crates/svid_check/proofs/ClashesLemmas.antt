-- Where no bucket of two sets clashes, digests tell uses; and what the parts of an answer hold.
use Rattle.std.proofs.Common.{◌≡◌, ◌≢◌, ℕ, zero, suc, ◌<◌, ◌≤◌, Bool, true, false, not, ◌&&◌, List, [], ◌∷◌, ◌++◌, length, length-append, refl, sym, ◌∙◌, ap, subst, inl, inr, ◌⊎◌, arith, IsTrue}
use Rattle.std.specs.Prelude.{◌==◌, slice_index_or}
use Rattle.std.specs.FinMap.{nat_cmp-IsAntisymmetric, slice_cmp-IsAntisymmetric}
use Rattle.std.specs.List.{AllByRecursion, flat_map, list_any}
use Rattle.std.specs.Ordering.{eq_by_cmp, is_eq}
use Rattle.std.proofs.lemmas.Bool.{and_from, and_parts, cases_Bool, cases_lt, eq-eqb, false≢true, not-false, not-true, not_from_false, or_left, or_right}
use Rattle.std.proofs.lemmas.Cmp.{nat_list_cmp_total, tied_itself}
use Rattle.std.proofs.lemmas.List.Elements.{All-get_or}
use Rattle.svid_replay.specs.declared.token_use.Use.{Use}
use Rattle.svid_replay.specs.Buckets.{bucket, bucket_digest, bucket_of, bucket_text, differs, digests_of, stale, summary_of}
use Rattle.svid_replay.specs.Records.{State}
use Rattle.svid_replay.specs.Sets.{holds, rising}
use Rattle.svid_replay.specs.Summary.{SummaryData}
use Rattle.svid_replay.specs.Use.{IsUse, bytes_cmp, text_of, use_cmp}
use Rattle.svid_replay.specs.Uses.{Uses, uses_in}
use Rattle.svid_replay.proofs.BucketsLemmas.{bucket_holds_its_uses, digest_at, stale_holds_differing}
use Rattle.svid_replay.proofs.SetsLemmas.{holds-rising}
use Rattle.svid_replay.proofs.TestsLemmas.{equal}
use Rattle.svid_replay.proofs.UseLemmas.{order_is_text_order, use_exact, use_total}
use Rattle.svid_replay.proofs.UsesLemmas.{uses_in-rising}
use Rattle.svid_wire.specs.declared.version.Version.TheVariants.{Two}
use Rattle.svid_wire.proofs.FirstMessage.{length-use_text}
use Rattle.svid_check.specs.Headline.{IsClash}

-- A use is known by its text, and a list of uses by its texts.

head_and_tail : (a b : ℕ) (x y : List ℕ) → a ∷ x ≡ b ∷ y → (a ≡ b) × (x ≡ y)
head_and_tail a b x y e = (cc, cc)

-- equal rows that begin with parts of one length have the same parts and the same rests
same_parts : (a b x y : List ℕ) → length a ≡ length b → a ++ x ≡ b ++ y → (a ≡ b) × (x ≡ y)
same_parts [] [] x y long e = (refl, e)
same_parts [] (c ∷ b) x y long e = absurd (omega arith)
same_parts (c ∷ a) [] x y long e = absurd (omega arith)
same_parts (c ∷ a) (d ∷ b) x y long e =
    let split = head_and_tail c d (a ++ x) (b ++ y) e in
    let rest = same_parts a b x y (omega arith) split.1 in
    ((λ i. split.0 i ∷ rest.0 i), rest.1)

same_use : (u w : Use) → IsUse u → IsUse w → text_of u ≡ text_of w → u ≡ w
same_use u w f g e = use_exact u w (order_is_text_order u w f g ∙ ap (bytes_cmp (text_of u)) (sym e) ∙ tied_itself nat_list_cmp_total (text_of u))

no_text : (u : Use) (us : List Use) → IsUse u → [] ≡ text_of u ++ flat_map text_of us → ⊥
no_text u us f e = omega (arith, ap length e, length-append (text_of u) (flat_map text_of us), length-use_text Two u f)

same_uses : (us ws : List Use) → AllByRecursion IsUse us → AllByRecursion IsUse ws → flat_map text_of us ≡ flat_map text_of ws → us ≡ ws
same_uses [] [] f g e = refl
same_uses [] (w ∷ ws) f g e = absurd (no_text w ws g.0 e)
same_uses (u ∷ us) [] f g e = absurd (no_text u us f.0 (sym e))
same_uses (u ∷ us) (w ∷ ws) f g e =
    let split = same_parts (text_of u) (text_of w) (flat_map text_of us) (flat_map text_of ws) (length-use_text Two u f.0 ∙ sym (length-use_text Two w g.0)) e in
    let head = same_use u w f.0 g.0 split.0 in
    let tail = same_uses us ws f.1 g.1 split.1 in
    λ i. head i ∷ tail i

each_listed : (us : List Use) → ((u : Use) → list_any (eq_by_cmp use_cmp u) us ≡ true → IsUse u) → AllByRecursion IsUse us
each_listed [] h = tt
each_listed (x ∷ us) h = (
  h x (or_left (eq_by_cmp use_cmp x x) (list_any (eq_by_cmp use_cmp x) us) (ap is_eq (tied_itself use_total x))),
  each_listed us (λ u k. h u (or_right (eq_by_cmp use_cmp u x) (list_any (eq_by_cmp use_cmp u) us) k)),
)

-- the uses of a set are in range
abbrev pub AreUses : Uses → Type 0
AreUses s = (u : Use) → IsTrue (holds s u) → IsUse u

bucket_fits : (b : ℕ) (s : Uses) → AreUses s → AllByRecursion IsUse (rising (bucket b s))
bucket_fits b s fits = each_listed (rising (bucket b s)) (λ u listed. fits u (and_parts (holds s u) (bucket_of u == b) (sym (bucket_holds_its_uses b s u) ∙ (holds-rising use_cmp (bucket b s) u ∙ listed))).0)

-- where a bucket has one text in two sets, its uses in the one are in the other
pub same_bucket : (a t : Uses) (u : Use) → AreUses a → AreUses t → bucket_text (bucket_of u) a ≡ bucket_text (bucket_of u) t → IsTrue (holds t u) → IsTrue (holds a u)
same_bucket a t u fa ft e held =
    let b = bucket_of u in
    let lists : rising (bucket b a) ≡ rising (bucket b t) = same_uses (rising (bucket b a)) (rising (bucket b t)) (bucket_fits b a fa) (bucket_fits b t ft) e in
    let theirs : holds (bucket b t) u ≡ true = bucket_holds_its_uses b t u ∙ and_from (holds t u) (bucket_of u == b) held (eq-eqb (bucket_of u) b refl) in
    let mine : holds (bucket b a) u ≡ true = holds-rising use_cmp (bucket b a) u ∙ (ap (list_any (eq_by_cmp use_cmp u)) lists ∙ (sym (holds-rising use_cmp (bucket b t) u) ∙ theirs)) in
    (and_parts (holds a u) (bucket_of u == b) (sym (bucket_holds_its_uses b a u) ∙ mine)).0

-- the number of a bucket
pub bucket_below : (u : Use) → IsUse u → bucket_of u < 256
bucket_below u fields = All-get_or (λ n. n < 256) u.key 0 0 (omega (arith, fields.key.size)) fields.key.each

-- A search for a clash.

abbrev pub is_same : List ℕ → List ℕ → Bool
is_same a b = is_eq (bytes_cmp a b)

pub same_bytes : (a b : List ℕ) → is_same a b ≡ true → a ≡ b
same_bytes a b h = slice_cmp-IsAntisymmetric nat_cmp-IsAntisymmetric a b (equal (bytes_cmp a b) h)

tied_bytes : (a b : List ℕ) → a ≡ b → is_same a b ≡ true
tied_bytes a b e = subst (λ (x : List ℕ). is_same a x ≡ true) e (ap is_eq (tied_itself nat_list_cmp_total a))

pub other_bytes : (a b : List ℕ) → is_same a b ≡ false → a ≢ b
other_bytes a b h e = false≢true (sym h ∙ tied_bytes a b e)

last_is : (n b : ℕ) → b < suc n → n ≤ b → n ≡ b
last_is n b h ge = omega arith

below_or_last : (f : ℕ → Bool) (n : ℕ) → f n ≡ false → ((b : ℕ) → b < n → f b ≡ false) → (b : ℕ) → b < suc n → f b ≡ false
below_or_last f n last none b h = elim (cases_lt b n) [ inl lt ↦ none b lt | inr ge ↦ subst (λ x. f x ≡ false) (last_is n b h ge) last ]

-- some number below n passes a test, or none does
some_below : (f : ℕ → Bool) (n : ℕ) → ((b : ℕ) × (b < n) × (f b ≡ true)) ⊎ ((b : ℕ) → b < n → f b ≡ false)
some_below f zero = inr (λ b h. absurd (omega arith))
some_below f (suc n) =
    elim (cases_Bool (f n)) [
      | inl t ↦ inl (n, omega arith, t)
      | inr t ↦ elim (some_below f n) [
        | inl k ↦ inl (k.0, omega (arith, k.1), k.2)
        | inr none ↦ inr (λ b h. below_or_last f n t none b h)
      ]
    ]

-- a bucket has two texts of one digest
abbrev clashes : Uses → Uses → ℕ → Bool
clashes s t b = not (is_same (bucket_text b s) (bucket_text b t)) && is_same (bucket_digest b s) (bucket_digest b t)

is_clash : (s t : Uses) (b : ℕ) → b < 256 → clashes s t b ≡ true → IsClash s t
is_clash s t b below h =
    let both = and_parts (not (is_same (bucket_text b s) (bucket_text b t))) (is_same (bucket_digest b s) (bucket_digest b t)) h in
    record {
      number = b;
      is_bucket = below;
      texts = other_bytes (bucket_text b s) (bucket_text b t) (not-true (is_same (bucket_text b s) (bucket_text b t)) both.0);
      digests = same_bytes (bucket_digest b s) (bucket_digest b t) both.1;
    }

-- a summary's digest of a bucket
summary_digest : (a : State) (b : ℕ) → b < 256 → slice_index_or (summary_of a).digests b [] ≡ bucket_digest b a.uses
unfolding summary_of
summary_digest a b below = digest_at a.uses b [] below

-- where no bucket clashes, one that does not differ has one text
one_text : (a : State) (t : Uses) (u : Use) → bucket_of u < 256 → clashes a.uses t (bucket_of u) ≡ false → differs (summary_of a) t u ≡ false → bucket_text (bucket_of u) a.uses ≡ bucket_text (bucket_of u) t
one_text a t u below none same =
    let b = bucket_of u in
    let mine = bucket_text b a.uses in
    let theirs = bucket_text b t in
    let own = slice_index_or (digests_of t) b [] in
    let said : own ≡ slice_index_or (summary_of a).digests b [] = same_bytes own (slice_index_or (summary_of a).digests b []) (not-false (is_same own (slice_index_or (summary_of a).digests b [])) same) in
    let digests : bucket_digest b a.uses ≡ bucket_digest b t = sym (sym (digest_at t b [] below) ∙ said ∙ summary_digest a b below) in
    elim (cases_Bool (is_same mine theirs)) [
      | inl k ↦ same_bytes mine theirs k
      | inr k ↦ absurd (false≢true (sym none ∙ and_from (not (is_same mine theirs)) (is_same (bucket_digest b a.uses) (bucket_digest b t)) (not_from_false (is_same mine theirs) k) (tied_bytes (bucket_digest b a.uses) (bucket_digest b t) digests)))
    ]

-- two sets clash, or each use of the one whose bucket does not differ from the other's summary is in the other
pub unless_clash : (a : State) (t : Uses) → ((u : Use) → IsTrue (holds a.uses u) → IsUse u) → ((u : Use) → IsTrue (holds t u) → IsUse u)
    → IsClash a.uses t ⊎ ((u : Use) → IsTrue (holds t u) → differs (summary_of a) t u ≡ false → IsTrue (holds a.uses u))
unless_clash a t fa ft =
    elim (some_below (clashes a.uses t) 256) [
      | inl c ↦ inl (is_clash a.uses t c.0 c.1 c.2)
      | inr none ↦ inr (λ u held same. let below = bucket_below u (ft u held) in same_bucket a.uses t u fa ft (one_text a t u below (none (bucket_of u) below) same) held)
    ]

-- the uses that an answer is of: those whose bucket differs
pub stale_in : (s : SummaryData) (uses : Uses) (u : Use) → holds (uses_in (rising (stale s uses))) u ≡ (holds uses u && differs s uses u)
stale_in s uses u = ap (λ (t : Uses). holds t u) (uses_in-rising (stale s uses)) ∙ stale_holds_differing s uses u

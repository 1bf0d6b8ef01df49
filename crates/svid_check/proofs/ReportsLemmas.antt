-- What a validator's record reports, if the record is what was learned.
use Rattle.std.proofs.Common.{◌≡◌, ◌≢◌, ◌↔◌, ◌<◌, ℕ, nat_lt, Bool, not, List, [], ◌∷◌, map, Contains, IsTrue, true, false, ◌&&◌, refl, sym, ap, ◌∙◌, subst, inl, inr}
use Rattle.std.specs.FinMap.{nat_cmp-IsAntisymmetric, slice_cmp-IsAntisymmetric}
use Rattle.std.specs.Ordering.{is_eq}
use Rattle.std.proofs.lemmas.Bool.{and_parts, lt-ltb, ltb-true, not-true}
use Rattle.std.proofs.lemmas.Cmp.{nat_list_cmp_total, tied_itself}
use Rattle.std.proofs.lemmas.List.Elements.{All-contains}
use Rattle.std.proofs.lemmas.List.Kept.{IsStrictlySortedBy-filter}
use Rattle.svid_replay.specs.declared.token_use.Use.{Use}
use Rattle.svid_replay.specs.declared.twice.Twice.{Twice}
use Rattle.svid_replay.specs.Records.{State}
use Rattle.svid_replay.specs.Sets.{holds, rising}
use Rattle.svid_replay.specs.Twice.{IsTwice, has_key, used, uses_of}
use Rattle.svid_replay.specs.Use.{bytes_cmp, use_cmp}
use Rattle.svid_replay.proofs.ListLemmas.{has_cases, has_first, has_later, has_none, in_kept, kept_in}
use Rattle.svid_replay.proofs.SetsLemmas.{rising_rises}
use Rattle.svid_replay.proofs.TestsLemmas.{equal}
use Rattle.svid_replay.proofs.TwiceLemmas.{is_twice}
use Rattle.svid_replay.proofs.UsesLemmas.{holds-live, rising_has_held}
use Rattle.svid_check.specs.Headline.{IsLiveUse, IsUsedTwice, RecordsAreTold, ReportedWereAcceptedTwice, ReportsAreExact, ReportsAreWhole, TwoValidatorsAreReported, member_after, report_of}
use Rattle.svid_check.specs.Told.{record_of}
use Rattle.svid_check.specs.World.{Member}
use Rattle.svid_check.proofs.EachToldLemmas.{told_were_accepted}
use Rattle.svid_check.proofs.LawfulLemmas.{is_used, of_its_input}

-- a use is no withdrawal
abbrev is_use : Use → Bool
is_use u = not u.withdrawn

-- the test of a key
own_key : (key : List ℕ) (u : Use) → u.key ≡ key → has_key key u ≡ true
own_key key u e = ap (λ k. is_eq (bytes_cmp key k)) e ∙ ap is_eq (tied_itself nat_list_cmp_total key)

key_is : (key : List ℕ) (u : Use) → has_key key u ≡ true → u.key ≡ key
key_is key u e = sym (slice_cmp-IsAntisymmetric nat_cmp-IsAntisymmetric key u.key (equal (bytes_cmp key u.key) e))

-- a key that is listed is listed with its uses
listed_with : (ts : List Twice) (key : List ℕ) → Contains (map (λ t. t.key) ts) key → (listed : Twice) × Contains ts listed × (listed.key ≡ key)
listed_with [] key has = has_none key has
listed_with (t ∷ ts) key has = elim (has_cases t.key (map (λ (r : Twice). r.key) ts) key has) [
  | inl same ↦ (t, has_first t ts, same)
  | inr later ↦ let found = listed_with ts key later in (found.0, has_later t ts found.0 found.1, found.2)
]

module _ (x : Member) (told : x.held ≡ record_of x.told) where
  abbrev us : List Use
  us = used (rising x.held.uses)

  held_live : (key : List ℕ) (u : Use) → Contains us u → u.key ≡ key → IsLiveUse x.told key u
  held_live key u has same =
      let kept = kept_in is_use (rising x.held.uses) u has in
      let held = (rising_has_held x.held.uses u).1 kept.0 in
      let parts = and_parts (nat_lt x.told.greatest u.exp) (holds x.told.uses u) (sym (holds-live x.told.uses x.told.greatest u) ∙ (sym (ap (λ (a : State). holds a.uses u) told) ∙ held)) in
      (parts.1, ltb-true x.told.greatest u.exp parts.0, same, not-true u.withdrawn kept.1)

  live_held : (key : List ℕ) (u : Use) → IsLiveUse x.told key u → Contains us u
  live_held key u is =
      in_kept is_use (rising x.held.uses) u ((rising_has_held x.held.uses u).0
      (ap (λ (a : State). holds a.uses u) told ∙ (holds-live x.told.uses x.told.greatest u ∙ (ap (λ b. b && holds x.told.uses u) (lt-ltb x.told.greatest u.exp is.1) ∙ is.0)))) (ap not is.3)

  listing : IsTwice us (report_of x)
  listing = is_twice us (IsStrictlySortedBy-filter use_cmp is_use (rising x.held.uses) (rising_rises use_cmp x.held.uses))

  report_is_exact : (key : List ℕ) → Contains (map (λ t. t.key) (report_of x)) key ↔ IsUsedTwice x.told key
  report_is_exact key = (
    λ has.
        let two = (listing.exactly key).0 has in
        record { one = two.one; other = two.other; differ = two.differ; first = held_live key two.one two.one_in two.one_key; second = held_live key two.other two.other_in two.other_key },
    λ two. (listing.exactly key).1 (record {
      one = two.one;
      other = two.other;
      differ = two.differ;
      one_in = live_held key two.one two.first;
      other_in = live_held key two.other two.second;
      one_key = two.first.2;
      other_key = two.second.2;
    }),
  )

  report_is_whole : (t : Twice) (u : Use) → Contains (report_of x) t → Contains t.uses u ↔ IsLiveUse x.told t.key u
  report_is_whole t u listed =
      let all : t.uses ≡ uses_of t.key us = All-contains (λ (r : Twice). r.uses ≡ uses_of r.key us) (report_of x) t listing.whole listed in (
        λ has. let kept = kept_in (has_key t.key) us u (subst (λ vs. Contains vs u) all has) in held_live t.key u kept.0 (key_is t.key u kept.1),
        λ is. subst (λ vs. Contains vs u) (sym all) (in_kept (has_key t.key) us u (live_held t.key u is) (own_key t.key u is.2)),
      )

  two_are_reported : (a b : Use) → a ≢ b → a.withdrawn ≡ false → b.withdrawn ≡ false → a.key ≡ b.key → a.exp ≡ b.exp → IsTrue (holds x.told.uses a) → IsTrue (holds x.told.uses b) → x.told.greatest < a.exp
      → (listed : Twice) × Contains (report_of x) listed × (listed.key ≡ a.key) × Contains listed.uses a × Contains listed.uses b
  two_are_reported a b differ used_a used_b key exp told_a told_b later =
      let one : IsLiveUse x.told a.key a = (told_a, later, refl, used_a) in
      let other : IsLiveUse x.told a.key b = (told_b, subst (λ n. x.told.greatest < n) exp later, sym key, used_b) in
      let found = listed_with (report_of x) a.key ((report_is_exact a.key).1 (record { one = a; other = b; differ = differ; first = one; second = other })) in (
        found.0,
        found.1,
        found.2,
        (report_is_whole found.0 a found.1).1 (subst (λ k. IsLiveUse x.told k a) (sym found.2) one),
        (report_is_whole found.0 b found.1).1 (subst (λ k. IsLiveUse x.told k b) (sym found.2) other),
      )

-- if all records are what was learned
module _ (records : RecordsAreTold) where
  pub reports_are_exact : ReportsAreExact
  reports_are_exact group events v key = report_is_exact (member_after group events v) (records group events v) key

  pub reports_are_whole : ReportsAreWhole
  reports_are_whole group events v t u listed = report_is_whole (member_after group events v) (records group events v) t u listed

  pub two_validators_are_reported : TwoValidatorsAreReported
  two_validators_are_reported group events v s other moment later uses others token again a b accepts accepts_also input ids told_a told_b live_at =
      let same = of_its_input s other moment later uses others token again a b accepts accepts_also input in
      two_are_reported (member_after group events v) (records group events v) a b (λ e. ids (ap (λ (u : Use). u.validator_id) e)) (is_used s moment uses token a accepts) (is_used other later others again b accepts_also) same.0 same.1 told_a told_b live_at

  pub reported_were_accepted_twice : ReportedWereAcceptedTwice
  reported_were_accepted_twice group events v key listed =
      let two = (report_is_exact (member_after group events v) (records group events v) key).0 listed in
      (two.one, two.other, two.differ, two.first.2, two.second.2, told_were_accepted group events v two.one two.first.0 two.first.3, told_were_accepted group events v two.other two.second.0 two.second.3)

-- Of one key one request has the claim, and none waits in vain.
use Rattle.std.proofs.Common.{◌≡◌, ◌≤◌, inl, inr, ℕ, Bool, true, false, cond, ◌&&◌, not, List, [], ◌∷◌, refl, sym, ap, ◌∙◌, subst, Option, Some, None, is_some}
use Rattle.std.specs.Option.{option_map}
use Rattle.std.specs.Ordering.{is_eq}
use Rattle.std.specs.Cmp.{IsEquivalence}
use Rattle.std.proofs.lemmas.Bool.{false≢true}
use Rattle.std.proofs.lemmas.Cmp.{eq_by_cmp_equiv, nat_cmp_total, tied_itself}
use Rattle.svid_replay.specs.declared.token_use.Use.{Use}
use Rattle.svid_requests.specs.declared.needs.Needs.{Needs}
use Rattle.svid_requests.specs.declared.verdict.Verdict.{Verdict}
use Rattle.svid_requests.specs.declared.request.Request.{Request}
use Rattle.svid_requests.specs.declared.event.Event.{Event}
use Rattle.svid_requests.specs.declared.stage.Stage.{Stage}
use Rattle.svid_requests.specs.declared.stage.Stage.TheVariants.{Judging, Writing, Claiming, Behind, Again}
use Rattle.svid_requests.specs.declared.plan.Plan.{Plan}
use Rattle.svid_requests.specs.declared.plan.Plan.TheVariants.{Stay, Go, Part}
use Rattle.svid_requests.specs.declared.deed.Deed.TheVariants.{Answer}
use Rattle.svid_requests.specs.declared.waiter.Waiter.{Waiter}
use Rattle.svid_requests.specs.Lines.{first_of}
use Rattle.svid_requests.specs.Plans.{plan}
use Rattle.svid_requests.specs.Tables.{State, Table, at_moment, at_stage, deadline, deed_at, deed_by, deed_of, find, followed, gone, granted, hand_to, has_number, held_by, holder, joined, left_at, left_by, let_in, next_after, subject, turned, without}
use Rattle.svid_requests.specs.History as histories
use Rattle.svid_requests.specs.History.{Call, World, at_state, fresh, history}
use Rattle.svid_requests.specs.History.Call.{Come, Hear}
use Rattle.svid_requests.specs.Promises as promises
use Rattle.svid_requests.specs.Promises.{has_claim, is_again, stands_behind}
use Rattle.svid_requests.proofs.EntriesLemmas.{any_inserted, any_removed, each_entry, each_key, lookup_inserted, lookup_removed, lookup_set}
use Rattle.svid_requests.proofs.LinesLemmas.{alike, alike_is, first_in_line, first_stands, none_stands, stands, waiters_alike}
use Rattle.svid_requests.proofs.PlansLemmas.{Why, WhyGo, granted_why}
use Rattle.svid_requests.proofs.SoundLemmas.{next_is_new, sound}
use Rattle.svid_requests.proofs.TablesLemmas.{InOrder, NumbersRise, find_gone, find_handed, find_let_in, find_without, key_cmp_total, one, one_is, one_itself, subject_is, waiter_cmp_total}

-- the request of a number is so far
abbrev far : (Stage → Bool) → ℕ → Table → Bool
far test q t = promises.stage_is test (find q t.requests)

-- it is the one that holds a claim
abbrev holds : ℕ → Option ℕ → Bool
holds q None = false
holds q (Some m) = one m q

-- The table names who has each claim, and who stands in each line, and a line stands behind a claim.
pub record Claims (t : Table) : Type 0 where
  pub held : (key : List ℕ) (q : ℕ) → holds q (holder key t.holders) ≡ far (has_claim key) q t
  pub lined : (key : List ℕ) (q : ℕ) → stands key q t.lines ≡ far (stands_behind key) q t
  pub served : (key : List ℕ) (q : ℕ) → far (stands_behind key) q t ≡ true → is_some (holder key t.holders) ≡ true

-- Keys and numbers.

alike_flip : (j k : List ℕ) → alike j k ≡ alike k j
alike_flip j k = IsEquivalence.symm (eq_by_cmp_equiv key_cmp_total) j k

one_flip : (n q : ℕ) → one q n ≡ one n q
one_flip n q = IsEquivalence.symm (eq_by_cmp_equiv nat_cmp_total) q n

alike_itself : (k : List ℕ) → alike k k ≡ true
alike_itself k = ap is_eq (tied_itself key_cmp_total k)

holds_is : (q : ℕ) (o : Option ℕ) → holds q o ≡ true → o ≡ Some q
holds_is q None is = absurd (false≢true is)
holds_is q (Some m) is = ap Some (one_is m q is)

-- How far requests are after a step.

at_cond : (test : Stage → Bool) (b : Bool) (x y : Option Request) → promises.stage_is test (cond b x y) ≡ cond b (promises.stage_is test x) (promises.stage_is test y)
at_cond test true x y = refl
at_cond test false x y = refl

far_at : (test : Stage → Bool) (n q : ℕ) (r : Request) (t : Table) → find n t.requests ≡ Some r → one n q ≡ true → far test q t ≡ test r.stage
far_at test n q r t is same = ap (promises.stage_is test) (ap (λ k. find k t.requests) (sym (one_is n q same)) ∙ is)

far_gone : (test : Stage → Bool) (n : ℕ) (r : Request) (g : Stage) (t : Table) (q : ℕ) → find n t.requests ≡ Some r → far test q (gone n r g t) ≡ cond (one n q) (test g) (far test q t)
far_gone test n r g t q is = ap (promises.stage_is test) (find_gone n r g t q is) ∙ at_cond test (one n q) (Some (at_stage g r)) (find q t.requests)

far_without : (test : Stage → Bool) (n : ℕ) (t : Table) (q : ℕ) → NumbersRise t → far test q (without n t) ≡ cond (one n q) false (far test q t)
far_without test n t q up = ap (promises.stage_is test) (find_without n t q up) ∙ at_cond test (one n q) None (find q t.requests)

-- nothing changes where the request of a number was as far
kept : (test : Stage → Bool) (n q : ℕ) (r : Request) (t : Table) (x b : Bool) → find n t.requests ≡ Some r → one n q ≡ b → x ≡ test r.stage → cond b x (far test q t) ≡ far test q t
kept test n q r t x true is same at = at ∙ sym (far_at test n q r t is same)
kept test n q r t x false is apart at = refl

claims_same : (t x : Table) → x.holders ≡ t.holders → x.lines ≡ t.lines → ((key : List ℕ) (q : ℕ) → far (has_claim key) q x ≡ far (has_claim key) q t) → ((key : List ℕ) (q : ℕ) → far (stands_behind key) q x ≡ far (stands_behind key) q t) → Claims t → Claims x
claims_same t x holders lines claim behind h = record {
  held = λ key q. ap (λ hs. holds q (holder key hs)) holders ∙ h.held key q ∙ sym (claim key q);
  lined = λ key q. ap (stands key q) lines ∙ h.lined key q ∙ sym (behind key q);
  served = λ key q is. ap (λ hs. is_some (holder key hs)) holders ∙ h.served key q (sym (behind key q) ∙ is);
}

-- A request goes on.

-- from one stage to another that has the same claim, and stands behind the same
gone_same : (n : ℕ) (r : Request) (g : Stage) (t : Table) → find n t.requests ≡ Some r → (joined n r.stage g t).holders ≡ t.holders → (joined n r.stage g t).lines ≡ t.lines
    → ((key : List ℕ) → has_claim key g ≡ has_claim key r.stage) → ((key : List ℕ) → stands_behind key g ≡ stands_behind key r.stage) → Claims t → Claims (gone n r g t)
gone_same n r g t is holders lines claim behind h =
    claims_same t (gone n r g t) holders lines
    (λ key q. far_gone (has_claim key) n r g t q is ∙ kept (has_claim key) n q r t (has_claim key g) (one n q) is refl (claim key))
    (λ key q. far_gone (stands_behind key) n r g t q is ∙ kept (stands_behind key) n q r t (stands_behind key g) (one n q) is refl (behind key)) h

-- to a claim that nobody has
gone_claiming : (n : ℕ) (r : Request) (u : Use) (t : Table) → find n t.requests ≡ Some r → r.stage ≡ Judging → is_some (holder u.key t.holders) ≡ false → Claims t → Claims (gone n r (Claiming u) t)
gone_claiming n r u t is was free h = record {
  held = λ key q. ap (holds q) (holder_is key) ∙ at key q (one n q) (alike key u.key) refl refl ∙ sym (far_gone (has_claim key) n r (Claiming u) t q is);
  lined = λ key q. ap (stands key q) (ap (λ s. (joined n s (Claiming u) t).lines) was) ∙ h.lined key q ∙ sym (behind key q);
  served = λ key q stands. ap is_some (holder_is key) ∙ still (alike key u.key) (holder key t.holders) (h.served key q (sym (behind key q) ∙ stands));
}
  where
    holder_is : (key : List ℕ) → holder key (gone n r (Claiming u) t).holders ≡ cond (alike key u.key) (Some n) (holder key t.holders)
    holder_is key = ap (λ s. holder key (joined n s (Claiming u) t).holders) was ∙ lookup_inserted key_cmp_total t.holders u.key key n

    behind : (key : List ℕ) (q : ℕ) → far (stands_behind key) q (gone n r (Claiming u) t) ≡ far (stands_behind key) q t
    behind key q = far_gone (stands_behind key) n r (Claiming u) t q is ∙ kept (stands_behind key) n q r t false (one n q) is refl (ap (stands_behind key) (sym was))

    still : (b : Bool) (o : Option ℕ) → is_some o ≡ true → is_some (cond b (Some n) o) ≡ true
    still true o some = refl
    still false o some = some

    none : (q : ℕ) (o : Option ℕ) → is_some o ≡ false → holds q o ≡ false
    none q None e = refl
    none q (Some m) e = absurd (false≢true (sym e))

    at : (key : List ℕ) (q : ℕ) (a b : Bool) → one n q ≡ a → alike key u.key ≡ b → holds q (cond b (Some n) (holder key t.holders)) ≡ cond a b (far (has_claim key) q t)
    at key q true true same like = same
    at key q false true apart like = apart ∙ sym (none q (holder key t.holders) (subst (λ k. is_some (holder k t.holders) ≡ false) (sym (alike_is key u.key like)) free)) ∙ h.held key q
    at key q true false same unlike = h.held key q ∙ far_at (has_claim key) n q r t is same ∙ ap (has_claim key) was
    at key q false false apart unlike = h.held key q

-- into a line behind a claim that one has
gone_behind : (n : ℕ) (r : Request) (u : Use) (t : Table) → find n t.requests ≡ Some r → r.stage ≡ Judging → is_some (holder u.key t.holders) ≡ true → Claims t → Claims (gone n r (Behind u) t)
gone_behind n r u t is was taken h = record {
  held = λ key q. ap (λ s. holds q (holder key (joined n s (Behind u) t).holders)) was ∙ h.held key q ∙ sym (far_gone (has_claim key) n r (Behind u) t q is ∙ kept (has_claim key) n q r t false (one n q) is refl (ap (has_claim key) (sym was)));
  lined = λ key q. ap (λ s. stands key q (joined n s (Behind u) t).lines) was ∙ any_inserted waiter_cmp_total t.lines (record { key = u.key; number = n }) (record { key = key; number = q })
      ∙ ap (λ b. cond b true (stands key q t.lines)) (waiters_alike (record { key = key; number = q }) (record { key = u.key; number = n })) ∙ at key q (one n q) (alike key u.key) (one_flip n q) refl
      ∙ sym (far_gone (stands_behind key) n r (Behind u) t q is);
  served = λ key q stands. ap (λ s. is_some (holder key (joined n s (Behind u) t).holders)) was ∙ served key q (one n q) (alike key u.key) refl (sym (far_gone (stands_behind key) n r (Behind u) t q is) ∙ stands);
}
  where
    at : (key : List ℕ) (q : ℕ) (a b : Bool) → one q n ≡ a → alike key u.key ≡ b → cond (cond b (one q n) false) true (stands key q t.lines) ≡ cond a b (far (stands_behind key) q t)
    at key q true true same like = ap (λ x. cond x true (stands key q t.lines)) same
    at key q true false same unlike = h.lined key q ∙ far_at (stands_behind key) n q r t is (one_flip q n ∙ same) ∙ ap (stands_behind key) was
    at key q false true apart like = ap (λ x. cond x true (stands key q t.lines)) apart ∙ h.lined key q
    at key q false false apart unlike = h.lined key q

    served : (key : List ℕ) (q : ℕ) (a b : Bool) → alike key u.key ≡ b → cond a b (far (stands_behind key) q t) ≡ true → is_some (holder key t.holders) ≡ true
    served key q true b like stands = subst (λ k. is_some (holder k t.holders) ≡ true) (sym (alike_is key u.key (like ∙ stands))) taken
    served key q false b like stands = h.served key q stands

-- A request is answered.

without_same : (n : ℕ) (r : Request) (t : Table) → find n t.requests ≡ Some r → NumbersRise t → ((key : List ℕ) → has_claim key r.stage ≡ false) → ((key : List ℕ) → stands_behind key r.stage ≡ false) → Claims t → Claims (without n t)
without_same n r t is up claim behind h =
    claims_same t (without n t) refl refl
    (λ key q. far_without (has_claim key) n t q up ∙ kept (has_claim key) n q r t false (one n q) is refl (sym (claim key)))
    (λ key q. far_without (stands_behind key) n t q up ∙ kept (stands_behind key) n q r t false (one n q) is refl (sym (behind key))) h

-- it leaves its line
left_behind : (n : ℕ) (r : Request) (u : Use) (t : Table) → find n t.requests ≡ Some r → r.stage ≡ Behind u → InOrder t → Claims t → Claims (left_at n (Behind u) (without n t))
left_behind n r u t is was order h = record {
  held = λ key q. h.held key q ∙ sym (far_without (has_claim key) n t q order.numbers ∙ kept (has_claim key) n q r t false (one n q) is refl (ap (has_claim key) (sym was)));
  lined = λ key q. any_removed waiter_cmp_total t.lines (record { key = u.key; number = n }) (record { key = key; number = q }) order.lines
      ∙ ap (λ b. cond b false (stands key q t.lines)) (waiters_alike (record { key = u.key; number = n }) (record { key = key; number = q }))
      ∙ at key q (one n q) (alike u.key key) refl refl ∙ sym (far_without (stands_behind key) n t q order.numbers);
  served = λ key q stands. served key q (one n q) (sym (far_without (stands_behind key) n t q order.numbers) ∙ stands);
}
  where
    at : (key : List ℕ) (q : ℕ) (a b : Bool) → one n q ≡ a → alike u.key key ≡ b → cond (cond b (one n q) false) false (stands key q t.lines) ≡ cond a false (far (stands_behind key) q t)
    at key q true true same like = ap (λ x. cond x false (stands key q t.lines)) same
    at key q true false same unlike = h.lined key q ∙ far_at (stands_behind key) n q r t is same ∙ ap (stands_behind key) was ∙ alike_flip key u.key ∙ unlike
    at key q false true apart like = ap (λ x. cond x false (stands key q t.lines)) apart ∙ h.lined key q
    at key q false false apart unlike = h.lined key q

    served : (key : List ℕ) (q : ℕ) (a : Bool) → cond a false (far (stands_behind key) q t) ≡ true → is_some (holder key t.holders) ≡ true
    served key q true stands = absurd (false≢true stands)
    served key q false stands = h.served key q stands

-- one that stands behind a key, and what becomes of it when its turn comes
record Waits (k key : List ℕ) (was turned : Stage) : Type 0 where
  claims : has_claim key was ≡ false
  stands : stands_behind key was ≡ alike key k
  takes : has_claim key turned ≡ alike key k
  leaves : stands_behind key turned ≡ false
  again : is_again turned ≡ true

waits : (k key : List ℕ) (g : Stage) → stands_behind k g ≡ true → Waits k key g (turned g)
waits k key (Behind u) is = let same = ap (alike key) (sym (alike_is k u.key is)) in record { claims = refl; stands = same; takes = same; leaves = refl; again = refl }
waits k key g is = absurd (false≢true is)

record WaitsAt (k key : List ℕ) (o : Option Request) : Type 0 where
  claims : promises.stage_is (has_claim key) o ≡ false
  stands : promises.stage_is (stands_behind key) o ≡ alike key k
  takes : promises.stage_is (has_claim key) (option_map (λ r. at_stage (turned r.stage) r) o) ≡ alike key k
  leaves : promises.stage_is (stands_behind key) (option_map (λ r. at_stage (turned r.stage) r) o) ≡ false
  again : promises.stage_is is_again (option_map (λ r. at_stage (turned r.stage) r) o) ≡ true

waits_at : (k key : List ℕ) (o : Option Request) → promises.stage_is (stands_behind k) o ≡ true → WaitsAt k key o
waits_at k key None is = absurd (false≢true is)
waits_at k key (Some r) is = let all = waits k key r.stage is in record { claims = all.claims; stands = all.stands; takes = all.takes; leaves = all.leaves; again = all.again }

-- a request that has the claim of k is answered, and hands it on
module _ (n : ℕ) (r : Request) (k : List ℕ) (t : Table) (is : find n t.requests ≡ Some r) (claim : (key : List ℕ) → has_claim key r.stage ≡ alike key k) (behind : (key : List ℕ) → stands_behind key r.stage ≡ false) (order : InOrder t) (h : Claims t) where
  held_by_it : holder k t.holders ≡ Some n
  held_by_it = holds_is n (holder k t.holders) (h.held k n ∙ far_at (has_claim k) n n r t is (one_itself n) ∙ claim k ∙ alike_itself k)

  -- who else has a claim
  holds_else : (key : List ℕ) (q : ℕ) (a b : Bool) → one n q ≡ a → alike k key ≡ b → cond b false (holds q (holder key t.holders)) ≡ cond a false (far (has_claim key) q t)
  holds_else key q true true same like = refl
  holds_else key q true false same unlike = h.held key q ∙ far_at (has_claim key) n q r t is same ∙ claim key ∙ alike_flip key k ∙ unlike
  holds_else key q false true apart like = sym (sym (h.held key q) ∙ ap (λ x. holds q (holder x t.holders)) (sym (alike_is k key like)) ∙ ap (holds q) held_by_it ∙ apart)
  holds_else key q false false apart unlike = h.held key q

  still_behind : (key : List ℕ) (q : ℕ) → far (stands_behind key) q (without n t) ≡ far (stands_behind key) q t
  still_behind key q = far_without (stands_behind key) n t q order.numbers ∙ kept (stands_behind key) n q r t false (one n q) is refl (sym (behind key))

  handed_to_none : first_of k t.lines ≡ None → Claims (hand_to k None (without n t))
  handed_to_none none = record {
    held = λ key q. ap (holds q) (lookup_removed key_cmp_total t.holders k key order.holders) ∙ gone (alike k key) q (holder key t.holders) ∙ holds_else key q (one n q) (alike k key) refl refl ∙ sym (far_without (has_claim key) n t q order.numbers);
    lined = λ key q. h.lined key q ∙ sym (still_behind key q);
    served = λ key q waits. ap is_some (lookup_removed key_cmp_total t.holders k key order.holders) ∙ served key q (alike k key) refl (sym (still_behind key q) ∙ waits);
  }
    where
      gone : (b : Bool) (q : ℕ) (o : Option ℕ) → holds q (cond b None o) ≡ cond b false (holds q o)
      gone true q o = refl
      gone false q o = refl

      served : (key : List ℕ) (q : ℕ) (b : Bool) → alike k key ≡ b → far (stands_behind key) q t ≡ true → is_some (cond b None (holder key t.holders)) ≡ true
      served key q true like waits = absurd (false≢true (sym (none_stands k q t.lines order.lines none) ∙ ap (λ x. stands x q t.lines) (alike_is k key like) ∙ h.lined key q ∙ waits))
      served key q false unlike waits = h.served key q waits

  module _ (w : ℕ) (next : first_of k t.lines ≡ Some w) where
    it_waits : (key : List ℕ) → WaitsAt k key (find w t.requests)
    it_waits key = waits_at k key (find w t.requests) (sym (h.lined k w) ∙ first_stands k w t.lines next)

    another : (b : Bool) → one n w ≡ b → b ≡ false
    another true same = sym (first_stands k w t.lines next) ∙ h.lined k w ∙ far_at (stands_behind k) n w r t is same ∙ behind k
    another false apart = refl

    found_still : find w (without n t).requests ≡ find w t.requests
    found_still = find_without n t w order.numbers ∙ ap (λ b. cond b None (find w t.requests)) (another (one n w) refl)

    far_handed : (test : Stage → Bool) (y : Bool) → promises.stage_is test (option_map (λ r. at_stage (turned r.stage) r) (find w t.requests)) ≡ y → (q : ℕ) → far test q (hand_to k (Some w) (without n t)) ≡ cond (one w q) y (cond (one n q) false (far test q t))
    far_handed test y turns q =
        ap (promises.stage_is test) (find_handed k (Some w) (without n t) q) ∙ at_cond test (one w q) (option_map (λ r. at_stage (turned r.stage) r) (find q (without n t).requests)) (find q (without n t).requests) ∙ at (one w q) refl
      where
        at : (c : Bool) → one w q ≡ c → cond c (promises.stage_is test (option_map (λ r. at_stage (turned r.stage) r) (find q (without n t).requests))) (far test q (without n t)) ≡ cond c y (cond (one n q) false (far test q t))
        at true same = ap (λ o. promises.stage_is test (option_map (λ r. at_stage (turned r.stage) r) o)) (ap (λ x. find x (without n t).requests) (sym (one_is w q same)) ∙ found_still) ∙ turns
        at false apart = far_without test n t q order.numbers

    holder_handed : (key : List ℕ) → holder key (hand_to k (Some w) (without n t)).holders ≡ cond (alike k key) (Some w) (holder key t.holders)
    holder_handed key = lookup_set key_cmp_total t.holders k key w (ap is_some held_by_it)

    handed_to_one : Claims (hand_to k (Some w) (without n t))
    handed_to_one = record {
      held = λ key q. ap (holds q) (holder_handed key) ∙ held key q (one w q) (alike k key) refl refl ∙ sym (far_handed (has_claim key) (alike key k) (it_waits key).takes q);
      lined = λ key q. any_removed waiter_cmp_total t.lines (record { key = k; number = w }) (record { key = key; number = q }) order.lines
          ∙ ap (λ b. cond b false (stands key q t.lines)) (waiters_alike (record { key = k; number = w }) (record { key = key; number = q }))
          ∙ lined key q (one w q) (alike k key) refl refl ∙ sym (far_handed (stands_behind key) false (it_waits key).leaves q);
      served = λ key q waits. ap is_some (holder_handed key) ∙ served key q (one w q) (one n q) (alike k key) (sym (far_handed (stands_behind key) false (it_waits key).leaves q) ∙ waits);
    }
      where
        held : (key : List ℕ) (q : ℕ) (c b : Bool) → one w q ≡ c → alike k key ≡ b → holds q (cond b (Some w) (holder key t.holders)) ≡ cond c (alike key k) (cond (one n q) false (far (has_claim key) q t))
        held key q true true same like = same ∙ sym (alike_flip key k ∙ like)
        held key q false true apart like = apart ∙ holds_else key q (one n q) true refl like
        held key q true false same unlike = h.held key q ∙ ap (λ x. far (has_claim key) x t) (sym (one_is w q same)) ∙ (it_waits key).claims ∙ sym (alike_flip key k ∙ unlike)
        held key q false false apart unlike = holds_else key q (one n q) false refl unlike

        lined : (key : List ℕ) (q : ℕ) (c b : Bool) → one w q ≡ c → alike k key ≡ b → cond (cond b (one w q) false) false (stands key q t.lines) ≡ cond c false (cond (one n q) false (far (stands_behind key) q t))
        lined key q true true same like = ap (λ x. cond x false (stands key q t.lines)) same
        lined key q false true apart like = ap (λ x. cond x false (stands key q t.lines)) apart ∙ h.lined key q ∙ sym (still_behind key q) ∙ far_without (stands_behind key) n t q order.numbers
        lined key q true false same unlike = h.lined key q ∙ ap (λ x. far (stands_behind key) x t) (sym (one_is w q same)) ∙ (it_waits key).stands ∙ alike_flip key k ∙ unlike
        lined key q false false apart unlike = h.lined key q ∙ sym (still_behind key q) ∙ far_without (stands_behind key) n t q order.numbers

        served : (key : List ℕ) (q : ℕ) (c a b : Bool) → cond c false (cond a false (far (stands_behind key) q t)) ≡ true → is_some (cond b (Some w) (holder key t.holders)) ≡ true
        served key q true a b waits = absurd (false≢true waits)
        served key q false true b waits = absurd (false≢true waits)
        served key q false false true waits = refl
        served key q false false false waits = h.served key q waits

  handed : (o : Option ℕ) → first_of k t.lines ≡ o → Claims (hand_to k o (without n t))
  handed None is = handed_to_none is
  handed (Some w) is = handed_to_one w is

  -- the next one is to be judged again
  handed_again : (w : ℕ) → first_of k t.lines ≡ Some w → promises.stage_is is_again (find w (hand_to k (Some w) (without n t)).requests) ≡ true
  handed_again w next = far_handed w next is_again true (it_waits w next k).again w ∙ ap (λ b. cond b true (cond (one n w) false (far is_again w t))) (one_itself w)

claims_left : (n : ℕ) (r : Request) (g : Stage) (t : Table) → find n t.requests ≡ Some r → r.stage ≡ g → InOrder t → Claims t → Claims (left_at n g (without n t))
claims_left n r Judging t is was order h = without_same n r t is order.numbers (λ key. ap (has_claim key) was) (λ key. ap (stands_behind key) was) h
claims_left n r (Writing u) t is was order h = without_same n r t is order.numbers (λ key. ap (has_claim key) was) (λ key. ap (stands_behind key) was) h
claims_left n r (Claiming u) t is was order h = handed n r u.key t is (λ key. ap (has_claim key) was) (λ key. ap (stands_behind key) was) order h (first_of u.key t.lines) refl
claims_left n r (Behind u) t is was order h = left_behind n r u t is was order h
claims_left n r (Again u) t is was order h = handed n r u.key t is (λ key. ap (has_claim key) was) (λ key. ap (stands_behind key) was) order h (first_of u.key t.lines) refl

-- After an event.

claims_gone : (needs : Needs) (e : Event) (n : ℕ) (r : Request) (g : Stage) (t : Table) → find n t.requests ≡ Some r → WhyGo needs (held_by e t) e n r.stage g → Claims t → Claims (gone n r g t)
claims_gone needs e n r Judging t is why h = absurd why
claims_gone needs e n r (Writing u) t is why h =
    gone_same n r (Writing u) t is (ap (λ s. (joined n s (Writing u) t).holders) why.1) (ap (λ s. (joined n s (Writing u) t).lines) why.1) (λ key. ap (has_claim key) (sym why.1)) (λ key. ap (stands_behind key) (sym why.1)) h
claims_gone needs e n r (Claiming u) t is (inl why) h = gone_claiming n r u t is why.1 (ap (λ f. held_by f t) (sym why.3) ∙ why.2) h
claims_gone needs e n r (Claiming u) t is (inr (inl was)) h =
    gone_same n r (Claiming u) t is (ap (λ s. (joined n s (Claiming u) t).holders) was) (ap (λ s. (joined n s (Claiming u) t).lines) was) (λ key. ap (has_claim key) (sym was)) (λ key. ap (stands_behind key) (sym was)) h
claims_gone needs e n r (Claiming u) t is (inr (inr was)) h =
    gone_same n r (Claiming u) t is (ap (λ s. (joined n s (Claiming u) t).holders) was) (ap (λ s. (joined n s (Claiming u) t).lines) was) (λ key. ap (has_claim key) (sym was)) (λ key. ap (stands_behind key) (sym was)) h
claims_gone needs e n r (Behind u) t is why h = gone_behind n r u t is why.1 (ap (λ f. held_by f t) (sym why.3) ∙ why.2) h
claims_gone needs e n r (Again u) t is why h = absurd why

claims_followed : (needs : Needs) (now : ℕ) (e : Event) (n : ℕ) (r : Request) (p : Plan) (t : Table) → find n t.requests ≡ Some r → Why needs (held_by e t) now e n r.deadline r.stage p → InOrder t → Claims t → Claims (followed n r p t)
claims_followed needs now e n r Stay t is why order h = h
claims_followed needs now e n r (Go g) t is why order h = claims_gone needs e n r g t is why h
claims_followed needs now e n r (Part v) t is why order h = claims_left n r r.stage t is refl order h

claims_heard : (needs : Needs) (refused : Bool) (now : ℕ) (e : Event) (t : Table) (o : Option (ℕ × Request)) → subject e t.requests ≡ o → InOrder t → Claims t → Claims (left_by needs refused now e t o)
claims_heard needs refused now e t None is order h = h
claims_heard needs refused now e t (Some p) is order h =
    let found = subject_is e t.requests p is in
    claims_followed needs now e p.0 p.1 (granted refused p.1 (plan needs (held_by e t) now e p.1)) t found.0 (granted_why needs (held_by e t) refused now e p.0 p.1 found.1) order h

claims_come : (s : State) (w : World) (b : Bool) → find s.next s.table.requests ≡ None → Claims s.table → Claims (cond {A = World} b (histories.let_in s w) (at_state s w)).state.table
claims_come s w false none h = h
claims_come s w true none h = claims_same s.table (let_in s.next (deadline s) s.table) refl refl (λ key q. same (has_claim key) q refl) (λ key q. same (stands_behind key) q refl) h
  where
    here : (test : Stage → Bool) (q : ℕ) (b : Bool) → one q s.next ≡ b → cond b false (far test q s.table) ≡ far test q s.table
    here test q true is = sym (ap (promises.stage_is test) (ap (λ x. find x s.table.requests) (one_is q s.next is) ∙ none))
    here test q false is = refl

    same : (test : Stage → Bool) (q : ℕ) → test Judging ≡ false → far test q (let_in s.next (deadline s) s.table) ≡ far test q s.table
    same test q new = ap (promises.stage_is test) (find_let_in s.next (deadline s) s.table q) ∙ at_cond test (one q s.next) (Some (record { deadline = deadline s; stage = Judging })) (find q s.table.requests) ∙ ap (λ x. cond (one q s.next) x (far test q s.table)) new ∙ here test q (one q s.next) refl

pub claims : (needs : Needs) (wait : ℕ) (calls : List Call) → Claims (history (fresh needs wait) calls).state.table
claims needs wait [] = record { held = λ key q. refl; lined = λ key q. refl; served = λ key q is. absurd (false≢true is) }
claims needs wait (Come up refused ∷ calls) =
    let w = history (fresh needs wait) calls in
    let s = at_moment w.state up in
    claims_come s w (has_number s && not refused) (next_is_new needs calls w (sound needs wait calls)) (claims needs wait calls)
claims needs wait (Hear up e refused ∷ calls) =
    let w = history (fresh needs wait) calls in
    let s = at_moment w.state up in
    claims_heard s.needs refused s.now e s.table (subject e s.table.requests) refl (sound needs wait calls).order (claims needs wait calls)

-- The promises.

pub one_has_a_claim : promises.OneHasAClaim
one_has_a_claim needs wait calls key n is = let w = history (fresh needs wait) calls in holds_is n (holder key w.state.table.holders) ((claims needs wait calls).held key n ∙ is)

pub none_waits_in_vain : promises.NoneWaitsInVain
none_waits_in_vain needs wait calls key n is =
    let t = (history (fresh needs wait) calls).state.table in
    by_holder t (holder key t.holders) refl ((claims needs wait calls).served key n is) (claims needs wait calls)
  where
    by_holder : (t : Table) (o : Option ℕ) → holder key t.holders ≡ o → is_some o ≡ true → Claims t → (m : ℕ) × (far (has_claim key) m t ≡ true)
    by_holder t None is some h = absurd (false≢true some)
    by_holder t (Some m) is some h = (m, sym (h.held key m) ∙ ap (holds m) is ∙ one_itself m)

pub nothing_is_left_over : promises.NothingIsLeftOver
nothing_is_left_over needs wait calls =
    let t = (history (fresh needs wait) calls).state.table in
    let h = claims needs wait calls in (
      each_entry key_cmp_total (λ (e : List ℕ × ℕ). far (has_claim e.0) e.1 t ≡ true) t.holders (sound needs wait calls).order.holders (λ key m found. sym (h.held key m) ∙ ap (holds m) found ∙ one_itself m),
      each_key waiter_cmp_total (λ (v : Waiter). far (stands_behind v.key) v.number t ≡ true) t.lines (λ v found. sym (h.lined v.key v.number) ∙ found),
    )

-- the next one of an answer
next_again : (n : ℕ) (r : Request) (g : Stage) (t : Table) (next : ℕ) → find n t.requests ≡ Some r → r.stage ≡ g → InOrder t → Claims t → next_after g t ≡ Some next → promises.stage_is is_again (find next (left_at n g (without n t)).requests) ≡ true
next_again n r (Claiming u) t next is was order h after = ap (λ o. promises.stage_is is_again (find next (hand_to u.key o (without n t)).requests)) after ∙ handed_again n r u.key t is (λ key. ap (has_claim key) was) (λ key. ap (stands_behind key) was) order h next after
next_again n r (Again u) t next is was order h after = ap (λ o. promises.stage_is is_again (find next (hand_to u.key o (without n t)).requests)) after ∙ handed_again n r u.key t is (λ key. ap (has_claim key) was) (λ key. ap (stands_behind key) was) order h next after
next_again n r g t next is was order h after = absurd cc

-- an answer that names a next one is a plan's
named_by : (n : ℕ) (r : Request) (p : Plan) (t : Table) (k : ℕ) (v : Verdict) (next : ℕ) → deed_of n r p t ≡ Answer k v (Some next) → (verdict : Verdict) × (p ≡ Part verdict) × (next_after r.stage t ≡ Some next)
named_by n r Stay t k v next deed = absurd cc
named_by n r (Go g) t k v next deed = absurd (no_stage g deed)
  where
    no_stage : (g : Stage) → deed_at n g ≡ Answer k v (Some next) → ⊥
    no_stage Judging deed = cc
    no_stage g deed = cc
named_by n r (Part verdict) t k v next deed = (verdict, refl, cc)

next_heard : (needs : Needs) (refused : Bool) (now : ℕ) (e : Event) (t : Table) (o : Option (ℕ × Request)) (n : ℕ) (v : Verdict) (next : ℕ) → subject e t.requests ≡ o → InOrder t → Claims t → deed_by needs refused now e t o ≡ Answer n v (Some next) → promises.stage_is is_again (find next (left_by needs refused now e t o).requests) ≡ true
next_heard needs refused now e t None n v next is order h deed = absurd cc
next_heard needs refused now e t (Some p) n v next is order h deed =
    let named = named_by p.0 p.1 (granted refused p.1 (plan needs (held_by e t) now e p.1)) t n v next deed in
    ap (λ pl. promises.stage_is is_again (find next (followed p.0 p.1 pl t).requests)) named.1 ∙ next_again p.0 p.1 p.1.stage t next (subject_is e t.requests p is).0 refl order h named.2

-- it is the first of a line
first_after : (g : Stage) (t : Table) (next : ℕ) → next_after g t ≡ Some next → (k : List ℕ) × (first_of k t.lines ≡ Some next)
first_after (Claiming u) t next is = (u.key, is)
first_after (Again u) t next is = (u.key, is)
first_after g t next is = absurd cc

first_heard : (needs : Needs) (refused : Bool) (now : ℕ) (e : Event) (t : Table) (o : Option (ℕ × Request)) (n : ℕ) (v : Verdict) (next : ℕ) (key : List ℕ) (m : ℕ) → InOrder t → Claims t → deed_by needs refused now e t o ≡ Answer n v (Some next) → far (stands_behind key) next t ≡ true → far (stands_behind key) m t ≡ true → next ≤ m
first_heard needs refused now e t None n v next key m order h deed here there = absurd cc
first_heard needs refused now e t (Some p) n v next key m order h deed here there =
    let first = first_after p.1.stage t next (named_by p.0 p.1 (granted refused p.1 (plan needs (held_by e t) now e p.1)) t n v next deed).2 in
    let waiting = waits_at first.0 key (find next t.requests) (sym (h.lined first.0 next) ∙ first_stands first.0 next t.lines first.1) in
    let same = alike_is key first.0 (sym waiting.stands ∙ here) in
    first_in_line key next m t.lines order.lines (subst (λ k. first_of k t.lines ≡ Some next) (sym same) first.1) (h.lined key m ∙ there)

pub next_is_judged_again : promises.NextIsJudgedAgain
next_is_judged_again needs wait calls up e refused n v next deed =
    let w = history (fresh needs wait) calls in
    let s = at_moment w.state up in
    next_heard s.needs refused s.now e s.table (subject e s.table.requests) n v next refl (sound needs wait calls).order (claims needs wait calls) deed

pub first_in_line_is_next : promises.FirstInLineIsNext
first_in_line_is_next needs wait calls up e refused n v next key m deed =
    let w = history (fresh needs wait) calls in
    let s = at_moment w.state up in
    first_heard s.needs refused s.now e s.table (subject e s.table.requests) n v next key m (sound needs wait calls).order (claims needs wait calls) deed

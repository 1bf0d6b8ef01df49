-- No token is answered 200 twice by a group.
use Rattle.std.proofs.Common.{◌≡◌, ℕ, zero, suc, ◌+◌, ◌≤◌, Bool, true, false, cond, List, [], ◌∷◌, ◌++◌, refl, sym, ◌∙◌, ap, subst, arith, Option, Some, None, slice_get, count_by}
use Rattle.std.specs.Prelude.{◌==◌}
use Rattle.std.specs.List.{AllByRecursion}
use Rattle.std.specs.Str.{bytes_eq}
use Rattle.std.proofs.lemmas.Bool.{and_parts, cond_both, eqb-true, false≢true, true≢false}
use Rattle.std.proofs.lemmas.List.Sums.{sum_by-cons}
use Rattle.std.proofs.lemmas.Option.{none-some, same_Some}
use Rattle.std.proofs.lemmas.Slice.Eq.{bytes_eq-Decides}
use Rattle.svid_replay.specs.declared.token_use.Use.{Use}
use Rattle.svid_claims.specs.Groups.{Accept, Accepts, Answer, Restart, Terms, happen}
use Rattle.svid_claims.specs.Groups as claims
use Rattle.svid_claims.specs.Once.{HasMargin, HaveOwners}
use Rattle.svid_claims.proofs.OnceLemmas.{accepted_once, has_one_owner}
use Rattle.svid_requests.specs.declared.needs.Needs.TheVariants.{Claim}
use Rattle.svid_requests.specs.declared.judgment.Judgment.{Judgment}
use Rattle.svid_requests.specs.declared.verdict.Verdict.{Verdict}
use Rattle.svid_requests.specs.declared.verdict.Verdict.TheVariants.{Accept as Accepted, Refuse, Late, NotKept, NoMemory, Left}
use Rattle.svid_requests.specs.declared.event.Event as requests
use Rattle.svid_requests.specs.declared.event.Event.TheVariants.{Found}
use Rattle.svid_requests.specs.declared.deed.Deed.{Deed}
use Rattle.svid_requests.specs.declared.deed.Deed.TheVariants as deed
use Rattle.svid_requests.specs.Tables.{State, at_moment, begun, came, heard, heard_deed}
use Rattle.svid_answers.specs.Group.{AreAllowed, Event, FindsUse, Given, comes, given_by, granted, history, in_claims, owner_in, passing, put}
use Rattle.svid_answers.specs.Group.Event.{Group, Come, Hear, Looks, Begin}
use Rattle.svid_answers.specs.Promises.{AnsweredIsFound, IsFounded, TokensAreAnsweredOnce, TokensAreAnsweredToOneCaller, TokensAreAnsweredToOneOwner, WasFound, accepts, answered, is_token}
use Rattle.svid_answers.proofs.FitsLemmas.{AreFit, fit_begun, fit_came, fit_heard, fit_moment}
use Rattle.svid_answers.proofs.GrantsLemmas.{Grants, OnDeed, all_given_by, heard_grants, weaker_on}

-- The requests of each member are those of a group that claims tokens.

put_fit : (requests : ℕ → State) (v : ℕ) (s : State) → AreFit Claim s → ((n : ℕ) → AreFit Claim (requests n)) → (n : ℕ) → AreFit Claim (put requests v s n)
put_fit requests v s one all n = cond_both (n == v) s (requests n) (AreFit Claim) (λ _. one) (λ _. all n)

comes_fit : (refused : Bool) (s : State) → AreFit Claim s → AreFit Claim (comes refused s)
comes_fit refused s h = cond_both refused s (came s) (AreFit Claim) (λ _. h) (λ _. fit_came Claim s h)

module _ (t : Terms) where
  are_fit : (events : List Event) (n : ℕ) → AreFit Claim ((history t events).requests n)
  are_fit [] n = fit_begun Claim 0
  are_fit (Group e ∷ events) n = are_fit events n
  are_fit (Come v up refused ∷ events) n =
      let s = (history t events).requests v in
      put_fit (history t events).requests v (comes refused (at_moment s up)) (comes_fit refused (at_moment s up) (fit_moment Claim s up (are_fit events v))) (are_fit events) n
  are_fit (Hear v up refused e ∷ events) n =
      let s = (history t events).requests v in
      put_fit (history t events).requests v (heard refused (at_moment s up) e) (fit_heard Claim refused (at_moment s up) e (fit_moment Claim s up (are_fit events v))) (are_fit events) n
  are_fit (Looks v now index up m refused j ∷ events) n =
      let s = (history t events).requests v in
      put_fit (history t events).requests v (heard refused (at_moment s up) (Found m j)) (fit_heard Claim refused (at_moment s up) (Found m j) (fit_moment Claim s up (are_fit events v))) (are_fit events) n
  are_fit (Begin v wait moment uses ∷ events) n = put_fit (history t events).requests v (begun Claim wait) (fit_begun Claim wait) (are_fit events) n

  -- what a deed grants that member v does for an event
  pub deed_grants : (events : List Event) (v up : ℕ) (refused : Bool) (e : requests.Event) → OnDeed (Grants e) (heard_deed refused (at_moment ((history t events).requests v) up) e)
  deed_grants events v up refused e = let s = (history t events).requests v in heard_grants refused (at_moment s up) e (fit_moment Claim s up (are_fit events v))

  -- What happens in the members and the stores.

  happen_push : (w : claims.World) (xs : List claims.Event) (e : claims.Event) → happen t w (xs ++ e ∷ []) ≡ claims.happens t (happen t w xs) e
  happen_push w [] e = refl
  happen_push w (x ∷ xs) e = happen_push (claims.happens t w x) xs e

  claims_more : (w : claims.World) (xs : List claims.Event) (e : claims.Event) → w ≡ happen t claims.start xs → claims.happens t w e ≡ happen t claims.start (xs ++ e ∷ [])
  claims_more w xs e is = ap (λ (x : claims.World). claims.happens t x e) is ∙ sym (happen_push claims.start xs e)

  pub claims_is : (events : List Event) → (history t events).claims ≡ happen t claims.start (in_claims events)
  claims_is [] = refl
  claims_is (Group e ∷ events) = claims_more (history t events).claims (in_claims events) e (claims_is events)
  claims_is (Come v up refused ∷ events) = claims_is events
  claims_is (Hear v up refused e ∷ events) = claims_is events
  claims_is (Looks v now index up n refused j ∷ events) = claims_more (history t events).claims (in_claims events) (Accept v now index) (claims_is events)
  claims_is (Begin v wait moment uses ∷ events) = claims_more (history t events).claims (in_claims events) (Restart v moment uses) (claims_is events)

  found_moves : (w : claims.World) (v : ℕ) (owner : Option (List ℕ)) (u : Use) (e : claims.Event) → WasFound t w v owner u → WasFound t (claims.happens t w e) v owner u
  found_moves w v owner u e h = record {
    before = h.before;
    between = h.between ++ e ∷ [];
    now = h.now;
    index = h.index;
    answer = h.answer;
    accepts = h.accepts;
    key_is = h.key_is;
    exp_is = h.exp_is;
    owner_is = h.owner_is;
    world_is = ap (λ (x : claims.World). claims.happens t x e) h.world_is ∙ sym (happen_push (claims.happens t (happen t claims.start h.before) (Accept v h.now h.index)) h.between e);
  }

  all_move : (w : claims.World) (e : claims.Event) (given : List Given) → AllByRecursion (IsFounded t w) given → AllByRecursion (IsFounded t (claims.happens t w e)) given
  all_move w e [] all = tt
  all_move w e (g ∷ given) all = (λ u is. found_moves w g.member g.owner u e (all.0 u is), all_move w e given all.1)

  -- a look that finds a use now
  found_now : (events : List Event) (v now index : ℕ) (u : Use) → let w = (history t events).claims in FindsUse t w v now index u → WasFound t (claims.happens t w (Accept v now index)) v (owner_in (slice_get w.answers index)) u
  found_now events v now index u f = record {
    before = in_claims events;
    between = [];
    now = now;
    index = index;
    answer = f.answer;
    accepts = subst (λ (x : claims.World). Accepts t x v now index f.answer) (claims_is events) f.accepts;
    key_is = f.key_is;
    exp_is = f.exp_is;
    owner_is = ap owner_in f.accepts.given;
    world_is = ap (λ (x : claims.World). claims.happens t x (Accept v now index)) (claims_is events);
  }

  -- what a deed answers 200 was found, where what the event grants was found
  founded_by : (w : claims.World) (v : ℕ) (owner : Option (List ℕ)) (e : requests.Event) (d : Deed) (given : List Given) → OnDeed (Grants e) d → ((u : Use) → granted e ≡ Some u → WasFound t w v owner u)
      → AllByRecursion (IsFounded t w) given → AllByRecursion (IsFounded t w) (given_by v owner d given)
  founded_by w v owner e d given grants found all =
      all_given_by (IsFounded t w) v owner d given
      (λ n. weaker_on (Grants e) (λ verdict. IsFounded t w (record { member = v; number = n; verdict = verdict; owner = owner })) d (λ verdict h u is. found u (subst (Grants e) is h)) grants) all

  founded : (events : List Event) → AreAllowed t events → AllByRecursion (IsFounded t (history t events).claims) (history t events).given
  founded [] allowed = tt
  founded (Group e ∷ events) allowed = let w = history t events in all_move w.claims e w.given (founded events allowed.0)
  founded (Come v up refused ∷ events) allowed = founded events allowed.0
  founded (Hear v up refused e ∷ events) allowed =
      let w = history t events in
      founded_by w.claims v None e (heard_deed refused (at_moment (w.requests v) up) e) w.given (deed_grants events v up refused e)
      (λ u is. absurd (none-some u (sym allowed.1 ∙ is))) (founded events allowed.0)
  founded (Looks v now index up n refused j ∷ events) allowed =
      let w = history t events in
      founded_by (claims.happens t w.claims (Accept v now index)) v (owner_in (slice_get w.claims.answers index)) (Found n j) (heard_deed refused (at_moment (w.requests v) up) (Found n j)) w.given
      (deed_grants events v up refused (Found n j)) (λ u is. found_now events v now index u (allowed.1 u is)) (all_move w.claims (Accept v now index) w.given (founded events allowed.0))
  founded (Begin v wait moment uses ∷ events) allowed = let w = history t events in all_move w.claims (Restart v moment uses) w.given (founded events allowed.0)

pub answered_is_found : AnsweredIsFound
answered_is_found t events allowed = founded t events allowed

-- Of one token.

pub token_parts : (key : List ℕ) (exp : ℕ) (u : Use) → is_token key exp u ≡ true → (u.key ≡ key) × (u.exp ≡ exp)
token_parts key exp u is =
    let both = and_parts (bytes_eq key u.key) (u.exp == exp) is in
    (sym ((bytes_eq-Decides key u.key).0 both.0), eqb-true u.exp exp both.1)

-- an answer that accepts has a use
pub accepted_use : (p : Use → Bool) (v : Verdict) → accepts p v ≡ true → (u : Use) × (v ≡ Accepted u) × (p u ≡ true)
accepted_use p (Accepted u) is = (u, refl, is)
accepted_use p (Refuse why) is = absurd (false≢true is)
accepted_use p Late is = absurd (false≢true is)
accepted_use p NotKept is = absurd (false≢true is)
accepted_use p NoMemory is = absurd (false≢true is)
accepted_use p Left is = absurd (false≢true is)

pub counted : {X : Type 0} (p : X → Bool) (x : X) (xs : List X) (b : Bool) → p x ≡ b → count_by p (x ∷ xs) ≡ cond b 1 0 + count_by p xs
counted p x xs b is = sum_by-cons (λ y. cond (p y) 1 0) x xs ∙ ap (λ (c : Bool). cond c 1 0 + count_by p xs) is

-- one is answered, where none was
count_answer : (p : Given → Bool) (g : Given) (given : List Given) (b : Bool) → p g ≡ b → (p g ≡ true → count_by p given ≡ 0) → count_by p given ≤ 1 → count_by p (g ∷ given) ≤ 1
count_answer p g given true is none few = let all = counted p g given true is in let rest = none is in omega arith
count_answer p g given false is none few = let all = counted p g given false is in omega arith

module _ (t : Terms) (key : List ℕ) (exp : ℕ) where
  abbrev test : Use → Bool
  test = is_token key exp

  abbrev test_given : Given → Bool
  test_given g = accepts test g.verdict

  count_by_deed : (v : ℕ) (owner : Option (List ℕ)) (d : Deed) (given : List Given) → OnDeed (λ verdict. accepts test verdict ≡ true → answered key exp given ≡ 0) d → answered key exp given ≤ 1 → answered key exp (given_by v owner d given) ≤ 1
  count_by_deed v owner deed.Nothing given h few = few
  count_by_deed v owner (deed.Judge n) given h few = few
  count_by_deed v owner (deed.Append n u) given h few = few
  count_by_deed v owner (deed.Claim n u) given h few = few
  count_by_deed v owner (deed.Answer n verdict next) given h few = count_answer test_given (record { member = v; number = n; verdict = verdict; owner = owner }) given (accepts test verdict) refl h few

  -- of two claims of the token that were accepted, both are of one owner
  owners_same : (w : claims.World) (m v now index : ℕ) (owner : Option (List ℕ)) (d u : Use) → HasMargin t → test d ≡ true → test u ≡ true → WasFound t w m owner d → (f : FindsUse t w v now index u) → owner ≡ Some f.answer.found.owner
  owners_same w m v now index owner d u margin d_is u_is was f =
      let one = token_parts key exp d d_is in
      let other = token_parts key exp u u_is in
      was.owner_is ∙ ap (λ (o : List ℕ). Some o) (has_one_owner t was.before was.between m v was.now now was.index index was.answer f.answer margin was.accepts
      (subst (λ (x : claims.World). Accepts t x v now index f.answer) was.world_is f.accepts) (was.key_is ∙ (one.0 ∙ sym (f.key_is ∙ other.0))) (was.exp_is ∙ (one.1 ∙ sym (f.exp_is ∙ other.1))))

  clash : (w : claims.World) (m v now index : ℕ) (owner : Option (List ℕ)) (d u : Use) → t.strict ≡ true → HasMargin t → HaveOwners t → test d ≡ true → test u ≡ true → WasFound t w m owner d → FindsUse t w v now index u → ⊥
  clash w m v now index owner d u strict margin owners d_is u_is was f =
      let one = token_parts key exp d d_is in
      let other = token_parts key exp u u_is in
      accepted_once t was.before was.between m v was.now now was.index index was.answer f.answer strict margin owners was.accepts
      (subst (λ (x : claims.World). Accepts t x v now index f.answer) was.world_is f.accepts) (was.key_is ∙ (one.0 ∙ sym (f.key_is ∙ other.0))) (was.exp_is ∙ (one.1 ∙ sym (f.exp_is ∙ other.1)))

  -- so none was answered, where one is found now
  none_before : (w : claims.World) (v now index : ℕ) (u : Use) (given : List Given) → t.strict ≡ true → HasMargin t → HaveOwners t → test u ≡ true → FindsUse t w v now index u → AllByRecursion (IsFounded t w) given → answered key exp given ≡ 0
  none_before w v now index u [] strict margin owners is f all = refl
  none_before w v now index u (g ∷ given) strict margin owners is f all = by (test_given g) refl (none_before w v now index u given strict margin owners is f all.1)
    where
      by : (b : Bool) → test_given g ≡ b → answered key exp given ≡ 0 → answered key exp (g ∷ given) ≡ 0
      by true accepted rest = let d = accepted_use test g.verdict accepted in absurd (clash w g.member v now index g.owner d.0 u strict margin owners d.2 is (all.0 d.0 d.1) f)
      by false accepted rest = let all = counted test_given g given false accepted in omega arith

  once : (events : List Event) → t.strict ≡ true → HasMargin t → HaveOwners t → AreAllowed t events → answered key exp (history t events).given ≤ 1
  once [] strict margin owners allowed = omega arith
  once (Group e ∷ events) strict margin owners allowed = once events strict margin owners allowed.0
  once (Come v up refused ∷ events) strict margin owners allowed = once events strict margin owners allowed.0
  once (Hear v up refused e ∷ events) strict margin owners allowed =
      let w = history t events in
      let d = heard_deed refused (at_moment (w.requests v) up) e in
      count_by_deed v None d w.given
      (weaker_on (Grants e) (λ verdict. accepts test verdict ≡ true → answered key exp w.given ≡ 0) d
      (λ verdict h is. let u = accepted_use test verdict is in absurd (none-some u.0 (sym allowed.1 ∙ subst (Grants e) u.1 h))) (deed_grants t events v up refused e))
      (once events strict margin owners allowed.0)
  once (Looks v now index up n refused j ∷ events) strict margin owners allowed =
      let w = history t events in
      let d = heard_deed refused (at_moment (w.requests v) up) (Found n j) in
      count_by_deed v (owner_in (slice_get w.claims.answers index)) d w.given
      (weaker_on (Grants (Found n j)) (λ verdict. accepts test verdict ≡ true → answered key exp w.given ≡ 0) d
      (λ verdict h is. let u = accepted_use test verdict is in
      none_before w.claims v now index u.0 w.given strict margin owners u.2 (allowed.1 u.0 (subst (Grants (Found n j)) u.1 h)) (founded t events allowed.0)) (deed_grants t events v up refused (Found n j)))
      (once events strict margin owners allowed.0)
  once (Begin v wait moment uses ∷ events) strict margin owners allowed = once events strict margin owners allowed.0

pub tokens_are_answered_once : TokensAreAnsweredOnce
tokens_are_answered_once t events key exp strict margin owners allowed = once t key exp events strict margin owners allowed

module _ (t : Terms) (key : List ℕ) (exp : ℕ) where
  abbrev Owned : List ℕ → Given → Type 0
  Owned owner g = accepts (is_token key exp) g.verdict ≡ true → g.owner ≡ Some owner

  -- some owner has all
  abbrev OneOwner : List Given → Type 0
  OneOwner given = (owner : List ℕ) × AllByRecursion (Owned owner) given

  owned_by_deed : (owner : List ℕ) (v : ℕ) (found : Option (List ℕ)) (d : Deed) (given : List Given) → OnDeed (λ verdict. accepts (is_token key exp) verdict ≡ true → found ≡ Some owner) d → AllByRecursion (Owned owner) given → AllByRecursion (Owned owner) (given_by v found d given)
  owned_by_deed owner v found d given h all = all_given_by (Owned owner) v found d given (λ n. h) all

  -- where a claim of the token is found now, all earlier ones are of its owner
  owned_before : (w : claims.World) (v now index : ℕ) (u : Use) (given : List Given) → HasMargin t → is_token key exp u ≡ true → (f : FindsUse t w v now index u) → AllByRecursion (IsFounded t w) given → AllByRecursion (Owned f.answer.found.owner) given
  owned_before w v now index u [] margin is f all = tt
  owned_before w v now index u (g ∷ given) margin is f all =
      (λ accepted. let d = accepted_use (is_token key exp) g.verdict accepted in owners_same t key exp w g.member v now index g.owner d.0 u margin d.2 is (all.0 d.0 d.1) f, owned_before w v now index u given margin is f all.1)

  -- what a deed grants that grants this use alone, which is of the token or is not
  owned_found : (w : claims.World) (v now index n : ℕ) (j : Judgment) (d : Deed) (u : Use) (given : List Given) (b : Bool) → is_token key exp u ≡ b → passing j ≡ Some u → HasMargin t
      → FindsUse t w v now index u → OnDeed (Grants (Found n j)) d → AllByRecursion (IsFounded t w) given → OneOwner given → OneOwner (given_by v (owner_in (slice_get w.answers index)) d given)
  owned_found w v now index n j d u given true token is margin f grants all one = (
    f.answer.found.owner,
    owned_by_deed f.answer.found.owner v (owner_in (slice_get w.answers index)) d given
        (weaker_on (Grants (Found n j)) (λ verdict. accepts (is_token key exp) verdict ≡ true → owner_in (slice_get w.answers index) ≡ Some f.answer.found.owner) d (λ verdict h accepted. ap owner_in f.accepts.given) grants)
        (owned_before w v now index u given margin token f all),
  )
  owned_found w v now index n j d u given false token is margin f grants all one = (
    one.0,
    owned_by_deed one.0 v (owner_in (slice_get w.answers index)) d given
        (weaker_on (Grants (Found n j)) (λ verdict. accepts (is_token key exp) verdict ≡ true → owner_in (slice_get w.answers index) ≡ Some one.0) d
        (λ verdict h accepted. let e = accepted_use (is_token key exp) verdict accepted in
        absurd (true≢false (sym e.2 ∙ (ap (is_token key exp) (same_Some e.0 u (sym (subst (Grants (Found n j)) e.1 h) ∙ is)) ∙ token)))) grants) one.1,
  )

  -- a look, which grants this use or none
  owned_look : (w : claims.World) (v now index n : ℕ) (j : Judgment) (d : Deed) (given : List Given) (o : Option Use) → passing j ≡ o → HasMargin t
      → ((u : Use) → passing j ≡ Some u → FindsUse t w v now index u) → OnDeed (Grants (Found n j)) d → AllByRecursion (IsFounded t w) given → OneOwner given → OneOwner (given_by v (owner_in (slice_get w.answers index)) d given)
  owned_look w v now index n j d given None is margin finds grants all one = (
    one.0,
    owned_by_deed one.0 v (owner_in (slice_get w.answers index)) d given
        (weaker_on (Grants (Found n j)) (λ verdict. accepts (is_token key exp) verdict ≡ true → owner_in (slice_get w.answers index) ≡ Some one.0) d
        (λ verdict h accepted. let u = accepted_use (is_token key exp) verdict accepted in absurd (none-some u.0 (sym is ∙ subst (Grants (Found n j)) u.1 h))) grants) one.1,
  )
  owned_look w v now index n j d given (Some u) is margin finds grants all one =
      owned_found w v now index n j d u given (is_token key exp u) refl is margin (finds u is) grants all one

  one_owner : (events : List Event) → HasMargin t → AreAllowed t events → OneOwner (history t events).given
  one_owner [] margin allowed = ([], tt)
  one_owner (Group e ∷ events) margin allowed = one_owner events margin allowed.0
  one_owner (Come v up refused ∷ events) margin allowed = one_owner events margin allowed.0
  one_owner (Hear v up refused e ∷ events) margin allowed =
      let w = history t events in
      let d = heard_deed refused (at_moment (w.requests v) up) e in
      let one = one_owner events margin allowed.0 in (
        one.0,
        owned_by_deed one.0 v None d w.given
            (weaker_on (Grants e) (λ verdict. accepts (is_token key exp) verdict ≡ true → None ≡ Some one.0) d
            (λ verdict h is. let u = accepted_use (is_token key exp) verdict is in absurd (none-some u.0 (sym allowed.1 ∙ subst (Grants e) u.1 h))) (deed_grants t events v up refused e)) one.1,
      )
  one_owner (Looks v now index up n refused j ∷ events) margin allowed =
      let w = history t events in
      owned_look w.claims v now index n j (heard_deed refused (at_moment (w.requests v) up) (Found n j)) w.given (passing j) refl margin allowed.1 (deed_grants t events v up refused (Found n j)) (founded t events allowed.0)
      (one_owner events margin allowed.0)
  one_owner (Begin v wait moment uses ∷ events) margin allowed = one_owner events margin allowed.0

pub tokens_are_answered_to_one_owner : TokensAreAnsweredToOneOwner
tokens_are_answered_to_one_owner t events key exp margin allowed = one_owner t key exp events margin allowed

-- an answer among others
all_at : (Q : Given → Type 0) (given : List Given) (i : ℕ) (g : Given) → AllByRecursion Q given → slice_get given i ≡ Some g → Q g
all_at Q [] i g all is = absurd (none-some g is)
all_at Q (x ∷ given) zero g all is = subst Q (same_Some x g is) all.0
all_at Q (x ∷ given) (suc i) g all is = all_at Q given i g all.1 is

pub tokens_are_answered_to_one_caller : TokensAreAnsweredToOneCaller
tokens_are_answered_to_one_caller t events key exp owner_of a b margin allowed tell one other =
    let all = one_owner t key exp events margin allowed in
    let given = (history t events).given in
    let first = sym one.owner_is ∙ all_at (Owned t key exp all.0) given one.index one.answer all.1 one.there one.accepted in
    let second = sym other.owner_is ∙ all_at (Owned t key exp all.0) given other.index other.answer all.1 other.there other.accepted in
    tell (same_Some (owner_of a exp) (owner_of b exp) (first ∙ sym second))

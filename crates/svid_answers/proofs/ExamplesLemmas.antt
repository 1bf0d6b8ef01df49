-- The histories happen.
use Rattle.std.proofs.Common.{◌≡◌, ℕ, ◌<◌, ◌||◌, nat_lt, max, sym, true, false, List, [], ◌∷◌, refl, ap, ◌∙◌, arith, Some, get_or}
use Rattle.std.proofs.lemmas.Bool.{and_right, or_from, true≢false}
use Rattle.std.proofs.lemmas.Option.{none-some, same_Some}
use Rattle.svid_replay.specs.declared.token_use.Use.{Use}
use Rattle.svid_replay.specs.Buckets.{raised_to}
use Rattle.svid_replay.specs.Records as records
use Rattle.svid_replay.specs.Sets.{holds}
use Rattle.svid_replay.specs.Uses.{has_use_of, no_uses}
use Rattle.svid_replay.proofs.RecordsLemmas.{holds-join, moment-join}
use Rattle.svid_replay.proofs.UsesLemmas.{no_uses_hold_none}
use Rattle.svid_log.proofs.GroupsLemmas.{none_of_key}
use Rattle.svid_claims.specs.Groups.{Answer, Terms, World}
use Rattle.svid_claims.specs.Histories.{group_of, one_key, own}
use Rattle.svid_claims.specs.Once.{HaveOwners}
use Rattle.svid_answers.specs.Examples.{BoundAnswers, OnceAnswers, StrictAnswers, claims_for, used}
use Rattle.svid_answers.specs.Group.{FindsUse, history}
use Rattle.svid_answers.specs.Group.Event.{Looks}
use Rattle.svid_requests.specs.declared.judgment.Judgment.TheVariants.{Passes}

-- owners of their own
have_owners : HaveOwners (group_of true 3 3 own)
have_owners v w life other exp is = (ap (λ (o : List ℕ). get_or o 1 0) is, ap (λ (o : List ℕ). get_or o 2 0) is)

-- the use that is found is the one that the request hears of
finds_used : (t : Terms) (w : World) (v now index : ℕ) (u : Use) → Some used ≡ Some u → FindsUse t w v now index used → FindsUse t w v now index u
finds_used t w v now index u is f = record {
  answer = f.answer;
  accepts = f.accepts;
  key_is = f.key_is ∙ ap (λ (d : Use). d.key) (same_Some used u is);
  exp_is = f.exp_is ∙ ap (λ (d : Use). d.exp) (same_Some used u is);
}

-- what the store of the examples answers to the first put of an owner
answer : List ℕ → Answer
answer owner = record { key = one_key; found = record { owner = owner; exp = 8 }; time = 2; epoch = 0; deaf = 0 }

finds_own : FindsUse (group_of true 3 3 own) (history (group_of true 3 3 own) (claims_for 1 (own 1 1 8) (claims_for 0 (own 0 1 8) []))).claims 0 1 0 used
unfolding answer
finds_own = record { answer = answer (own 0 1 8); accepts = record { given = refl; accepted = refl }; key_is = refl; exp_is = refl }

finds_bound : FindsUse (group_of false 3 3 own) (history (group_of false 3 3 own) (claims_for 1 (9 ∷ []) (claims_for 0 (9 ∷ []) []))).claims 0 1 0 used
unfolding answer
finds_bound = record { answer = answer (9 ∷ []); accepts = record { given = refl; accepted = refl }; key_is = refl; exp_is = refl }

finds_again : FindsUse (group_of false 3 3 own) (history (group_of false 3 3 own) (Looks 0 1 0 0 0 false (Passes used) ∷ claims_for 1 (9 ∷ []) (claims_for 0 (9 ∷ []) []))).claims 1 1 1 used
unfolding answer
finds_again = record { answer = answer (9 ∷ []); accepts = record { given = refl; accepted = refl }; key_is = refl; exp_is = refl }

pub strict_answers : StrictAnswers
strict_answers = record {
  margin = λ v. omega arith;
  owners = have_owners;
  allowed = ((((((((((((tt, tt), tt), refl), refl), tt), tt), tt), refl), refl), tt), λ u is. finds_used (group_of true 3 3 own) _ 0 1 0 u is finds_own), λ u is. absurd (none-some u is));
  both = refl;
  once = refl;
}

pub bound_answers : BoundAnswers
bound_answers = record {
  margin = λ v. omega arith;
  allowed = ((((((((((((tt, tt), tt), refl), refl), tt), tt), tt), refl), refl), tt), λ u is. finds_used (group_of false 3 3 own) _ 0 1 0 u is finds_bound), λ u is. finds_used (group_of false 3 3 own) _ 1 1 1 u is finds_again);
  twice = refl;
}

-- In mode once.

abbrev raised : records.State
raised = raised_to (records.state_of 0 []) 1

none_held : (u : Use) → holds raised.uses u ≡ false
none_held u =
    holds-join (records.state_of 0 []) (records.state_of 1 []) u
    ∙ and_right (nat_lt (max 0 1) u.exp) (holds no_uses u || holds no_uses u) (or_from (holds no_uses u) (holds no_uses u) (no_uses_hold_none u) (no_uses_hold_none u))

not_used : has_use_of raised.uses one_key ≡ false
not_used = none_of_key raised.uses one_key (λ u held key. true≢false (sym held ∙ none_held u))

live : raised.moment < 8
live = let at = moment-join (records.state_of 0 []) (records.state_of 1 []) in omega arith

pub once_answers : OnceAnswers
once_answers = record {
  allowed = ((((tt, λ u none. absurd none), tt), (live, not_used)), refl);
  once = refl;
  unkept_allowed = (((tt, λ u none. absurd none), tt), (live, not_used));
  unkept = refl;
}

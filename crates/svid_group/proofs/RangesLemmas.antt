-- If the validator IDs, the moments and the uses of the log of a group are in range, so are each use that is learned and each record's moment. So
-- answers carry everything.
use Rattle.std.proofs.Common.{◌≡◌, ◌+◌, ◌-◌, ◌^◌, ◌<◌, ◌≤◌, ℕ, max, min, List, [], ◌∷◌, Contains, Option, None, Some, Result, Ok, Err, refl, sym, subst, inl, inr, arith}
use Rattle.std.specs.List.{AllByRecursion}
use Rattle.std.proofs.lemmas.List.Elements.{Contains-append_cases}
use Rattle.svid_token.specs.declared.refusal.Refusal.{Refusal}
use Rattle.svid_replay.specs.Buckets.{raised_to}
use Rattle.svid_replay.specs.declared.token_use.Use.{Use}
use Rattle.svid_replay.specs.Records.{State, batch_state, state_of}
use Rattle.svid_replay.specs.Use.{IsUse, IsBytes}
use Rattle.svid_replay.proofs.ListLemmas.{has_cases, has_none}
use Rattle.svid_replay.proofs.RecordsLemmas.{moment-join}
use Rattle.svid_check.specs.declared.accepted.Accepted.{Accepted}
use Rattle.svid_check.specs.Changes.{accepted_in, gains}
use Rattle.svid_check.specs.Headline.{HasIds, IsEventInRange as IsCallInRange}
use Rattle.svid_check.specs.Runs.{Terms}
use Rattle.svid_check.specs.World as check
use Rattle.svid_check.specs.World.{Check, Member, Withdraw, answer_at, carried, one_or_none, setting_at}
use Rattle.svid_check.proofs.AnsweredLemmas.{answer_told}
use Rattle.svid_check.proofs.AnswersLemmas.{accepted_is}
use Rattle.svid_check.proofs.EachToldLemmas.{AllTold, Each, IsAt, IsKept, withdrawal_is}
use Rattle.svid_check.proofs.LawfulLemmas.{in_range}
use Rattle.svid_check.proofs.MembersLemmas.{carried_within}
use Rattle.svid_check.proofs.IndexesLemmas.{renewed_validator_id}
use Rattle.svid_group.specs.Told.{AnswersTellAll, IsEventInRange, made_by}
use Rattle.svid_group.specs.World.{Call, Event, Put, World, happen, happens, start}
use Rattle.svid_group.proofs.MadeLemmas.{Holds, IsTimely, gained_each, happens_holds, none_each, start_holds, union_each}
use Rattle.svid_group.proofs.StandsLemmas.{is_whole}

-- a moment
abbrev IsMoment : ℕ → Type 0
IsMoment n = n < 2 ^ 64

-- a validator's record has a moment, and it has learned uses
record IsFit (x : Member) : Type 0 where
  moment : IsMoment x.held.moment
  uses : Each IsUse x.told.uses

capped : (n m : ℕ) → m ≤ min n (2 ^ 64 - 1) → m < 2 ^ 64
capped n m h = omega arith

greater : (m n k : ℕ) → k ≡ max m n → m < 2 ^ 64 → n < 2 ^ 64 → k < 2 ^ 64
greater m n k e h g = omega arith

gained_is : (x : State) (added : Option Use) → IsMoment x.moment → IsMoment (gains x added).moment
gained_is x (Some u) h = greater x.moment x.moment (gains x (Some u)).moment (moment-join x (state_of x.moment (u ∷ []))) h h
gained_is x None h = h

fit_is_kept : IsKept IsMoment IsUse IsFit
fit_is_kept = record {
  within = λ now ahead m h. capped (now + ahead) m h;
  new = record { moment = omega arith; uses = none_each IsUse };
  ticks = λ x now at h. record { moment = greater x.held.moment now (raised_to x.held now).moment (moment-join x.held (state_of now [])) h.moment at; uses = h.uses };
  adds = λ x added is h. record { moment = gained_is x.held added h.moment; uses = gained_each IsUse x added is h.uses };
  logs = λ x entry h. record { moment = h.moment; uses = h.uses };
  renews = λ x renewal h. record { moment = h.moment; uses = h.uses };
  joins = λ x maker b at h made. record {
    moment = greater x.held.moment b.moment _ (moment-join x.held (batch_state b)) h.moment at;
    uses = union_each IsUse x.told.uses (carried maker.told.uses b) h.uses (λ u has. made.uses u (carried_within maker.told.uses b u has));
  };
}

in_answer : (answer : Result Accepted Refusal) (u : Use) → Contains (one_or_none (accepted_in answer)) u → (accepted : Accepted) × (answer ≡ Ok accepted) × (accepted.used ≡ u)
in_answer (Ok accepted) u has = elim (has_cases accepted.used [] u has) [ inl same ↦ (accepted, refl, same) | inr later ↦ has_none u later ]
in_answer (Err refusal) u has = has_none u has

call_in_time : (e : check.Event) → IsCallInRange e → IsAt IsMoment e
call_in_time (Withdraw v now key exp refused) h = h.0
call_in_time _ h = h

in_time : (e : Event) → IsEventInRange e → IsTimely IsMoment e
in_time (Call e) h = call_in_time e h
in_time (Put u) h = h.at
in_time _ h = h

module _ (group : ℕ → Terms) (ids : HasIds group) where
  use_by : (w : check.World) (e : check.Event) → IsCallInRange e → ((v : ℕ) → IsMoment (w.members v).held.moment) → (u : Use) → Contains (check.accepted_by group w e) u → IsUse u
  use_by w (Check v now token refused) at h u has =
      let x = (w.members v).held in
      let y = raised_to x now in
      let found = in_answer (answer_at group w v now token refused) u has in
      let low = greater x.moment now y.moment (moment-join x (state_of now [])) (h v) at in
      let s = setting_at group w v in
      let validator_id = subst (IsBytes 16) (sym (renewed_validator_id (group v).setting (w.members v).renewal)) (ids v) in
      subst IsUse found.2 (in_range s y.moment y.uses token found.0.used (accepted_is s y token refused found.0 found.1) validator_id low)
  use_by w _ at h u has = has_none u has

  gone_by : (w : check.World) (e : check.Event) → IsCallInRange e → ((v : ℕ) → IsMoment (w.members v).held.moment) → (u : Use) → Contains (check.withdrawn_by group w e) u → IsUse u
  gone_by w (Withdraw v now key exp refused) at h u has =
      let x = (w.members v).held in
      let y = raised_to x now in
      let low = greater x.moment now y.moment (moment-join x (state_of now [])) (h v) at.0 in
      subst IsUse (sym (withdrawal_is (group v).setting.validator_id y key exp refused u has)) (record { exp = at.2; key = at.1; validator_id = ids v; at = low })
  gone_by w _ at h u has = has_none u has

  made_in_range : (w : World) (e : Event) → IsEventInRange e → ((v : ℕ) → IsMoment (w.group.members v).held.moment) → (u : Use) → Contains (made_by group w e) u → IsUse u
  made_in_range w (Call e) at h u has = elim (Contains-append_cases (check.accepted_by group w.group e) (check.withdrawn_by group w.group e) u has) [
    | inl used ↦ use_by w.group e at h u used
    | inr gone ↦ gone_by w.group e at h u gone
  ]
  made_in_range w (Put c) at h u has = elim (has_cases c [] u has) [ inl same ↦ subst IsUse same at | inr later ↦ has_none u later ]
  made_in_range w _ at h u has = has_none u has

  stays_fit : (w : World) (events : List Event) → AllByRecursion IsEventInRange events → Holds IsMoment IsUse IsFit w → Holds IsMoment IsUse IsFit (happen group w events)
  stays_fit w [] at h = h
  stays_fit w (e ∷ events) at h =
      stays_fit (happens group w e) events at.1
      (happens_holds IsMoment IsUse IsFit fit_is_kept group w e (in_time e at.0) (made_in_range w e at.0 (λ v. (h.group.members v).moment)) h)

  told_are_uses : (events : List Event) → AllByRecursion IsEventInRange events → AllTold IsUse (happen group start events).group
  told_are_uses events at =
      let h = stays_fit start events at (start_holds IsMoment IsUse IsFit fit_is_kept) in
      record { members = λ v. (h.group.members v).uses; pool = λ k q stands. (h.group.pool k q stands).uses; saves = λ k s stands. (h.group.saves k s stands).uses }

pub answers_tell_all : AnswersTellAll
answers_tell_all group events v j k answer summary parts s ids at at_k is_summary made at_j is_answer taken =
    answer_told (happen group start events).group v j k answer summary parts s (is_whole group events).sound (told_are_uses group ids events at) at_k is_summary made at_j is_answer taken

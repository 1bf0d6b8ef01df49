-- If the validator IDs and the moments of a group are in range, so are each use that is learned and each record's moment.
use Rattle.std.proofs.Common.{◌≡◌, ◌+◌, ◌-◌, ◌^◌, ◌<◌, ◌≤◌, ℕ, max, min, List, [], ◌∷◌, Contains, Option, None, Some, Result, Ok, Err, refl, sym, subst, inl, inr, arith}
use Rattle.std.specs.List.{AllByRecursion}
use Rattle.std.proofs.lemmas.List.Elements.{Contains-append_cases}
use Rattle.svid_token.specs.declared.refusal.Refusal.{Refusal}
use Rattle.svid_replay.specs.Buckets.{raised_to}
use Rattle.svid_replay.specs.declared.token_use.Use.{Use}
use Rattle.svid_replay.specs.Records.{State, batch_state, state_of}
use Rattle.svid_replay.specs.Use.{IsUse, IsBytes}
use Rattle.svid_replay.proofs.ListLemmas.{has_cases, has_none}
use Rattle.svid_replay.proofs.RecordsLemmas.{moment-join}
use Rattle.svid_check.specs.declared.accepted.Accepted.{Accepted}
use Rattle.svid_check.specs.Changes.{accepted_in, gains}
use Rattle.svid_check.specs.Headline.{HasIds, IsEventInRange}
use Rattle.svid_check.specs.Runs.{Terms}
use Rattle.svid_check.specs.World.{Answer, Check, Event, Member, OldSend, Restart, Save, Send, Sum, Take, Tick, Withdraw, World, accepted, accepted_by, answer_at, happen, happens, one_or_none, start, withdrawn, withdrawn_by, Renew, setting_at, Piece}
use Rattle.svid_check.proofs.AnswersLemmas.{accepted_is}
use Rattle.svid_check.proofs.EachToldLemmas.{AllTold, Everywhere, IsAt, IsKept, each_told, happens_everywhere, start_everywhere, withdrawal_is}
use Rattle.svid_check.proofs.LawfulLemmas.{in_range}
use Rattle.svid_check.proofs.IndexesLemmas.{renewed_validator_id}

-- a moment
abbrev pub IsMoment : ℕ → Type 0
IsMoment n = n < 2 ^ 64

-- a validator's record is of a moment
abbrev pub HasMoment : Member → Type 0
HasMoment x = IsMoment x.held.moment

capped : (n m : ℕ) → m ≤ min n (2 ^ 64 - 1) → m < 2 ^ 64
capped n m h = omega arith

greater : (m n k : ℕ) → k ≡ max m n → m < 2 ^ 64 → n < 2 ^ 64 → k < 2 ^ 64
greater m n k e h g = omega arith

gained_is : (x : State) (added : Option Use) → IsMoment x.moment → IsMoment (gains x added).moment
gained_is x (Some u) h = greater x.moment x.moment (gains x (Some u)).moment (moment-join x (state_of x.moment (u ∷ []))) h h
gained_is x None h = h

moments_are_kept : IsKept IsMoment (λ u. Unit {0}) HasMoment
moments_are_kept = record {
  within = λ now ahead m h. capped (now + ahead) m h;
  new = omega arith;
  ticks = λ x now at h. greater x.held.moment now (raised_to x.held now).moment (moment-join x.held (state_of now [])) h at;
  adds = λ x added is h. gained_is x.held added h;
  logs = λ x entry h. h;
  renews = λ x renewal h. h;
  joins = λ x maker b at h made. greater x.held.moment b.moment _ (moment-join x.held (batch_state b)) h at;
}

in_answer : (answer : Result Accepted Refusal) (u : Use) → Contains (one_or_none (accepted_in answer)) u → (accepted : Accepted) × (answer ≡ Ok accepted) × (accepted.used ≡ u)
in_answer (Ok accepted) u has = elim (has_cases accepted.used [] u has) [ inl same ↦ (accepted, refl, same) | inr later ↦ has_none u later ]
in_answer (Err refusal) u has = has_none u has

in_moment : (e : Event) → IsEventInRange e → IsAt IsMoment e
in_moment (Check v now token refused) h = h
in_moment (Withdraw v now key exp refused) h = h.0
in_moment (OldSend v) h = tt
in_moment (Tick v now) h = h
in_moment (Send v) h = tt
in_moment (Sum v) h = tt
in_moment (Answer v now posting refused) h = h
in_moment (Take v now posting part refused) h = h
in_moment (Save v) h = tt
in_moment (Piece v after most) h = tt
in_moment (Restart v s) h = tt
in_moment (Renew v renewal) h = tt

module _ (group : ℕ → Terms) where
  next_moments : (w : World) (e : Event) → IsEventInRange e → Everywhere HasMoment w → Everywhere HasMoment (happens group w e)
  next_moments w e at h = happens_everywhere IsMoment (λ u. Unit {0}) HasMoment moments_are_kept group w e (in_moment e at) (λ u has. tt) (λ u has. tt) h

  module _ (ids : HasIds group) where
    use_by : (w : World) (e : Event) → IsEventInRange e → Everywhere HasMoment w → (u : Use) → Contains (accepted_by group w e) u → IsUse u
    use_by w (Check v now token refused) at h u has =
        let x = (w.members v).held in
        let y = raised_to x now in
        let found = in_answer (answer_at group w v now token refused) u has in
        let low = greater x.moment now y.moment (moment-join x (state_of now [])) (h.members v) at in
        let s = setting_at group w v in
        let validator_id = subst (IsBytes 16) (sym (renewed_validator_id (group v).setting (w.members v).renewal)) (ids v) in
        subst IsUse found.2 (in_range s y.moment y.uses token found.0.used (accepted_is s y token refused found.0 found.1) validator_id low)
    use_by w _ at h u has = has_none u has

    gone_by : (w : World) (e : Event) → IsEventInRange e → Everywhere HasMoment w → (u : Use) → Contains (withdrawn_by group w e) u → IsUse u
    gone_by w (Withdraw v now key exp refused) at h u has =
        let x = (w.members v).held in
        let y = raised_to x now in
        let low = greater x.moment now y.moment (moment-join x (state_of now [])) (h.members v) at.0 in
        subst IsUse (sym (withdrawal_is (group v).setting.validator_id y key exp refused u has)) (record { exp = at.2; key = at.1; validator_id = ids v; at = low })
    gone_by w _ at h u has = has_none u has

    withdrawn_are_uses : (w : World) (events : List Event) → AllByRecursion IsEventInRange events → Everywhere HasMoment w → (u : Use) → Contains (withdrawn group w events) u → IsUse u
    withdrawn_are_uses w [] at h u has = has_none u has
    withdrawn_are_uses w (e ∷ events) at h u has = elim (Contains-append_cases (withdrawn_by group w e) (withdrawn group (happens group w e) events) u has) [
      | inl now ↦ gone_by w e at.0 h u now
      | inr later ↦ withdrawn_are_uses (happens group w e) events at.1 (next_moments w e at.0 h) u later
    ]

    accepted_are_uses : (w : World) (events : List Event) → AllByRecursion IsEventInRange events → Everywhere HasMoment w → (u : Use) → Contains (accepted group w events) u → IsUse u
    accepted_are_uses w [] at h u has = has_none u has
    accepted_are_uses w (e ∷ events) at h u has = elim (Contains-append_cases (accepted_by group w e) (accepted group (happens group w e) events) u has) [
      | inl now ↦ use_by w e at.0 h u now
      | inr later ↦ accepted_are_uses (happens group w e) events at.1 (next_moments w e at.0 h) u later
    ]

pub told_are_uses : (group : ℕ → Terms) (events : List Event) → HasIds group → AllByRecursion IsEventInRange events → AllTold IsUse (happen group start events)
told_are_uses group events ids at =
    let begun = start_everywhere IsMoment (λ u. Unit {0}) HasMoment moments_are_kept in
    each_told group events IsUse (accepted_are_uses group ids start events at begun) (withdrawn_are_uses group ids start events at begun)

-- A history in which each kind of event happens.
use Rattle.std.proofs.Common.{◌≡◌, ℕ, ◌<◌, max, Bool, true, false, nat_lt, List, [], ◌∷◌, Option, None, Some, IsTrue, refl, sym, ap, ◌∙◌, subst, arith, if◌then◌else◌}
use Rattle.std.specs.Prelude.{Result, Ok, Err, slice_get}
use Rattle.std.specs.List.{list_any}
use Rattle.std.specs.List.Sorted.{IsStrictlySortedBy}
use Rattle.std.specs.Ordering.{eq_by_cmp, is_eq}
use Rattle.std.proofs.lemmas.Bool.{le-ltb, lt-ltb, or_left, or_right}
use Rattle.std.proofs.lemmas.Cmp.{tied_itself}
use Rattle.svid_token.specs.declared.refusal.Refusal.{Refusal}
use Rattle.svid_replay.specs.declared.token_use.Use.{Use}
use Rattle.svid_replay.specs.Batches.{BatchData}
use Rattle.svid_replay.specs.Buckets.{answer_to, raised_to, summary_of}
use Rattle.svid_replay.specs.Records.{State, batch_state, state_of}
use Rattle.svid_replay.specs.Sets.{holds, rising, with}
use Rattle.svid_replay.specs.Use.{use_cmp}
use Rattle.svid_replay.specs.Uses.{Uses, uses_in}
use Rattle.svid_replay.proofs.ListLemmas.{has_first}
use Rattle.svid_replay.proofs.RecordsLemmas.{moment-join}
use Rattle.svid_replay.proofs.UseLemmas.{use_total}
use Rattle.svid_replay.proofs.UsesLemmas.{rising-uses_in, with_holds_one_more}
use Rattle.svid_check.specs.declared.accepted.Accepted.{Accepted}
use Rattle.svid_check.specs.declared.withdraw_fault.WithdrawFault.TheVariants as withdraw
use Rattle.svid_check.specs.Changes.{horizon, withdrawal}
use Rattle.svid_check.specs.History.{AllHappened, EveryKindHappens}
use Rattle.svid_check.specs.Runs.{Terms}
use Rattle.svid_check.specs.Setting.{Renewal}
use Rattle.svid_check.specs.World.{Answer, Answered, Event, Member, OldSend, Piece, Posting, Renew, Restart, Save, Send, Sent, Sum, Take, Tick, Took, Withdraw, World, carried, checked, gained, happen, happens, has_withdrawal, joined, logged, new_member, old_parts_of, post, put, save, start, take_part, ticked, withdrew}
use Rattle.svid_check.proofs.CutsLemmas.{first_part, old_are_cut}
use Rattle.svid_check.proofs.MembersLemmas.{within_union}

not_so : {A : Type 0} (test : Bool) (a b : A) → test ≡ false → (if test then a else b) ≡ b
not_so true a b is = cc
not_so false a b is = refl

has_itself : (s : Uses) (u : Use) → IsTrue (holds (with s u) u)
has_itself s u = with_holds_one_more s u u ∙ or_left (eq_by_cmp use_cmp u u) (holds s u) (ap is_eq (tied_itself use_total u))

has_before : (s : Uses) (u v : Use) → IsTrue (holds s u) → IsTrue (holds (with s v) u)
has_before s u v h = with_holds_one_more s v u ∙ or_right (eq_by_cmp use_cmp u v) (holds s u) h

no_withdrawal : has_withdrawal (state_of 0 []) ≡ false
unfolding IsStrictlySortedBy
no_withdrawal = ap (list_any (λ (u : Use). u.withdrawn)) (rising-uses_in [] tt)

no_moment : (r : State) → (summary_of r).moment ≡ r.moment
unfolding summary_of
no_moment r = refl

module _ (t : Terms) (now : ℕ) (first : Accepted) (key : List ℕ) (exp : ℕ) (renewal : Renewal) (later : now < exp) where
  abbrev group : ℕ → Terms
  group v = t

  abbrev far : ℕ
  far = horizon now t.ahead

  in_time : (m : ℕ) → m ≡ 0 → nat_lt far m ≡ false
  in_time m is = le-ltb far m (omega (arith, is))

  -- validator 0 after the check
  abbrev checks : Member
  checks = checked (ticked new_member now) (Ok first)

  abbrev old : List BatchData
  old = old_parts_of new_member.held

  abbrev saved : World
  saved = save (put start 0 checks) 1 new_member

  abbrev sent : World
  sent = post saved 1 new_member (Sent old)

  sends : happens group saved (OldSend 1) ≡ sent
  sends = not_so (has_withdrawal new_member.held) saved sent no_withdrawal

  -- the part that it takes
  part : (b : BatchData) × (slice_get old 0 ≡ Some b) × (b.moment ≡ 0)
  part = first_part 0 (rising new_member.held.uses) old (old_are_cut new_member.held)

  abbrev takes : Member
  takes = logged (joined (ticked checks now) new_member.told.uses part.0) (Took 0 0)

  abbrev sending : Posting
  sending = record { maker = 1; was = new_member; content = Sent old }

  taken : happens group sent (Take 0 now 0 0 None) ≡ put sent 0 takes
  taken =
      let x = ticked checks now in
      ap (λ (o : Option BatchData). take_part sent 0 far x (Took 0 0) None sending o) part.1
      ∙ ap (put sent 0) (not_so (nat_lt far part.0.moment) x takes (in_time part.0.moment part.2))

  -- validator 0's moment stays
  checks_at : checks.held.moment ≡ now
  checks_at =
      let a = raised_to (state_of 0 []) now in
      let at : a.moment ≡ max 0 now = moment-join (state_of 0 []) (state_of now []) in
      moment-join a (state_of a.moment (first.used ∷ [])) ∙ omega (arith, at)

  takes_at : (ticked takes now).held.moment ≡ now
  takes_at =
      let a = raised_to checks.held now in
      let at : a.moment ≡ max checks.held.moment now = moment-join checks.held (state_of now []) in
      let joins : takes.held.moment ≡ max a.moment part.0.moment = moment-join a (batch_state part.0) in
      moment-join takes.held (state_of now []) ∙ omega (arith, at, joins, part.2, checks_at)

  abbrev gone : Use
  gone = withdrawal t.setting.validator_id now key exp

  abbrev withdraws : Member
  withdraws = gained (ticked takes now) (Some gone)

  withdrawn : happens group (put sent 0 takes) (Withdraw 0 now key exp false) ≡ put (put sent 0 takes) 0 withdraws
  withdrawn =
      let x = ticked takes now in
      let due = λ (m : ℕ). put (put sent 0 takes) 0 (withdrew x (if nat_lt m exp then Ok (withdrawal t.setting.validator_id m key exp) else Err withdraw.Expired)) in
      ap due takes_at ∙ ap (λ (test : Bool). put (put sent 0 takes) 0 (withdrew x (if test then Ok gone else Err withdraw.Expired))) (lt-ltb now exp later)

  abbrev summed : World
  summed = happen group (put (put sent 0 takes) 0 withdraws) (Send 1 ∷ Sum 1 ∷ [])

  abbrev answers : Member
  answers = ticked (ticked withdraws now) (summary_of new_member.held).moment

  abbrev answered : World
  answered = post (put summed 0 answers) 0 answers (Answered 2 (answer_to (ticked withdraws now).held (summary_of new_member.held)))

  replied : happens group summed (Answer 0 now 2 false) ≡ answered
  replied = not_so (nat_lt far (summary_of new_member.held).moment) (put summed 0 (ticked withdraws now)) answered (in_time (summary_of new_member.held).moment (no_moment new_member.held))

  ends : AllHappened t now first key exp renewal (happen group answered (Piece 1 None 1 ∷ Tick 1 now ∷ Renew 1 renewal ∷ Restart 1 0 ∷ []))
  ends = record {
    accepted = has_before takes.told.uses first.used gone (within_union checks.told.uses (carried new_member.told.uses part.0) first.used (has_itself (uses_in []) first.used));
    withdrawn = has_itself takes.told.uses gone;
    taken = has_first (Took 0 0) [];
    posted = refl;
    saved = refl;
    put_back = (refl, refl);
    renewed = refl;
  }

  abbrev Ends : List Event → World → Type 0
  Ends events w = AllHappened t now first key exp renewal (happen group w events)

  from_check : Ends (Save 1 ∷ OldSend 1 ∷ Take 0 now 0 0 None ∷ Withdraw 0 now key exp false ∷ Send 1 ∷ Sum 1 ∷ Answer 0 now 2 false ∷ Piece 1 None 1 ∷ Tick 1 now ∷ Renew 1 renewal ∷ Restart 1 0 ∷ []) (put start 0 checks)
  from_check =
      subst (Ends (Take 0 now 0 0 None ∷ Withdraw 0 now key exp false ∷ Send 1 ∷ Sum 1 ∷ Answer 0 now 2 false ∷ Piece 1 None 1 ∷ Tick 1 now ∷ Renew 1 renewal ∷ Restart 1 0 ∷ [])) (sym sends)
      (subst (Ends (Withdraw 0 now key exp false ∷ Send 1 ∷ Sum 1 ∷ Answer 0 now 2 false ∷ Piece 1 None 1 ∷ Tick 1 now ∷ Renew 1 renewal ∷ Restart 1 0 ∷ [])) (sym taken)
      (subst (Ends (Send 1 ∷ Sum 1 ∷ Answer 0 now 2 false ∷ Piece 1 None 1 ∷ Tick 1 now ∷ Renew 1 renewal ∷ Restart 1 0 ∷ [])) (sym withdrawn)
      (subst (Ends (Piece 1 None 1 ∷ Tick 1 now ∷ Renew 1 renewal ∷ Restart 1 0 ∷ [])) (sym replied) ends)))

pub every_kind_happens : EveryKindHappens
every_kind_happens t now token first key exp renewal is later =
    subst (λ (answer : Result Accepted Refusal). Ends t now first key exp renewal later (Save 1 ∷ OldSend 1 ∷ Take 0 now 0 0 None ∷ Withdraw 0 now key exp false ∷ Send 1 ∷ Sum 1 ∷ Answer 0 now 2 false ∷ Piece 1 None 1 ∷ Tick 1 now ∷ Renew 1 renewal ∷ Restart 1 0 ∷ []) (put start 0 (checked (ticked new_member now) answer)))
    (sym is) (from_check t now first key exp renewal later)

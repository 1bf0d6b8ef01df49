-- If restarts leave the logs as they were, a log does not say what was learned.
use Rattle.std.proofs.Common.{◌≡◌, ℕ, zero, suc, ◌<◌, ◌≤◌, ◌^◌, max, Bool, true, false, not, ◌||◌, ◌&&◌, nat_lt, List, [], ◌∷◌, Some, None, Contains, refl, sym, ap, ◌∙◌, subst, arith, if◌then◌else◌}
use Rattle.std.specs.Prelude.{Result, Ok, slice_get}
use Rattle.std.specs.List.Sorted.{IsStrictlySortedBy}
use Rattle.std.specs.Ordering.{eq_by_cmp, is_eq}
use Rattle.std.proofs.lemmas.Bool.{false_from_ne_true, lt-ltb, ltb-true, or_from, or_left}
use Rattle.std.proofs.lemmas.Cmp.{tied_itself}
use Rattle.std.proofs.lemmas.Option.{none-some}
use Rattle.svid_token.specs.declared.refusal.Refusal.{Refusal}
use Rattle.svid_replay.specs.declared.token_use.Use.{Use}
use Rattle.svid_replay.specs.Batches.{BatchData}
use Rattle.svid_replay.specs.Buckets.{answer_to, bucket_text, raised_to, summary_of}
use Rattle.svid_replay.specs.Parts.{cut, parts_of}
use Rattle.svid_replay.specs.Records.{IsHeldAt, IsRecord, State, join, state_of}
use Rattle.svid_replay.specs.Sets.{holds}
use Rattle.svid_replay.specs.Use.{IsBytes, IsRising, use_cmp}
use Rattle.svid_replay.specs.Uses.{Uses, uses_in}
use Rattle.svid_replay.proofs.BucketsLemmas.{own_summary_asks_nothing}
use Rattle.svid_replay.proofs.ListLemmas.{has_first, has_later}
use Rattle.svid_replay.proofs.PartsLemmas.{cut_few}
use Rattle.svid_replay.proofs.RecordsLemmas.{holds-join, is_join, moment-join, raised_to_own}
use Rattle.svid_replay.proofs.SetsLemmas.{holds-keep}
use Rattle.svid_replay.proofs.TestsLemmas.{and-false, equal, or-false}
use Rattle.svid_replay.proofs.UseLemmas.{use_exact, use_total}
use Rattle.svid_replay.proofs.UsesLemmas.{holds-union, holds-uses_in, rising-uses_in, with_holds_one_more}
use Rattle.svid_check.specs.declared.accepted.Accepted.{Accepted}
use Rattle.svid_check.specs.Changes.{horizon}
use Rattle.svid_check.specs.Forgetful.{AcceptsNew, AnswersAreForgotten, IsAnswerForgotten, IsSendForgotten, SendsAreForgotten, happen_forgetful, happens_forgetful}
use Rattle.svid_check.specs.Lawful.{Accepts}
use Rattle.svid_check.specs.Runs.{Terms}
use Rattle.svid_check.specs.World.{Answer, Answered, Entry, Made, Member, Posting, Restart, Send, Sent, Sum, Summed, Take, Took, World, carried, checked, joined, logged, new_member, post, put, save, start, take_part, ticked}
use Rattle.svid_check.proofs.AnswersLemmas.{accepted_is}
use Rattle.svid_check.proofs.LawfulLemmas.{alive, in_range, made_now}

-- A record of one use.

only_use : (u v : Use) → holds (uses_in (u ∷ [])) v ≡ true → v ≡ u
only_use u v held =
    let tied : eq_by_cmp use_cmp v u ≡ true = sym (or-false (eq_by_cmp use_cmp v u)) ∙ sym (holds-uses_in (u ∷ []) v) ∙ held in
    use_exact v u (equal (use_cmp v u) tied)

only_live : (late h g : Bool) → g ≡ false → (h ≡ true → late ≡ true) → h ≡ (late && (h || g))
only_live late true g none so = sym (ap (λ l. l && true) (so refl))
only_live late false g none so = sym (ap (λ h. late && h) none ∙ and-false late)

-- a record of no use, joined with one use
one_use : (now m : ℕ) (u : Use) (a : State) → a.moment ≡ now → m ≤ now → now < u.exp → ((v : Use) → holds a.uses v ≡ false) → state_of now (u ∷ []) ≡ join a (state_of m (u ∷ []))
one_use now m u a is le later none =
    let same : now ≡ max a.moment m = omega (arith, is) in
    is_join a (state_of m (u ∷ [])) (state_of now (u ∷ [])) same (λ v.
    only_live (nat_lt (max a.moment m) v.exp) (holds (uses_in (u ∷ [])) v) (holds a.uses v) (none v) (λ held.
    subst (λ (w : Use). nat_lt (max a.moment m) w.exp ≡ true) (sym (only_use u v held)) (subst (λ n. nat_lt n u.exp ≡ true) same (lt-ltb now u.exp later))))

raised_moment : (now : ℕ) → (raised_to new_member.held now).moment ≡ now
raised_moment now =
    let same : max 0 now ≡ now = omega arith in
    moment-join (state_of 0 []) (state_of now []) ∙ same

raised_none : (now : ℕ) (v : Use) → holds (raised_to new_member.held now).uses v ≡ false
raised_none now v =
    let late = nat_lt (max 0 now) v.exp in
    holds-join (state_of 0 []) (state_of now []) v ∙ ap (λ h. late && (h || h)) (holds-uses_in [] v) ∙ and-false late

one_rising : (u : Use) → IsRising (u ∷ [])
unfolding IsStrictlySortedBy
one_rising u = (tt, tt)

one_part : (now : ℕ) (u : Use) → parts_of (state_of now (u ∷ [])) ≡ record { moment = now; uses = u ∷ [] } ∷ []
one_part now u = ap (cut now) (rising-uses_in (u ∷ []) (one_rising u)) ∙ cut_few now (u ∷ []) (omega arith)

-- Tests and lists.

on_time : (now ahead : ℕ) → now < 2 ^ 64 → nat_lt (horizon now ahead) now ≡ false
on_time now ahead fits = false_from_ne_true (nat_lt (horizon now ahead) now) (λ e. let lt : horizon now ahead < now = ltb-true (horizon now ahead) now e in omega arith)

not_so : {A : Type 0} (test : Bool) (a b : A) → test ≡ false → (if test then a else b) ≡ b
not_so true a b is = cc
not_so false a b is = refl

only_index : {A : Type 0} (x y : A) (p : ℕ) → slice_get (x ∷ []) p ≡ Some y → p ≡ 0
only_index x y zero is = refl
only_index x y (suc p) is = absurd (none-some y is)

summary_moment : (r : State) → (summary_of r).moment ≡ r.moment
unfolding summary_of
summary_moment r = refl

-- a batch without a use does not carry one that is live at its moment
not_carried : (sender : Uses) (now : ℕ) (u : Use) → now < u.exp → holds (carried sender (record { moment = now; uses = [] })) u ≡ false
unfolding carried
not_carried sender now u later =
    let test = λ (v : Use). holds (uses_in []) v || not (nat_lt now v.exp) in
    holds-keep use_total use_exact test sender u
    ∙ ap (λ b. b && holds sender u) (or_from (holds (uses_in []) u) (not (nat_lt now u.exp)) (holds-uses_in [] u) (ap not (lt-ltb now u.exp later)))

-- a part in time is taken
takes_part : (w : World) (v far : ℕ) (x : Member) (entry : Entry) (q : Posting) (bs : List BatchData) (b : BatchData) → bs ≡ b ∷ [] → nat_lt far b.moment ≡ false
    → take_part w v far x entry None q (slice_get bs 0) ≡ put w v (logged (joined x q.was.told.uses b) entry)
takes_part w v far x entry q bs b is late =
    ap (λ (l : List BatchData). take_part w v far x entry None q (slice_get l 0)) is
    ∙ ap (λ (y : Member). put w v y) (not_so (nat_lt far b.moment) x (logged (joined x q.was.told.uses b) entry) late)

module _ (t : Terms) (now : ℕ) (first : Accepted) (fits : now < 2 ^ 64) (later : now < first.used.exp) where
  abbrev u : Use
  u = first.used

  abbrev group : ℕ → Terms
  group v = t

  abbrev one : State
  one = state_of now (u ∷ [])

  abbrev b : BatchData
  b = record { moment = now; uses = u ∷ [] }

  -- validator 0 after the check, and what it sends
  abbrev sender : Member
  sender = checked (ticked new_member now) (Ok first)

  is_sender : one ≡ sender.held
  is_sender =
      let a = raised_to new_member.held now in
      one_use now a.moment u a (raised_moment now) (omega (arith, raised_moment now)) later (raised_none now)

  sent_parts : parts_of sender.held ≡ b ∷ []
  sent_parts = ap parts_of (sym is_sender) ∙ one_part now u

  abbrev sending : Posting
  sending = record { maker = 0; was = sender; content = Sent (parts_of sender.held) }

  abbrev sent : World
  sent = post (put (save start 1 new_member) 0 sender) 0 sender (Sent (parts_of sender.held))

  -- validator 1 after the take
  abbrev taker : Member
  taker = logged (joined (ticked new_member now) sender.told.uses b) (Took 0 0)

  is_taker : one ≡ taker.held
  is_taker = one_use now now u (raised_to new_member.held now) (raised_moment now) (omega arith) later (raised_none now)

  taken : happens_forgetful group sent (Take 1 now 0 0 None) ≡ put sent 1 taker
  taken = takes_part sent 1 (horizon now t.ahead) (ticked new_member now) (Took 0 0) sending (parts_of sender.held) b sent_parts (on_time now t.ahead fits)

  told_use : holds sender.told.uses u ≡ true
  told_use = with_holds_one_more (uses_in []) u u ∙ or_left (eq_by_cmp use_cmp u u) (holds (uses_in []) u) (ap is_eq (tied_itself use_total u))

  has_only : (k : ℕ) (log : List Entry) (bs : List BatchData) (c d : BatchData) (p : ℕ) → bs ≡ c ∷ [] → slice_get bs p ≡ Some d → Contains log (Took k 0) → Contains log (Took k p)
  has_only k log bs c d p is at has = subst (λ n. Contains log (Took k n)) (sym (only_index c d p (sym (ap (λ (l : List BatchData). slice_get l p) is) ∙ at))) has

  send_forgotten : IsSendForgotten (happen_forgetful group sent (Take 1 now 0 0 None ∷ Restart 1 0 ∷ [])) 1 0 u
  send_forgotten =
      subst (λ (w : World). IsSendForgotten (happen_forgetful group w (Restart 1 0 ∷ [])) 1 0 u) (sym taken)
      (record {
        posting = sending;
        is_send = (refl, (parts_of sender.held, refl));
        taken = λ p d at. has_only 0 (Took 0 0 ∷ []) (parts_of sender.held) b d p sent_parts at (has_first (Took 0 0) []);
        told = told_use;
        forgotten = holds-uses_in [] u;
      })

  -- The summary and its answer.

  abbrev summing : Posting
  summing = record { maker = 1; was = taker; content = Summed (summary_of taker.held) }

  -- validator 1 after the restart
  abbrev back : Member
  back = record { held = new_member.held; told = new_member.told; log = Took 0 0 ∷ Made 1 ∷ []; renewal = None }

  abbrev summed : World
  summed = happen_forgetful group (put sent 1 taker) (Sum 1 ∷ Restart 1 0 ∷ [])

  -- validator 0 as it answers
  abbrev answerer : Member
  answerer = ticked (ticked sender now) (summary_of taker.held).moment

  abbrev reply : List BatchData
  reply = answer_to (ticked sender now).held (summary_of taker.held)

  abbrev answering : Posting
  answering = record { maker = 0; was = answerer; content = Answered 1 reply }

  abbrev answered : World
  answered = post (put summed 0 answerer) 0 answerer (Answered 1 reply)

  abbrev empty : BatchData
  empty = record { moment = now; uses = [] }

  sum_moment : (summary_of taker.held).moment ≡ now
  sum_moment = summary_moment taker.held ∙ ap (λ (r : State). r.moment) (sym is_taker)

  answers : happens_forgetful group summed (Answer 0 now 1 false) ≡ answered
  answers =
      not_so (nat_lt (horizon now t.ahead) (summary_of taker.held).moment) (put summed 0 (ticked sender now)) answered
      (ap (nat_lt (horizon now t.ahead)) sum_moment ∙ on_time now t.ahead fits)

  module _ (is : IsRecord one) where
    reply_is : reply ≡ empty ∷ []
    reply_is =
        ap (λ (r : State). answer_to (raised_to r now) (summary_of taker.held)) (sym is_sender)
        ∙ ap (λ (r : State). answer_to (raised_to one now) (summary_of r)) (sym is_taker)
        ∙ ap (λ (r : State). answer_to r (summary_of one)) (raised_to_own one is)
        ∙ own_summary_asks_nothing one is

    answerer_is : answerer.held ≡ one
    answerer_is =
        ap (λ (r : State). raised_to (raised_to r now) (summary_of taker.held).moment) (sym is_sender)
        ∙ ap (λ m. raised_to (raised_to one now) m) sum_moment
        ∙ ap (λ (r : State). raised_to r now) (raised_to_own one is)
        ∙ raised_to_own one is

    taken_back : happens_forgetful group answered (Take 1 now 2 0 None) ≡ put answered 1 (logged (joined (ticked back now) answerer.told.uses empty) (Took 2 0))
    taken_back = takes_part answered 1 (horizon now t.ahead) (ticked back now) (Took 2 0) answering reply empty reply_is (on_time now t.ahead fits)

    last_forgotten : IsAnswerForgotten (put answered 1 (logged (joined (ticked back now) answerer.told.uses empty) (Took 2 0))) 1 2 1 u
    last_forgotten =
        let c = carried answerer.told.uses empty in
        let log = Took 0 0 ∷ Made 1 ∷ Took 2 0 ∷ [] in
        record {
          summary = summing;
          answer = answering;
          digests = summary_of taker.held;
          parts = reply;
          is_summary = (refl, refl);
          is_answer = (refl, refl);
          made = has_later (Took 0 0) (Made 1 ∷ Took 2 0 ∷ []) (Made 1) (has_first (Made 1) (Took 2 0 ∷ []));
          taken = λ p d at. has_only 2 log reply empty d p reply_is at (has_later (Took 0 0) (Made 1 ∷ Took 2 0 ∷ []) (Took 2 0) (has_later (Made 1) (Took 2 0 ∷ []) (Took 2 0) (has_first (Took 2 0) [])));
          no_clash = λ clash. clash.texts (ap (λ (r : State). bucket_text clash.number r.uses) (sym is_taker ∙ sym answerer_is));
          told = told_use;
          forgotten = holds-union (uses_in []) c u ∙ or_from (holds c u) (holds (uses_in []) u) (not_carried answerer.told.uses now u later) (holds-uses_in [] u);
        }

    answer_forgotten : IsAnswerForgotten (happen_forgetful group sent (Take 1 now 0 0 None ∷ Sum 1 ∷ Restart 1 0 ∷ Answer 0 now 1 false ∷ Take 1 now 2 0 None ∷ [])) 1 2 1 u
    answer_forgotten =
        subst (λ (w : World). IsAnswerForgotten (happen_forgetful group w (Sum 1 ∷ Restart 1 0 ∷ Answer 0 now 1 false ∷ Take 1 now 2 0 None ∷ [])) 1 2 1 u) (sym taken)
        (subst (λ (w : World). IsAnswerForgotten (happens_forgetful group w (Take 1 now 2 0 None)) 1 2 1 u) (sym answers)
        (subst (λ (w : World). IsAnswerForgotten w 1 2 1 u) (sym taken_back) last_forgotten))

-- From the acceptance.

module _ (t : Terms) (now : ℕ) (token : List ℕ) (first : Accepted) (is : AcceptsNew t now token first) where
  accepts : Accepts t.setting (raised_to new_member.held now).moment (raised_to new_member.held now).uses token first.used
  accepts = accepted_is t.setting (raised_to new_member.held now) token false first is

  lives : now < first.used.exp
  lives = subst (λ n. n < first.used.exp) (raised_moment now) (alive t.setting (raised_to new_member.held now).moment (raised_to new_member.held now).uses token first.used accepts)

  one_is_record : now < 2 ^ 64 → IsBytes 16 t.setting.validator_id → IsRecord (state_of now (first.used ∷ []))
  one_is_record fits validator_id =
      let a = raised_to new_member.held now in
      let held : IsHeldAt now first.used = record {
        fields = in_range t.setting a.moment a.uses token first.used accepts validator_id (subst (λ n. n < 2 ^ 64) (sym (raised_moment now)) fits);
        made = omega (arith, made_now t.setting a.moment a.uses token first.used accepts, raised_moment now);
        live = lives;
      } in
      record { moment = fits; each = λ v has. subst (IsHeldAt now) (sym (only_use first.used v has)) held }

pub sends_are_forgotten : SendsAreForgotten
sends_are_forgotten t now token first fits is =
    subst (λ (answer : Result Accepted Refusal). IsSendForgotten (happen_forgetful (λ v. t) (put (save start 1 new_member) 0 (checked (ticked new_member now) answer)) (Send 0 ∷ Take 1 now 0 0 None ∷ Restart 1 0 ∷ [])) 1 0 first.used)
    (sym is) (send_forgotten t now first fits (lives t now token first is))

pub answers_are_forgotten : AnswersAreForgotten
answers_are_forgotten t now token first fits validator_id is =
    subst (λ (answer : Result Accepted Refusal). IsAnswerForgotten (happen_forgetful (λ v. t) (put (save start 1 new_member) 0 (checked (ticked new_member now) answer)) (Send 0 ∷ Take 1 now 0 0 None ∷ Sum 1 ∷ Restart 1 0 ∷ Answer 0 now 1 false ∷ Take 1 now 2 0 None ∷ [])) 1 2 1 first.used)
    (sym is) (answer_forgotten t now first fits (lives t now token first is) (one_is_record t now token first is fits validator_id))

-- Why an event makes a plan.
use Rattle.std.proofs.Common.{◌≡◌, ◌⊎◌, inl, inr, ℕ, ◌<◌, Bool, true, false, cond, refl, subst}
use Rattle.std.specs.Prelude.{nat_le, ◌&&◌}
use Rattle.std.proofs.lemmas.Bool.{leb-false}
use Rattle.svid_replay.specs.declared.token_use.Use.{Use}
use Rattle.svid_requests.specs.declared.needs.Needs.{Needs}
use Rattle.svid_requests.specs.declared.needs.Needs.TheVariants.{Nothing, Write, Claim}
use Rattle.svid_requests.specs.declared.judgment.Judgment.{Judgment}
use Rattle.svid_requests.specs.declared.judgment.Judgment.TheVariants.{Passes, Holds, Fails}
use Rattle.svid_requests.specs.declared.verdict.Verdict.TheVariants.{Accept, Refuse, Late, NoMemory}
use Rattle.svid_requests.specs.declared.request.Request.{Request}
use Rattle.svid_requests.specs.declared.event.Event.{Event}
use Rattle.svid_requests.specs.declared.event.Event.TheVariants.{Judged, Wrote, Send, Found, Leave, Overdue}
use Rattle.svid_requests.specs.declared.stage.Stage.{Stage}
use Rattle.svid_requests.specs.declared.stage.Stage.TheVariants.{Judging, Writing, Claiming, Behind, Again}
use Rattle.svid_requests.specs.declared.plan.Plan.{Plan}
use Rattle.svid_requests.specs.declared.plan.Plan.TheVariants.{Stay, Go, Part}
use Rattle.svid_requests.specs.Plans.{after_answer, after_judgment, after_leave, after_send, after_write, found, judged, judged_again, passed, plan, written}
use Rattle.svid_requests.specs.Tables.{asks_memory, granted}

-- an event is about the request of a number
abbrev pub IsAbout : Event → ℕ → Type 0
IsAbout (Judged k j) n = k ≡ n
IsAbout (Wrote k ok) n = k ≡ n
IsAbout (Send k) n = k ≡ n
IsAbout (Found k j) n = k ≡ n
IsAbout (Leave k) n = k ≡ n
IsAbout Overdue n = Unit {0}

-- why the request of a number goes on from one stage to another
abbrev pub WhyGo : Needs → Bool → Event → ℕ → Stage → Stage → Type 0
WhyGo needs held e n was Judging = ⊥
WhyGo needs held e n was (Writing u) = (needs ≡ Write) × (was ≡ Judging) × (e ≡ Judged n (Passes u))
WhyGo needs held e n was (Claiming u) = ((needs ≡ Claim) × (was ≡ Judging) × (held ≡ false) × (e ≡ Judged n (Passes u))) ⊎ ((was ≡ Again u) ⊎ (was ≡ Claiming u))
WhyGo needs held e n was (Behind u) = (needs ≡ Claim) × (was ≡ Judging) × (held ≡ true) × (e ≡ Judged n (Passes u))
WhyGo needs held e n was (Again u) = ⊥

-- why its token is accepted
abbrev pub WhyAccept : Needs → Event → ℕ → Stage → Use → Type 0
WhyAccept needs e n was u =
    (e ≡ Judged n (Holds u))
    ⊎ (((needs ≡ Nothing) × (e ≡ Judged n (Passes u)))
    ⊎ (((was ≡ Writing u) × (e ≡ Wrote n true)) ⊎ ((v : Use) × (was ≡ Claiming v) × ((e ≡ Found n (Passes u)) ⊎ (e ≡ Found n (Holds u))))))

-- why there is a plan for it, at a moment
abbrev pub Why : Needs → Bool → ℕ → Event → ℕ → ℕ → Stage → Plan → Type 0
Why needs held now e n deadline was (Go g) = WhyGo needs held e n was g
Why needs held now e n deadline was (Part (Accept u)) = (now < deadline) × WhyAccept needs e n was u
Why needs held now e n deadline was (Part (Refuse why)) = (e ≡ Judged n (Fails why)) ⊎ (e ≡ Found n (Fails why))
Why needs held now e n deadline was _ = Unit {0}

timely : (P : Plan → Type 0) (now deadline : ℕ) (p : Plan) (b : Bool) → nat_le deadline now ≡ b → P (Part Late) → (now < deadline → P p) → P (cond b (Part Late) p)
timely P now deadline p true is late f = late
timely P now deadline p false is late f = f (leb-false deadline now is)

passed_why : (needs : Needs) (held : Bool) (now n deadline : ℕ) (u : Use) → now < deadline → Why needs held now (Judged n (Passes u)) n deadline Judging (passed needs held u)
passed_why Nothing held now n deadline u time = (time, inr (inl (refl, refl)))
passed_why Write held now n deadline u time = (refl, refl, refl)
passed_why Claim true now n deadline u time = (refl, refl, refl, refl)
passed_why Claim false now n deadline u time = inl (refl, refl, refl, refl)

judged_why : (needs : Needs) (held : Bool) (now n deadline : ℕ) (j : Judgment) → now < deadline → Why needs held now (Judged n j) n deadline Judging (judged needs held j)
judged_why needs held now n deadline (Passes u) time = passed_why needs held now n deadline u time
judged_why needs held now n deadline (Holds u) time = (time, inl refl)
judged_why needs held now n deadline (Fails why) time = inl refl

again_why : (needs : Needs) (held : Bool) (now n deadline : ℕ) (own : Use) (j : Judgment) → now < deadline → Why needs held now (Judged n j) n deadline (Again own) (judged_again own j)
again_why needs held now n deadline own (Passes u) time = inr (inl refl)
again_why needs held now n deadline own (Holds u) time = (time, inl refl)
again_why needs held now n deadline own (Fails why) time = inl refl

judgment_why : (needs : Needs) (held : Bool) (now n : ℕ) (j : Judgment) (r : Request) (was : Stage) → Why needs held now (Judged n j) n r.deadline was (after_judgment needs held now j r was)
judgment_why needs held now n j r Judging = timely (Why needs held now (Judged n j) n r.deadline Judging) now r.deadline (judged needs held j) (nat_le r.deadline now) refl tt (judged_why needs held now n r.deadline j)
judgment_why needs held now n j r (Again own) = timely (Why needs held now (Judged n j) n r.deadline (Again own)) now r.deadline (judged_again own j) (nat_le r.deadline now) refl tt (again_why needs held now n r.deadline own j)
judgment_why needs held now n j r was = tt

written_why : (needs : Needs) (held : Bool) (now n deadline : ℕ) (ok : Bool) (u : Use) → now < deadline → Why needs held now (Wrote n ok) n deadline (Writing u) (written ok u)
written_why needs held now n deadline true u time = (time, inr (inr (inl (refl, refl))))
written_why needs held now n deadline false u time = tt

write_why : (needs : Needs) (held : Bool) (now n : ℕ) (ok : Bool) (r : Request) (was : Stage) → Why needs held now (Wrote n ok) n r.deadline was (after_write now ok r was)
write_why needs held now n ok r (Writing u) = timely (Why needs held now (Wrote n ok) n r.deadline (Writing u)) now r.deadline (written ok u) (nat_le r.deadline now) refl tt (written_why needs held now n r.deadline ok u)
write_why needs held now n ok r was = tt

send_why : (needs : Needs) (held : Bool) (now n : ℕ) (r : Request) (was : Stage) → Why needs held now (Send n) n r.deadline was (after_send now r was)
send_why needs held now n r (Claiming u) = timely (Why needs held now (Send n) n r.deadline (Claiming u)) now r.deadline (Go (Claiming u)) (nat_le r.deadline now) refl tt (λ time. inr (inr refl))
send_why needs held now n r was = tt

found_why : (needs : Needs) (held : Bool) (now n deadline : ℕ) (j : Judgment) (v : Use) → now < deadline → Why needs held now (Found n j) n deadline (Claiming v) (found j)
found_why needs held now n deadline (Passes u) v time = (time, inr (inr (inr (v, refl, inl refl))))
found_why needs held now n deadline (Holds u) v time = (time, inr (inr (inr (v, refl, inr refl))))
found_why needs held now n deadline (Fails why) v time = inr refl

answer_why : (needs : Needs) (held : Bool) (now n : ℕ) (j : Judgment) (r : Request) (was : Stage) → Why needs held now (Found n j) n r.deadline was (after_answer now j r was)
answer_why needs held now n j r (Claiming u) = timely (Why needs held now (Found n j) n r.deadline (Claiming u)) now r.deadline (found j) (nat_le r.deadline now) refl tt (found_why needs held now n r.deadline j u)
answer_why needs held now n j r was = tt

leave_why : (needs : Needs) (held : Bool) (now n deadline : ℕ) (was : Stage) → Why needs held now (Leave n) n deadline was (after_leave was)
leave_why needs held now n deadline (Writing u) = tt
leave_why needs held now n deadline was = tt

plan_why : (needs : Needs) (held : Bool) (now : ℕ) (e : Event) (n : ℕ) (r : Request) → IsAbout e n → Why needs held now e n r.deadline r.stage (plan needs held now e r)
plan_why needs held now (Judged k j) n r same = subst (λ m. Why needs held now (Judged k j) m r.deadline r.stage (plan needs held now (Judged k j) r)) same (judgment_why needs held now k j r r.stage)
plan_why needs held now (Wrote k ok) n r same = subst (λ m. Why needs held now (Wrote k ok) m r.deadline r.stage (plan needs held now (Wrote k ok) r)) same (write_why needs held now k ok r r.stage)
plan_why needs held now (Send k) n r same = subst (λ m. Why needs held now (Send k) m r.deadline r.stage (plan needs held now (Send k) r)) same (send_why needs held now k r r.stage)
plan_why needs held now (Found k j) n r same = subst (λ m. Why needs held now (Found k j) m r.deadline r.stage (plan needs held now (Found k j) r)) same (answer_why needs held now k j r r.stage)
plan_why needs held now (Leave k) n r same = subst (λ m. Why needs held now (Leave k) m r.deadline r.stage (plan needs held now (Leave k) r)) same (leave_why needs held now k r.deadline r.stage)
plan_why needs held now Overdue n r same = timely (Why needs held now Overdue n r.deadline r.stage) now r.deadline Stay (nat_le r.deadline now) refl tt (λ time. tt)

-- the same where memory may be refused
pub granted_why : (needs : Needs) (held refused : Bool) (now : ℕ) (e : Event) (n : ℕ) (r : Request) → IsAbout e n → Why needs held now e n r.deadline r.stage (granted refused r (plan needs held now e r))
granted_why needs held refused now e n r about = by_refusal (Why needs held now e n r.deadline r.stage) (plan needs held now e r) (asks_memory r.stage (plan needs held now e r) && refused) tt (plan_why needs held now e n r about)
  where
    by_refusal : (P : Plan → Type 0) (p : Plan) (b : Bool) → P (Part NoMemory) → P p → P (cond b (Part NoMemory) p)
    by_refusal P p true none h = none
    by_refusal P p false none h = h

-- The calls of the example answer 200.
use Rattle.std.proofs.Common.{◌≡◌, inl, inr, ℕ, Bool, true, false, List, [], ◌∷◌, refl, sym, ap, ◌∙◌, subst, Some, Ok}
use Rattle.std.specs.List.{list_any}
use Rattle.std.proofs.lemmas.Bool.{false≢true, or_left}
use Rattle.std.proofs.lemmas.Option.{none-some, same_Some}
use Rattle.svid_replay.specs.declared.token_use.Use.{Use}
use Rattle.svid_replay.specs.Buckets.{raised_to}
use Rattle.svid_replay.specs.Records as records
use Rattle.svid_check.specs.Said.{Said}
use Rattle.svid_check.specs.Setting.{Setting}
use Rattle.svid_check.specs.Verdict.{verdict_on}
use Rattle.svid_check.specs.declared.accepted.Accepted.{Accepted}
use Rattle.svid_journal.specs.Disk.{as_seen}
use Rattle.svid_journal.specs.Frames.{gap}
use Rattle.svid_journal.specs.History.{Event, IsAllowed, IsRead, Titles, fresh, happens}
use Rattle.svid_journal.specs.History.Event.{Answer, Put, Start, Sync}
use Rattle.svid_requests.specs.declared.judgment.Judgment.TheVariants.{Passes}
use Rattle.svid_requests.specs.declared.event.Event as requests
use Rattle.svid_requests.specs.declared.event.Event.TheVariants.{Judged, Wrote}
use Rattle.svid_requests.specs.declared.verdict.Verdict.TheVariants.{Accept}
use Rattle.svid_requests.specs.declared.request.Request.{Request}
use Rattle.svid_requests.specs.declared.stage.Stage.TheVariants.{Writing}
use Rattle.svid_requests.specs.Tables.{at_moment, begun, find, heard, heard_deed}
use Rattle.svid_member.specs.declared.mode.Mode.TheVariants.{Once}
use Rattle.svid_member.specs.declared.readiness.Readiness.{Readiness}
use Rattle.svid_member.specs.Judging.{judged_by}
use Rattle.svid_member.specs.Members.{with_requests}
use Rattle.svid_member.specs.Modes.{adds_at_judgment, needs_of}
use Rattle.svid_answers.specs.Alone.{given_by}
use Rattle.svid_answers.specs.Group.{comes}
use Rattle.svid_answers.specs.KeptExamples.{KeptRunAnswers, kept_calls}
use Rattle.svid_answers.specs.Records.{member_of}
use Rattle.svid_answers.specs.RunsAlone as alone
use Rattle.svid_answers.specs.RunsKept.{IsWriting, Now, Run}

-- nothing is read of an empty folder
empty_read : (has : List ℕ → Bool) (t : Titles) → IsRead has t (as_seen fresh.disk) → list_any has [] ≡ true
empty_read has t (inl h) = absurd (none-some h.0 h.1)
empty_read has t (inr h) = absurd (false≢true h.1)

first_start : (has : List ℕ → Bool) (t : Titles) → IsAllowed has t fresh (Start 1 0 [])
first_start has t = (refl, λ k is. absurd (false≢true is), empty_read has t)

same_number : (n m : ℕ) → Wrote n true ≡ Wrote m true → n ≡ m
same_number n m is = cc

same_use : (u v : Use) → Writing u ≡ Writing v → u ≡ v
same_use u v is = cc

module _ (tells : Use → List ℕ → Bool) (t : Titles) (now : ℕ) (knows : Readiness) (read : records.State) (s : Setting) (said : Said) (accepted : Accepted) where
  abbrev u : Use
  u = accepted.used

  -- what is left of each call
  abbrev hears : alone.Now → records.State → requests.Event → alone.Now
  hears a x e = let r = at_moment a.member.requests 0 in record { held = x; member = with_requests a.member (heard false r e); given = given_by (heard_deed false r e) a.given }

  abbrev begins : alone.Now
  begins = record { held = read; member = member_of Once [] 0 0 knows (begun (needs_of Once true) 7); given = [] }

  abbrev comes_to : alone.Now → alone.Now
  comes_to a = record { held = a.held; member = with_requests a.member (comes false (at_moment a.member.requests 0)); given = a.given }

  abbrev judges : alone.Now → alone.Now
  judges a = hears a (judged_by (adds_at_judgment a.member.mode) (raised_to a.held now) (Ok accepted)) (Judged 0 (Passes u))

  abbrev writes : alone.Now → alone.Now
  writes a = hears a a.held (Wrote 0 true)

  abbrev in_folder : Now → Event → Now
  in_folder a e = record { alone = a.alone; folder = happens t a.folder e }

  abbrev by_member : Now → alone.Now → Now
  by_member a b = record { alone = b; folder = a.folder }

  abbrev opened : Now
  opened = in_folder (in_folder (record { alone = begins; folder = happens t fresh (Start 1 0 []) }) (Answer true)) (Answer true)

  abbrev judged : Now
  judged = by_member opened (judges (comes_to begins))

  abbrev synced : Now
  synced = in_folder (in_folder judged (Put (7 ∷ []) true [])) (Sync true)

  module _ (is : let x = raised_to read now in verdict_on s x.moment x.uses said ≡ Ok (Some accepted)) (told : tells u (7 ∷ []) ≡ true) where
    reported : (n : ℕ) (v : Use) → Wrote 0 true ≡ Wrote n true → IsWriting synced.alone.member.requests n v → list_any (tells v) synced.folder.acknowledged ≡ true
    unfolding gap
    reported n v wrote writing =
        let at = subst (λ m. find m synced.alone.member.requests.table.requests ≡ Some writing.0) (sym (same_number 0 n wrote)) writing.1 in
        let stage = ap (λ (r : Request). r.stage) (same_Some (record { deadline = 7; stage = Writing u }) writing.0 at) ∙ writing.2 in
        subst (λ (w : Use). list_any (tells w) ((7 ∷ []) ∷ []) ≡ true) (same_use u v stage) (or_left (tells u (7 ∷ [])) false told)

    answers : (b : Now) × Run tells t (kept_calls now knows read s said) b × (b.alone.given ≡ Accept u ∷ [])
    answers =
        let asked = by_member opened (comes_to begins) in
        let e = Judged 0 (Passes u) in
        let r = at_moment asked.alone.member.requests 0 in
        let put = in_folder judged (Put (7 ∷ []) true []) in (
          by_member synced (writes synced.alone),
          (
            synced,
            (
              put,
              (
                judged,
                (
                  asked,
                  (
                    opened,
                    (
                      in_folder (record { alone = begins; folder = happens t fresh (Start 1 0 []) }) (Answer true),
                      (
                        record { alone = begins; folder = happens t fresh (Start 1 0 []) },
                        (
                          record { alone = alone.nothing; folder = fresh },
                          refl,
                          ((λ v. first_start (tells v) t, refl), λ v found. absurd (false≢true found), refl),
                        ),
                        ((λ v. tt, refl), refl),
                      ),
                      ((λ v. tt, refl), refl),
                    ),
                    (tt, inr refl, refl),
                  ),
                  (tt, inr (Ok accepted, record { deed = heard_deed false r e; answer = Some (Ok accepted) }, is, ((false, refl, refl), refl), refl, refl), refl),
                ),
                ((λ v. tt, refl), refl),
              ),
              ((λ v. tt, refl), refl),
            ),
            (reported, (heard_deed false (at_moment synced.alone.member.requests 0) (Wrote 0 true), refl, (false, refl, refl), refl, refl), refl),
          ),
          refl,
        )

pub kept_run_answers : KeptRunAnswers
kept_run_answers tells t now knows read s said accepted is told = answers tells t now knows read s said accepted is told

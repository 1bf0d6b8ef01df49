-- A validator that reads a log, or none.
use Rattle.std.proofs.Common.{◌≡◌, List, [], ◌∷◌, ◌++◌, ℕ, zero, suc, ◌+◌, ◌<◌, ◌≤◌, Option, Some, None, Result, Ok, Err, arith, ap, drop, get_or, length, refl, slice_set, subst, sym, take, ◌∙◌}
use Rattle.svid_token.specs.declared.refusal.Refusal.{Refusal}
use Rattle.svid_replay.specs.Buckets.{raised_to}
use Rattle.svid_replay.specs.Records.{State}
use Rattle.svid_replay.specs.declared.token_use.Use.{Use}
use Rattle.svid_log.specs.declared.fate.Fate.{Fate}
use Rattle.svid_log.specs.Members.{MemberState}
use Rattle.svid_check.specs.Claiming.{IsLooked, unless_claimed}
use Rattle.svid_check.specs.Setting.{with_state}
use Rattle.svid_check.specs.declared.accepted.Accepted.{Accepted}
use Rattle.svid_c.specs.Live.{IsLeft, IsLookedBy, Kept, claimed_by}
use Rattle.svid_c.specs.Log.{fate_seen, fates_seen}
use Rattle.svid_c.specs.declared.live.Live.{Live}
use Rattle.svid_c.specs.declared.validator_read.SvidFate.{SvidFate}

-- where there is no log, no token is claimed
pub unclaimed : (moment : ℕ) (verdict : Result (Option Accepted) Refusal) → unless_claimed (claimed_by None moment) verdict ≡ verdict
unclaimed moment (Ok (Some a)) = refl
unclaimed moment (Ok None) = refl
unclaimed moment (Err why) = refl

-- what a look at the claims beside the record leaves
pub left_by_look : (now : ℕ) (r : State) (a : Live) (m n : MemberState) (v : Kept)
    → a.member ≡ Some m → v ≡ with_state a.validator r → IsLooked (raised_to a.validator.state now).moment m n
    → IsLeft now r a (record { validator = v; step = a.step; member = Some n; peer = a.peer })
left_by_look now r a m n v held is looked = record {
  validator = is;
  step = refl;
  peer = refl;
  member = subst (λ (member : Option MemberState). IsLookedBy (raised_to a.validator.state now).moment member (Some n)) (sym held) (n, refl, looked);
}

-- where so many uses were written with their fates, the next one is written
pub put_next : (uses : List Use) (fates : List Fate) (room : List SvidFate) (i : ℕ) (d : Use) (e : Fate)
    → i < length uses → length uses ≤ length fates → length uses ≤ length room
    → slice_set (fates_seen (take i uses) fates ++ drop i room) i (fate_seen (get_or uses i d) (get_or fates i e)) ≡ fates_seen (take (suc i) uses) fates ++ drop (suc i) room
put_next [] fates room i d e lt few fits = absurd (omega arith)
put_next (u ∷ us) [] room i d e lt few fits = absurd (omega arith)
put_next (u ∷ us) (f ∷ fs) [] i d e lt few fits = absurd (omega arith)
put_next (u ∷ us) (f ∷ fs) (r ∷ rs) zero d e lt few fits = refl
put_next (u ∷ us) (f ∷ fs) (r ∷ rs) (suc i) d e lt few fits = ap (λ (xs : List SvidFate). fate_seen u f ∷ xs) (put_next us fs rs i d e (omega arith) (omega arith) (omega arith))

up : (i : ℕ) → suc i ≡ i + 1
up i = omega arith

-- what holds a member holds it
pub same_live : (a : Live) (m : MemberState) → a.member ≡ Some m → record { validator = a.validator; step = a.step; member = Some m; peer = a.peer } ≡ a
same_live a m is = ap (λ (member : Option MemberState). record { validator = a.validator; step = a.step; member = member; peer = a.peer }) (sym is)

-- so a row of uses is written one after the other
pub put_more : (uses : List Use) (fates : List Fate) (room written : List SvidFate) (i : ℕ) (d : Use) (e : Fate) (x : SvidFate)
    → i < length uses → length uses ≤ length fates → length uses ≤ length room → written ≡ fates_seen (take i uses) fates ++ drop i room
    → x ≡ fate_seen (get_or uses i d) (get_or fates i e)
    → slice_set written i x ≡ fates_seen (take (i + 1) uses) fates ++ drop (i + 1) room
put_more uses fates room written i d e x lt few fits front is =
    ap (slice_set written i) is ∙ ap (λ (xs : List SvidFate). slice_set xs i (fate_seen (get_or uses i d) (get_or fates i e))) front
    ∙ put_next uses fates room i d e lt few fits ∙ ap (λ n. fates_seen (take n uses) fates ++ drop n room) (up i)

take_len : {A : Type 0} (xs : List A) (n : ℕ) → n ≤ length xs → length (take n xs) ≡ n
take_len xs zero le = refl
take_len [] (suc n) le = absurd (omega arith)
take_len (x ∷ xs) (suc n) le = let rest = take_len xs n (omega arith) in omega arith

-- a part of the uses of a value was written with their fates
pub put_part : (uses us part : List Use) (written fates : List Fate) (old_out new_out : List SvidFate) (from count : ℕ)
    → us ≡ uses → fates ≡ written → part ≡ take count (drop from us) → count ≤ length (drop from uses)
    → new_out ≡ fates_seen part fates ++ drop (length part) old_out
    → new_out ≡ fates_seen (take count (drop from uses)) written ++ drop count old_out
put_part uses us part written fates old_out new_out from count is_us is_fates is_part few is =
    is ∙ ap (λ (p : List Use). fates_seen p fates ++ drop (length p) old_out) (is_part ∙ ap (λ (u : List Use). take count (drop from u)) is_us)
    ∙ ap (λ (f : List Fate). fates_seen (take count (drop from uses)) f ++ drop (length (take count (drop from uses))) old_out) is_fates
    ∙ ap (λ n. fates_seen (take count (drop from uses)) written ++ drop n old_out) (take_len (drop from uses) count few)

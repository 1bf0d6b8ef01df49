-- A new record that absorbs all parts of the record of a validator is that record.
use Rattle.std.proofs.Common.{◌≡◌, max, Bool, true, false, ◌&&◌, ◌||◌, nat_lt, [], refl, sym, ap, ◌∙◌, subst, arith}
use Rattle.svid_replay.specs.Parts.{join_all, parts_of}
use Rattle.svid_replay.specs.Records.{State, join, state_of}
use Rattle.svid_replay.specs.Sets.{holds, rising}
use Rattle.svid_replay.specs.Uses.{Uses}
use Rattle.svid_replay.proofs.PartsLemmas.{cut_gives_parts, join_all-one}
use Rattle.svid_replay.proofs.RecordsLemmas.{is_join}
use Rattle.svid_replay.proofs.UsesLemmas.{holds-live, holds-uses_in, uses_in-rising}
use Rattle.svid_check.specs.Told.{Told, record_of}
use Rattle.svid_check.specs.World.{Member}

pruned_again : (late held : Bool) → (late && held) ≡ (late && ((late && held) || false))
pruned_again true true = refl
pruned_again true false = refl
pruned_again false held = refl

-- a new record joined with what was learned
new_joined : (x : Told) → join (state_of 0 []) (record_of x) ≡ record_of x
new_joined x =
    let r = record_of x in
    let same : x.greatest ≡ max 0 x.greatest = omega arith in
    sym (is_join (state_of 0 []) r r same (λ u.
    let has = holds-live x.uses x.greatest u in
    has ∙ pruned_again (nat_lt x.greatest u.exp) (holds x.uses u)
    ∙ ap (λ h. nat_lt x.greatest u.exp && (h || false)) (sym has)
    ∙ ap (λ n. nat_lt n u.exp && (holds r.uses u || false)) same
    ∙ ap (λ h. nat_lt (max 0 x.greatest) u.exp && (holds r.uses u || h)) (sym (holds-uses_in [] u))))

pub parts_restore : (x : Told) → join_all (state_of 0 []) (parts_of (record_of x)) ≡ record_of x
parts_restore x =
    let r = record_of x in
    join_all-one (state_of 0 []) r.moment (parts_of r) (rising r.uses) (cut_gives_parts r.moment (rising r.uses))
    ∙ ap (λ (s : Uses). join (state_of 0 []) (record { moment = r.moment; uses = s })) (uses_in-rising r.uses) ∙ new_joined x

-- so a restart absorbs, whatever the validator IDs and the moments
pub restart_absorbs : (x : Member) → x.held ≡ record_of x.told → join_all (state_of 0 []) (parts_of x.held) ≡ x.held
restart_absorbs x told = subst (λ (r : State). join_all (state_of 0 []) (parts_of r) ≡ r) (sym told) (parts_restore x.told)

use Rattle.std.proofs.Common.{arith, sym, ◌∙◌}
use Rattle.std.proofs.lemmas.Bool.{false≢true}
use Rattle.std.proofs.lemmas.Bool.Decides.{Decides-eqb}
use Rattle.std.proofs.lemmas.Slice.Eq.{slice_eq-Decides}
use Rattle.svid_journal.proofs.PayloadsLemmas.{none_by_magic, none_in_few, position_cut}
use Rattle.svid_journal.proofs.log_position.LogPosition.split.Goals as goal

pub returns-then-payload-lt28 : goal.returns-then-payload-lt28
returns-then-payload-lt28 c = none_in_few c.args.payload.now (omega (arith, c.if-payload-lt28.true))

pub returns-else-eq : goal.returns-else-eq
returns-else-eq c = none_by_magic c.args.payload.now c.split_at.result.0.now c.split_at-2.result.0.now c.split_at.ensures.front c.split_at-2.ensures.front (λ e. false≢true (sym c.if-eq.false ∙ (slice_eq-Decides Decides-eqb _ _ _ c.eq.ensures).1 (e ∙ sym c.as_slice.ensures)))

pub returns-then-eq : goal.returns-then-eq
returns-then-eq c =
    position_cut (record { passed = c.u64_of.result; begun = c.u64_of-then-eq.result; deaf = c.u64_of-then-eq-2.result }) c.args.payload.now c.split_at.result.0.now c.split_at.result.1.now c.split_at-2.result.0.now c.split_at-2.result.1.now c.split_at-3.result.0.now c.split_at-3.result.1.now c.split_at-4.result.0.now c.split_at-4.result.1.now
    c.split_at.ensures.front c.split_at.ensures.back c.split_at-2.ensures.front c.split_at-2.ensures.back c.split_at-3.ensures.front c.split_at-3.ensures.back c.split_at-4.ensures.front c.split_at-4.ensures.back ((slice_eq-Decides Decides-eqb _ _ _ c.eq.ensures).0 c.if-eq.true ∙ c.as_slice.ensures) c.u64_of.ensures c.u64_of-then-eq.ensures c.u64_of-then-eq-2.ensures

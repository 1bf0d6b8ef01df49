use Rattle.std.proofs.Common.{refl, sym, ◌∙◌}
use Rattle.svid_c.specs.Alone.{Judges}
use Rattle.svid_c.specs.Own.{unnamed}
use Rattle.svid_c.specs.Trust.{reads}
use Rattle.svid_c.proofs.LiveLemmas.{holds_one}
use Rattle.svid_c.proofs.TrustLemmas.{held_named}
use Rattle.svid_c.proofs.bundles_judge.judge_held.Goals as goal

pub returns-in-Ok-clause-does : goal.returns-in-Ok-clause-does
returns-in-Ok-clause-does c =
    held_named _ _ _ (Judges c.args.setting.now c.args.yes.now c.args.token.now c.judge.result c.judge.new.told c.args.out.now c.judge.new.out c.args.used.now c.judge.new.used)
    _ _ _ _ c.in-Ok.ensures.ok c.judge.ensures.does

pub returns-in-Err-clause-does : goal.returns-in-Err-clause-does
returns-in-Err-clause-does c =
    let one = holds_one c.args.trust.now.bundles (sym c.if-is_none.ensures) in
    reads one.0 one.1 (unnamed c.in-Err.fault c.in-Err.ensures.fault (c.only-in-Err.ensures.status ∙ c.number.ensures) c.only-in-Err.ensures.told (refl, refl))

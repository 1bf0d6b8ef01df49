use Rattle.std.proofs.Common.{refl, ◌∙◌}
use Rattle.svid_c.proofs.LiveLemmas.{holds_none, holds_one}
use Rattle.svid_c.specs.Live.{was_closed, was_open}
use Rattle.svid_c.specs.Own.{named, unnamed}
use Rattle.svid_c.proofs.validator_open.svid_validator_open.Goals as goal

pub returns-then-is_open : goal.returns-then-is_open
returns-then-is_open c = let one = holds_one c.args.v.now.handle.live c.if-is_open.ensures in was_open one.0 one.1 refl c.only.ensures.status c.only.ensures.told

pub returns-in-Ok : goal.returns-in-Ok
returns-in-Ok c = was_closed (holds_none c.args.v.now.handle.live c.if-is_open.ensures) (named _ c.in-Ok.ensures.ok c.open.ensures)

pub returns-in-Err : goal.returns-in-Err
returns-in-Err c =
    let none = holds_none c.args.v.now.handle.live c.if-is_open.ensures in
    was_closed none (unnamed c.in-Err.fault c.in-Err.ensures.fault (c.only-in-Err.ensures.status ∙ c.number.ensures) c.only-in-Err.ensures.told none)

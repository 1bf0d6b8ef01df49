use Rattle.std.proofs.Common.{refl, rules}
use Rattle.svid_c.specs.Judged.{for_request, judge_by_log, not_judged}
use Rattle.svid_c.proofs.LiveLemmas.{holds_none, holds_one}
use Rattle.svid_c.proofs.member_ask.ask.Goals as goal

pub returns-then-is_some : goal.returns-then-is_some
returns-then-is_some c =
    let one = holds_one c.args.live.now.member c.if-is_some.ensures in
    not_judged (judge_by_log one.0 (search rules) one.1 c.only.ensures.status c.only.ensures.told refl refl)

pub returns : goal.returns
returns c = for_request c.in-Some.peer c.ask.new.self c.ask.new.validator (search rules) (holds_none c.args.live.now.member c.if-is_some.ensures) c.in-Some.is refl c.ask.ensures

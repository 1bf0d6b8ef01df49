use Rattle.std.proofs.Common.{Some, ap}
use Rattle.svid_c.specs.Log.{goes_on, with_member}
use Rattle.svid_c.proofs.validator_mark.go_on.Goals as goal

pub returns : goal.returns
returns c = goes_on c.in-Some.member c.in-Some.is c.only-2.ensures.status c.only-2.ensures.told (ap (λ member. with_member c.args.live.now (Some member)) c.go_on.ensures)

use Rattle.std.proofs.Common.{sym}
use Rattle.svid_replay.proofs.PrefixesLemmas.{absent}
use Rattle.svid_replay.proofs.prefixes.has.Goals as goal

pub returns-in-Err : goal.returns-in-Err
returns-in-Err c = sym (absent c.args.prefixes.now c.args.number c.in-Err.field-0 c.in-Err.ensures.position c.requires)

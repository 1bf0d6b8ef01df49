use Rattle.std.proofs.Common.{◌∙◌}
use Rattle.svid_replay.specs.Keys.{kind_of}
use Rattle.svid_replay.proofs.KeysLemmas.{tell_kind}
use Rattle.svid_replay.proofs.keys.has_kind.Goals as goal

pub returns : goal.returns
returns c us told = c.has_left.ensures ∙ tell_kind (kind_of c.args.key.now c.args.withdrawn) c.args.expired_by c.args.keys.now us told

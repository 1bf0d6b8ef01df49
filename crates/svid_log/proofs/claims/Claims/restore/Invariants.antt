use Rattle.std.proofs.Common.{◌≡◌, take}
use Rattle.svid_replay.specs.Uses.{no_uses}
use Rattle.svid_log.specs.Saves.{put_all}
use Rattle.svid_log.proofs.claims.Claims.restore.Given as goal

abbrev pub invariant-loop-used : goal.invariant-loop-used
invariant-loop-used g l = l.claims ≡ put_all no_uses (take l.used-index l.uses)

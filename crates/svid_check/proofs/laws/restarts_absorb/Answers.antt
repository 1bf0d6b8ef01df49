use Rattle.svid_check.proofs.RestartsLemmas.{restart_absorbs}
use Rattle.svid_check.proofs.SendsLemmas.{put_back}
use Rattle.svid_check.proofs.SoundLemmas.{is_sound}
use Rattle.svid_check.proofs.laws.restarts_absorb.Goals as goal

pub returns-clause-parts : goal.returns-clause-parts
returns-clause-parts c group events k s at = restart_absorbs s.was ((is_sound group events).saves k s at).is_told

pub returns-clause-put_back : goal.returns-clause-put_back
returns-clause-put_back c = put_back

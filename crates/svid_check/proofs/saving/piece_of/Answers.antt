use Rattle.svid_check.proofs.SavesLemmas.{piece_is_batch}
use Rattle.svid_check.proofs.saving.piece_of.Goals as goal

pub from_good-requires : goal.from_good-requires
from_good-requires g c = piece_is_batch c.args.replay.now c.args.after c.args.most _ _ _ c.moment.ensures.is_record c.min.ensures c.in_ok-uses.ensures c.moment.ensures.value

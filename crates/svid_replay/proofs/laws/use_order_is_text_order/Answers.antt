use Rattle.svid_replay.proofs.UseLemmas.{order_is_text_order}
use Rattle.svid_replay.proofs.laws.use_order_is_text_order.Goals as goal

pub returns : goal.returns
returns c = order_is_text_order

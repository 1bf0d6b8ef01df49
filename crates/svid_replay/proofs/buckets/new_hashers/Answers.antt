use Rattle.std.proofs.Common.{rules}
use Rattle.svid_replay.proofs.buckets.new_hashers.Goals as goal

pub returns : goal.returns
returns c = record { full = c.from_fn.ensures.items.long; each = λ b d within. let turn = c.from_fn.ensures.items.at b d within in search (rules, turn) }

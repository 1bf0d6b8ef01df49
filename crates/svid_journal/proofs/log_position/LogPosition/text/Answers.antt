use Rattle.std.proofs.Common.{refl, replicate}
use Rattle.svid_journal.proofs.PayloadsLemmas.{position_put}
use Rattle.svid_journal.proofs.log_position.LogPosition.text.Goals as goal

pub returns : goal.returns
returns c =
    position_put c.args.self.now (replicate 28 0) c.to_be_bytes.result c.to_be_bytes-2.result c.to_be_bytes-3.result c.put_at.new.room c.put_at-2.new.room c.put_at-3.new.room c.put_at-4.new.room refl c.to_be_bytes.ensures c.to_be_bytes-2.ensures c.to_be_bytes-3.ensures c.put_at.ensures.put c.put_at-2.ensures.put c.put_at-3.ensures.put c.put_at-4.ensures.put

use Rattle.svid_wire.proofs.RecordTextLemmas.{text_tells_record}
use Rattle.svid_wire.proofs.laws.text_tells_record.Goals as goal

pub returns : goal.returns
returns c = text_tells_record

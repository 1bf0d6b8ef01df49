use Rattle.svid_token.proofs.PartLemmas.{part_bytes-iff}
use Rattle.svid_token.proofs.laws.decoded_parts.Goals as goal

pub returns : goal.returns
returns c = part_bytes-iff

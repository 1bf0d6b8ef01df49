use Rattle.std.proofs.Common.{sym}
use Rattle.std.proofs.lemmas.Bool.{false≢true}
use Rattle.svid_token.proofs.JsonLemmas.{json_of-some, json_of-none}
use Rattle.svid_token.proofs.json.read_json.Goals as goal

pub returns-in-Ok : goal.returns-in-Ok
returns-in-Ok c = sym (json_of-some _ _ c.in-Ok.ensures.ok.0 c.in-Ok.ensures.ok.1)

pub returns-else-is_memory : goal.returns-else-is_memory
returns-else-is_memory c = sym (json_of-none _ (c.in-Err.ensures.err (λ memory. false≢true (c.if-is_memory.ensures.1 memory))))

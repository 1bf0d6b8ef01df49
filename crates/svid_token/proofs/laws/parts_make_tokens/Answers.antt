use Rattle.svid_token.proofs.CompactLemmas.{IsCompact-parts_of, parts_of-three}
use Rattle.svid_token.proofs.laws.parts_make_tokens.Goals as goal

pub returns : goal.returns
returns c = λ token parts. (IsCompact-parts_of token parts, parts_of-three token parts.header parts.payload parts.signature)

use Rattle.svid_answers.proofs.GroupLemmas.{answered_is_found}
use Rattle.svid_answers.proofs.RunsKeptLemmas.{answered_is_read}
use Rattle.svid_answers.proofs.WrittenLemmas.{answered_is_written}
use Rattle.svid_answers.proofs.laws.answered_tokens_were_kept.Goals as goal

pub returns : goal.returns
returns c = record { found = answered_is_found; written = answered_is_written; read = answered_is_read }

use Rattle.svid_token.proofs.RowsLemmas.{first_row-append}
use Rattle.svid_token.proofs.laws.appended_tables.Goals as goal

pub returns : goal.returns
returns c = first_row-append

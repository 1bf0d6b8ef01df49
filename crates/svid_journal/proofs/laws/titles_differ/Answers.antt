use Rattle.svid_journal.proofs.TitlesLemmas.{titles_differ}
use Rattle.svid_journal.proofs.laws.titles_differ.Goals as goal

pub returns : goal.returns
returns c = titles_differ

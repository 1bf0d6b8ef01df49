use Rattle.std.proofs.Common.{rules, append_assoc}
use Rattle.svid_journal.specs.Titles.{bytes_of}
use Rattle.svid_journal.proofs.frame.digest.Goals as goal

pub returns : goal.returns
unfolding bytes_of
returns c = search (rules, append_assoc)

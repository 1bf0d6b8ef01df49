use Rattle.svid_cli.proofs.sentence.WordsDisplay.fmt.Goals as goal

pub returns-in-NotSummary-clause-writes : goal.returns-in-NotSummary-clause-writes
returns-in-NotSummary-clause-writes g c = rw c.in-NotSummary.is c.write-in-NotSummary.ensures.writes

pub returns-in-BundlesNotObject-clause-writes : goal.returns-in-BundlesNotObject-clause-writes
returns-in-BundlesNotObject-clause-writes g c = rw c.in-BundlesNotObject.is c.write-in-BundlesNotObject.ensures.writes

pub returns-in-CannotRead-clause-writes : goal.returns-in-CannotRead-clause-writes
returns-in-CannotRead-clause-writes g c = rw c.in-CannotRead.is c.write-in-CannotRead.ensures.writes

pub returns-in-TooLong-clause-writes : goal.returns-in-TooLong-clause-writes
returns-in-TooLong-clause-writes g c = rw c.in-TooLong.is c.write-in-TooLong.ensures.writes

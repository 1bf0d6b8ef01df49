use Rattle.svid_cli.proofs.sentence.MessageFaultDisplay.fmt.Goals as goal

pub returns-clause-writes : goal.returns-clause-writes
returns-clause-writes g c = rw (← c.reason_words-reason.ensures) c.write.ensures.writes

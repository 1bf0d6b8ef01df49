-- The text of each sentence of --explain.
use Rattle.std.specs.Prelude.{ℕ, List, ◌++◌, codes}
use Rattle.std.specs.Fmt.{decimal}
use Rattle.svid_wire.specs.declared.reason.Reason.{Reason}
use Rattle.svid_wire.specs.declared.reason.Reason.TheVariants as wire
use Rattle.svid_cli.specs.HexByte.{hex_text}
use Rattle.svid_cli.specs.declared.sentence.MessageFault.{MessageFault}
use Rattle.svid_cli.specs.declared.sentence.Sentence.{Sentence}
use Rattle.svid_cli.specs.declared.sentence.Sentence.TheVariants as says
use Rattle.svid_cli.specs.declared.sentence.TableFault.{TableFault}

-- what is wrong with a message, and what belongs there
abbrev pub reason_words : Reason → List ℕ
-- lists:begin reasons (written by tools/lists from lists/statuses.toml)
reason_words wire.Magic = codes "the first four bytes are those of no version, and due is 4A 53 52, which is JSR, and then 02 or 01"
reason_words wire.Kind = codes "the fifth byte is that of no kind of message of the version, and due is 01 for a batch, or 02 for a summary, which only version 2 has"
reason_words wire.Count = codes "a batch tells of too many uses, and due is a number of at most 65,536 uses, or of 4,096 in version 1"
reason_words wire.UseKind = codes "the last byte of a use is neither 0 nor 1, and due is a use whose last byte is 00 or 01"
reason_words wire.UseExpired = codes "a use expires at its batch's moment or before it, and due is a use that expires after the batch's moment"
reason_words wire.UseFuture = codes "a use was made after its batch's moment, and due is a use that was made at the batch's moment or before it"
reason_words wire.UseOrder = codes "a use is not greater than the one before it, and due is a use that is greater than the one before it"
reason_words wire.Truncated = codes "the bytes end before the message does, and due is the rest of the message"
-- lists:end
reason_words wire.OutOfMemory = codes "memory was refused for it"
reason_words wire.Failed = codes "a read failed"

-- where messages are bad, and why
abbrev pub message_fault_text : MessageFault → List ℕ
-- lists:begin MessageFault (written by tools/lists from lists/faults.toml)
message_fault_text fault = codes "message " ++ (decimal fault.message ++ (codes " is bad from byte " ++ (decimal fault.offset ++ (codes " on: " ++ reason_words fault.reason))))

-- lists:end

-- which line of a table is bad
abbrev pub table_fault_text : TableFault → List ℕ
-- lists:begin TableFault (written by tools/lists from lists/faults.toml)
table_fault_text fault = codes "a line is neither empty nor a question. It is line " ++ decimal fault.line

-- lists:end

-- the text of a sentence about the input with this name
abbrev pub sentence_text : Sentence → List ℕ → List ℕ
-- lists:begin sentences (written by tools/lists from lists/faults.toml)
sentence_text (says.NotJsr byte) input = input ++ (codes " is no message of svid: byte 0 is " ++ (hex_text byte.0 ++ codes ", where JSR is due. Name a file that svid wrote."))
sentence_text (says.Message message_fault) input = input ++ (codes " is no message of svid: " ++ (message_fault_text message_fault ++ codes ". Name a whole file that svid wrote."))
sentence_text says.NotSummary input = input ++ codes " is no summary of svid: it is messages, but not one summary. Let the other validator write one with svid summary."
sentence_text (says.BadTable table_fault) input = input ++ (codes " is no table of questions: " ++ (table_fault_text table_fault ++ codes ". Write one question a line."))
sentence_text says.BundlesNotObject input = input ++ codes " is no file of trust bundles: no JSON object. Write one object that has a JWK Set under the name of each trust domain."
sentence_text (says.BundlesDomain index) input = input ++ (codes " is no file of trust bundles: a name is no trust domain name. It is the one behind " ++ (decimal index ++ codes " others in rising order. Correct that name, or take it out."))
sentence_text (says.BundlesKeys index) input = input ++ (codes " is no file of trust bundles: a name has no list of keys. It is the one behind " ++ (decimal index ++ codes " others in rising order. Write a JWK Set under that name, or take it out."))
sentence_text says.BundlesUnnamed input = input ++ codes " is the bundle of one trust domain, without its name. Name it: give --trust-domain NAME too."
sentence_text says.BadPlace input = codes "The value of --validator-id is not 32 hexadecimal digits. Choose 32 that no other validator has, and give them each time."
sentence_text says.CannotOpen input = codes "There is no such file, or you may not open it, or its name is not UTF-8. Look at the name, and at who may read the file, or write to that of --out."
sentence_text says.CannotRead input = codes "A read of " ++ (input ++ codes " failed. Name a file, and no folder, or leave standard input open.")
sentence_text says.TooLong input = input ++ codes " has more than 67,108,864 bytes, the most of one input. Cut a record into parts by split -b 4259857, and name them."
sentence_text says.CannotWrite input = codes "A write to standard output failed, or one to the file of --out. Leave standard output open, and see that the disk has room."
sentence_text says.OutOfMemory input = codes "The system refused memory. Give the program more of it, or less to read at once."

-- lists:end

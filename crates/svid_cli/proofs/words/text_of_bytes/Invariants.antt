use Rattle.std.proofs.Common.{◌≡◌, take}
use Rattle.std.specs.Prelude.{string_bytes, encode_utf8}
use Rattle.std.specs.List.{flat_map}
use Rattle.svid_cli.proofs.words.text_of_bytes.Given as goal

abbrev pub invariant-loop-byte : goal.invariant-loop-byte
invariant-loop-byte l = string_bytes l.text ≡ flat_map encode_utf8 (take l.byte-index l.bytes)

use Rattle.std.proofs.Common.{◌≡◌, flat_map, string_bytes}
use Rattle.svid_lines.specs.Shown.{shown_char}
use Rattle.svid_lines.proofs.shown.shown_text.Given as goal

abbrev pub invariant-loop-character : goal.invariant-loop-character
invariant-loop-character l = string_bytes l.line ≡ flat_map shown_char l.yielded

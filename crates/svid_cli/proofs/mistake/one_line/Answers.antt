use Rattle.std.proofs.Common.{◌∙◌}
use Rattle.svid_cli.proofs.MistakeLemmas.{hides_line, one_of_line, words_of_line}
use Rattle.svid_cli.proofs.mistake.one_line.Goals as goal

pub returns : goal.returns
returns c = record {
  words = words_of_line (λ line. line.items) c.shown_of.result _ _ _ (c.deref-2.ensures.value ∙ c.in_ok-line.ensures) c.shown_of.ensures;
  one = one_of_line (λ line. line.items) c.shown_of.result _ c.shown_of.ensures;
  hides = hides_line (λ line. line.items) c.shown_of.result _ c.shown_of.ensures;
}

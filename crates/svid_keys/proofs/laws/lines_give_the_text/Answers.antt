use Rattle.std.proofs.Common.{◌∷◌}
use Rattle.std.proofs.lemmas.List.Elements.{All-from_recursion, recursion_from_All}
use Rattle.std.proofs.lemmas.List.Splits.{join_with_byte-slice_split}
use Rattle.svid_token.proofs.CompactLemmas.{whole_pieces}
use Rattle.svid_keys.specs.Lines.{HasNoFeed, line_feed, pieces_of}
use Rattle.svid_keys.proofs.LinesLemmas.{are_pieces_of, pieces_of-joined, without_return-other, without_return-return}
use Rattle.svid_keys.proofs.laws.lines_give_the_text.Goals as goal

pub returns-clause-joined : goal.returns-clause-joined
returns-clause-joined c = join_with_byte-slice_split line_feed

pub returns-clause-whole : goal.returns-clause-whole
returns-clause-whole c = λ text. All-from_recursion HasNoFeed (pieces_of text) (whole_pieces line_feed text)

pub returns-clause-alone : goal.returns-clause-alone
returns-clause-alone c = λ first more none. pieces_of-joined first more (recursion_from_All HasNoFeed (first ∷ more) none)

pub returns-clause-lines : goal.returns-clause-lines
returns-clause-lines c = λ text. are_pieces_of (pieces_of text)

pub returns-clause-cut : goal.returns-clause-cut
returns-clause-cut c = without_return-return

pub returns-clause-kept : goal.returns-clause-kept
returns-clause-kept c = without_return-other

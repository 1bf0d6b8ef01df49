use Rattle.std.proofs.Common.{subst, sym}
use Rattle.svid_token.proofs.ObjectLemmas.{header_of-object}
use Rattle.svid_token.specs.Header.{header_view}
use Rattle.svid_token.specs.Rows.{Answers}
use Rattle.svid_token.proofs.header.Header.read.Goals as goal

pub returns : goal.returns
returns c =
    let due = header_of-object _ _ c.in_ok-object.ensures in
    subst (λ d. Answers header_view c.from_object.result d) (sym due) c.from_object.ensures

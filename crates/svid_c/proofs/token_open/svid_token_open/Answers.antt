use Rattle.std.proofs.Common.{Option, sym, subst, ◌∙◌}
use Rattle.svid_check.specs.Said.{Said}
use Rattle.svid_c.specs.Token.{OpensToken, read_already}
use Rattle.svid_c.proofs.token_open.svid_token_open.Goals as goal

pub returns-in-Some : goal.returns-in-Some
returns-in-Some c = read_already c.in-Some.read.value (sym c.in-Some.ensures.value) (c.put.ensures ∙ c.in-Some.ensures.value) c.only.ensures.status c.only.ensures.told

pub returns : goal.returns
returns c = subst (λ (o : Option Said). OpensToken c.args.token.now c.open.result c.open.new.told o c.open.new.t.handle.read) c.in_default.ensures.value c.open.ensures

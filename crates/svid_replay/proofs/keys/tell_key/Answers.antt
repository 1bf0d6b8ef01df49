use Rattle.std.proofs.Common.{◌∙◌, ap, sym}
use Rattle.std.specs.List.{list_any}
use Rattle.svid_replay.specs.Indexed.{is_sought}
use Rattle.svid_replay.proofs.KeysLemmas.{tell_first, tell_second, tell_withdrawal}
use Rattle.svid_replay.proofs.keys.tell_key.Goals as goal

pub returns-then-withdrawn : goal.returns-then-withdrawn
returns-then-withdrawn c us told = c.has_kind.ensures us told ∙ tell_withdrawal c.args.key.now us ∙ ap (λ w. list_any (is_sought w c.args.key.now) us) (sym c.if-withdrawn.true)

pub returns-then-has_kind : goal.returns-then-has_kind
returns-then-has_kind c us told = tell_first c.args.key.now us c.args.withdrawn _ c.if-withdrawn.false (c.has_kind-2.ensures us told) c.if-has_kind.true

pub returns-else-has_kind : goal.returns-else-has_kind
returns-else-has_kind c us told = tell_second c.args.key.now us c.args.withdrawn _ _ c.if-withdrawn.false (c.has_kind-2.ensures us told) c.if-has_kind.false (c.has_kind-else-has_kind.ensures us told)

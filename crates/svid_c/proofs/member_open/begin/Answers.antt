use Rattle.std.proofs.Common.{refl, Some, ap, sym, ◌∙◌}
use Rattle.svid_c.specs.Peers.{begins_member, has_member, reads_log_already, with_peer}
use Rattle.svid_c.proofs.LiveLemmas.{holds_none, holds_one}
use Rattle.svid_c.proofs.member_open.begin.Goals as goal

pub returns-then-is_some : goal.returns-then-is_some
returns-then-is_some c =
    let one = holds_one c.args.live.now.member c.if-is_some.ensures in
    reads_log_already one.0 one.1 refl refl

pub returns-then-is_some-2 : goal.returns-then-is_some-2
returns-then-is_some-2 c =
    let one = holds_one c.args.live.now.peer c.if-is_some-2.ensures in
    has_member one.0 (holds_none c.args.live.now.member c.if-is_some.ensures) one.1 refl refl

pub returns : goal.returns
returns c =
    begins_member c.in-Some.mode (holds_none c.args.live.now.member c.if-is_some.ensures) (holds_none c.args.live.now.peer c.if-is_some-2.ensures) (sym c.mode_in.ensures ∙ c.in-Some.is)
    (ap (λ p. with_peer c.args.live.now (Some p)) c.peer_of.ensures) refl

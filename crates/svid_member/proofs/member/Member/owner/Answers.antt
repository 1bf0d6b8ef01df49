use Rattle.std.proofs.Common.{ap, ◌∙◌}
use Rattle.svid_member.specs.Claiming.{owner_by, owner_for}
use Rattle.svid_member.specs.Members.{MemberData}
use Rattle.svid_member.proofs.member.Member.owner.Goals as goal

pub returns : goal.returns
returns c =
    c.owner_by.ensures
    ∙ ap (λ b. owner_by b c.self.inside.life c.args.used.now c.args.caller.now) c.is_bound.ensures
    ∙ ap (λ (m : MemberData). owner_for m c.args.used.now c.args.caller.now) c.self.view_is

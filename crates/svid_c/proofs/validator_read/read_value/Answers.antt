use Rattle.std.proofs.Common.{◌<◌, ◌≤◌, List, Some, ap, refl, rules, subst, sym, ◌∙◌}
use Rattle.svid_replay.specs.declared.token_use.Use.{Use}
use Rattle.svid_log.specs.declared.fate.Fate.{Fate}
use Rattle.svid_log.specs.declared.mark.Mark.{Mark}
use Rattle.svid_log.specs.Members.{HasRead, order_of}
use Rattle.svid_log.specs.Steps.{horizon}
use Rattle.svid_c.specs.Live.{Kept}
use Rattle.svid_c.specs.Log.{is_read, no_clock, was_read}
use Rattle.svid_c.proofs.LogLemmas.{put_part, same_live}
use Rattle.svid_c.proofs.validator_read.read_value.Goals as goal

pub returns-then-is_behind_gap : goal.returns-then-is_behind_gap
returns-then-is_behind_gap c =
    no_clock c.in-Some.member c.in-Some.is c.if-now-eq0.true
    (ap (λ (k : Mark). order_of k.passed c.args.position) (sym c.mark-passed.ensures) ∙ c.is_behind_gap.ensures.yes c.if-is_behind_gap.true)
    c.only-then-is_behind_gap.ensures.status c.only-then-is_behind_gap.ensures.told c.nothing_read.ensures refl (same_live c.args.live.now c.in-Some.member c.in-Some.is)

pub returns-then-position-passed : goal.returns-then-position-passed
returns-then-position-passed c =
    was_read c.in-Some.member c.in-Ok.value.uses.items c.in-Ok.value.fault c.in-Some.is
    (subst (λ (k : Mark). c.args.position ≤ k.passed) c.mark-passed.ensures c.if-position-passed.true)
    c.in-Ok.ensures c.value_number.ensures c.told_value.ensures c.nothing_read.ensures refl (same_live c.args.live.now c.in-Some.member c.in-Some.is)

pub returns : goal.returns
returns c =
    let old = c.args.live.now in
    let m = c.in-Some.member in
    let now = c.args.now in
    let far = horizon now old.validator.ahead in
    let uses = c.in-Ok.value.uses.items in
    let room = c.in-Ok-room_for.fates.items in
    let read = c.read_log-read in
    let behind : m.passed < c.args.position = subst (λ (k : Mark). k.passed < c.args.position) c.mark-passed.ensures c.if-position-passed.false in
    let has : HasRead now far c.args.position m old.validator.state uses room read.result read.new.member read.new.self.state read.new.fates =
    subst (λ (us : List Use). HasRead now far c.args.position m old.validator.state us room read.result read.new.member read.new.self.state read.new.fates) c.deref.ensures.value
    (subst (λ (fs : List Fate). HasRead now far c.args.position m old.validator.state c.deref.result.now fs read.result read.new.member read.new.self.state read.new.fates) c.deref_mut-room.ensures.value
    (read.ensures.read behind)) in
    is_read m read.new.member uses c.in-Ok.value.fault room read.new.fates read.result read.new.self.state c.in-Some.is behind c.in-Ok.ensures (search rules)
    has c.value_number-2.ensures c.told_value-2.ensures c.reading_seen.ensures
    (put_part uses c.deref-2.result.now c.part.result.now read.new.fates read.new.fates c.args.out.now c.put_fates.new.out read.result.from read.result.count
    c.deref-2.ensures.value refl c.part.ensures has.few c.put_fates.ensures)
    (ap (λ (v : Kept). record { validator = v; step = old.step; member = Some read.new.member; peer = old.peer }) read.ensures.rest)

use Rattle.std.proofs.Common.{refl}
use Rattle.svid_c.specs.Allowed.{allowed, not_allowed}
use Rattle.svid_c.proofs.AllowedLemmas.{id_unread, pattern_unread}
use Rattle.svid_c.proofs.id_allows.svid_id_allows.Goals as goal

pub returns-in-Err : goal.returns-in-Err
returns-in-Err c =
    pattern_unread _ _ c.in-Err.fault _ _ _ c.in-Err.ensures.fault c.pattern_number.ensures c.offset_of.ensures c.told_offset.ensures

pub returns-in-Err-parse : goal.returns-in-Err-parse
returns-in-Err-parse c =
    id_unread _ _ c.in-Ok.pattern c.in-Err-parse.fault _ _ _ c.in-Ok.ensures.ok c.in-Err-parse.ensures.fault c.number_of.ensures
    c.offset_of-in-Err-parse.ensures c.told_offset-in-Err-parse.ensures

pub returns-then-allows : goal.returns-then-allows
returns-then-allows c =
    allowed c.in-Ok.pattern c.in-Ok-parse.id c.in-Ok.ensures.ok c.in-Ok-parse.ensures.ok (c.allows.ensures.0 c.if-allows.true) refl
    c.told_parts.ensures

pub returns : goal.returns
returns c =
    not_allowed c.in-Ok.pattern c.in-Ok-parse.id c.in-Ok.ensures.ok c.in-Ok-parse.ensures.ok
    (λ may. let holds = c.allows.ensures.1 may in absurd (cc)) refl c.told_parts.ensures

use Rattle.std.proofs.Common.{◌≡◌, length, refl, ap, rules, ◌∙◌}
use Rattle.svid_replay.specs.Batches.{BatchData}
use Rattle.svid_wire.specs.BatchText.{batch_text}
use Rattle.svid_check.specs.Saves.{piece_of}
use Rattle.svid_c.specs.Parts.{after_of, moved, next_piece, saved}
use Rattle.svid_c.proofs.validator_parts.put_part.Goals as goal

pub returns : goal.returns
returns c =
    let held = c.args.live.now.validator in
    let is : c.in-Ok.batch ≡ next_piece held c.args.part.now (length c.args.out.now) =
    c.in-Ok.ensures ∙ ap (λ after. piece_of held.state after c.uses_in_room-most.result) c.after_of.ensures ∙ ap (piece_of held.state (after_of c.args.part.now)) c.uses_in_room-most.ensures in
    saved c.bytes.result.now (search rules) (c.bytes.ensures ∙ c.in-Ok-text_of.ensures ∙ ap batch_text is) c.put-status.ensures.put c.put-status.ensures.told
    (λ put. c.settle.ensures.moved put ∙ ap (moved held c.args.part.now) (c.uses.ensures.value ∙ ap (λ (b : BatchData). b.uses) is))
    c.settle.ensures.kept refl

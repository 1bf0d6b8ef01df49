use Rattle.std.proofs.Common.{◌≡◌, List, [], ◌∷◌, refl, ap, ◌∙◌}
use Rattle.std.specs.List.{AllByRecursion, flat_map}
use Rattle.svid_replay.specs.Batches.{BatchData, IsBatch}
use Rattle.svid_replay.specs.Parts.{parts_of}
use Rattle.svid_replay.proofs.PartsLemmas.{parts_are_batches, same_parts_same_record}
use Rattle.svid_wire.specs.BatchText.{batch_text}
use Rattle.svid_wire.specs.RecordText.{record_text, TextTellsRecord}
use Rattle.svid_wire.specs.declared.message.Message.TheVariants.{Batch}
use Rattle.svid_wire.proofs.FirstMessage.{begins_one_message}
use Rattle.svid_wire.proofs.MessagesLemmas.{as_written, written_is}

-- texts of batches, one after the other, belong to only one list of batches
one_list : (bs cs : List BatchData) → AllByRecursion IsBatch bs → AllByRecursion IsBatch cs → flat_map batch_text bs ≡ flat_map batch_text cs → bs ≡ cs
one_list [] [] good_b good_c same = refl
one_list [] (c ∷ cs) good_b good_c same = cc
one_list (b ∷ bs) [] good_b good_c same = cc
one_list (b ∷ bs) (c ∷ cs) good_b good_c same =
    let (same_message, behind) = begins_one_message (as_written (Batch b)) (as_written (Batch c)) (flat_map batch_text bs) (flat_map batch_text cs) (written_is (Batch b) good_b.0) (written_is (Batch c) good_c.0) same in
    let first : b ≡ c = cc in
    ap (λ x. x ∷ bs) first ∙ ap (λ xs. c ∷ xs) (one_list bs cs good_b.1 good_c.1 behind)

pub text_tells_record : TextTellsRecord
text_tells_record a b is_a is_b =
    (λ same. same_parts_same_record a b (one_list (parts_of a) (parts_of b) (parts_are_batches a is_a) (parts_are_batches b is_b) same), λ same. ap record_text same)

use Rattle.std.proofs.Common.{◌≡◌, List, [], ◌∷◌, ◌++◌, map, refl, sym, ◌∙◌, ap, append-nil}
use Rattle.std.specs.List.{AllByRecursion, flat_map}
use Rattle.svid_replay.specs.Batches.{BatchData, IsBatch}
use Rattle.svid_replay.proofs.ListLemmas.{each_true}
use Rattle.svid_wire.specs.BatchText.{batch_text}
use Rattle.svid_wire.specs.Messages.{IsWritten, batch_in, batches_of, read_as, written_text}
use Rattle.svid_wire.specs.Versions.{CanTell}
use Rattle.svid_wire.specs.declared.message.Message.TheVariants.{Batch}
use Rattle.svid_wire.specs.declared.version.Version.TheVariants.{Two}
use Rattle.svid_log.specs.Values.{uses_in}
use Rattle.svid_uses.specs.Texts.{WrittenAreRead, texts_of}

each_written : (bs : List BatchData) → AllByRecursion IsBatch bs → AllByRecursion IsWritten (map (batch_in Two) bs)
each_written [] good = tt
each_written (b ∷ bs) good = (record { batch = good.0; few = good.0.few; tells = each_true (CanTell Two) (λ u. tt) b.uses }, each_written bs good.1)

read_back : (bs : List BatchData) → map Batch bs ≡ map read_as (map (batch_in Two) bs)
read_back [] = refl
read_back (b ∷ bs) = ap (λ ms. Batch b ∷ ms) (read_back bs)

text_is : (bs : List BatchData) → texts_of bs ≡ flat_map written_text (map (batch_in Two) bs)
text_is [] = refl
text_is (b ∷ bs) = ap (λ x. batch_text b ++ x) (text_is bs)

batches_back : (bs : List BatchData) → batches_of (map Batch bs) ≡ bs
batches_back [] = refl
batches_back (b ∷ bs) = ap (λ cs. b ∷ cs) (batches_back bs)

pub written_are_read : WrittenAreRead
written_are_read uses batches are = record {
  messages = map Batch batches;
  whole = record {
    written = map (batch_in Two) batches;
    good = each_written batches are.cut.good;
    told = read_back batches;
    parts = text_is batches ∙ sym (append-nil (flat_map written_text (map (batch_in Two) batches)));
  };
  told = ap uses_in (sym (batches_back batches));
}

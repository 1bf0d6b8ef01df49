-- What a call answers about the size of a record.
use Rattle.std.specs.Prelude.{◌≡◌, ℕ}
use Rattle.svid_replay.specs.Uses.{count}
use Rattle.svid_c.specs.Live.{Kept}
use Rattle.svid_c.specs.Status.{told_length}
use Rattle.svid_c.specs.declared.validator_size.SvidSize.{SvidSize}
use Rattle.svid_c.specs.declared.told.SvidTold.{SvidTold}

-- the answer is the moment of the record and the number of its uses, and nothing happens
pub record Sizes (status : ℕ) (told : SvidTold) (size : SvidSize) (old new : Kept) : Type 0 where
  pub done : status ≡ 0
  pub length : told ≡ told_length 0
  pub is : size ≡ record { moment = old.state.moment; uses = count old.state.uses }
  pub stays : new ≡ old

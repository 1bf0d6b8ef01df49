-- How far an input of messages was read.
use Rattle.std.specs.Prelude.{◌≡◌, ℕ, ◌+◌, List, length, Option, Some}
use Rattle.svid_wire.specs.Streams.{Drawn, Gave, drawn}
use Rattle.svid_wire.specs.declared.message.Message.{Message}
use Rattle.svid_share.specs.declared.reader.Reader.{Reader}
use Rattle.svid_share.specs.Inputs.{IsGoodSoFar, most_bytes}

-- the bytes that came so far are these messages and what the reader holds, and at most so many more may come
pub record HasCome (input : Drawn) (reader : Reader) (told : List Message) : Type 0 where
  pub bytes : List ℕ
  pub rest : List ℕ
  pub holds : reader.feed ≡ Some rest
  pub given : Gave input bytes
  pub unstopped : input.stops_after ≡ input.stops_before
  pub good : IsGoodSoFar bytes told rest
  pub few : length bytes + reader.still ≡ most_bytes
  pub count : reader.whole ≡ length told

-- the reader has read from a source, from some state of it to this one
pub record HasBegun {S : Type 0} (left : S → Option (List ℕ)) (stops : S → ℕ) (source : S) (reader : Reader) : Type 0 where
  pub first : S
  pub told : List Message
  pub come : HasCome (drawn left stops first source) reader told

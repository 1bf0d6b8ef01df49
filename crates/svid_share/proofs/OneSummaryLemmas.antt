-- The result for an input that must be one summary.
use Rattle.std.proofs.Common.{◌≡◌, ◌≢◌, ℕ, List, [], ◌∷◌, ◌++◌, length, Option, Some, Result, Ok, Err, IfOk, IfErr, sym, ◌∙◌, ap, subst, arith, length-append, append-nil, append_assoc}
use Rattle.svid_replay.specs.Summary.{SummaryData}
use Rattle.svid_wire.specs.Streams.{Drawn}
use Rattle.svid_wire.specs.declared.message.Message.{Message}
use Rattle.svid_wire.specs.declared.message.Message.TheVariants as message
use Rattle.svid_share.specs.declared.reader.Reader.{Reader}
use Rattle.svid_share.specs.declared.tool_fault.ToolFault.{ToolFault}
use Rattle.svid_share.specs.declared.tool_fault.ToolFault.TheVariants as tool
use Rattle.svid_share.specs.Answer.{IsLast, IsOneSummary, IsSummaryFault}
use Rattle.svid_share.specs.Inputs.{IsInputFault, IsWhole}
use Rattle.svid_share.specs.Reader.{HasCome}

-- messages and the last one after them
pub last_behind : (told items front : List Message) (last : Message) → items ≡ front ++ last ∷ [] → IsLast (told ++ items) (Some last)
last_behind told items front last is = (told ++ front, ap (λ ms. told ++ ms) is ∙ sym (append_assoc told front (last ∷ [])))

-- no message after messages
pub none_behind : (told items : List Message) (before : Option Message) → length items ≡ 0 → IsLast told before → IsLast (told ++ items) before
none_behind told [] before none is = subst (λ ms. IsLast ms before) (sym (append-nil told)) is
none_behind told (m ∷ items) before none is = absurd (omega arith)

-- the messages of an input so far, and its last message
pub record HasLast (input : Drawn) (reader : Reader) (number : ℕ) (last : Option Message) : Type 0 where
  pub told : List Message
  pub come : HasCome input reader told
  pub numbered : reader.number ≡ number
  pub is : IsLast told last

-- the last of one message is that message
only : (told : List Message) (last : Message) → length told ≡ 1 → IsLast told (Some last) → told ≡ last ∷ []
only told last one is = by is.0 is.1
  where
    by : (front : List Message) → told ≡ front ++ last ∷ [] → told ≡ last ∷ []
    by [] same = same
    by (x ∷ front) same = absurd (omega (arith, ap length same, length-append front (last ∷ [])))

-- not one message
pub not_one : (told : List Message) (count : ℕ) (asked : SummaryData) → length told ≡ count → count ≢ 1 → told ≢ message.Summary asked ∷ []
not_one told count asked long many same = absurd (many (sym long ∙ ap length same))

-- an input that is refused like any other
pub refused_as_any : (number : ℕ) (input : Drawn) (own : ℕ) (fault : ToolFault) → own ≡ number → IsInputFault own input fault → IsSummaryFault number input fault
refused_as_any number input own fault same why = by fault (subst (λ n. IsInputFault n input fault) same why)
  where
    by : (fault : ToolFault) → IsInputFault number input fault → IsSummaryFault number input fault
    by (tool.Wire told message offset reason) why = why
    by (tool.Read told) why = why
    by (tool.TooMuch told) why = why
    by tool.OutOfMemory why = why
    by _ none = absurd none

-- the only summary of the input
pub is_summary : (input : Drawn) (told : List Message) (last : Option Message) (count : ℕ) (r : Result SummaryData ToolFault) → IsWhole input told → count ≡ length told → IsLast told last → IfOk r (λ s. (told : List Message) → length told ≡ count → IsLast told last → told ≡ message.Summary s ∷ []) → IfOk r (IsOneSummary input)
is_summary input told last count (Ok s) whole many is only = subst (IsWhole input) (only told (sym many) is) whole
is_summary input told last count (Err fault) whole many is only = tt

-- or why there is none
pub is_no_summary : (input : Drawn) (number : ℕ) (told : List Message) (last : Option Message) (count : ℕ) (r : Result SummaryData ToolFault) → IsWhole input told → count ≡ length told → IsLast told last → IfErr r (λ fault. (fault ≡ tool.NotSummary) × ((told : List Message) → length told ≡ count → IsLast told last → (s : SummaryData) → told ≢ message.Summary s ∷ [])) → IfErr r (IsSummaryFault number input)
is_no_summary input number told last count (Ok s) whole many is none = tt
is_no_summary input number told last count (Err fault) whole many is none = rw none.0 (record { told = told; whole = whole; other = none.1 told (sym many) is })

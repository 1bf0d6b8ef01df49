use Rattle.std.proofs.Common.{◌≡◌, ℕ, List, [], ◌∷◌, ◌++◌, ◌∙◌, ap, inl, inr}
use Rattle.svid_replay.specs.Parts.{join_all}
use Rattle.svid_replay.specs.Records.{State, join, state_of}
use Rattle.svid_replay.specs.Summary.{SummaryData}
use Rattle.svid_wire.specs.Messages.{batches_of}
use Rattle.svid_wire.specs.RecordText.{record_text}
use Rattle.svid_wire.specs.declared.message.Message.TheVariants.{Summary}
use Rattle.svid_share.specs.Joined.{joined}
use Rattle.svid_share.specs.declared.tool_fault.ToolFault.{ToolFault}
use Rattle.svid_share.proofs.JoinedLemmas.{joined_from_nothing, joined_one_by_one}
use Rattle.svid_c.specs.Inputs.{AreMessages, AreRefused, IsRefused, Tells}
use Rattle.svid_c.specs.Joined.{IsAnswer, IsAnswerRefused, IsJoined, IsRecordOf, IsSummaryRefused, IsTextOf, answer_text}

comes_to : (bytes : List ℕ) (r0 r1 : State) → r0 ≡ state_of 0 [] → (t : Tells bytes r0 r1) → r1 ≡ joined (batches_of t.told)
comes_to bytes r0 r1 begun t = t.joins ∙ ap (λ r. join_all r (batches_of t.told)) begun ∙ joined_from_nothing (batches_of t.told)

-- what one input tells, raised
pub one : (bytes : List ℕ) (now : ℕ) (r0 r1 r2 : State) → r0 ≡ state_of 0 [] → Tells bytes r0 r1 → r2 ≡ join r1 (state_of now []) → IsRecordOf bytes now r2
one bytes now r0 r1 r2 begun t raise =
    record { told = t.told; are = t.are; is = raise ∙ ap (λ r. join r (state_of now [])) (comes_to bytes r0 r1 begun t) }

-- what two inputs tell, raised
pub both : (a b : List ℕ) (now : ℕ) (text : List ℕ) (r0 r1 r2 r3 : State) → r0 ≡ state_of 0 [] → Tells a r0 r1 → Tells b r1 r2 → r3 ≡ join r2 (state_of now []) → text ≡ record_text r3 → IsJoined a b now text
both a b now text r0 r1 r2 r3 begun s t raise is =
    let comes : r2 ≡ joined (batches_of s.told ++ batches_of t.told) =
    t.joins ∙ ap (λ r. join_all r (batches_of t.told)) (comes_to a r0 r1 begun s) ∙ joined_one_by_one (batches_of s.told) (batches_of t.told) in
    record { first = s.told; second = t.told; a_is = s.are; b_is = t.are; is = is ∙ ap record_text (raise ∙ ap (λ r. join r (state_of now [])) comes) }

-- a text that is due to what one input tells
pub text_is : (due : State → List ℕ) (bytes : List ℕ) (now : ℕ) (r : State) (text : List ℕ) → IsRecordOf bytes now r → text ≡ due r → IsTextOf due bytes now text
text_is due bytes now r text comes is = record { r = r; comes = comes; is = is }

-- why the only one of some inputs is refused
pub refused_alone : (number : ℕ) (bytes : List ℕ) (fault : ToolFault) → IsRefused number bytes fault → AreRefused number (bytes ∷ []) fault
refused_alone number bytes fault why = inl why

-- the answer to a summary that was read
pub answers : (summary bytes : List ℕ) (now : ℕ) (asked : SummaryData) (text : List ℕ) → AreMessages summary (Summary asked ∷ []) → IsTextOf (answer_text asked) bytes now text → IsAnswer summary bytes now text
answers summary bytes now asked text one is = record { asked = asked; one = one; is = is }

pub refused_summary : (summary bytes : List ℕ) (fault : ToolFault) → IsSummaryRefused summary fault → IsAnswerRefused summary bytes fault
refused_summary summary bytes fault why = inl why

-- the summary was read, and what stands behind it is refused
pub refused_behind : (summary bytes : List ℕ) (asked : SummaryData) (fault : ToolFault) → AreMessages summary (Summary asked ∷ []) → AreRefused 2 (bytes ∷ []) fault → IsAnswerRefused summary bytes fault
refused_behind summary bytes asked fault one why = inr (record { asked = asked; one = one; why = why })

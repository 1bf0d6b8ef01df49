use Rattle.std.proofs.Common.{◌≡◌, ◌≤◌, ℕ, List, [], ◌∷◌, ◌++◌, length, Some, sym, ◌∙◌, ap, subst, arith, append-nil, length-append}
use Rattle.std.proofs.lemmas.List.{append_assoc}
use Rattle.svid_keys.specs.Bundles.{IsRefusal, bundles_fault}
use Rattle.svid_keys.specs.declared.bundle_fault.BundleFault.{BundleFault}
use Rattle.svid_keys.specs.declared.bundle_fault.BundleFault.TheVariants as bundles
use Rattle.svid_replay.specs.Records.{State}
use Rattle.svid_replay.specs.Summary.{SummaryData}
use Rattle.svid_wire.specs.Faults.{raised}
use Rattle.svid_wire.specs.Streams.{Drawn}
use Rattle.svid_wire.specs.declared.message.Message.{Message}
use Rattle.svid_wire.specs.declared.message.Message.TheVariants as message
use Rattle.svid_wire.specs.declared.reason.Reason.{Reason}
use Rattle.svid_wire.specs.declared.reason.Reason.TheVariants as wire
use Rattle.svid_share.specs.declared.tool_fault.ToolFault.{ToolFault}
use Rattle.svid_share.specs.declared.tool_fault.ToolFault.TheVariants as tool
use Rattle.svid_share.specs.Faults.{bundle_fault_of}
use Rattle.svid_share.specs.Answer.{IsOneSummary, IsSummaryFault}
use Rattle.svid_share.specs.Inputs.{EndsWithin, HasBadField, IsBroken, IsInputFault, IsTooLong, IsWhole, StopsWithin, most_bytes}
use Rattle.svid_share.specs.Joined.{Joins}
use Rattle.svid_c.specs.Inputs.{AreMessages, AreNoBundles, IsBadMessage, IsRefused, IsTooMuch, Tells}
use Rattle.svid_c.specs.Joined.{IsSummaryRefused}

-- what was done to a source of bytes that a caller lent
abbrev lent : List ℕ → List ℕ → Drawn
lent old new = record { left_before = Some old; left_after = Some new; stops_before = 0; stops_after = 0 }

all_given : (old new bytes : List ℕ) → old ≡ bytes ++ new → new ≡ [] → old ≡ bytes
all_given old new bytes given ended = given ∙ ap (λ n. bytes ++ n) ended ∙ append-nil bytes

whole : (old new : List ℕ) (told : List Message) → IsWhole (lent old new) told → AreMessages old told
whole old new told w = subst (λ b. AreMessages b told) (sym (all_given old new w.bytes w.read.given w.read.ended)) (w.splits, w.read.within)

-- if joining an input succeeded, its bytes have what was joined
pub tells : (old new : List ℕ) (a b : State) → Joins (lent old new) a b → Tells old a b
tells old new a b j = record { told = j.told; are = whole old new j.told j.whole; joins = j.joins }

field : (old new : List ℕ) (message offset : ℕ) (reason : Reason) → HasBadField (lent old new) message offset reason → IsBadMessage old message offset reason
field old new message offset reason h =
    record {
      front = h.bytes;
      others = h.others ++ new;
      parts = h.given ∙ append_assoc h.bytes h.others new;
      within = h.within;
      ended = λ is_cut. absurd (h.why.1 is_cut);
      messages = h.messages;
      rest = h.rest;
      splits = h.splits;
      number = h.number;
      why = h.why.0;
    }

cut : (old new : List ℕ) (message offset : ℕ) → EndsWithin (lent old new) message offset → IsBadMessage old message offset wire.Truncated
cut old new message offset e =
    record {
      front = e.bytes;
      others = new;
      parts = e.read.given;
      within = e.read.within;
      ended = λ _. e.read.ended;
      messages = e.messages;
      rest = e.rest;
      splits = e.good.splits;
      number = e.number;
      why = (e.at, e.some, e.good.unfinished);
    }

bad : (old new : List ℕ) (message offset : ℕ) (reason : Reason) → IsBroken (lent old new) message offset reason → IsBadMessage old message offset reason
bad old new message offset wire.Truncated b = cut old new message offset b
bad old new message offset _ b = field old new message offset _ b

too_long : (old new : List ℕ) → IsTooLong (lent old new) → IsTooMuch old
too_long old new l =
    record {
      front = l.bytes;
      others = l.others ++ new;
      parts = l.given ∙ append_assoc l.bytes l.others new;
      full = l.full;
      some = omega (arith, length-append l.others new, l.some);
      messages = l.messages;
      rest = l.rest;
      good = l.good;
    }

never_stops : (old new : List ℕ) → StopsWithin (lent old new) → ⊥
never_stops old new s = let no : 0 ≡ raised 0 = s.stopped in cc

-- why such an input is refused
pub refused : (number : ℕ) (old new : List ℕ) (fault : ToolFault) → IsInputFault number (lent old new) fault → IsRefused number old fault
refused number old new (tool.Wire input message offset reason) f = (f.0, bad old new message offset reason f.1)
refused number old new (tool.TooMuch input) f = (f.0, too_long old new f.1)
refused number old new (tool.Read input) f = never_stops old new f.1
refused number old new tool.OutOfMemory f = tt
refused number old new _ f = f

-- the bytes of an input that is one summary are that summary
pub is_one : (old new : List ℕ) (asked : SummaryData) → IsOneSummary (lent old new) asked → AreMessages old (message.Summary asked ∷ [])
is_one old new asked w = whole old new (message.Summary asked ∷ []) w

-- why the bytes of an input are no summary
pub not_one : (old new : List ℕ) (fault : ToolFault) → IsSummaryFault 1 (lent old new) fault → IsSummaryRefused old fault
not_one old new tool.NotSummary n = record { told = n.told; are = whole old new n.told n.whole; other = n.other }
not_one old new (tool.Wire input message offset reason) f = refused 1 old new (tool.Wire input message offset reason) f
not_one old new (tool.TooMuch input) f = refused 1 old new (tool.TooMuch input) f
not_one old new (tool.Read input) f = refused 1 old new (tool.Read input) f
not_one old new tool.OutOfMemory f = refused 1 old new tool.OutOfMemory f
not_one old new (tool.Bundles fault) f = refused 1 old new (tool.Bundles fault) f
not_one old new (tool.Table line) f = refused 1 old new (tool.Table line) f
not_one old new tool.Write f = refused 1 old new tool.Write f

-- bytes that are not too many are refused as bundles
pub no_bundles : (bytes : List ℕ) (given : BundleFault) → length bytes ≤ most_bytes → IsRefusal (bundles_fault bytes) given → AreNoBundles bytes (bundle_fault_of given)
no_bundles bytes bundles.OutOfMemory few why = tt
no_bundles bytes _ few why = (few, why)

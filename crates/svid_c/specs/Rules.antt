-- What replacing the audiences of a validator and the callers of its member does.
use Rattle.std.specs.Prelude.{◌≡◌, ◌⊎◌, ℕ, true, false, List, map, Option, Some, None}
use Rattle.std.specs.List.{Contains}
use Rattle.svid_id.specs.declared.id_fault.IdFault.{IdFault}
use Rattle.svid_id.specs.declared.id_fault.IdFault.TheVariants.{OutOfMemory}
use Rattle.svid_allow.specs.Pattern.{PatternParts, pattern_fault, pattern_parts}
use Rattle.svid_keys.specs.Lines.{lines_of}
use Rattle.svid_check.specs.Setting.{with_own}
use Rattle.svid_c.specs.Allowed.{pattern_number}
use Rattle.svid_c.specs.Own.{AreLines, IsLineFault, names_of, own_number}
use Rattle.svid_c.specs.Peers.{is_set}
use Rattle.svid_c.specs.declared.live.Live.{Live}
use Rattle.svid_c.specs.declared.own_fault.OwnFault.{OwnFault}
use Rattle.svid_c.specs.declared.peer.Peer.{Peer}

-- these are the patterns that a text has in its lines, but for those that are empty
abbrev pub AreCallers : List ℕ → List PatternParts → Type 0
AreCallers text patterns = map Some patterns ≡ map pattern_parts (names_of text)

-- all may call, or those that one of the patterns of a text allows
abbrev pub AreGiven : ℕ → List ℕ → Option (List PatternParts) → Type 0
AreGiven all text None = is_set all ≡ true
AreGiven all text (Some patterns) = (is_set all ≡ false) × AreCallers text patterns

-- why a text is no pattern; or memory was refused
abbrev pub IsPatternFault : List ℕ → IdFault → Type 0
IsPatternFault text fault = (fault ≡ OutOfMemory) ⊎ (pattern_fault text ≡ Some fault)

-- a line is no pattern for this reason; or memory was refused
abbrev pub IsCallersFault : List ℕ → IdFault → Type 0
IsCallersFault text fault = (line : List ℕ) × Contains (lines_of text) line × IsPatternFault line fault

-- Other audiences and other callers count from now on; or they are refused, or the validator has no member, and nothing happens.
pub data Rules (own : List ℕ) (all : ℕ) (callers : List ℕ) (status : ℕ) (old new : Live) : Type 0 where
  rules_none : old.peer ≡ None → new ≡ old → status ≡ 20 → Rules own all callers status old new
  own_refused : (p : Peer) (fault : OwnFault) → old.peer ≡ Some p → IsLineFault own fault → status ≡ own_number fault → new ≡ old → Rules own all callers status old new
  callers_refused : (p : Peer) (fault : IdFault) → old.peer ≡ Some p → IsCallersFault callers fault → status ≡ pattern_number fault → new ≡ old → Rules own all callers status old new
  ruled : (p : Peer) (names : List (List ℕ)) (patterns : Option (List PatternParts)) → old.peer ≡ Some p → AreLines own names → AreGiven all callers patterns
      → new ≡ record { validator = with_own old.validator names; step = old.step; member = old.member; peer = Some (record { member = p.member; withdrawals = p.withdrawals; callers = patterns }) }
      → status ≡ 0 → Rules own all callers status old new

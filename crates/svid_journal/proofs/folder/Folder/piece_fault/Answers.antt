use Rattle.std.proofs.Common.{◌≡◌, ◌+◌, ◌^◌, Bool, true, false, List, [], ◌∷◌, Some, sym}
use Rattle.std.specs.Prelude.{not, nat_le}
use Rattle.svid_journal.specs.declared.fault.Fault.{Fault}
use Rattle.svid_journal.specs.declared.fault.Fault.TheVariants.{Unfit, Ended, NotWriting, TooLong, Full}
use Rattle.svid_journal.specs.Folder.{Row, first_row, is_fit, is_writing}
use Rattle.svid_journal.proofs.folder.Folder.piece_fault.Goals as goal

-- what refuses each call refuses this one
first : (a b : Bool) (rows : List Row) (fault : Fault) → first_row ((Unfit, a) ∷ (Ended, b) ∷ []) ≡ Some fault → first_row ((Unfit, a) ∷ (Ended, b) ∷ rows) ≡ Some fault
first true b rows fault e = e
first false true rows fault e = e
first false false rows fault e = absurd cc

pub returns-in-Some-clause-value : goal.returns-in-Some-clause-value
returns-in-Some-clause-value c =
    let f = c.args.self.now in
    sym (first (not (is_fit f)) f.ended ((NotWriting, not (is_writing f.step)) ∷ (TooLong, nat_le (2 ^ 24) c.args.len) ∷ (Full, nat_le (2 ^ 62) (f.pieces + 1)) ∷ []) c.in-Some.fault (sym c.in-Some.ensures.value))

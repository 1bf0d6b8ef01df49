use Rattle.std.proofs.Common.{◌≡◌, ℕ, ◌+◌, List, ◌++◌, length, take, drop, Option, Some, None, Ok, Err, refl, sym, ap, subst, ◌∙◌, append_assoc, drop-drop}
use Rattle.std.proofs.Math.Seq.{take-append_seam, drop-append_seam}
use Rattle.svid_journal.specs.declared.call.Call.{Call}
use Rattle.svid_journal.specs.declared.fault.Fault.{Fault}
use Rattle.svid_journal.specs.declared.folder.Folder.{Folder}
use Rattle.svid_journal.specs.declared.reader.Next.{Next}
use Rattle.svid_journal.specs.declared.reader.Reader.{Reader}
use Rattle.svid_journal.specs.declared.title.Title.{Title}
use Rattle.svid_journal.specs.Folder.{due, due_at}
use Rattle.svid_journal.specs.Frames.{filler, frame_in, gap, head_of}
use Rattle.svid_journal.specs.Reading.{GoesOn, IsNext}
use Rattle.svid_journal.specs.Titles.{bytes_of}
use Rattle.svid_journal.proofs.FramesLemmas.{length-head_of}

-- a call in the answer is due, and the folder has no fault
pub due_told : (f : Folder) (fault : Option Fault) (call : Call) → Ok call ≡ due f fault → (fault ≡ None) × (call ≡ due_at f.step f)
due_told f None call is = (refl, cc)
due_told f (Some e) call is = cc

-- a fault in the answer is the folder's
pub due_untold : (f : Folder) (fault : Option Fault) (e : Fault) → Err e ≡ due f fault → fault ≡ Some e
due_untold f None e is = cc
due_untold f (Some g) e is = cc

-- the same of equal titles and readers
pub read_as : (found : Next) (t u : Title) (r s new : Reader) (bytes : List ℕ) → t ≡ u → r ≡ s → IsNext found t r new bytes → IsNext found u s new bytes
read_as found t u r s new bytes titles readers next = subst (λ x. IsNext found u x new bytes) readers (subst (λ x. IsNext found x r new bytes) titles next)

-- a payload stands 32 bytes behind the offset of its frame
pub stands : (t : Title) (old new : Reader) (bytes payload : List ℕ) → GoesOn t old new bytes payload → take (length payload) (drop (old.at + 32) bytes) ≡ payload
unfolding frame_in
stands t old new bytes payload goes =
    let head = head_of 2 (bytes_of t) (1 + old.count) payload in
    let fill = filler (gap (length payload)) in
    let long : 32 ≡ length head = sym (length-head_of 2 (bytes_of t) (1 + old.count) payload) in
    let parts : drop old.at bytes ≡ head ++ (payload ++ (fill ++ goes.behind)) = goes.stands ∙ append_assoc head (payload ++ fill) goes.behind ∙ ap (λ xs. head ++ xs) (append_assoc payload fill goes.behind) in
    let past : drop (old.at + 32) bytes ≡ payload ++ (fill ++ goes.behind) = sym (drop-drop 32 old.at bytes) ∙ (λ i. drop (long i) (parts i)) ∙ drop-append_seam head (payload ++ (fill ++ goes.behind)) in
    ap (take (length payload)) past ∙ take-append_seam payload (fill ++ goes.behind)

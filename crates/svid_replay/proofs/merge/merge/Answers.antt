use Rattle.std.proofs.Common.{◌≡◌, ◌∙◌, ap, sym, arith, ◌++◌, drop, append_assoc}
use Rattle.std.proofs.lemmas.List.{drop_all, take_rest}
use Rattle.svid_replay.proofs.MergeLemmas.{merge_first_done, merge_second_done}
use Rattle.svid_replay.proofs.merge.merge.Goals as goal
use Rattle.svid_replay.proofs.merge.merge.Goals.{then-loop-i-test+else-j-b, else-loop-i-test}

pub returns : goal.returns
returns g c =
    let a = c.args.a.now in
    let b = c.args.b.now in
    let i = c.loop-i.i in
    let j = c.loop-i.j in
    let m = c.loop-i.merged.items in
    let whole : c.extend_from_slice-2.new.self.items ≡ m ++ (drop i a ++ drop j b) =
    c.in_ok-extend_from_slice-2.ensures.items ∙ (λ k. c.in_ok-extend_from_slice.ensures.items k ++ take_rest b j k) ∙ ap (λ xs. (m ++ xs) ++ drop j b) (take_rest a i) ∙ append_assoc m (drop i a) (drop j b) in
    elim c.loop-i-test.branch [
      | then-loop-i-test+else-j-b w ↦ whole ∙ ap (λ xs. m ++ xs) (sym (merge_second_done g.T.Ord.cmp (drop i a) (drop j b) (drop_all j b (omega (arith, w.if-j-b))))) ∙ c.loop-i.invariant.left
      | else-loop-i-test w ↦ whole ∙ ap (λ xs. m ++ xs) (sym (merge_first_done g.T.Ord.cmp (drop i a) (drop j b) (drop_all i a (omega (arith, w.loop-i-test))))) ∙ c.loop-i.invariant.left
    ]

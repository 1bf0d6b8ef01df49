use Rattle.std.proofs.Common.{◌≡◌, ◌∙◌, ap, sym, arith, ◌++◌, drop, take, append_assoc}
use Rattle.std.proofs.lemmas.Bool.{eqb-true}
use Rattle.std.proofs.lemmas.List.{drop_all, take_rest}
use Rattle.svid_replay.specs.Use.{use_cmp}
use Rattle.svid_replay.proofs.MergeLemmas.{merge_first_done, merge_second_done}
use Rattle.svid_replay.proofs.WalksLemmas.{room_full, take_cut}
use Rattle.svid_replay.proofs.room.fill_merged.Goals as goal
use Rattle.svid_replay.proofs.room.fill_merged.Goals.{then-loop-i-test+else-j-b, else-loop-i-test}

pub returns-then-is_full : goal.returns-then-is_full
returns-then-is_full c = room_full 64 _ _ _ c.loop-i.invariant.left (eqb-true _ 64 (sym c.is_full.ensures ∙ c.if-is_full.true))

pub returns : goal.returns
returns c =
    let a = c.args.a.now in
    let b = c.args.b.now in
    let i = c.loop-i.i in
    let j = c.loop-i.j in
    let m = c.loop-i.room in
    let whole : c.extend-2.new.self ≡ take 64 (m ++ (drop i a ++ drop j b)) =
    c.extend-2.ensures ∙ (λ k. take 64 (c.extend.ensures k ++ take_rest b j k)) ∙ take_cut 64 _ (drop j b) ∙ ap (λ xs. take 64 ((m ++ xs) ++ drop j b)) (take_rest a i) ∙ ap (take 64) (append_assoc m (drop i a) (drop j b)) in
    elim c.loop-i-test.branch [
      | then-loop-i-test+else-j-b w ↦ whole ∙ ap (λ xs. take 64 (m ++ xs)) (sym (merge_second_done use_cmp (drop i a) (drop j b) (drop_all j b (omega (arith, w.if-j-b))))) ∙ ap (take 64) c.loop-i.invariant.left
      | else-loop-i-test w ↦ whole ∙ ap (λ xs. take 64 (m ++ xs)) (sym (merge_first_done use_cmp (drop i a) (drop j b) (drop_all i a (omega (arith, w.loop-i-test))))) ∙ ap (take 64) c.loop-i.invariant.left
    ]

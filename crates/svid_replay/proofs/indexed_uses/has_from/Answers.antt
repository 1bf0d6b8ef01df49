use Rattle.std.proofs.Common.{◌≡◌, true, false, List, ◌∷◌, ◌∙◌, IfSome, slice_get, subst}
use Rattle.std.specs.Bool.{⊤}
use Rattle.std.specs.Ordering.{is_gt}
use Rattle.svid_replay.specs.declared.key_first.KeyFirst.{KeyFirst}
use Rattle.svid_replay.specs.Indexed.{key_first_cmp, has_key_first}
use Rattle.svid_replay.proofs.IndexedLemmas.{least_of, none_in_range, first_in_range}
use Rattle.svid_replay.proofs.indexed_uses.has_from.Goals as goal

of_first : (ks rest : List KeyFirst) (k : KeyFirst) (P : KeyFirst → Type 0) → ks ≡ k ∷ rest → IfSome (slice_get ks 0) P → P k
of_first ks rest k P e h = subst (λ js. IfSome (slice_get js 0) P) e h

pub returns-in-Some : goal.returns-in-Some
returns-in-Some c us indexed =
    let h = c.range.ensures.in_range tt in
    let s = c.args.withdrawn in
    let ks = c.args.by_key.now.keys in
    let key = c.args.key.now in
    let k = c.in-Some.found.now in
    let starts = c.in-Some.ensures.steps in
    let inside = of_first _ _ k (λ j. ((is_gt (key_first_cmp (least_of s key) j) ≡ false) × ⊤) × (has_key_first ks j ≡ true)) starts h.1 in
    c.has_key.ensures
    ∙ first_in_range s us ks key k indexed (record { low = inside.0.0; held = inside.1; least = λ j low held. of_first _ _ k (λ f. is_gt (key_first_cmp f j) ≡ false) starts (h.2 j (low, tt) held) })

pub returns-in-None : goal.returns-in-None
returns-in-None c us indexed =
    let h = c.range.ensures.in_range tt in
    none_in_range c.args.withdrawn us c.args.by_key.now.keys c.args.key.now indexed (λ k low. h.5 c.in-None.ensures.steps.0 k (low, tt))

use Rattle.std.proofs.Common.{◌≡◌, ℕ, ◌+◌, ◌<◌, ◌++◌, ◌∷◌, List, length, take, drop, get_or, Option, sym, ap, ◌∙◌, subst, arith, add-one, drop-cons, append_assoc, length-append, take-append-drop}
use Rattle.std.proofs.Math.Seq.{take-append-add}
use Rattle.std.proofs.lemmas.List.{take-append-le}
use Rattle.std.proofs.lemmas.Grind.{flat_map-append}
use Rattle.std.specs.List.{flat_map}
use Rattle.std.specs.Io.KnownBytes.{Appends}
use Rattle.std.proofs.KnownBytes.{Appends-trans}
use Rattle.svid_wire.specs.Faults.{raised}
use Rattle.svid_wire.specs.Streams.{StoppedAfter}

-- the text before the piece of the i-th item, that piece, and the text after it
flat_map-at : {X : Type 0} (f : X → List ℕ) (front : List ℕ) (xs : List X) (i : ℕ) (d : X) → i < length xs → front ++ flat_map f xs ≡ (front ++ flat_map f (take i xs)) ++ (f (get_or xs i d) ++ flat_map f (drop (i + 1) xs))
flat_map-at f front xs i d within =
    ap (λ ys. front ++ flat_map f ys) (sym (take-append-drop i xs) ∙ ap (λ ys. take i xs ++ ys) (rw (add-one, drop-cons xs i d)))
    ∙ ap (λ y. front ++ y) (flat_map-append f (take i xs) (get_or xs i d ∷ drop (i + 1) xs))
    ∙ sym (append_assoc front (flat_map f (take i xs)) _)

-- a part of a piece of a text went out, and everything before it
cut_piece : (old mid new : Option (List ℕ)) (first later last : ℕ) (text front piece rest : List ℕ) (n k : ℕ) → text ≡ front ++ (piece ++ rest) → length front ≡ n → Appends old mid front → later ≡ first → StoppedAfter (record { told_before = mid; told_after = new; stops_before = later; stops_after = last }) piece k → StoppedAfter (record { told_before = old; told_after = new; stops_before = first; stops_after = last }) text (n + k)
cut_piece old mid new first later last text front piece rest n k parts long before unstopped now = record {
  short = omega (arith, now.short, ap length parts, length-append front (piece ++ rest), length-append piece rest);
  gained = subst (Appends old new) (sym (ap (take (n + k)) parts ∙ ap (λ m. take (m + k) (front ++ (piece ++ rest))) (sym long) ∙ take-append-add front (piece ++ rest) k ∙ ap (λ x. front ++ x) (take-append-le k piece rest (omega (arith, now.short))))) (Appends-trans old mid new front (take k piece) before now.gained);
  stopped = now.stopped ∙ ap raised unstopped;
}

-- a part of the piece of the i-th item went out, and everything before it
pub StoppedAfter-item : {X : Type 0} (f : X → List ℕ) (old mid new : Option (List ℕ)) (first later last : ℕ) (front piece : List ℕ) (items xs : List X) (i : ℕ) (d : X) (n k : ℕ) → items ≡ xs → i < length items → piece ≡ f (get_or items i d) → length (front ++ flat_map f (take i xs)) ≡ n → Appends old mid (front ++ flat_map f (take i xs)) → later ≡ first → StoppedAfter (record { told_before = mid; told_after = new; stops_before = later; stops_after = last }) piece k → StoppedAfter (record { told_before = old; told_after = new; stops_before = first; stops_after = last }) (front ++ flat_map f xs) (n + k)
StoppedAfter-item f old mid new first later last front piece items xs i d n k same within is long before unstopped now =
    let here : piece ≡ f (get_or xs i d) = is ∙ ap (λ ys. f (get_or ys i d)) same in
    cut_piece old mid new first later last _ (front ++ flat_map f (take i xs)) piece (flat_map f (drop (i + 1) xs)) n k (flat_map-at f front xs i d (omega (arith, ap length same)) ∙ ap (λ p. (front ++ flat_map f (take i xs)) ++ (p ++ flat_map f (drop (i + 1) xs))) (sym here)) long before unstopped now

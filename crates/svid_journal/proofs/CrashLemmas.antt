-- The payloads that are read of a file that a crash left.
use Rattle.std.proofs.Common.{◌≡◌, ◌⊎◌, inl, inr, ℕ, ◌+◌, ◌*◌, ◌^◌, ◌<◌, List, [], ◌∷◌, ◌++◌, length, drop, refl, sym, ◌∙◌, ap, subst, arith, append_assoc}
use Rattle.std.specs.List.{AllByRecursion}
use Rattle.std.proofs.lemmas.List.{drop_at, append-nil}
use Rattle.svid_journal.specs.Frames.{frame_of, frames_of, IsPayload, BeginsWithNone, IsReading}
use Rattle.svid_journal.specs.Reading.{HasLater}
use Rattle.svid_journal.proofs.FramesLemmas.{cells_of, same_frames, length-frame_in}

-- of two readings of the same bytes, one that goes on as long as there are frames has the frames of the other, and then those of its rest
pub record GoesOn (title : List ℕ) (number : ℕ) (ps qs : List (List ℕ)) (x y : List ℕ) : Type 0 where
  pub more : List (List ℕ)
  pub first : qs ≡ ps ++ more
  pub tail : x ≡ frames_of title (number + length ps) more ++ y
  pub each : AllByRecursion IsPayload more

goes_on : (title : List ℕ) (number : ℕ) (ps qs : List (List ℕ)) (x y : List ℕ) → AllByRecursion IsPayload ps → AllByRecursion IsPayload qs → frames_of title number ps ++ x ≡ frames_of title number qs ++ y → BeginsWithNone 2 title (number + length qs) y → GoesOn title number ps qs x y
goes_on title number [] qs x y fp fq e none = record { more = qs; first = refl; tail = subst (λ n. x ≡ frames_of title n qs ++ y) (omega arith) e; each = fq }
goes_on title number (p ∷ ps) [] x y fp fq e none =
    absurd (none p (frames_of title (number + 1) ps ++ x) fp.0 (subst (λ n. y ≡ frame_of title n p ++ (frames_of title (number + 1) ps ++ x)) (omega arith) (sym e ∙ append_assoc (frame_of title number p) (frames_of title (number + 1) ps) x)))
goes_on title number (p ∷ ps) (q ∷ qs) x y fp fq e none =
    let grouped : frame_of title number p ++ (frames_of title (number + 1) ps ++ x) ≡ frame_of title number q ++ (frames_of title (number + 1) qs ++ y) =
    sym (append_assoc (frame_of title number p) (frames_of title (number + 1) ps) x) ∙ e ∙ append_assoc (frame_of title number q) (frames_of title (number + 1) qs) y in
    let split = same_frames 2 title number p q _ _ (omega arith) fp.0 fq.0 grouped in
    let further = goes_on title (number + 1) ps qs x y fp.1 fq.1 split.1 (subst (λ n. BeginsWithNone 2 title n y) (omega arith) none) in
    record {
      more = further.more;
      first = (λ i. sym split.0 i ∷ further.first i);
      tail = subst (λ n. x ≡ frames_of title n further.more ++ y) (omega arith) further.tail;
      each = further.each;
    }

-- the rest of a file after its first frames
pub on_behind : (title file tail rest : List ℕ) (front payloads : List (List ℕ)) → AllByRecursion IsPayload front → file ≡ frames_of title 1 front ++ tail → IsReading title file payloads rest → GoesOn title 1 front payloads tail rest
on_behind title file tail rest front payloads fits kept reading = goes_on title 1 front payloads tail rest fits reading.each (sym kept ∙ reading.whole) reading.ended

-- the frame after the damage
later_stands : (title broken lost next tail rest : List ℕ) (number : ℕ) (after : List (List ℕ)) → number + 1 < 2 ^ 64 → IsPayload next → length broken ≡ length (frame_of title number lost) → rest ≡ broken ++ (frames_of title (number + 1) (next ∷ after) ++ tail) → HasLater title number rest
later_stands title broken lost next tail rest number after high fits long is =
    let frame = frame_of title (number + 1) next in
    let back = frames_of title (number + 1 + 1) after in
    let cell = 4 + cells_of (length lost) in
    let offset : length broken ≡ 8 * cell = long ∙ length-frame_in 2 title number lost in (
      cell,
      record {
        format = 2;
        later = number + 1;
        payload = next;
        rest = back ++ tail;
        is_format = (omega arith, omega arith);
        is_later = omega arith;
        is_near = omega arith;
        fits = high;
        bears = fits;
        stands = ap (drop (8 * cell)) is ∙ drop_at broken ((frame ++ back) ++ tail) (8 * cell) offset ∙ append_assoc frame back tail;
      },
    )

-- Damage of a frame before another is seen, or a frame of its number is there.
pub damage_seen : (title broken lost next tail rest : List ℕ) (before after payloads : List (List ℕ)) → AllByRecursion IsPayload before → IsPayload next → 2 + length before < 2 ^ 64 → length broken ≡ length (frame_of title (1 + length before) lost)
    → IsReading title (frames_of title 1 before ++ (broken ++ (frames_of title (2 + length before) (next ∷ after) ++ tail))) payloads rest
    → ((payloads ≡ before) × HasLater title (1 + length before) rest)
    ⊎ ((payload behind : List ℕ) × IsPayload payload × (broken ++ (frames_of title (2 + length before) (next ∷ after) ++ tail) ≡ frame_of title (1 + length before) payload ++ behind))
damage_seen title broken lost next tail rest before after payloads each fits high long reading =
    let on = on_behind title _ (broken ++ (frames_of title (2 + length before) (next ∷ after) ++ tail)) rest before payloads each refl reading in
    seen on.more on.first on.tail on.each
  where
    seen : (more : List (List ℕ)) → payloads ≡ before ++ more → broken ++ (frames_of title (2 + length before) (next ∷ after) ++ tail) ≡ frames_of title (1 + length before) more ++ rest → AllByRecursion IsPayload more
        → ((payloads ≡ before) × HasLater title (1 + length before) rest)
        ⊎ ((payload behind : List ℕ) × IsPayload payload × (broken ++ (frames_of title (2 + length before) (next ∷ after) ++ tail) ≡ frame_of title (1 + length before) payload ++ behind))
    seen [] first is each =
        inl (
          first ∙ append-nil before,
          later_stands title broken lost next tail rest (1 + length before) after (omega arith) fits long (subst (λ (n : ℕ). rest ≡ broken ++ (frames_of title n (next ∷ after) ++ tail)) (omega arith) (sym is)),
        )
    seen (m ∷ more) first is each =
        inr (m, frames_of title (1 + length before + 1) more ++ rest, each.0, is ∙ append_assoc (frame_of title (1 + length before) m) (frames_of title (1 + length before + 1) more) rest)

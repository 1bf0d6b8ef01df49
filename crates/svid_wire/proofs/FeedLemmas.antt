-- What is held between pieces, and how a piece changes it.
use Rattle.std.proofs.Common.{◌≡◌, ℕ, ◌+◌, ◌*◌, ◌<◌, ◌≤◌, List, [], ◌∷◌, ◌++◌, length, take, refl, sym, ap, ◌∙◌, subst, arith, append_assoc, length-append, Option, None, Some, IfErr, inl}
use Rattle.std.proofs.lemmas.List.{length-take}
use Rattle.std.specs.List.{flat_map, AllByRecursion}
use Rattle.svid_replay.specs.declared.token_use.Use.{Use}
use Rattle.svid_replay.specs.Use.{IsBytes, IsUse}
use Rattle.svid_wire.specs.BatchText.{moment_and_count_text, head_text}
use Rattle.svid_wire.specs.Versions.{use_len_of, use_text}
use Rattle.svid_wire.specs.declared.version.Version.{Version}
use Rattle.svid_wire.specs.declared.version.Version.TheVariants.{One, Two}
use Rattle.svid_wire.specs.SummaryText.{moment_text, summary_head, digest_text}
use Rattle.svid_wire.specs.Feed.{IsHeld, Pushed, PushesJoin, end_of}
use Rattle.svid_wire.specs.Messages.{Appended, StopsAt, StopsIn}
use Rattle.svid_wire.specs.Partial.{IsPartial, held_of}
use Rattle.svid_wire.specs.Stage.{IsStage, field_len, stage_text}
use Rattle.svid_wire.specs.WireFault.{IsFieldRefusal}
use Rattle.svid_wire.specs.declared.message.Message.{Message}
use Rattle.svid_wire.specs.declared.partial.Partial.{Partial}
use Rattle.svid_wire.specs.declared.stage.Stage.{Stage}
use Rattle.svid_wire.specs.declared.stage.Stage.TheVariants.{Magic, Kind, MomentAndCount, Uses, Moment, Digests}
use Rattle.svid_wire.specs.declared.wire_fault.WireFault.{WireFault}
use Rattle.svid_wire.proofs.FirstMessage.{length-use_text}
use Rattle.svid_wire.proofs.MessagesLemmas.{Appended-more, Appended-trans}
use Rattle.svid_wire.proofs.StageLemmas.{IsUnfinished-stage}
use Rattle.svid_wire.proofs.WireFaultLemmas.{IsFieldRefusal-append}

length-texts : (v : Version) (us : List Use) → AllByRecursion IsUse us → length (flat_map (use_text v) us) ≡ use_len_of v * length us
length-texts v [] all = omega arith
length-texts One (u ∷ us) all = omega (arith, length-append (use_text One u) (flat_map (use_text One) us), length-use_text One u all.0, length-texts One us all.1)
length-texts Two (u ∷ us) all = omega (arith, length-append (use_text Two u) (flat_map (use_text Two) us), length-use_text Two u all.0, length-texts Two us all.1)

length-head : (v : Version) (m c : ℕ) → length (head_text v m c) ≡ 17
unfolding moment_and_count_text
length-head One m c = refl
length-head Two m c = refl

-- how long the good fields of a batch are
pub length-begun : (v : Version) (m c : ℕ) (us : List Use) → AllByRecursion IsUse us → length (head_text v m c ++ flat_map (use_text v) us) ≡ 17 + use_len_of v * length us
length-begun v m c us all = length-append (head_text v m c) (flat_map (use_text v) us) ∙ ap (λ n. n + length (flat_map (use_text v) us)) (length-head v m c) ∙ ap (λ n. 17 + n) (length-texts v us all)

length-digests : (ds : List (List ℕ)) → AllByRecursion (IsBytes 32) ds → length (flat_map digest_text ds) ≡ 32 * length ds
length-digests [] all = refl
length-digests (d ∷ ds) all = omega (arith, length-append d (flat_map digest_text ds), all.0.size, length-digests ds all.1)

length-summary_head : (m : ℕ) → length (summary_head m) ≡ 13
unfolding moment_text
length-summary_head m = refl

-- how long the head and some digests of a summary are
pub length-are_begun : (m : ℕ) (ds : List (List ℕ)) → AllByRecursion (IsBytes 32) ds → length (summary_head m ++ flat_map digest_text ds) ≡ 13 + 32 * length ds
length-are_begun m ds all = omega (arith, length-append (summary_head m) (flat_map digest_text ds), length-summary_head m, length-digests ds all)

length-stage : (s : Stage) → IsStage s → length (stage_text s) + field_len s ≤ 4259857
length-stage Magic good = omega arith
length-stage (Kind One) good = omega arith
length-stage (Kind Two) good = omega arith
length-stage (MomentAndCount One) good = omega arith
length-stage (MomentAndCount Two) good = omega arith
length-stage (Uses One m c us) good = omega (arith, good.more, good.few, length-begun One m c us.items good.fields)
length-stage (Uses Two m c us) good = omega (arith, good.more, good.few, length-begun Two m c us.items good.fields)
length-stage Moment good = omega arith
length-stage (Digests m ds) good = omega (arith, good.more, length-are_begun m ds.items good.fields)

-- an unfinished message may be held
IsPartial-held : (p : Partial) → IsPartial p → IsHeld (held_of p)
IsPartial-held p h = record {
  unfinished = IsUnfinished-stage p.stage (take p.filled p.part) (held_of p) h.stage refl (omega (arith, h.short, length-take p.filled p.part));
  few = omega (arith, h.short, length-take p.filled p.part, length-append (stage_text p.stage) (take p.filled p.part), length-stage p.stage h.stage);
}

-- a piece continued an unfinished message, and left another
pub Pushed-piece : (before : Option (List ℕ)) (p q : Partial) (old new : List Message) (piece : List ℕ) → Some (held_of p) ≡ before → IsPartial q → Appended (held_of p ++ piece) old new (held_of q) → Pushed before (Some (held_of q)) old new piece
Pushed-piece before p q old new piece same next came =
    subst (λ o. Pushed o (Some (held_of q)) old new piece) same (came, IsPartial-held q next)

-- a field became whole, and more of the piece follows
pub Appended-next : (bytes held rest last after next : List ℕ) (a b c : List Message) → rest ≡ last ++ after → Appended bytes a b (held ++ rest) → Appended (held ++ last) b c next → Appended bytes a c (next ++ after)
Appended-next bytes held rest last after next a b c parts before now =
    Appended-trans bytes (held ++ rest) (next ++ after) a b c before (subst (λ (x : List ℕ). Appended x b c (next ++ after)) (append_assoc held last after ∙ ap (λ x. held ++ x) (sym parts)) (Appended-more (held ++ last) after next b c now))

-- a field became whole, and was refused
pub StopsIn-next : (bytes held rest last after : List ℕ) (a b c : List Message) (fault : WireFault) → rest ≡ last ++ after → 0 < length rest → Appended bytes a b (held ++ rest) → c ≡ b → IsFieldRefusal (held ++ last) fault → StopsIn bytes a c fault
StopsIn-next bytes held rest last after a b c fault parts some before same why = record {
  rest = held ++ rest;
  some = omega (arith, length-append held rest);
  read = subst (λ (x : List Message). Appended bytes a x (held ++ rest)) (sym same) before;
  why = IsFieldRefusal-append (held ++ rest) (held ++ last) after fault (ap (λ x. held ++ x) parts ∙ sym (append_assoc held last after)) why;
}

-- the result at the end, where one piece was all bytes
pub ended : (held : Option (List ℕ)) (old new : List Message) (bytes : List ℕ) → Pushed (Some []) held old new bytes → IfErr (end_of held) (StopsAt bytes old new)
ended None old new bytes h = absurd h
ended (Some []) old new bytes h = tt
ended (Some (b ∷ x)) old new bytes h = record { rest = b ∷ x; some = omega arith; read = h.0; why = inl (refl, omega arith, h.1.unfinished) }

pub pushes_join : PushesJoin
pushes_join None between after old mid new first second p q = absurd p
pushes_join (Some x) None after old mid new first second p q = absurd p
pushes_join (Some x) (Some y) None old mid new first second p q = absurd q
pushes_join (Some x) (Some y) (Some z) old mid new first second (one, _) (other, held) = (
  subst (λ (bytes : List ℕ). Appended bytes old new z) (append_assoc x first second) (Appended-trans (x ++ first ++ second) (y ++ second) z old mid new (Appended-more (x ++ first) second y old mid one) other),
  held,
)

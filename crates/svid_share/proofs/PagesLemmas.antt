use Rattle.std.proofs.Common.{◌≡◌, ℕ, suc, ◌+◌, ◌-◌, ◌<◌, ◌≤◌, ◌++◌, [], ◌∷◌, List, length, take, drop, get_or, OnErr, OnOk, Option, Result, Ok, Err, refl, sym, ap, ◌∙◌, subst, arith, append_assoc, append-nil, add-one, drop-cons, length-drop, take-append-drop}
use Rattle.std.proofs.Math.Seq.{take-add, take-suc}
use Rattle.std.proofs.lemmas.List.{length-take-le, take_all}
use Rattle.std.proofs.lemmas.Grind.{flat_map-append}
use Rattle.std.specs.List.{flat_map}
use Rattle.std.specs.Io.KnownBytes.{Appends}
use Rattle.std.proofs.KnownBytes.{Appends-nil, Appends-trans}
use Rattle.svid_replay.specs.Parts.{cut}
use Rattle.svid_replay.specs.Use.{text_of}
use Rattle.svid_replay.specs.declared.token_use.Use.{Use}
use Rattle.svid_replay.proofs.UsesLemmas.{next_is}
use Rattle.svid_replay.proofs.PartsLemmas.{cut_few, cut_many}
use Rattle.svid_wire.specs.BatchText.{batch_text, head_text}
use Rattle.svid_wire.specs.declared.version.Version.TheVariants.{Two}
use Rattle.svid_wire.specs.Streams.{StoppedAfter, Taken, TookAll, TookPart, taken}
use Rattle.svid_wire.proofs.BatchTextLemmas.{StoppedAfter-item}
use Rattle.svid_share.specs.Pages.{Passes, next_batch, next_texts}

-- one text after another

-- a sink took two texts whole, one after the other
pub both_went : {K : Type 0} (told : K → Option (List ℕ)) (stops : K → ℕ) (a b c : K) (front text : List ℕ) → TookAll (taken told stops a b) front → TookAll (taken told stops b c) text → TookAll (taken told stops a c) (front ++ text)
both_went told stops a b c front text first second = record {
  gained = Appends-trans (told a) (told b) (told c) front text first.gained second.gained;
  unstopped = second.unstopped ∙ first.unstopped;
}

-- a part of a text went out after one that went out whole
pub part_went : {K : Type 0} (told : K → Option (List ℕ)) (stops : K → ℕ) (a b c : K) (front piece rest text : List ℕ) → text ≡ front ++ (piece ++ rest) → TookAll (taken told stops a b) front → TookPart (taken told stops b c) piece → TookPart (taken told stops a c) text
part_went told stops a b c front piece rest text parts first second = record {
  count = length front + second.count;
  part = subst (λ x. StoppedAfter (taken told stops a c) x (length front + second.count)) (ap (λ r. front ++ (piece ++ r)) (append-nil rest) ∙ sym parts)
      (StoppedAfter-item (λ x. x) (told a) (told b) (told c) (stops a) (stops b) (stops c) front piece (piece ∷ rest ∷ []) (piece ∷ rest ∷ []) 0 [] (length front) second.count refl (omega arith) refl (ap length (append-nil front)) (subst (Appends (told a) (told b)) (sym (append-nil front)) first.gained) first.unstopped second.part);
}

-- through a room

-- the room was full: its content went out, and then the text
pub passed_full : {K : Type 0} (told : K → Option (List ℕ)) (stops : K → ℕ) (a b c : K) (before text after : List ℕ) → TookAll (taken told stops a b) before → TookAll (taken told stops b c) text → after ≡ [] → Passes (taken told stops a c) before text after
passed_full told stops a b c before text after first second none = record {
  went = before ++ text;
  all = both_went told stops a b c before text first second;
  is = ap (λ x. (before ++ text) ++ x) none ∙ append-nil (before ++ text);
}

-- nothing passed
pub passed_none : {K : Type 0} (told : K → Option (List ℕ)) (stops : K → ℕ) (a : K) (before : List ℕ) → Passes (taken told stops a a) before [] before
passed_none told stops a before = record {
  went = [];
  all = record { gained = Appends-nil (told a); unstopped = refl };
  is = sym (append-nil before);
}

-- two texts passed, one after the other
pub passed_both : {K : Type 0} (told : K → Option (List ℕ)) (stops : K → ℕ) (a b c : K) (before text mid next after : List ℕ) → Passes (taken told stops a b) before text mid → Passes (taken told stops b c) mid next after → Passes (taken told stops a c) before (text ++ next) after
passed_both told stops a b c before text mid next after first second = record {
  went = first.went ++ second.went;
  all = both_went told stops a b c first.went second.went first.all second.all;
  is = append_assoc first.went second.went after ∙ ap (λ x. first.went ++ x) second.is ∙ sym (append_assoc first.went mid next) ∙ ap (λ x. x ++ next) first.is ∙ append_assoc before text next;
}

-- a text passed, and then a part of the room's content and the next text went out
pub passed_part : {K : Type 0} (told : K → Option (List ℕ)) (stops : K → ℕ) (a b c : K) (before text mid next rest whole : List ℕ) → whole ≡ text ++ (next ++ rest) → Passes (taken told stops a b) before text mid → TookPart (taken told stops b c) (mid ++ next) → TookPart (taken told stops a c) (before ++ whole)
passed_part told stops a b c before text mid next rest whole parts first second =
    part_went told stops a b c first.went (mid ++ next) rest (before ++ whole)
    (ap (λ x. before ++ x) parts ∙ sym (append_assoc before text (next ++ rest)) ∙ ap (λ x. x ++ (next ++ rest)) (sym first.is) ∙ append_assoc first.went mid (next ++ rest) ∙ ap (λ x. first.went ++ x) (sym (append_assoc mid next rest)))
    first.all second

-- the same into an empty room
pub stopped_in : {K : Type 0} (told : K → Option (List ℕ)) (stops : K → ℕ) (a b c : K) (before text mid next rest whole : List ℕ) → before ≡ [] → whole ≡ text ++ (next ++ rest) → Passes (taken told stops a b) before text mid → TookPart (taken told stops b c) (mid ++ next) → TookPart (taken told stops a c) whole
stopped_in told stops a b c before text mid next rest whole none parts first second =
    subst (TookPart (taken told stops a c)) (ap (λ x. x ++ whole) none) (passed_part told stops a b c before text mid next rest whole parts first second)

-- a text passed into an empty room, and then the room's whole content went out
pub passed_whole : {K : Type 0} (told : K → Option (List ℕ)) (stops : K → ℕ) (a b c : K) (before text mid whole : List ℕ) → Passes (taken told stops a b) before text mid → TookAll (taken told stops b c) mid → before ≡ [] → whole ≡ text → TookAll (taken told stops a c) whole
passed_whole told stops a b c before text mid whole first second none same =
    subst (TookAll (taken told stops a c)) (first.is ∙ ap (λ x. x ++ text) none ∙ sym same) (both_went told stops a b c first.went mid first.all second)

-- a text passed into an empty room, and then a part of the room's content went out
pub passed_in_part : {K : Type 0} (told : K → Option (List ℕ)) (stops : K → ℕ) (a b c : K) (before text mid whole : List ℕ) → Passes (taken told stops a b) before text mid → TookPart (taken told stops b c) mid → before ≡ [] → whole ≡ text → TookPart (taken told stops a c) whole
passed_in_part told stops a b c before text mid whole first second none same =
    part_went told stops a b c first.went mid [] whole (same ∙ ap (λ x. x ++ text) (sym none) ∙ sym first.is ∙ ap (λ x. first.went ++ x) (sym (append-nil mid))) first.all second

-- a loop over things passes the text of each

-- one more passed
pub list_passes : {X : Type 0} (line : X → List ℕ) (front : List X) (x : X) {K : Type 0} (told : K → Option (List ℕ)) (stops : K → ℕ) (a b c : K) (before mid piece now : List ℕ) → piece ≡ line x → Passes (taken told stops a b) before (flat_map line front) mid → Passes (taken told stops b c) mid piece now → Passes (taken told stops a c) before (flat_map line (front ++ x ∷ [])) now
list_passes line front x told stops a b c before mid piece now is so_far next =
    subst (λ t. Passes (taken told stops a c) before t now)
    (ap (λ t. flat_map line front ++ t) (is ∙ sym (append-nil (line x))) ∙ sym (flat_map-append line front (x ∷ [])))
    (passed_both told stops a b c before (flat_map line front) mid piece now so_far next)

-- a part of the next text went out
pub list_stops : {X : Type 0} (line : X → List ℕ) (all front rest : List X) (x : X) {K : Type 0} (told : K → Option (List ℕ)) (stops : K → ℕ) (a b c : K) (before mid piece : List ℕ) → all ≡ front ++ x ∷ rest → piece ≡ line x → Passes (taken told stops a b) before (flat_map line front) mid → TookPart (taken told stops b c) (mid ++ piece) → TookPart (taken told stops a c) (before ++ flat_map line all)
list_stops line all front rest x told stops a b c before mid piece parts is so_far part =
    passed_part told stops a b c before (flat_map line front) mid piece (flat_map line rest) (flat_map line all)
    (ap (flat_map line) parts ∙ flat_map-append line front (x ∷ rest) ∙ ap (λ t. flat_map line front ++ (t ++ flat_map line rest)) (sym is))
    so_far part

pub item_passes : {X : Type 0} (line : X → List ℕ) (xs : List X) (i : ℕ) (d : X) {K : Type 0} (told : K → Option (List ℕ)) (stops : K → ℕ) (a b c : K) (before mid piece now : List ℕ) → i < length xs → piece ≡ line (get_or xs i d) → Passes (taken told stops a b) before (flat_map line (take i xs)) mid → Passes (taken told stops b c) mid piece now → Passes (taken told stops a c) before (flat_map line (take (i + 1) xs)) now
item_passes line xs i d told stops a b c before mid piece now within is so_far next =
    subst (λ ys. Passes (taken told stops a c) before (flat_map line ys) now) (sym (rw (add-one, take-suc xs i d within)))
    (list_passes line (take i xs) (get_or xs i d) told stops a b c before mid piece now is so_far next)

pub item_stops : {X : Type 0} (line : X → List ℕ) (xs : List X) (i : ℕ) (d : X) {K : Type 0} (told : K → Option (List ℕ)) (stops : K → ℕ) (a b c : K) (before mid piece : List ℕ) → i < length xs → piece ≡ line (get_or xs i d) → Passes (taken told stops a b) before (flat_map line (take i xs)) mid → TookPart (taken told stops b c) (mid ++ piece) → TookPart (taken told stops a c) (before ++ flat_map line xs)
item_stops line xs i d told stops a b c before mid piece within is so_far part =
    list_stops line xs (take i xs) (drop (i + 1) xs) (get_or xs i d) told stops a b c before mid piece
    (sym (take-append-drop i xs) ∙ ap (λ ys. take i xs ++ ys) (rw (add-one, drop-cons xs i d within))) is so_far part

-- the next uses, so many

-- from an index on, a list is the item there, and then the rest
at_index : (us : List Use) (i : ℕ) (d : Use) → i < length us → drop i us ≡ get_or us i d ∷ drop (i + 1) us
at_index us i d within = rw (add-one, drop-cons us i d within)

-- a walk gives the use at the index
pub next_there : (us left next : List Use) (u : Use) (i : ℕ) → left ≡ drop i us → left ≡ u ∷ next → (take (i + 1) us ≡ take i us ++ u ∷ []) × (next ≡ drop (i + 1) us)
next_there us left next u i is given =
    let here : drop i us ≡ u ∷ next = sym is ∙ given in
    let within : i < length us = omega (arith, ap length here, length-drop i us) in
    let both : get_or us i u ∷ drop (i + 1) us ≡ u ∷ next = sym (at_index us i u within) ∙ here in
    ((rw (add-one, take-suc us i u within)) ∙ ap (λ (v : Use). take i us ++ v ∷ []) (ap (λ vs. get_or vs 0 u) both), sym (ap (drop 1) both))

pub next_passes : (us left next : List Use) (u : Use) (i : ℕ) {K : Type 0} (told : K → Option (List ℕ)) (stops : K → ℕ) (a b c : K) (before mid piece now : List ℕ) → piece ≡ text_of u → left ≡ drop i us → left ≡ u ∷ next → Passes (taken told stops a b) before (next_texts us i) mid → Passes (taken told stops b c) mid piece now → Passes (taken told stops a c) before (next_texts us (i + 1)) now
next_passes us left next u i told stops a b c before mid piece now is index given so_far then =
    subst (λ vs. Passes (taken told stops a c) before (flat_map text_of vs) now) (sym (next_there us left next u i index given).0)
    (list_passes text_of (take i us) u told stops a b c before mid piece now is so_far then)

pub next_stops : (us left next : List Use) (u : Use) (i count : ℕ) {K : Type 0} (told : K → Option (List ℕ)) (stops : K → ℕ) (a b c : K) (before mid piece : List ℕ) → i < count → piece ≡ text_of u → left ≡ drop i us → left ≡ u ∷ next → Passes (taken told stops a b) before (next_texts us i) mid → TookPart (taken told stops b c) (mid ++ piece) → TookPart (taken told stops a c) (before ++ next_texts us count)
next_stops us left next u i count told stops a b c before mid piece within is index given so_far part =
    let some : count ≡ i + suc (count - i - 1) = omega (arith, within) in
    list_stops text_of (take count us) (take i us) (take (count - i - 1) next) u told stops a b c before mid piece
    (ap (λ n. take n us) some ∙ take-add i (suc (count - i - 1)) us ∙ ap (λ vs. take i us ++ take (suc (count - i - 1)) vs) (sym index ∙ given)) is so_far part

-- there is a next use while there are so many
pub next_is_there : (us left : List Use) (i count : ℕ) → i < count → count ≤ length us → left ≡ drop i us → left ≡ [] → ⊥
next_is_there us left i count within there index none = omega (arith, within, there, length-drop i us, ap length index, ap length none)

-- the text of the batch of the next uses
pub next_batch_text : (moment : ℕ) (us : List Use) (count : ℕ) (head : List ℕ) → count ≤ length us → head ≡ head_text Two moment count → batch_text (next_batch moment us count) ≡ head ++ next_texts us count
next_batch_text moment us count head there is =
    ap (λ n. head_text Two moment n ++ next_texts us count) (length-take-le count us there) ∙ ap (λ x. x ++ next_texts us count) (sym is)

-- the parts of a record

-- so many of the parts passed, and those that are left are the parts of the uses that are left
pub record HasCut (sink : Taken) (before now : List ℕ) (moment : ℕ) (us left : List Use) : Type 0 where
  pub text : List ℕ
  pub passes : Passes sink before text now
  pub parts : text ++ flat_map batch_text (cut moment left) ≡ flat_map batch_text (cut moment us)

pub cut_begins : (moment : ℕ) (us : List Use) {K : Type 0} (told : K → Option (List ℕ)) (stops : K → ℕ) (a : K) (before : List ℕ) → HasCut (taken told stops a a) before before moment us us
cut_begins moment us told stops a before = record { text = []; passes = passed_none told stops a before; parts = refl }

pub cut_goes_on : (moment : ℕ) (us left next : List Use) {K : Type 0} (told : K → Option (List ℕ)) (stops : K → ℕ) (a b c : K) (before mid now : List ℕ) → 65536 < length left → HasCut (taken told stops a b) before mid moment us left → Passes (taken told stops b c) mid (batch_text (next_batch moment left 65536)) now → next ≡ drop 65536 left → HasCut (taken told stops a c) before now moment us next
cut_goes_on moment us left next told stops a b c before mid now many so_far passes rest = record {
  text = so_far.text ++ batch_text (next_batch moment left 65536);
  passes = passed_both told stops a b c before so_far.text mid (batch_text (next_batch moment left 65536)) now so_far.passes passes;
  parts =
      append_assoc so_far.text (batch_text (next_batch moment left 65536)) (flat_map batch_text (cut moment next))
      ∙ ap (λ vs. so_far.text ++ (batch_text (next_batch moment left 65536) ++ flat_map batch_text (cut moment vs))) rest
      ∙ ap (λ bs. so_far.text ++ flat_map batch_text bs) (sym (cut_many moment left many))
      ∙ so_far.parts;
}

pub cut_stops : (moment : ℕ) (us left : List Use) {K : Type 0} (told : K → Option (List ℕ)) (stops : K → ℕ) (a b c : K) (before mid : List ℕ) → 65536 < length left → HasCut (taken told stops a b) before mid moment us left → TookPart (taken told stops b c) (mid ++ batch_text (next_batch moment left 65536)) → TookPart (taken told stops a c) (before ++ flat_map batch_text (cut moment us))
cut_stops moment us left told stops a b c before mid many so_far part =
    passed_part told stops a b c before so_far.text mid (batch_text (next_batch moment left 65536)) (flat_map batch_text (cut moment (drop 65536 left))) (flat_map batch_text (cut moment us))
    (sym so_far.parts ∙ ap (λ bs. so_far.text ++ flat_map batch_text bs) (cut_many moment left many)) so_far.passes part

-- the last part
last_part : (moment : ℕ) (us left : List Use) (count : ℕ) (text : List ℕ) → count ≡ length left → count ≤ 65536 → text ++ flat_map batch_text (cut moment left) ≡ flat_map batch_text (cut moment us) → flat_map batch_text (cut moment us) ≡ text ++ batch_text (next_batch moment left count)
last_part moment us left count text all few parts =
    sym parts ∙ ap (λ bs. text ++ flat_map batch_text bs) (cut_few moment left (omega (arith, all, few)))
    ∙ ap (λ x. text ++ x) (append-nil (batch_text (record { moment = moment; uses = left })))
    ∙ ap (λ vs. text ++ batch_text (record { moment = moment; uses = vs })) (sym (take_all count left (omega (arith, all))))

pub cut_ends : (moment : ℕ) (us left : List Use) (count : ℕ) {K : Type 0} (told : K → Option (List ℕ)) (stops : K → ℕ) (a b c : K) (before mid now : List ℕ) → count ≡ length left → count ≤ 65536 → HasCut (taken told stops a b) before mid moment us left → Passes (taken told stops b c) mid (batch_text (next_batch moment left count)) now → Passes (taken told stops a c) before (flat_map batch_text (cut moment us)) now
cut_ends moment us left count told stops a b c before mid now all few so_far passes =
    subst (λ x. Passes (taken told stops a c) before x now) (sym (last_part moment us left count so_far.text all few so_far.parts))
    (passed_both told stops a b c before so_far.text mid (batch_text (next_batch moment left count)) now so_far.passes passes)

pub cut_stops_last : (moment : ℕ) (us left : List Use) (count : ℕ) {K : Type 0} (told : K → Option (List ℕ)) (stops : K → ℕ) (a b c : K) (before mid : List ℕ) → count ≡ length left → count ≤ 65536 → HasCut (taken told stops a b) before mid moment us left → TookPart (taken told stops b c) (mid ++ batch_text (next_batch moment left count)) → TookPart (taken told stops a c) (before ++ flat_map batch_text (cut moment us))
cut_stops_last moment us left count told stops a b c before mid all few so_far part =
    passed_part told stops a b c before so_far.text mid (batch_text (next_batch moment left count)) [] (flat_map batch_text (cut moment us))
    (last_part moment us left count so_far.text all few so_far.parts ∙ ap (λ x. so_far.text ++ x) (sym (append-nil (batch_text (next_batch moment left count))))) so_far.passes part

-- what follows from an outcome
pub ok_then : {X Y : Type 0} (r : Result X Y) (P Q : Type 0) → OnOk r P → (P → Q) → OnOk r Q
ok_then (Ok x) P Q p f = f p
ok_then (Err y) P Q p f = tt

pub err_then : {X Y : Type 0} (r : Result X Y) (P Q : Type 0) → OnErr r P → (P → Q) → OnErr r Q
err_then (Ok x) P Q p f = tt
err_then (Err y) P Q p f = f p

-- A frame is determined by its bytes.
use Rattle.std.proofs.Common.{◌≡◌, ◌≢◌, ℕ, ◌+◌, ◌-◌, ◌*◌, ◌/◌, ◌%◌, ◌^◌, ◌<◌, List, [], ◌∷◌, ◌++◌, length, take, drop, refl, sym, ◌∙◌, ap, arith, append_assoc, length-append, drop-drop}
use Rattle.std.specs.List.{AllByRecursion}
use Rattle.std.specs.Int.{to_be_bytes, from_be_bytes, w32, w64}
use Rattle.std.proofs.lemmas.List.{take_at, take_all, drop_at, length-take, length-replicate, append-nil, take-append-drop}
use Rattle.std.proofs.lemmas.Nat.{from_be_bytes-to_be_bytes_4, from_be_bytes-to_be_bytes_8}
use Rattle.std.proofs.Math.Seq.{take-append_seam, drop-append-add}
use Rattle.sha2.specs.Sha256.{sha256}
use Rattle.sha2.proofs.Facts256.{length-sha256}
use Rattle.svid_journal.specs.Frames.{tag_of, numbers_of, sealed, head_of, gap, filler, frame_len, frame_in, frame_of, frames_of, IsPayload, BeginsWithNone}
use Rattle.svid_journal.proofs.Lists.{same_parts}

pub length-tag_of : (text : List ℕ) → length (tag_of text) ≡ 20
unfolding tag_of
length-tag_of text = omega (arith, length-take 20 (sha256 text), length-sha256 text)

pub length-numbers_of : (v number : ℕ) (payload : List ℕ) → length (numbers_of v number payload) ≡ 12
unfolding numbers_of
length-numbers_of v number payload = refl

pub length-head_of : (v : ℕ) (title : List ℕ) (number : ℕ) (payload : List ℕ) → length (head_of v title number payload) ≡ 32
unfolding head_of
length-head_of v title number payload = omega (arith, length-append (tag_of (sealed v title number payload)) (numbers_of v number payload), length-tag_of (sealed v title number payload), length-numbers_of v number payload)

pub same_code : (m n : ℕ) → m < 2 ^ 32 → n < 2 ^ 32 → to_be_bytes w32 m ≡ to_be_bytes w32 n → m ≡ n
same_code m n fm fn e = sym (from_be_bytes-to_be_bytes_4 m fm) ∙ ap (from_be_bytes w32) e ∙ from_be_bytes-to_be_bytes_4 n fn

pub same_number : (m n : ℕ) → m < 2 ^ 64 → n < 2 ^ 64 → to_be_bytes w64 m ≡ to_be_bytes w64 n → m ≡ n
same_number m n fm fn e = sym (from_be_bytes-to_be_bytes_8 m fm) ∙ ap (from_be_bytes w64) e ∙ from_be_bytes-to_be_bytes_8 n fn

-- two equal heads give the same length
same_heads_length : (v : ℕ) (title : List ℕ) (number : ℕ) (p q : List ℕ) → v < 256 → IsPayload p → IsPayload q → head_of v title number p ≡ head_of v title number q → length p ≡ length q
unfolding head_of numbers_of
same_heads_length v title number p q fv fp fq e =
    let tails = same_parts (tag_of (sealed v title number p)) (tag_of (sealed v title number q)) (numbers_of v number p) (numbers_of v number q) (length-tag_of _ ∙ sym (length-tag_of _)) e in
    let codes = same_parts (to_be_bytes w64 number) (to_be_bytes w64 number) (to_be_bytes w32 (v * 16777216 + length p)) (to_be_bytes w32 (v * 16777216 + length q)) refl tails.1 in
    let same = same_code (v * 16777216 + length p) (v * 16777216 + length q) (omega arith) (omega arith) codes.1 in
    omega arith

-- frames at the start of the same bytes are equal, and so are the bytes after them
pub same_frames : (v : ℕ) (title : List ℕ) (number : ℕ) (p q x y : List ℕ) → v < 256 → IsPayload p → IsPayload q → frame_in v title number p ++ x ≡ frame_in v title number q ++ y → (p ≡ q) × (x ≡ y)
unfolding frame_in
same_frames v title number p q x y fv fp fq e =
    let grouped : head_of v title number p ++ ((p ++ filler (gap (length p))) ++ x) ≡ head_of v title number q ++ ((q ++ filler (gap (length q))) ++ y) =
    sym (append_assoc (head_of v title number p) (p ++ filler (gap (length p))) x) ∙ e ∙ append_assoc (head_of v title number q) (q ++ filler (gap (length q))) y in
    let heads = same_parts (head_of v title number p) (head_of v title number q) _ _ (length-head_of v title number p ∙ sym (length-head_of v title number q)) grouped in
    let long = same_heads_length v title number p q fv fp fq heads.0 in
    let bodies : p ++ (filler (gap (length p)) ++ x) ≡ q ++ (filler (gap (length q)) ++ y) =
    sym (append_assoc p (filler (gap (length p))) x) ∙ heads.1 ∙ append_assoc q (filler (gap (length q))) y in
    let payloads = same_parts p q _ _ long bodies in
    let rests = same_parts (filler (gap (length p))) (filler (gap (length q))) x y (ap (λ n. length (filler (gap n))) long) payloads.1 in
    (payloads.0, rests.1)

-- how many cells of 8 bytes a payload of so many bytes takes
abbrev pub cells_of : ℕ → ℕ
cells_of count = count / 8 + 1 - (8 - count % 8) / 8

fills : (count : ℕ) → count + gap count ≡ 8 * cells_of count
unfolding gap
fills count = omega arith

pub length-frame_in : (v : ℕ) (title : List ℕ) (number : ℕ) (payload : List ℕ) → length (frame_in v title number payload) ≡ 8 * (4 + cells_of (length payload))
unfolding frame_in
length-frame_in v title number payload =
    omega (arith, length-append (head_of v title number payload) (payload ++ filler (gap (length payload))), length-append payload (filler (gap (length payload))), length-head_of v title number payload, length-replicate {A = ℕ} (gap (length payload)) 255, fills (length payload))

pub frame_len-is : (v : ℕ) (title : List ℕ) (number : ℕ) (payload : List ℕ) → length (frame_in v title number payload) ≡ frame_len (length payload)
unfolding frame_in
frame_len-is v title number payload =
    omega (arith, length-append (head_of v title number payload) (payload ++ filler (gap (length payload))), length-append payload (filler (gap (length payload))), length-head_of v title number payload, length-replicate {A = ℕ} (gap (length payload)) 255)

-- the head of a frame
pub is_head : (v : ℕ) (title : List ℕ) (number : ℕ) (payload bytes behind : List ℕ) → bytes ≡ frame_in v title number payload ++ behind → take 32 bytes ≡ head_of v title number payload
unfolding frame_in
is_head v title number payload bytes behind stands =
    ap (take 32) (stands ∙ append_assoc (head_of v title number payload) (payload ++ filler (gap (length payload))) behind) ∙ take_at (head_of v title number payload) _ 32 (length-head_of v title number payload)

pub head_front : (v : ℕ) (title : List ℕ) (number : ℕ) (payload bytes behind : List ℕ) → bytes ≡ frame_in v title number payload ++ behind → take 20 bytes ≡ tag_of (sealed v title number payload)
unfolding frame_in head_of
head_front v title number payload bytes behind stands =
    let tag = tag_of (sealed v title number payload) in
    let numbers = numbers_of v number payload in
    let body = payload ++ filler (gap (length payload)) in
    ap (take 20) (stands ∙ append_assoc (tag ++ numbers) body behind ∙ append_assoc tag numbers (body ++ behind)) ∙ take_at tag (numbers ++ (body ++ behind)) 20 (length-tag_of (sealed v title number payload))

-- What follows from parts of bytes about a frame at their start.

-- the bytes before a body, if they are a head, are the head of the frame
parts : (v : ℕ) (title : List ℕ) (number : ℕ) (bytes stated body payload rest : List ℕ) → bytes ≡ stated ++ body → length stated ≡ 32 → bytes ≡ frame_in v title number payload ++ rest → (stated ≡ head_of v title number payload) × (body ≡ payload ++ (filler (gap (length payload)) ++ rest))
unfolding frame_in
parts v title number bytes stated body payload rest split long stands =
    let head = head_of v title number payload in
    let behind = filler (gap (length payload)) in
    let both = same_parts stated head body ((payload ++ behind) ++ rest) (long ∙ sym (length-head_of v title number payload)) (sym split ∙ stands ∙ append_assoc head (payload ++ behind) rest) in
    (both.0, both.1 ∙ append_assoc payload behind rest)

-- a head gives its format and the length of its payload
pub stated_code : (v : ℕ) (title : List ℕ) (number code : ℕ) (stated payload : List ℕ) → v < 256 → code < 2 ^ 32 → IsPayload payload → to_be_bytes w32 code ≡ drop 28 stated → stated ≡ head_of v title number payload → v * 16777216 + length payload ≡ code
unfolding head_of numbers_of
stated_code v title number code stated payload low fits bears states is =
    let tag = tag_of (sealed v title number payload) in
    let numbers : List ℕ = to_be_bytes w64 number in
    let front : List ℕ = tag ++ numbers in
    let there : List ℕ = to_be_bytes w32 (v * 16777216 + length payload) in
    let long : length front ≡ 28 = length-append tag numbers ∙ ap (λ n. n + 8) (length-tag_of (sealed v title number payload)) in
    let back : drop 28 stated ≡ there =
    ap (drop 28) (is ∙ sym (append_assoc tag numbers there)) ∙ drop_at front there 28 long in
    same_code (v * 16777216 + length payload) code (omega arith) fits (sym (states ∙ back))

-- a head gives the number of its frame
pub stated_number : (v : ℕ) (title : List ℕ) (number later : ℕ) (stated payload : List ℕ) → number < 2 ^ 64 → later < 2 ^ 64 → to_be_bytes w64 number ≡ take 8 (drop 20 stated) → stated ≡ head_of v title later payload → later ≡ number
unfolding head_of numbers_of
stated_number v title number later stated payload fits fitting states is =
    let tag = tag_of (sealed v title later payload) in
    let numbers : List ℕ = to_be_bytes w64 later in
    let code : List ℕ = to_be_bytes w32 (v * 16777216 + length payload) in
    let back : take 8 (drop 20 stated) ≡ numbers =
    ap (λ (x : List ℕ). take 8 (drop 20 x)) is ∙ ap (take 8) (drop_at tag (numbers ++ code) 20 (length-tag_of (sealed v title later payload))) ∙ take_at numbers code 8 refl in
    same_number later number fitting fits (sym (states ∙ back))

pub none_short : (v : ℕ) (title : List ℕ) (number : ℕ) (bytes : List ℕ) → length bytes < 32 → BeginsWithNone v title number bytes
none_short v title number bytes short payload rest bears stands = omega (arith, ap length stands, length-append (frame_in v title number payload) rest, length-frame_in v title number payload)

pub none_format : (v : ℕ) (title : List ℕ) (number code : ℕ) (bytes stated body : List ℕ) → v < 256 → bytes ≡ stated ++ body → length stated ≡ 32 → code < 2 ^ 32 → to_be_bytes w32 code ≡ drop 28 stated → code / 16777216 ≢ v → BeginsWithNone v title number bytes
none_format v title number code bytes stated body low split long fits states other payload rest bears stands =
    let both = parts v title number bytes stated body payload rest split long stands in
    let is = stated_code v title number code stated payload low fits bears states both.0 in
    other (omega (arith, is))

pub none_body : (v : ℕ) (title : List ℕ) (number code len : ℕ) (bytes stated body : List ℕ) → v < 256 → bytes ≡ stated ++ body → length stated ≡ 32 → code < 2 ^ 32 → to_be_bytes w32 code ≡ drop 28 stated → len ≡ code % 16777216 → ((payload rest : List ℕ) → length payload ≡ len → body ≢ payload ++ (filler (gap len) ++ rest)) → BeginsWithNone v title number bytes
none_body v title number code len bytes stated body low split long fits states len-is none payload rest bears stands =
    let both = parts v title number bytes stated body payload rest split long stands in
    let code-is = stated_code v title number code stated payload low fits bears states both.0 in
    let is : length payload ≡ len = omega (arith, code-is, len-is, bears) in
    none payload rest is (both.1 ∙ ap (λ (n : ℕ). payload ++ (filler (gap n) ++ rest)) is)

pub none_tag : (v : ℕ) (title : List ℕ) (number code len : ℕ) (bytes stated body found behind : List ℕ) → v < 256 → bytes ≡ stated ++ body → length stated ≡ 32 → code < 2 ^ 32 → to_be_bytes w32 code ≡ drop 28 stated → len ≡ code % 16777216 → body ≡ found ++ behind → length found ≡ len → stated ≢ head_of v title number found → BeginsWithNone v title number bytes
none_tag v title number code len bytes stated body found behind low split long fits states len-is cut size other payload rest bears stands =
    let both = parts v title number bytes stated body payload rest split long stands in
    let code-is = stated_code v title number code stated payload low fits bears states both.0 in
    let is : length payload ≡ len = omega (arith, code-is, len-is, bears) in
    let same = same_parts payload found (filler (gap (length payload)) ++ rest) behind (is ∙ sym size) (sym both.1 ∙ cut) in
    other (both.0 ∙ ap (head_of v title number) same.0)

pub whole_frame : (v : ℕ) (title : List ℕ) (number len : ℕ) (bytes stated body found rest : List ℕ) → bytes ≡ stated ++ body → body ≡ found ++ (filler (gap len) ++ rest) → length found ≡ len → stated ≡ head_of v title number found → bytes ≡ frame_in v title number found ++ rest
unfolding frame_in
whole_frame v title number len bytes stated body found rest split cut size is =
    let head = head_of v title number found in
    let filled = filler (gap (length found)) in
    let there : body ≡ (found ++ filled) ++ rest = cut ∙ ap (λ (n : ℕ). found ++ (filler (gap n) ++ rest)) (sym size) ∙ sym (append_assoc found filled rest) in
    split ∙ ap (λ (x : List ℕ). x ++ body) is ∙ ap (λ (x : List ℕ). head ++ x) there ∙ sym (append_assoc head (found ++ filled) rest)

-- a body that is cut at the length of its payload and after its filler
pub cut_some : (len count filled : ℕ) (body payload behind missing rest expected : List ℕ) → count ≡ filled → payload ≡ take len body → behind ≡ drop len body → missing ≡ take count behind → rest ≡ drop count behind → expected ≡ filler count → missing ≡ expected → body ≡ payload ++ (filler filled ++ rest)
cut_some len count filled body payload behind missing rest expected count-is payload-is behind-is missing-is rest-is expected-is same =
    let back : behind ≡ filler filled ++ rest =
    sym (take-append-drop count behind) ∙ (λ i. (sym missing-is ∙ same ∙ expected-is ∙ ap filler count-is) i ++ sym rest-is i) in
    sym (take-append-drop len body) ∙ (λ i. sym payload-is i ++ (sym behind-is ∙ back) i)

pub cut_none : (len count filled : ℕ) (body behind missing expected payload rest : List ℕ) → count ≡ filled → behind ≡ drop len body → missing ≡ take count behind → expected ≡ filler count → missing ≢ expected → length payload ≡ len → body ≢ payload ++ (filler filled ++ rest)
cut_none len count filled body behind missing expected payload rest count-is behind-is missing-is expected-is other long is =
    other (
    missing-is ∙ ap (take count) (behind-is ∙ ap (drop len) is ∙ drop_at payload (filler filled ++ rest) len long ∙ ap (λ (n : ℕ). filler n ++ rest) (sym count-is))
    ∙ take_at (filler count) rest count (length-replicate {A = ℕ} count 255) ∙ sym expected-is
    )

-- a head from its pieces
pub pieces_fill : (v : ℕ) (title numbers payload digest tag mid whole : List ℕ) (number : ℕ) → numbers ≡ numbers_of v number payload → digest ≡ sha256 (v ∷ (title ++ (numbers ++ payload))) → tag ≡ take 20 digest → take (0 + length tag) mid ≡ tag → take (20 + length numbers) whole ≡ take 20 mid ++ numbers → length whole ≡ 32
    → whole ≡ head_of v title number payload
unfolding head_of sealed tag_of
pieces_fill v title numbers payload digest tag mid whole number numbers-is digest-is tag-is first second long =
    let tagged : tag ≡ tag_of (sealed v title number payload) = tag-is ∙ ap (take 20) (digest-is ∙ ap (λ (n : List ℕ). sha256 (v ∷ (title ++ (n ++ payload)))) numbers-is) in
    let size : length tag ≡ 20 = ap length tagged ∙ length-tag_of (sealed v title number payload) in
    let width : length numbers ≡ 12 = ap length numbers-is ∙ length-numbers_of v number payload in
    let tag-end : 20 ≡ 0 + length tag = omega arith in
    let end : 32 ≡ 20 + length numbers = omega arith in
    let front : take 20 mid ≡ tag = ap (λ n. take n mid) tag-end ∙ first in
    sym (take_all 32 whole (omega arith)) ∙ ap (λ n. take n whole) end ∙ second ∙ (λ i. (front ∙ tagged) i ++ numbers-is i)

-- Frames one after the other.

-- one more frame
pub frames_of-push : (title : List ℕ) (number : ℕ) (payloads : List (List ℕ)) (payload : List ℕ) → frames_of title number (payloads ++ payload ∷ []) ≡ frames_of title number payloads ++ frame_of title (number + length payloads) payload
frames_of-push title number [] payload = append-nil (frame_of title number payload) ∙ ap (λ (n : ℕ). frame_of title n payload) (omega arith)
frames_of-push title number (p ∷ ps) payload =
    ap (λ (x : List ℕ). frame_of title number p ++ x) (frames_of-push title (number + 1) ps payload) ∙ sym (append_assoc (frame_of title number p) (frames_of title (number + 1) ps) (frame_of title (number + 1 + length ps) payload))
    ∙ ap (λ (n : ℕ). (frame_of title number p ++ frames_of title (number + 1) ps) ++ frame_of title n payload) (omega arith)

pub frames_of-append : (title : List ℕ) (number : ℕ) (ps qs : List (List ℕ)) → frames_of title number (ps ++ qs) ≡ frames_of title number ps ++ frames_of title (number + length ps) qs
frames_of-append title number [] qs = ap (λ (n : ℕ). frames_of title n qs) (omega arith)
frames_of-append title number (p ∷ ps) qs =
    ap (λ (x : List ℕ). frame_of title number p ++ x) (frames_of-append title (number + 1) ps qs)
    ∙ sym (append_assoc (frame_of title number p) (frames_of title (number + 1) ps) (frames_of title (number + 1 + length ps) qs))
    ∙ ap (λ (n : ℕ). (frame_of title number p ++ frames_of title (number + 1) ps) ++ frames_of title n qs) (omega arith)

-- one more frame that is read
pub one_more : (title bytes rest payload behind : List ℕ) (payloads : List (List ℕ)) (number : ℕ) → bytes ≡ frames_of title 1 payloads ++ rest → number ≡ 1 + length payloads → rest ≡ frame_of title number payload ++ behind → bytes ≡ frames_of title 1 (payloads ++ payload ∷ []) ++ behind
one_more title bytes rest payload behind payloads number whole is stands =
    whole ∙ ap (λ (x : List ℕ). frames_of title 1 payloads ++ x) stands ∙ sym (append_assoc (frames_of title 1 payloads) (frame_of title number payload) behind)
    ∙ ap (λ (n : ℕ). (frames_of title 1 payloads ++ frame_of title n payload) ++ behind) is ∙ ap (λ (x : List ℕ). x ++ behind) (sym (frames_of-push title 1 payloads payload))

pub each_push : (payloads : List (List ℕ)) (payload : List ℕ) → AllByRecursion IsPayload payloads → IsPayload payload → AllByRecursion IsPayload (payloads ++ payload ∷ [])
each_push [] payload each bears = (bears, tt)
each_push (p ∷ ps) payload each bears = (each.0, each_push ps payload each.1 bears)

pub longer : (title : List ℕ) (payloads : List (List ℕ)) (payload : List ℕ) → length (frames_of title 1 (payloads ++ payload ∷ [])) ≡ length (frames_of title 1 payloads) + length (frame_of title (1 + length payloads) payload)
longer title payloads payload = ap length (frames_of-push title 1 payloads payload) ∙ length-append (frames_of title 1 payloads) (frame_of title (1 + length payloads) payload)

-- a piece after those that are done
pub put_behind : (done piece rest old new : List ℕ) (at : ℕ) → at ≡ length done → old ≡ done ++ rest → new ≡ take at old ++ (piece ++ drop (at + length piece) old) → new ≡ (done ++ piece) ++ drop (length piece) rest
put_behind done piece rest old new at offset is put =
    let front : take at old ≡ done = (λ i. take (offset i) (is i)) ∙ take-append_seam done rest in
    let back : drop (at + length piece) old ≡ drop (length piece) rest = (λ i. drop (offset i + length piece) (is i)) ∙ drop-append-add done rest (length piece) in
    put ∙ (λ i. front i ++ (piece ++ back i)) ∙ sym (append_assoc done piece (drop (length piece) rest))

-- a head, a payload and filler, one after the other, are a frame
pub frame_put : (v : ℕ) (title : List ℕ) (number : ℕ) (payload head filled room one two three : List ℕ) (at : ℕ) → head ≡ head_of v title number payload → filled ≡ filler (gap (length payload)) → at ≡ 32 + length payload
    → one ≡ take 0 room ++ (head ++ drop (0 + length head) room) → two ≡ take 32 one ++ (payload ++ drop (32 + length payload) one) → three ≡ take at two ++ (filled ++ drop (at + length filled) two)
    → three ≡ frame_in v title number payload ++ drop (frame_len (length payload)) room
unfolding frame_in
frame_put v title number payload head filled room one two three at heads fills_up offset first second third =
    let long : length head ≡ 32 = ap length heads ∙ length-head_of v title number payload in
    let gaps : length filled ≡ gap (length payload) = ap length fills_up ∙ length-replicate (gap (length payload)) 255 in
    let none : 0 + length head ≡ length head = omega arith in
    let first_done : one ≡ head ++ drop (length head) room = first ∙ (λ i. head ++ drop (none i) room) in
    let second_done = put_behind head payload (drop (length head) room) one two 32 (sym long) first_done second in
    let third_done = put_behind (head ++ payload) filled (drop (length payload) (drop (length head) room)) two three at (omega (arith, length-append head payload)) second_done third in
    let rests : drop (length filled) (drop (length payload) (drop (length head) room)) ≡ drop (32 + (length payload + gap (length payload))) room =
    (ap (drop (length filled)) (drop-drop (length payload) (length head) room) ∙ drop-drop (length filled) (length head + length payload) room) ∙ ap (λ n. drop n room) (omega arith) in
    let frames : (head ++ payload) ++ filled ≡ head_of v title number payload ++ (payload ++ filler (gap (length payload))) = append_assoc head payload filled ∙ (λ i. heads i ++ (payload ++ fills_up i)) in
    third_done ∙ (λ i. frames i ++ rests i)

-- the number in these bytes
pub number_of_bytes : (n : ℕ) (bytes : List ℕ) → n < 2 ^ 64 → to_be_bytes w64 n ≡ bytes → n ≡ from_be_bytes w64 bytes
number_of_bytes n bytes fits is = sym (from_be_bytes-to_be_bytes_8 n fits) ∙ ap (from_be_bytes w64) is

-- The payloads that a reader has read.
use Rattle.std.proofs.Common.{◌≡◌, inl, inr, ℕ, zero, suc, ◌+◌, ◌-◌, ◌*◌, ◌/◌, ◌^◌, ◌<◌, ◌≤◌, Bool, true, false, cond, List, [], ◌∷◌, ◌++◌, length, take, drop, replicate, refl, sym, ◌∙◌, ap, arith, append_assoc, length-append, length-drop}
use Rattle.std.specs.Prelude.{◌==◌, ◌≢◌, ◌&&◌, nat_lt, nat_le}
use Rattle.std.specs.Int.{to_be_bytes, from_be_bytes, w32, w64}
use Rattle.std.proofs.lemmas.Nat.{from_be_bytes-to_be_bytes_4}
use Rattle.std.proofs.lemmas.Bool.{cases_lt, cond-false, lt-leb}
use Rattle.std.proofs.lemmas.List.{drop_at, take_at, length_push}
use Rattle.svid_journal.specs.declared.title.Title.{Title}
use Rattle.svid_journal.specs.declared.reader.Reader.{Reader}
use Rattle.svid_journal.specs.Titles.{bytes_of}
use Rattle.svid_journal.specs.Frames.{tag_of, numbers_of, sealed, head_of, frame_len, frame_in, frame_of, frames_of, IsFormat, IsPayload, BeginsWithNone, IsReading}
use Rattle.svid_journal.specs.declared.reader.Next.{Next}
use Rattle.svid_journal.specs.declared.reader.Next.TheVariants.{Payload, End, Tear, Damage, Other, Unfit}
use Rattle.svid_journal.specs.Reading.{number_in, format_in, len_in, states_later, later_cells, crowd, IsCrowded, BeginsLater, HasOther, IsFit, GoesOn, Stops, IsNext, HasRead, ReadsOn, ends_marked}
use Rattle.svid_journal.proofs.FramesLemmas.{length-tag_of, length-frame_in, frame_len-is, is_head, stated_number, one_more, each_push, longer}

-- a head gives its format
pub head_code : (v : ℕ) (title : List ℕ) (number : ℕ) (payload stated : List ℕ) → stated ≡ head_of v title number payload → to_be_bytes w32 (v * 16777216 + length payload) ≡ drop 28 stated
unfolding head_of numbers_of
head_code v title number payload stated is =
    let tag = tag_of (sealed v title number payload) in
    let numbers : List ℕ = to_be_bytes w64 number in
    let there : List ℕ = to_be_bytes w32 (v * 16777216 + length payload) in
    let front : List ℕ = tag ++ numbers in
    let long : length front ≡ 28 = length-append tag numbers ∙ ap (λ n. n + 8) (length-tag_of (sealed v title number payload)) in
    sym (ap (drop 28) (is ∙ sym (append_assoc tag numbers there)) ∙ drop_at front there 28 long)

-- there is no frame where the format and the length of a head are zeros, or filler
pub zeros_begin_none : (v : ℕ) (title : List ℕ) (number : ℕ) (bytes : List ℕ) → IsFormat v → drop 28 (take 32 bytes) ≡ replicate 4 0 → BeginsWithNone v title number bytes
zeros_begin_none v title number bytes format zeros payload rest bears stands =
    let code = head_code v title number payload (take 32 bytes) (is_head v title number payload bytes rest stands) ∙ zeros in
    omega (arith, format.0, sym (from_be_bytes-to_be_bytes_4 (v * 16777216 + length payload) (omega (arith, format.1, bears))) ∙ ap (from_be_bytes w32) code)

pub filler_begins_none : (v : ℕ) (title : List ℕ) (number : ℕ) (bytes : List ℕ) → IsFormat v → drop 28 (take 32 bytes) ≡ replicate 4 255 → BeginsWithNone v title number bytes
filler_begins_none v title number bytes format filled payload rest bears stands =
    let code = head_code v title number payload (take 32 bytes) (is_head v title number payload bytes rest stands) ∙ filled in
    omega (arith, format.1, bears, sym (from_be_bytes-to_be_bytes_4 (v * 16777216 + length payload) (omega (arith, format.1, bears))) ∙ ap (from_be_bytes w32) code)

-- the format in a head is that of the frame
pub format_is : (v format : ℕ) (title : List ℕ) (number : ℕ) (payload rest head bytes : List ℕ) → v < 256 → IsPayload payload → ((code : ℕ) → code < 2 ^ 32 → to_be_bytes w32 code ≡ drop 28 head → format ≡ code / 16777216) → head ≡ take 32 bytes → bytes ≡ frame_in v title number payload ++ rest → format ≡ v
format_is v format title number payload rest head bytes low bears states head-is stands =
    let is = states (v * 16777216 + length payload) (omega (arith, low, bears)) (head_code v title number payload head (head-is ∙ is_head v title number payload bytes rest stands)) in
    omega (arith, is, bears)

-- the number in a head is that of the frame
pub later_is : (title : List ℕ) (number cell stated : ℕ) (head bytes : List ℕ) → head ≡ take 32 bytes → to_be_bytes w64 stated ≡ take 8 (drop 20 head) → stated < 2 ^ 64 → (b : BeginsLater title number cell bytes) → b.later ≡ stated
later_is title number cell stated head bytes head-is states fits b = stated_number b.format title stated b.later head b.payload fits b.fits states (head-is ∙ is_head b.format title b.later b.payload bytes b.rest b.stands)

pub no_later_frame : (title : List ℕ) (number cell stated format : ℕ) (head bytes : List ℕ) → head ≡ take 32 bytes → to_be_bytes w64 stated ≡ take 8 (drop 20 head) → stated < 2 ^ 64 → ((code : ℕ) → code < 2 ^ 32 → to_be_bytes w32 code ≡ drop 28 head → format ≡ code / 16777216) → BeginsWithNone format title stated bytes → BeginsLater title number cell bytes → ⊥
no_later_frame title number cell stated format head bytes head-is states fits format-states none b =
    let number-is = later_is title number cell stated head bytes head-is states fits b in
    let is = format_is b.format format title b.later b.payload b.rest head bytes (omega (arith, b.is_format.1)) b.bears format-states head-is b.stands in
    none b.payload b.rest b.bears (b.stands ∙ (λ i. frame_in (sym is i) title (number-is i) b.payload ++ b.rest))

pub too_short : (v : ℕ) (title : List ℕ) (number : ℕ) (payload rest bytes : List ℕ) → length bytes < 32 → bytes ≡ frame_in v title number payload ++ rest → ⊥
too_short v title number payload rest bytes short stands = omega (arith, short, ap length stands, length-append (frame_in v title number payload) rest, length-frame_in v title number payload)

-- there is no frame where less than a head is left
pub none_behind : (title : List ℕ) (number cell end : ℕ) (bytes : List ℕ) → end ≤ cell → length (drop (8 * end) bytes) < 32 → BeginsLater title number cell (drop (8 * cell) bytes) → ⊥
none_behind title number cell end bytes behind short b =
    too_short b.format title b.later b.payload b.rest (drop (8 * cell) bytes) (omega (arith, behind, short, length-drop (8 * cell) bytes, length-drop (8 * end) bytes)) b.stands

pub no_other : (title : List ℕ) (number format : ℕ) (head bytes : List ℕ) → head ≡ take 32 bytes → ((code : ℕ) → code < 2 ^ 32 → to_be_bytes w32 code ≡ drop 28 head → format ≡ code / 16777216) → (format ≢ 2 → IsFormat format → BeginsWithNone format title number bytes) → HasOther title number bytes → ⊥
no_other title number format head bytes head-is states none (other, is) =
    let same = format_is other format title number is.payload is.rest head bytes (omega (arith, is.is_format.1)) is.bears states head-is is.stands in
    none (λ e. is.is_other (sym same ∙ e)) (omega (arith, same, is.is_format.0), omega (arith, same, is.is_format.1)) is.payload is.rest is.bears (is.stands ∙ ap (λ (n : ℕ). frame_in n title number is.payload ++ is.rest) (sym same))

-- Heads that look like later ones.

and_none : (a b : Bool) → b ≡ false → (a && b) ≡ false
and_none true b e = e
and_none false b e = refl

states_none : (number cell : ℕ) (head : List ℕ) (room : ℕ) → room < 32 → states_later number cell head room ≡ false
states_none number cell head room short =
    and_none (nat_lt number (number_in head) && nat_le (number_in head - number) (cell / 4) && nat_lt 0 (format_in head) && nat_lt (format_in head) 255) (nat_le (frame_len (len_in head)) room) (lt-leb (frame_len (len_in head)) room (omega (arith, short)))

pub none_stated : (number cell : ℕ) (bytes : List ℕ) → length bytes < 32 → 0 ≡ later_cells number cell bytes
unfolding later_cells
none_stated number cell bytes short =
    let head = take 32 bytes in
    sym (cond-false (states_later number cell head (length bytes)) (frame_len (len_in head) / 8) 0 (states_none number cell head (length bytes) short))

pub none_later : (number cell : ℕ) (head bytes : List ℕ) → head ≡ take 32 bytes → states_later number cell head (length bytes) ≡ false → 0 ≡ later_cells number cell bytes
unfolding later_cells
none_later number cell head bytes is none =
    let here = take 32 bytes in
    sym (cond-false (states_later number cell here (length bytes)) (frame_len (len_in here) / 8) 0 (ap (λ (x : List ℕ). states_later number cell x (length bytes)) (sym is) ∙ none))

pub some_later : (number cell : ℕ) (head bytes : List ℕ) → head ≡ take 32 bytes → states_later number cell head (length bytes) ≡ true → frame_len (len_in head) / 8 ≡ later_cells number cell bytes
unfolding later_cells
some_later number cell head bytes is some =
    let here = take 32 bytes in
    ap (λ (x : List ℕ). frame_len (len_in x) / 8) is ∙ sym (ap (λ (b : Bool). cond b (frame_len (len_in here) / 8) 0) (ap (λ (x : List ℕ). states_later number cell x (length bytes)) (sym is) ∙ some))

pub crowd_next : (number : ℕ) (bytes : List ℕ) (cell : ℕ) → crowd number bytes (cell + 1) ≡ crowd number bytes cell + later_cells number cell (drop (8 * cell) bytes)
crowd_next number bytes cell = let next : cell + 1 ≡ suc cell = omega arith in ap (crowd number bytes) next

crowd_rises : (number : ℕ) (bytes : List ℕ) (cell more : ℕ) → crowd number bytes cell ≤ crowd number bytes (cell + more)
crowd_rises number bytes cell zero = let same : cell + 0 ≡ cell = omega arith in omega (arith, ap (crowd number bytes) same)
crowd_rises number bytes cell (suc more) =
    let next : cell + suc more ≡ (cell + more) + 1 = omega arith in
    omega (arith, crowd_rises number bytes cell more, ap (crowd number bytes) next, crowd_next number bytes (cell + more))

-- a crowd in the first cells is a crowd in all
pub crowded_before : (number : ℕ) (bytes : List ℕ) (cell : ℕ) → cell ≤ length bytes / 8 → length bytes < crowd number bytes cell → IsCrowded number bytes
crowded_before number bytes cell below many =
    let more = length bytes / 8 - cell in
    let is : cell + more ≡ length bytes / 8 = omega (arith, below) in
    omega (arith, many, crowd_rises number bytes cell more, ap (crowd number bytes) is)

pub front_is : (bytes head body : List ℕ) → bytes ≡ head ++ body → length head ≡ 32 → head ≡ take 32 bytes
front_is bytes head body split long = sym (ap (take 32) split ∙ take_at head body 32 long)

-- One payload more.

ends_marked-push : (ps : List (List ℕ)) (p : List ℕ) → ends_marked (ps ++ p ∷ []) ≡ (length p == 0)
ends_marked-push [] p = refl
ends_marked-push (q ∷ []) p = refl
ends_marked-push (q ∷ r ∷ ps) p = ends_marked-push (r ∷ ps) p

-- the bytes at the offset of a reader
pub behind_read : (r : Reader) (t : Title) (bytes : List ℕ) (payloads : List (List ℕ)) (rest : List ℕ) → HasRead r t bytes payloads rest → drop r.at bytes ≡ rest
behind_read r t bytes payloads rest h = (λ i. drop (h.at i) (h.whole i)) ∙ drop_at (frames_of (bytes_of t) 1 payloads) rest (length (frames_of (bytes_of t) 1 payloads)) refl

pub read_one : (old new : Reader) (t : Title) (bytes payload : List ℕ) (payloads : List (List ℕ)) (rest : List ℕ) (g : GoesOn t old new bytes payload) → HasRead old t bytes payloads rest → HasRead new t bytes (payloads ++ payload ∷ []) g.behind
read_one old new t bytes payload payloads rest g h =
    let title = bytes_of t in
    let stands : rest ≡ frame_of title (1 + length payloads) payload ++ g.behind =
    sym (behind_read old t bytes payloads rest h) ∙ g.stands ∙ ap (λ (n : ℕ). frame_of title (1 + n) payload ++ g.behind) h.count in
    record {
      whole = one_more title bytes rest payload g.behind payloads (1 + length payloads) h.whole refl stands;
      each = each_push payloads payload h.each g.bears;
      count = omega (arith, ap (λ (r : Reader). r.count) g.moved, h.count, length_push payloads payload);
      at = omega (arith, ap (λ (r : Reader). r.at) g.moved, h.at, longer title payloads payload, frame_len-is 2 title (1 + length payloads) payload);
      marked = ap (λ (r : Reader). r.marked) g.moved ∙ sym (ends_marked-push payloads payload);
    }

all_read : (old new : Reader) (t : Title) (bytes : List ℕ) (payloads : List (List ℕ)) (rest : List ℕ) → Stops t old new bytes → HasRead old t bytes payloads rest → IsReading (bytes_of t) bytes payloads rest
all_read old new t bytes payloads rest s h =
    record {
      whole = h.whole;
      each = h.each;
      ended = λ p x bears stands. s.none p x bears (behind_read old t bytes payloads rest h ∙ stands ∙ ap (λ (n : ℕ). frame_of (bytes_of t) (1 + n) p ++ x) (sym h.count));
    }

unfit : (r : Reader) (t : Title) (bytes : List ℕ) (payloads : List (List ℕ)) (rest : List ℕ) → (IsFit r bytes → ⊥) → HasRead r t bytes payloads rest → 2 ^ 62 ≤ length payloads
unfit r t bytes payloads rest none h =
    elim (cases_lt r.count (2 ^ 62)) [
      | inl low ↦ absurd (none (low, omega (arith, h.at, ap length h.whole, length-append (frames_of (bytes_of t) 1 payloads) rest)))
      | inr high ↦ omega (arith, high, h.count)
    ]

-- a reader that goes on reads what is there
pub reads_on : (next : Next) (t : Title) (old new : Reader) (bytes : List ℕ) → IsNext next t old new bytes → (payloads : List (List ℕ)) (rest : List ℕ) → HasRead old t bytes payloads rest → ReadsOn next t new bytes payloads rest
reads_on (Payload p) t old new bytes is payloads rest h = (is.behind, read_one old new t bytes p.now payloads rest is h)
reads_on End t old new bytes is payloads rest h = all_read old new t bytes payloads rest is.0 h
reads_on Tear t old new bytes is payloads rest h = all_read old new t bytes payloads rest is.0 h
reads_on Damage t old new bytes is payloads rest h = all_read old new t bytes payloads rest is.0 h
reads_on (Other format) t old new bytes is payloads rest h = all_read old new t bytes payloads rest is.0 h
reads_on Unfit t old new bytes is payloads rest h = unfit old t bytes payloads rest is.0 h

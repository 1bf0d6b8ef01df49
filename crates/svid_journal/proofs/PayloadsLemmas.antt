-- The position of a member in its log, before messages.
use Rattle.std.proofs.Common.{◌≡◌, ◌≢◌, ℕ, ◌+◌, ◌<◌, List, [], ◌∷◌, ◌++◌, length, take, drop, refl, sym, ◌∙◌, ap, subst, arith, append_assoc, length-append}
use Rattle.std.specs.Int.{to_be_bytes, w64}
use Rattle.std.proofs.lemmas.List.{take_at, length-drop, append-nil, take-append-drop}
use Rattle.svid_journal.specs.declared.log_position.LogPosition.{LogPosition}
use Rattle.svid_journal.specs.Payloads.{position_magic, position_text, BeginsWithNoPosition, PositionsAreReadBack, MessagesHaveNoPosition}
use Rattle.svid_journal.proofs.Lists.{same_parts}
use Rattle.svid_journal.proofs.FramesLemmas.{put_behind, same_number}

pub length-position_text : (p : LogPosition) → length (position_text p) ≡ 28
unfolding position_text
length-position_text p = refl

nothing : (xs : List ℕ) → length xs ≡ 0 → xs ≡ []
nothing [] none = refl
nothing (x ∷ xs) none = absurd (omega arith)

filled : (p : LogPosition) (room one two three four : List ℕ) → length room ≡ 28 → one ≡ take 0 room ++ (position_magic ++ drop 4 room) → two ≡ take 4 one ++ (to_be_bytes w64 p.passed ++ drop 12 one) → three ≡ take 12 two ++ (to_be_bytes w64 p.begun ++ drop 20 two)
    → four ≡ take 20 three ++ (to_be_bytes w64 p.deaf ++ drop 28 three) → four ≡ position_text p
unfolding position_text
filled p room one two three four long first second third fourth =
    let passed : List ℕ = to_be_bytes w64 p.passed in
    let begun : List ℕ = to_be_bytes w64 p.begun in
    let deaf : List ℕ = to_be_bytes w64 p.deaf in
    let one_done = put_behind [] position_magic room room one 0 refl refl first in
    let two_done = put_behind position_magic passed (drop 4 room) one two 4 refl one_done second in
    let three_done = put_behind (position_magic ++ passed) begun (drop 8 (drop 4 room)) two three 12 refl two_done third in
    let four_done = put_behind ((position_magic ++ passed) ++ begun) deaf (drop 8 (drop 8 (drop 4 room))) three four 20 refl three_done fourth in
    let none : drop 8 (drop 8 (drop 8 (drop 4 room))) ≡ [] =
    nothing _ (omega (arith, long, length-drop 8 (drop 8 (drop 8 (drop 4 room))), length-drop 8 (drop 8 (drop 4 room)), length-drop 8 (drop 4 room), length-drop 4 room)) in
    four_done ∙ (λ i. (((position_magic ++ passed) ++ begun) ++ deaf) ++ none i) ∙ append-nil (((position_magic ++ passed) ++ begun) ++ deaf) ∙ append_assoc (position_magic ++ passed) begun deaf ∙ append_assoc position_magic passed (begun ++ deaf)

-- four pieces that fill a room are the text of a position
pub position_put : (p : LogPosition) (room passed begun deaf one two three four : List ℕ) → length room ≡ 28 → passed ≡ to_be_bytes w64 p.passed → begun ≡ to_be_bytes w64 p.begun → deaf ≡ to_be_bytes w64 p.deaf → one ≡ take 0 room ++ (position_magic ++ drop 4 room)
    → two ≡ take 4 one ++ (passed ++ drop (4 + length passed) one) → three ≡ take 12 two ++ (begun ++ drop (12 + length begun) two) → four ≡ take 20 three ++ (deaf ++ drop (20 + length deaf) three) → four ≡ position_text p
position_put p room passed begun deaf one two three four long passed-is begun-is deaf-is first second third fourth =
    filled p room one two three four long first (subst (λ (x : List ℕ). two ≡ take 4 one ++ (x ++ drop (4 + length x) one)) passed-is second) (subst (λ (x : List ℕ). three ≡ take 12 two ++ (x ++ drop (12 + length x) two)) begun-is third)
    (subst (λ (x : List ℕ). four ≡ take 20 three ++ (x ++ drop (20 + length x) three)) deaf-is fourth)

-- a payload that is cut after each piece of a position
pub position_cut : (p : LogPosition) (payload text messages magic numbers passed more begun deaf : List ℕ) → text ≡ take 28 payload → messages ≡ drop 28 payload → magic ≡ take 4 text → numbers ≡ drop 4 text → passed ≡ take 8 numbers → more ≡ drop 8 numbers → begun ≡ take 8 more → deaf ≡ drop 8 more
    → magic ≡ position_magic → to_be_bytes w64 p.passed ≡ passed → to_be_bytes w64 p.begun ≡ begun → to_be_bytes w64 p.deaf ≡ deaf → payload ≡ position_text p ++ messages
unfolding position_text
position_cut p payload text messages magic numbers passed more begun deaf text-is messages-is magic-is numbers-is passed-is more-is begun-is deaf-is is-magic is-passed is-begun is-deaf =
    let more_done : more ≡ to_be_bytes w64 p.begun ++ to_be_bytes w64 p.deaf = sym (take-append-drop 8 more) ∙ (λ i. sym (is-begun ∙ begun-is) i ++ sym (is-deaf ∙ deaf-is) i) in
    let numbers_done : numbers ≡ to_be_bytes w64 p.passed ++ (to_be_bytes w64 p.begun ++ to_be_bytes w64 p.deaf) = sym (take-append-drop 8 numbers) ∙ (λ i. sym (is-passed ∙ passed-is) i ++ (sym more-is ∙ more_done) i) in
    let text_done : text ≡ position_magic ++ (to_be_bytes w64 p.passed ++ (to_be_bytes w64 p.begun ++ to_be_bytes w64 p.deaf)) = sym (take-append-drop 4 text) ∙ (λ i. (sym magic-is ∙ is-magic) i ++ (sym numbers-is ∙ numbers_done) i) in
    sym (take-append-drop 28 payload) ∙ (λ i. (sym text-is ∙ text_done) i ++ sym messages-is i)

pub none_in_few : (payload : List ℕ) → length payload < 28 → BeginsWithNoPosition payload
none_in_few payload few p messages is = omega (arith, few, ap length is, length-append (position_text p) messages, length-position_text p)

-- the first bytes of a position come first
magic_first : (p : LogPosition) (messages : List ℕ) → take 4 (position_text p ++ messages) ≡ position_magic
unfolding position_text
magic_first p messages = refl

pub none_by_magic : (payload text magic : List ℕ) → text ≡ take 28 payload → magic ≡ take 4 text → magic ≢ position_magic → BeginsWithNoPosition payload
none_by_magic payload text magic text-is magic-is other p messages is =
    let whole : text ≡ position_text p = text-is ∙ ap (take 28) is ∙ take_at (position_text p) messages 28 (length-position_text p) in
    other (magic-is ∙ ap (take 4) (whole ∙ sym (append-nil (position_text p))) ∙ magic_first p [])

pub positions_are_read_back : PositionsAreReadBack
unfolding position_text
positions_are_read_back p q messages others low lower e =
    let whole = same_parts (position_text p) (position_text q) messages others (length-position_text p ∙ sym (length-position_text q)) e in
    let numbers = (same_parts position_magic position_magic (to_be_bytes w64 p.passed ++ (to_be_bytes w64 p.begun ++ to_be_bytes w64 p.deaf)) (to_be_bytes w64 q.passed ++ (to_be_bytes w64 q.begun ++ to_be_bytes w64 q.deaf)) refl whole.0).1 in
    let first = same_parts (to_be_bytes w64 p.passed) (to_be_bytes w64 q.passed) (to_be_bytes w64 p.begun ++ to_be_bytes w64 p.deaf) (to_be_bytes w64 q.begun ++ to_be_bytes w64 q.deaf) refl numbers in
    let second = same_parts (to_be_bytes w64 p.begun) (to_be_bytes w64 q.begun) (to_be_bytes w64 p.deaf) (to_be_bytes w64 q.deaf) refl first.1 in
    let passed = same_number p.passed q.passed low.0 lower.0 first.0 in
    let begun = same_number p.begun q.begun low.1 lower.1 second.0 in
    let deaf = same_number p.deaf q.deaf low.2 lower.2 second.1 in
    ((λ i. record { passed = passed i; begun = begun i; deaf = deaf i }), whole.1)

third_letter : List ℕ → ℕ
third_letter (a ∷ b ∷ c ∷ more) = c
third_letter other = 0

pub messages_have_no_position : MessagesHaveNoPosition
unfolding position_text third_letter
messages_have_no_position payload begins p messages is =
    omega (arith, ap third_letter (sym begins ∙ ap (take 3) is))

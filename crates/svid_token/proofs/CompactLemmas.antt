-- A token cut at each period: how many parts there are.
use Rattle.std.proofs.Common.{◌≡◌, ◌≢◌, ◌==◌, ℕ, ◌+◌, ◌<◌, Bool, true, false, cond, List, [], ◌∷◌, ◌++◌, suc, length, take, drop, get_or, All, Some, None, refl, ap, sym, subst, ◌∙◌, arith}
use Rattle.memchr.specs.Find.{IsFirstByte, is_byte}
use Rattle.std.proofs.Math.Seq.{split_at}
use Rattle.std.proofs.lemmas.Bool.{eq-eqb, eqb-false, eqb-true, ne_eqb}
use Rattle.std.proofs.lemmas.List.{append_assoc, get_or-take, length-append, length-take, take_at}
use Rattle.std.proofs.lemmas.List.Elements.{All-cons, All-from_get_or, All-nil, All-weaker}
use Rattle.std.proofs.lemmas.List.Splits.{join_with_byte-slice_split, length-slice_split, slice_split_at, slice_split_none}
use Rattle.std.specs.List.{AllByRecursion, join_with_byte, onto_first, slice_split}
use Rattle.svid_token.specs.Compact.{HasNoPeriod, IsCompact, Parts, parts_of, period, three}

-- the parts between the periods
abbrev pieces : List ℕ → List (List ℕ)
pieces = slice_split (λ b. b == period)

-- what stands before the first period and after it
pub first_period : (bytes : List ℕ) (at : ℕ) → IsFirstByte (is_byte period) bytes (Some at)
    → HasNoPeriod (take at bytes) × (bytes ≡ take at bytes ++ period ∷ drop (at + 1) bytes)
first_period bytes at first =
    let none : HasNoPeriod (take at bytes) = All-from_get_or (λ b. b ≢ period) (take at bytes) 0 (λ i inside e.
    let early : i < at = omega (arith, length-take at bytes) in
    first.0.before i (omega arith) early (eq-eqb _ period (sym (get_or-take at bytes i 0 early) ∙ e))) in
    let here : get_or bytes at 0 ≡ period = eqb-true _ period first.1 in
    let next : suc at ≡ at + 1 = omega arith in
    let cut : bytes ≡ take at bytes ++ get_or bytes at 0 ∷ drop (at + 1) bytes =
    split_at bytes at 0 first.0.high ∙ ap (λ n. take at bytes ++ get_or bytes at 0 ∷ drop n bytes) next in
    (none, cut ∙ ap (λ b. take at bytes ++ b ∷ drop (at + 1) bytes) here)

whole : (bytes : List ℕ) → HasNoPeriod bytes → All (λ b. (b == period) ≡ false) bytes
whole bytes none = All-weaker _ _ (λ b. ne_eqb b period) bytes none

cut_at : (bytes part rest : List ℕ) → HasNoPeriod part → bytes ≡ part ++ period ∷ rest → pieces bytes ≡ part ∷ pieces rest
cut_at bytes part rest none e = ap pieces e ∙ slice_split_at _ part period rest (whole part none) refl

pub parts_of-one : (token : List ℕ) → HasNoPeriod token → parts_of token ≡ None
unfolding parts_of
parts_of-one token none = rw (slice_split_none _ token (whole token none)) refl

pub parts_of-two : (token header payload : List ℕ) → HasNoPeriod header → HasNoPeriod payload → token ≡ header ++ period ∷ payload
    → parts_of token ≡ None
unfolding parts_of
parts_of-two token header payload h p e = rw (cut_at token header payload h e, slice_split_none _ payload (whole payload p)) refl

pub parts_of-three : (token header payload signature : List ℕ) → IsCompact token header payload signature
    → parts_of token ≡ Some (record { header = header; payload = payload; signature = signature })
unfolding parts_of
parts_of-three token header payload signature is =
    rw (cut_at token header _ is.header_whole is.joined, cut_at _ payload signature is.payload_whole refl, slice_split_none _ signature (whole signature is.signature_whole)) refl

four : (header payload signature : List ℕ) (more : List (List ℕ)) → 0 < length more → three (header ∷ payload ∷ signature ∷ more) ≡ None
four header payload signature [] some = absurd (omega arith)
four header payload signature (next ∷ more) some = refl

pub parts_of-four : (token header rest payload signature part more : List ℕ) → HasNoPeriod header → HasNoPeriod payload → HasNoPeriod part
    → token ≡ header ++ period ∷ rest → rest ≡ payload ++ period ∷ signature → signature ≡ part ++ period ∷ more → parts_of token ≡ None
unfolding parts_of
parts_of-four token header rest payload signature part more h p s at_first at_second at_third =
    let some : 0 < length (pieces more) = omega (arith, length-slice_split (λ b. b == period) more) in
    rw (cut_at token header rest h at_first, cut_at rest payload signature p at_second, cut_at signature part more s at_third) (four header payload part (pieces more) some)

-- the token up to its second period
pub take-input : (token header payload signature : List ℕ) → IsCompact token header payload signature
    → take (length header + 1 + length payload) token ≡ header ++ period ∷ payload
take-input token header payload signature is =
    let input : List ℕ = header ++ period ∷ payload in
    let whole_token : token ≡ input ++ period ∷ signature = is.joined ∙ sym (append_assoc header (period ∷ payload) (period ∷ signature)) in
    let long : length input ≡ length header + 1 + length payload = omega (arith, length-append header (period ∷ payload)) in
    rw whole_token (take_at input (period ∷ signature) (length header + 1 + length payload) long)

-- a byte that is not the one at which bytes are cut goes to the first piece
first_piece : (c b : ℕ) (cut : List (List ℕ)) → b ≢ c → AllByRecursion (All (λ x. x ≢ c)) cut
    → AllByRecursion (All (λ x. x ≢ c)) (onto_first b cut)
first_piece c b [] other whole_cut = (All-cons (λ x. x ≢ c) b [] other (All-nil (λ x. x ≢ c)), tt)
first_piece c b (piece ∷ cut) other whole_cut = (All-cons (λ x. x ≢ c) b piece other whole_cut.0, whole_cut.1)

next_piece : (c b : ℕ) (here : Bool) (cut : List (List ℕ)) → (b == c) ≡ here → AllByRecursion (All (λ x. x ≢ c)) cut
    → AllByRecursion (All (λ x. x ≢ c)) (cond here ([] ∷ cut) (onto_first b cut))
next_piece c b true cut is whole_cut = (All-nil (λ x. x ≢ c), whole_cut)
next_piece c b false cut is whole_cut = first_piece c b cut (eqb-false b c is) whole_cut

-- bytes that are cut at each byte of a kind have none of it in a piece
pub whole_pieces : (c : ℕ) (bytes : List ℕ) → AllByRecursion (All (λ x. x ≢ c)) (slice_split (λ b. b == c) bytes)
whole_pieces c [] = (All-nil (λ x. x ≢ c), tt)
whole_pieces c (b ∷ bytes) = next_piece c b (b == c) _ refl (whole_pieces c bytes)

made_of : (token : List ℕ) (parts : Parts) (cut : List (List ℕ)) → join_with_byte period cut ≡ token → AllByRecursion HasNoPeriod cut
    → three cut ≡ Some parts → IsCompact token parts.header parts.payload parts.signature
made_of token parts [] joined whole_cut found = absurd (cc)
made_of token parts (h ∷ []) joined whole_cut found = absurd (cc)
made_of token parts (h ∷ p ∷ []) joined whole_cut found = absurd (cc)
made_of token parts (h ∷ p ∷ s ∷ []) joined whole_cut found =
    let is : record { header = h; payload = p; signature = s } ≡ parts = cc in
    let Made : Parts → Type 0 = λ x. IsCompact token x.header x.payload x.signature in
    subst Made is (record { joined = sym joined; header_whole = whole_cut.0; payload_whole = whole_cut.1.0; signature_whole = whole_cut.1.1.0 })
made_of token parts (h ∷ p ∷ s ∷ next ∷ more) joined whole_cut found = absurd (cc)

-- a token is made of the three parts that it is cut into
pub IsCompact-parts_of : (token : List ℕ) (parts : Parts) → parts_of token ≡ Some parts
    → IsCompact token parts.header parts.payload parts.signature
unfolding parts_of
IsCompact-parts_of token parts found =
    made_of token parts (pieces token) (join_with_byte-slice_split period token) (whole_pieces period token) found

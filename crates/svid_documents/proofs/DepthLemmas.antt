-- How deep JSON values nest.
use Rattle.std.proofs.Common.{◌≡◌, ◌≤◌, ◌<◌, ◌-◌, ℕ, suc, max, nat_le, if◌then◌else◌, inl, inr, Bool, true, false, List, Some, None, Ordering, Less, Equal, Greater, sym, ◌∙◌, arith}
use Rattle.std.specs.Ordering.{match_ordering}
use Rattle.std.specs.Str.{is_utf8}
use Rattle.std.proofs.lemmas.Bool.{cases_Bool, le-leb, leb-false, leb-true, lt-leb}
use Rattle.serde_json.specs.Data.{Data, Members, no_members, member, put, depth, members_depth}
use Rattle.serde_json.specs.Read.{read}
use Rattle.serde_json.proofs.Nesting.{depth-read}
use Rattle.svid_token.specs.Json.{json_of}

-- what holds a value nests one deeper
pub one_deeper : (d most : ℕ) → 0 < most → nat_le d (most - 1) ≡ nat_le (suc d) most
one_deeper d most some = elim (cases_Bool (nat_le d (most - 1))) [
  | inl within ↦ within ∙ sym (le-leb (suc d) most (omega (arith, leb-true d (most - 1) within)))
  | inr beyond ↦ beyond ∙ sym (lt-leb (suc d) most (omega (arith, leb-false d (most - 1) beyond)))
]

-- nothing holds a value and nests not at all
pub none_fits : (d most : ℕ) → most ≤ 0 → false ≡ nat_le (suc d) most
none_fits d most none = sym (lt-leb (suc d) most (omega arith))

-- of two values that one holds, one that fits leaves the other
pub fits_beside : (a b most : ℕ) → nat_le a most ≡ true → nat_le (max a b) most ≡ nat_le b most
fits_beside a b most within = elim (cases_Bool (nat_le b most)) [
  | inl good ↦ le-leb (max a b) most (omega (arith, leb-true a most within, leb-true b most good)) ∙ sym good
  | inr bad ↦ lt-leb (max a b) most (omega (arith, leb-false b most bad)) ∙ sym bad
]

-- and one that does not fit is too much
pub too_deep : (a b most : ℕ) → nat_le a most ≡ false → nat_le (max a b) most ≡ false
too_deep a b most beyond = lt-leb (max a b) most (omega (arith, leb-false a most beyond))

members_depth-match_ordering : (o : Ordering) (a b c : Members) (n : ℕ) → members_depth a ≤ n → members_depth b ≤ n → members_depth c ≤ n → members_depth (match_ordering o a b c) ≤ n
members_depth-match_ordering Less a b c n p q r = p
members_depth-match_ordering Equal a b c n p q r = q
members_depth-match_ordering Greater a b c n p q r = r

-- an object with one more member nests no deeper than both
pub members_depth-put : (k : List ℕ) (d : Data) (ms : Members) (n : ℕ) → depth d ≤ n → members_depth ms ≤ n → members_depth (put k d ms) ≤ n
members_depth-put k d no_members n p q = omega arith
members_depth-put k d (member l e ms) n p q =
    members_depth-match_ordering _ (member k d (member l e ms)) (member l d ms) (member l e (put k d ms)) n (omega arith) (omega arith) (omega (arith, members_depth-put k d ms n p (omega arith)))

by_utf8 : (good : Bool) (text : List ℕ) (d : Data) → (if good then read text else None) ≡ Some d → depth d ≤ 127
by_utf8 true text d is = depth-read text d is
by_utf8 false text d is = cc

-- a value that was read nests 127 deep at the most
pub depth-json_of : (text : List ℕ) (d : Data) → json_of text ≡ Some d → depth d ≤ 127
unfolding json_of
depth-json_of text d is = by_utf8 (is_utf8 text) text d is

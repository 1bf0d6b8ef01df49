-- Audiences that are a list.
use Rattle.std.proofs.Common.{◌≡◌, ◌<◌, ℕ, List, [], ◌∷◌, length, Option, Some, None, option_and_then, option_map, refl, arith}
use Rattle.serde_json.specs.View.{items_view}
use Rattle.serde_json.specs.declared.value.Value.{Value}
use Rattle.svid_token.specs.Claims.{one_or_more, texts}

-- a text, if it is there, before others, if they are there
with_text : (text : Option (List ℕ)) (more : Option (List (List ℕ)))
    → let all : Option (List (List ℕ)) = option_and_then (λ t. option_map (λ ts. t ∷ ts) more) text in option_and_then one_or_more all ≡ all
with_text None more = refl
with_text (Some t) None = refl
with_text (Some t) (Some ts) = refl

-- the texts of a list that is not empty are one or more
pub one_or_more_texts : (items : List Value) → 0 < length items
    → option_and_then one_or_more (texts (items_view items)) ≡ texts (items_view items)
one_or_more_texts [] some = absurd (omega arith)
one_or_more_texts (first ∷ items) some = with_text _ _

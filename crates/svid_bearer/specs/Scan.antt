-- A field value taken apart from the left, as the code does; public contracts speak of Value.Carries.
use Rattle.std.specs.Prelude.{ℕ, ◌+◌, ◌-◌, Bool, ◌&&◌, ◌==◌, not, List, length, take, drop}
use Rattle.std.specs.List.{list_all, prefix_len}
use Rattle.svid_bearer.specs.Value.{is_blank, is_equals, is_space, is_token_byte, is_word_byte}

-- a value behind the blanks in front of it
abbrev pub unblank : List ℕ → List ℕ
unblank value = drop (prefix_len is_blank value) value

-- a text behind its first word
abbrev pub behind_word : List ℕ → List ℕ
behind_word text = drop (prefix_len is_word_byte text) text

-- a text behind the spaces in front of it
abbrev pub unspace : List ℕ → List ℕ
unspace text = drop (prefix_len is_space text) text

-- how long the token is that a text begins with
abbrev pub token_len : List ℕ → ℕ
token_len text =
    let bytes = prefix_len is_token_byte text in
    bytes + prefix_len is_equals (drop bytes text)

-- whether what follows a scheme is a token with spaces before it and blanks behind it
abbrev pub has_token : List ℕ → Bool
has_token rest =
    let text = unspace rest in
    not (prefix_len is_space rest == 0) && not (prefix_len is_token_byte text == 0)
    && list_all is_blank (drop (token_len text) text)

-- a value behind its scheme
abbrev pub rest_of : List ℕ → List ℕ
rest_of value = behind_word (unblank value)

-- the token of a value that has one
abbrev pub token_of : List ℕ → List ℕ
token_of value =
    let text = unspace (rest_of value) in
    take (token_len text) text

-- its offset
abbrev pub offset_of : List ℕ → ℕ
offset_of value = length value - length (rest_of value) + prefix_len is_space (rest_of value)

use Rattle.std.proofs.Common.{◌≡◌, ◌∙◌, ℕ, Bool, List, [], ◌∷◌, ◌++◌, length, get_or, length-append, refl, ap, sym, arith}
use Rattle.std.specs.Int.{from_bool}
use Rattle.svid_replay.specs.Use.{front_text}
use Rattle.svid_wire.proofs.FirstMessage.{text_of-front}
use Rattle.svid_wire.proofs.field.use_of.Goals as goal

-- a field is its front and its last byte
last_byte : (front back field : List ℕ) → field ≡ front ++ back → length front ≡ 64 → length field ≡ 65 → front ++ get_or back 0 0 ∷ [] ≡ field
last_byte front back field parts long size = ap (λ x. front ++ x) (one back (omega (arith, ap length parts, length-append front back))) ∙ sym parts
  where
    one : (x : List ℕ) → length x ≡ 1 → get_or x 0 0 ∷ [] ≡ x
    one [] size = absurd (omega arith)
    one (b ∷ []) size = refl
    one (b ∷ c ∷ x) size = absurd (omega arith)

pub returns-in-Some : goal.returns-in-Some
returns-in-Some c =
    let used = c.use_of_kind.result in
    let front = c.split_at.result.0.now in
    text_of-front used ∙ ap (λ (b : Bool). front_text used ++ from_bool b ∷ []) c.use_of_kind.ensures.kind ∙ ap (λ x. x ++ from_bool c.in-Some.withdrawn ∷ []) c.use_of_kind.ensures.text ∙ ap (λ n. front ++ n ∷ []) c.in-Some.ensures
    ∙ last_byte front c.split_at.result.1.now c.args.field.now c.split_at.ensures.by_index.0 (omega arith) c.requires

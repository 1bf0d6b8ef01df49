-- The verdicts are lawful.
use Rattle.std.proofs.Common.{◌≡◌, ◌≢◌, ◌<◌, ◌/◌, ◌%◌, ◌^◌, ℕ, zero, suc, Bool, true, false, List, [], ◌∷◌, ◌++◌, Option, Some, None, refl, sym, ap, subst, ◌∙◌, arith, if◌then◌else◌}
use Rattle.std.specs.Prelude.{All, codes, nat_lt, option_and_then, option_map, slice_index}
use Rattle.std.specs.Int.{to_be_bytes, w32}
use Rattle.std.specs.Cmp.{Equal-is}
use Rattle.std.specs.Ordering.{eq_by_cmp, is_eq}
use Rattle.std.proofs.lemmas.Bool.{ltb-true, true≢false}
use Rattle.std.proofs.lemmas.Cmp.{nat_list_cmp_total, tied_itself}
use Rattle.std.proofs.lemmas.List.{append_assoc}
use Rattle.std.proofs.lemmas.List.Elements.{All-append, All-cons, All-nil}
use Rattle.std.proofs.lemmas.Map.Views.{Contains-from_any}
use Rattle.std.proofs.lemmas.Option.{option_and_then_some}
use Rattle.serde_json.specs.Data.{Data}
use Rattle.serde_json.specs.Find.{as_number, as_u64, get}
use Rattle.sha2.specs.Sha256.{digest_bytes, final_hash, initial_hash_256, sha256}
use Rattle.sha2.proofs.Facts256.{length-sha256}
use Rattle.svid_id.specs.Id.{IdParts}
use Rattle.svid_token.specs.Claims.{ClaimsSaid, claims_said}
use Rattle.svid_token.specs.Compact.{Parts, parts_of, signing_input}
use Rattle.svid_token.specs.Header.{header_said}
use Rattle.svid_token.specs.Json.{as_time, time_at}
use Rattle.svid_token.specs.Object.{part_object}
use Rattle.svid_token.specs.Part.{part_bytes}
use Rattle.svid_token.specs.Rows.{first_row}
use Rattle.svid_token.specs.TokenKey.{token_text}
use Rattle.svid_token.specs.declared.alg.Alg.{Alg}
use Rattle.svid_token.proofs.CompactLemmas.{IsCompact-parts_of, parts_of-three}
use Rattle.svid_replay.specs.declared.token_use.Use.{Use}
use Rattle.svid_replay.specs.Sets.{rising}
use Rattle.svid_replay.specs.Twice.{has_key}
use Rattle.svid_replay.specs.Use.{IsBytes, IsUse, bytes_cmp, use_cmp}
use Rattle.svid_replay.specs.Uses.{Uses}
use Rattle.svid_replay.proofs.ListLemmas.{any_in}
use Rattle.svid_replay.proofs.SetsLemmas.{holds-rising}
use Rattle.svid_replay.proofs.UseLemmas.{use_exact}
use Rattle.svid_check.specs.declared.accepted.Accepted.{Accepted}
use Rattle.svid_check.specs.Lawful.{Accepts, IsAlive, IsFresh, IsInRange, IsMadeNow, IsOfItsInput, IsUsed, input_of}
use Rattle.svid_check.specs.Said.{Said, parts_say, said_by, said_of, token_rows}
use Rattle.svid_check.specs.Setting.{Setting}
use Rattle.svid_check.specs.Verdict.{acceptance, key_of, rows_if_said, setting_rows, use_of, verdict, verdict_rows}
use Rattle.svid_check.proofs.RowsLemmas.{judged-Ok, none_of_both}
use Rattle.svid_check.proofs.VerdictLemmas.{lives, unused}

some_same : {A : Type 0} (x y : A) → Some x ≡ Some y → x ≡ y
some_same x y e = cc

-- what a token of an accepted use says
pub record IsAccepted (s : Setting) (moment : ℕ) (uses : Uses) (token : List ℕ) (u : Use) : Type 0 where
  pub said : Said
  pub is_said : said_of token ≡ Some said
  pub unrefused : first_row (setting_rows s moment uses said) ≡ None
  pub is_used : use_of s moment said ≡ u

module _ (s : Setting) (moment : ℕ) (uses : Uses) (token : List ℕ) (u : Use) where
  by_said : (o : Option Said) → said_of token ≡ o → first_row (token_rows token ++ rows_if_said (setting_rows s moment uses) o) ≡ None
      → option_map (λ t. use_of s moment t) o ≡ Some u → IsAccepted s moment uses token u
  by_said None e none used = absurd (cc)
  by_said (Some t) e none used =
      record { said = t; is_said = e; unrefused = (none_of_both (token_rows token) (setting_rows s moment uses t) none).1; is_used = some_same (use_of s moment t) u used }

  pub is_accepted : Accepts s moment uses token u → IsAccepted s moment uses token u
  unfolding verdict
  is_accepted a =
      let j = judged-Ok (first_row (verdict_rows s moment uses token)) (option_map (acceptance s moment) (said_of token)) (Some a.0) a.1 in
      by_said (said_of token) refl j.0 (used_in (said_of token) j.1)
    where
      used_in : (o : Option Said) → option_map (acceptance s moment) o ≡ Some a.0 → option_map (λ t. use_of s moment t) o ≡ Some u
      used_in None e = absurd (cc)
      used_in (Some t) e = ap (option_map (λ (x : Accepted). x.used)) e ∙ ap (λ (x : Use). Some x) a.2

pub made_now : IsMadeNow
made_now s moment uses token u a = sym (ap (λ (v : Use). v.at) (is_accepted s moment uses token u a).is_used)

pub is_used : IsUsed
is_used s moment uses token u a = sym (ap (λ (v : Use). v.withdrawn) (is_accepted s moment uses token u a).is_used)

pub alive : IsAlive
alive s moment uses token u a =
    let is = is_accepted s moment uses token u a in
    subst (λ n. moment < n) (ap (λ (v : Use). v.exp) is.is_used) (lives s moment uses is.said is.unrefused)

-- uses that tie are the same
same_use : (u v : Use) → eq_by_cmp use_cmp u v ≡ true → u ≡ v
same_use u v e = use_exact u v ((Equal-is (use_cmp u v)).0 e)

pub fresh : IsFresh
fresh s moment uses token u held a is_held same =
    let is = is_accepted s moment uses token u a in
    let in_uses = Contains-from_any {eq = eq_by_cmp use_cmp} same_use held (rising uses) (sym (holds-rising use_cmp uses held) ∙ is_held) in
    let key : held.key ≡ key_of is.said = same ∙ sym (ap (λ (v : Use). v.key) is.is_used) in
    let found = any_in (has_key (key_of is.said)) (rising uses) held in_uses (subst (λ k. is_eq (bytes_cmp k held.key) ≡ true) key (ap is_eq (tied_itself nat_list_cmp_total held.key))) in
    true≢false (sym found ∙ unused s moment uses is.said is.unrefused)

-- what claims and a signing input contribute to what a token says
record IsSaidBy (claims : ClaimsSaid) (input : List ℕ) (t : Said) : Type 0 where
  sub : claims.sub ≡ Some t.sub
  exp : claims.exp ≡ Some t.exp
  jti : claims.jti ≡ t.jti
  is_input : input ≡ t.input

by_parts : (alg : Option Alg) (bytes : Option (List ℕ)) (sub : Option IdParts) (aud : Option (List (List ℕ))) (exp nbf : Option ℕ) (kid jti : Option (List ℕ)) (input : List ℕ) (t : Said)
    → said_by (record { alg = alg; kid = kid }) (record { sub = sub; aud = aud; exp = exp; nbf = nbf; jti = jti }) bytes input ≡ Some t
    → IsSaidBy (record { sub = sub; aud = aud; exp = exp; nbf = nbf; jti = jti }) input t
by_parts None bytes sub aud exp nbf kid jti input t e = absurd (cc)
by_parts (Some a) None sub aud exp nbf kid jti input t e = absurd (cc)
by_parts (Some a) (Some b) None aud exp nbf kid jti input t e = absurd (cc)
by_parts (Some a) (Some b) (Some c) None exp nbf kid jti input t e = absurd (cc)
by_parts (Some a) (Some b) (Some c) (Some d) None nbf kid jti input t e = absurd (cc)
by_parts (Some a) (Some b) (Some c) (Some d) (Some x) nbf kid jti input t e =
    let made : Said = record { alg = a; kid = kid; sub = c; aud = d; exp = x; nbf = nbf; jti = jti; signature = b; input = input } in
    let is = some_same made t e in
    record { sub = ap (λ (y : Said). Some y.sub) is; exp = ap (λ (y : Said). Some y.exp) is; jti = ap (λ (y : Said). y.jti) is; is_input = ap (λ (y : Said). y.input) is }

is_said_by : (p : Parts) (t : Said) → parts_say p ≡ Some t → IsSaidBy (claims_said (part_object p.payload)) (signing_input p.header p.payload) t
is_said_by p t e =
    let h = header_said (part_object p.header) in
    let c = claims_said (part_object p.payload) in
    by_parts h.alg (part_bytes p.signature) c.sub c.aud c.exp c.nbf h.kid c.jti (signing_input p.header p.payload) t e

-- equal payloads and inputs say the same of a token's key and its expiry
same_said : (p q : Parts) (t v : Said) → parts_say p ≡ Some t → parts_say q ≡ Some v → p.payload ≡ q.payload
    → signing_input p.header p.payload ≡ signing_input q.header q.payload → (key_of t ≡ key_of v) × (t.exp ≡ v.exp)
same_said p q t v says other payload input =
    let a = is_said_by p t says in
    let b = is_said_by q v other in
    let claims = ap (λ (part : List ℕ). claims_said (part_object part)) payload in
    let sub = some_same t.sub v.sub (sym a.sub ∙ ap (λ (c : ClaimsSaid). c.sub) claims ∙ b.sub) in
    let exp = some_same t.exp v.exp (sym a.exp ∙ ap (λ (c : ClaimsSaid). c.exp) claims ∙ b.exp) in
    let jti = sym a.jti ∙ ap (λ (c : ClaimsSaid). c.jti) claims ∙ b.jti in
    (same_key t.sub v.sub t.jti v.jti t.input v.input sub jti (sym a.is_input ∙ input ∙ b.is_input), exp)
  where
    same_key : (sub of : IdParts) (jti id : Option (List ℕ)) (input over : List ℕ) → sub ≡ of → jti ≡ id → input ≡ over
        → sha256 (token_text sub.domain jti input) ≡ sha256 (token_text of.domain id over)
    same_key sub of jti id input over one two three = rw (one, two, three) refl

-- the parts that a token that says something has
record IsOf (token : List ℕ) (t : Said) : Type 0 where
  parts : Parts
  is_parts : parts_of token ≡ Some parts
  says : parts_say parts ≡ Some t

is_of : (token : List ℕ) (t : Said) → said_of token ≡ Some t → IsOf token t
is_of token t e = option_and_then_some {P = IsOf token t} parts_say (parts_of token) t e (λ p is says. record { parts = p; is_parts = is; says = says })

-- a time is below 2^64
below : (n e : ℕ) (b : Bool) → nat_lt n (2 ^ 64) ≡ b → (if b then Some n else None) ≡ Some e → e < 2 ^ 64
below n e true lt is =
    let same : n ≡ e = cc in
    subst (λ m. m < 2 ^ 64) same (ltb-true n (2 ^ 64) lt)
below n e false lt is = absurd (cc)

exp_below : (object : Option Data) (e : ℕ) → option_and_then (time_at (codes "exp")) object ≡ Some e → e < 2 ^ 64
exp_below object e is =
    option_and_then_some (time_at (codes "exp")) object e is (λ d _ at. option_and_then_some as_time (get (codes "exp") d) e at (λ v _ time.
    option_and_then_some (λ n. if nat_lt n (2 ^ 64) then Some n else None) (option_and_then as_u64 (as_number v)) e time (λ n _ last. below n e (nat_lt n (2 ^ 64)) refl last)))

-- the bytes of a digest
low_byte : (n : ℕ) → n % 256 < 256
low_byte n = omega arith

word_bytes : (n : ℕ) → All (λ b. b < 256) (to_be_bytes w32 n)
word_bytes n =
    let P : ℕ → Type 0 = λ b. b < 256 in
    All-cons P (n / 16777216 % 256) (n / 65536 % 256 ∷ n / 256 % 256 ∷ n % 256 ∷ []) (low_byte (n / 16777216))
    (All-cons P (n / 65536 % 256) (n / 256 % 256 ∷ n % 256 ∷ []) (low_byte (n / 65536))
    (All-cons P (n / 256 % 256) (n % 256 ∷ []) (low_byte (n / 256)) (All-cons P (n % 256) [] (low_byte n) (All-nil P))))

digest_each : (h : List ℕ) (n : ℕ) → All (λ b. b < 256) (digest_bytes h n)
unfolding digest_bytes
digest_each h zero = All-nil (λ b. b < 256)
digest_each h (suc n) = All-append (λ b. b < 256) (digest_bytes h n) (to_be_bytes w32 (slice_index h n)) (digest_each h n) (word_bytes (slice_index h n))

is_digest : (m : List ℕ) → IsBytes 32 (sha256 m)
unfolding sha256
is_digest m = record { size = length-sha256 m; each = digest_each (final_hash initial_hash_256 m) 8 }

pub in_range : IsInRange
in_range s moment uses token u a validator_id now =
    let is = is_accepted s moment uses token u a in
    let of = is_of token is.said is.is_said in
    let by = is_said_by of.parts is.said of.says in
    subst IsUse is.is_used (record { exp = exp_below (part_object of.parts.payload) is.said.exp by.exp; key = is_digest _; validator_id = validator_id; at = now })

-- an input and one more period are cut into the parts that the input is made of
input_parts : (token : List ℕ) (p : Parts) → parts_of token ≡ Some p → parts_of (signing_input p.header p.payload ++ 46 ∷ []) ≡ Some (record { header = p.header; payload = p.payload; signature = [] })
input_parts token p is =
    let whole = IsCompact-parts_of token p is in
    parts_of-three (signing_input p.header p.payload ++ 46 ∷ []) p.header p.payload []
    (record { joined = append_assoc p.header (46 ∷ p.payload) (46 ∷ []); header_whole = whole.header_whole; payload_whole = whole.payload_whole; signature_whole = All-nil (λ x. x ≢ 46) })

-- so that equal inputs are of equal payloads
same_payload : (token again : List ℕ) (p q : Parts) → parts_of token ≡ Some p → parts_of again ≡ Some q → signing_input p.header p.payload ≡ signing_input q.header q.payload → p.payload ≡ q.payload
same_payload token again p q one two e =
    ap (λ (x : Parts). x.payload) (some_same _ _ (sym (input_parts token p one) ∙ ap (λ (i : List ℕ). parts_of (i ++ 46 ∷ [])) e ∙ input_parts again q two))

abbrev input_in : Parts → List ℕ
input_in p = signing_input p.header p.payload

-- equal inputs of tokens are those of their parts
same_input : (token again : List ℕ) (p q : Parts) → parts_of token ≡ Some p → parts_of again ≡ Some q → input_of token ≡ input_of again
    → signing_input p.header p.payload ≡ signing_input q.header q.payload
same_input token again p q one two e = some_same _ _ (sym (ap (option_map input_in) one) ∙ e ∙ ap (option_map input_in) two)

pub of_its_input : IsOfItsInput
of_its_input s other moment later uses others token again u v a b e =
    let one = is_accepted s moment uses token u a in
    let two = is_accepted other later others again v b in
    let of = is_of token one.said one.is_said in
    let on = is_of again two.said two.is_said in
    let input = same_input token again of.parts on.parts of.is_parts on.is_parts e in
    let payload = same_payload token again of.parts on.parts of.is_parts on.is_parts input in
    let same = same_said of.parts on.parts one.said two.said of.says on.says payload input in (
      sym (ap (λ (x : Use). x.key) one.is_used) ∙ same.0 ∙ ap (λ (x : Use). x.key) two.is_used,
      sym (ap (λ (x : Use). x.exp) one.is_used) ∙ same.1 ∙ ap (λ (x : Use). x.exp) two.is_used,
    )

-- what a token says gives the key and the expiry of each use that was accepted of its signing input
pub said_is_of_its_input : (s : Setting) (moment : ℕ) (uses : Uses) (token again : List ℕ) (u : Use) (t : Said) → Accepts s moment uses token u → input_of token ≡ input_of again → said_of again ≡ Some t → (key_of t ≡ u.key) × (t.exp ≡ u.exp)
said_is_of_its_input s moment uses token again u t a e says =
    let one = is_accepted s moment uses token u a in
    let of = is_of token one.said one.is_said in
    let on = is_of again t says in
    let input = same_input token again of.parts on.parts of.is_parts on.is_parts e in
    let payload = same_payload token again of.parts on.parts of.is_parts on.is_parts input in
    let same = same_said of.parts on.parts one.said t of.says on.says payload input in
    (sym same.0 ∙ ap (λ (x : Use). x.key) one.is_used, sym same.1 ∙ ap (λ (x : Use). x.exp) one.is_used)

-- SPIFFE IDs (SPIFFE-ID, section 2).
use Rattle.std.specs.Prelude.{◌≡◌, ℕ, ◌+◌, ◌≤◌, Bool, not, nat_eq, nat_lt, if◌then◌else◌, List, ◌++◌, length, drop, codes, Option, Some, None, is_none}
use Rattle.std.specs.List.{before_first, position_or_len, starts_with}
use Rattle.std.specs.Option.{option_or}
use Rattle.svid_id.specs.Domain.{IsDomain, domain_fault}
use Rattle.svid_id.specs.Path.{IsPath, is_slash, path_fault}
use Rattle.svid_id.specs.declared.id_fault.IdFault.{IdFault}
use Rattle.svid_id.specs.declared.id_fault.IdFault.TheVariants.{TooLong, Scheme}

-- what an ID is made of: a trust domain name and a path
pub record IdParts : Type 0 where
  pub domain : List ℕ
  pub path : List ℕ

-- the scheme, and what stands between it and the trust domain name
abbrev pub scheme : List ℕ
scheme = codes "spiffe://"

-- the text of an ID of these parts
abbrev pub id_text : IdParts → List ℕ
id_text id = scheme ++ (id.domain ++ id.path)

-- a text is the ID of these parts, and has at most 2,048 bytes (SPIFFE-ID, section 2.3)
pub record IsId (text : List ℕ) (id : IdParts) : Type 0 where
  pub spelled : text ≡ id_text id
  pub not_long : length text ≤ 2048
  pub domain : IsDomain id.domain
  pub path : IsPath id.path

-- the parts of a text that begins with the scheme: up to the next '/', and from there on
abbrev pub parts_of : List ℕ → IdParts
parts_of text =
    let rest = drop (length scheme) text in
    record { domain = before_first is_slash rest; path = drop (position_or_len is_slash rest) rest }

-- the first fault of a text as an ID, with offsets from its start
abbrev pub id_fault : List ℕ → Option IdFault
id_fault text =
    let parts = parts_of text in
    if nat_lt 2048 (length text) then Some TooLong
    else if not (starts_with nat_eq text scheme) then Some Scheme
    else option_or (domain_fault 9 parts.domain) (path_fault (9 + length parts.domain) parts.path)

-- whether a text is an ID
abbrev pub is_id : List ℕ → Bool
is_id text = is_none (id_fault text)

-- the parts of a text, if it is an ID
abbrev pub id_parts : List ℕ → Option IdParts
id_parts text = if is_id text then Some (parts_of text) else None

-- Trust domain names (SPIFFE-ID, section 2.1; their length: section 2.3).
use Rattle.std.specs.Prelude.{ℕ, ◌+◌, ◌<◌, ◌≤◌, Bool, ◌==◌, ◌||◌, nat_lt, if◌then◌else◌, List, length, Option, Some, None, is_none}
use Rattle.std.specs.Int.{is_in_range}
use Rattle.std.specs.List.{AllPass, prefix_len}
use Rattle.svid_id.specs.declared.id_fault.IdFault.{IdFault}
use Rattle.svid_id.specs.declared.id_fault.IdFault.TheVariants.{DomainEmpty, DomainByte, DomainLong}

-- a byte of a trust domain name: a small letter (97 to 122), a digit (48 to 57), '-' (45), '.' (46) or '_' (95)
abbrev pub is_domain_byte : ℕ → Bool
is_domain_byte b = is_in_range 97 122 b || is_in_range 48 57 b || b == 45 || b == 46 || b == 95

-- a trust domain name: one to 255 bytes, each of its class
pub record IsDomain (name : List ℕ) : Type 0 where
  pub not_empty : 0 < length name
  pub not_long : length name ≤ 255
  pub bytes : AllPass is_domain_byte name

-- the first fault of a text as a trust domain name that begins at a offset
abbrev pub domain_fault : ℕ → List ℕ → Option IdFault
domain_fault at name =
    let good = prefix_len is_domain_byte name in
    if length name == 0 then Some DomainEmpty
    else if nat_lt good (length name) then Some (DomainByte (at + good))
    else if nat_lt 255 (length name) then Some DomainLong
    else None

-- whether a text is a trust domain name
abbrev pub is_domain : List ℕ → Bool
is_domain name = is_none (domain_fault 0 name)

-- What a record knows.
use Rattle.std.specs.Prelude.{◌≡◌, ◌⊎◌, ℕ, ◌≤◌, IsTrue, List}
use Rattle.svid_replay.specs.declared.token_use.Use.{Use}
use Rattle.svid_replay.specs.Records.{State}
use Rattle.svid_replay.specs.Sets.{holds}
use Rattle.svid_claims.specs.Groups.{KnownUse}
use Rattle.svid_member.specs.declared.mode.Mode.{Mode}
use Rattle.svid_member.specs.declared.readiness.Readiness.{Readiness}
use Rattle.svid_member.specs.Members.{MemberData}
use Rattle.svid_requests.specs.Tables.{State as Requests}

-- a record has a use, or the use has expired
abbrev pub Knows : State → Use → Type 0
Knows x u = IsTrue (holds x.uses u) ⊎ (u.exp ≤ x.moment)

-- it knows of one of a key that expires no earlier
abbrev pub KnowsOf : State → KnownUse → Type 0
KnowsOf x k = (d : Use) × (d.key ≡ k.key) × (k.exp ≤ d.exp) × Knows x d

-- a member of this mode, life and terms, with what it knows and its requests
abbrev pub member_of : Mode → (life : List ℕ) → (ahead lasts : ℕ) → Readiness → Requests → MemberData
member_of mode life ahead lasts knows requests = record { mode = mode; life = life; ahead = ahead; lasts = lasts; readiness = knows; requests = requests }

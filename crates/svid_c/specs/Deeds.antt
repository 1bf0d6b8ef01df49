-- What a member wants done, as C has it.
use Rattle.std.specs.Prelude.{ℕ, ◌-◌, ◌^◌, Option, Some, None, replicate}
use Rattle.svid_replay.specs.declared.token_use.Use.{Use}
use Rattle.svid_requests.specs.declared.deed.Deed.{Deed}
use Rattle.svid_requests.specs.declared.deed.Deed.TheVariants.{Nothing, Judge, Append, Claim, Answer}
use Rattle.svid_requests.specs.declared.verdict.Verdict.{Verdict}
use Rattle.svid_requests.specs.declared.verdict.Verdict.TheVariants.{Accept, Refuse, Late, NotKept, NoMemory, Left}
use Rattle.svid_c.specs.Checked.{use_seen}
use Rattle.svid_c.specs.declared.check.SvidUse.{SvidUse}
use Rattle.svid_c.specs.declared.deed.SvidDeed.{SvidDeed}

-- no use
abbrev pub no_use : SvidUse
no_use = record { exp = 0; at = 0; key = replicate 32 0; validator_id = replicate 16 0 }

-- the number of an answer
abbrev pub verdict_number : Verdict → ℕ
verdict_number (Accept u) = 0
verdict_number (Refuse why) = why
verdict_number Late = 201
verdict_number NotKept = 202
verdict_number NoMemory = 2
verdict_number Left = 203

-- the use with which a token is accepted
abbrev pub use_in : Verdict → SvidUse
use_in (Accept u) = use_seen u
use_in _ = no_use

-- the number of the next request; no request has the last number
abbrev pub next_number : Option ℕ → ℕ
next_number None = 2 ^ 64 - 1
next_number (Some n) = n

-- a deed without a use, and one about a use
abbrev pub deed_by : (what number : ℕ) → SvidDeed
deed_by what number = record { what = what; number = number; status = 0; next = 2 ^ 64 - 1; used = no_use }

abbrev pub deed_of_use : (what number : ℕ) → Use → SvidDeed
deed_of_use what number u = record { what = what; number = number; status = 0; next = 2 ^ 64 - 1; used = use_seen u }

-- a deed as C has it
abbrev pub deed_seen : Deed → SvidDeed
deed_seen Nothing = deed_by 0 0
deed_seen (Judge n) = deed_by 1 n
deed_seen (Append n u) = deed_of_use 2 n u
deed_seen (Claim n u) = deed_of_use 3 n u
deed_seen (Answer n v next) = record { what = 4; number = n; status = verdict_number v; next = next_number next; used = use_in v }

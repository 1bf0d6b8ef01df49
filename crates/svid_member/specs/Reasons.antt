-- The numbers of reasons.
use Rattle.std.specs.Prelude.{ℕ}
use Rattle.svid_token.specs.declared.refusal.Refusal.{Refusal}
use Rattle.svid_token.specs.declared.refusal.Refusal.TheVariants.{OutOfMemory, TooLong, NotThreeParts, HeaderSpelling, HeaderNotObject, Crit, Alg, Typ, Kid, PayloadSpelling, PayloadNotObject, SignatureSpelling, Sub, Aud, Exp, Nbf, Jti, NotAudience, Expired, NotYet, TooLongLived, UnknownDomain, NoKey, BadSignature, Withdrawn, Replayed}

-- the number of a refusal
abbrev pub reason_of : Refusal → ℕ
reason_of OutOfMemory = 2
reason_of TooLong = 101
reason_of NotThreeParts = 102
reason_of HeaderSpelling = 103
reason_of HeaderNotObject = 104
reason_of Crit = 105
reason_of Alg = 106
reason_of Typ = 107
reason_of Kid = 108
reason_of PayloadSpelling = 109
reason_of PayloadNotObject = 110
reason_of SignatureSpelling = 111
reason_of Sub = 112
reason_of Aud = 113
reason_of Exp = 114
reason_of Nbf = 115
reason_of Jti = 116
reason_of NotAudience = 117
reason_of Expired = 118
reason_of NotYet = 119
reason_of TooLongLived = 120
reason_of UnknownDomain = 121
reason_of NoKey = 122
reason_of BadSignature = 123
reason_of Withdrawn = 124
reason_of Replayed = 125

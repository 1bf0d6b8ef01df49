-- The statuses of the C library.
use Rattle.std.specs.Prelude.{ℕ, List, [], ◌∷◌, ◌++◌, codes}

-- the texts of a status: its name in the header; what it says, as a sentence; and what to do, as one, or nothing
pub record Texts : Type 0 where
  pub name : List ℕ
  pub says : List ℕ
  pub advice : List ℕ

-- a status: its number, and its texts
abbrev pub row : ℕ → List ℕ → List ℕ → List ℕ → ℕ × Texts
row number name says advice = (number, record { name = name; says = says; advice = advice })

-- the tables of all statuses
-- lists:begin statuses (written by tools/lists)

unfoldable pub calls : List (ℕ × Texts)
calls = row 0 (codes "SVID_OK") (codes "The answer is yes, or the call did what it is for.") []
    ∷ row 1 (codes "SVID_TOO_SHORT") (codes "The text is longer than the room.") []
    ∷ row 2 (codes "SVID_NO_MEMORY") (codes "There was no memory.") (codes "Make the call again.")
    ∷ row 3 (codes "SVID_TOO_MUCH") (codes "Bundles, a table or messages have more than 67,108,864 bytes.") (codes "Give less at once.")
    ∷ row 4 (codes "SVID_NOT_SUMMARY") (codes "The first input is messages, but not one summary.") (codes "Give the summary of another validator.")
    ∷ row 5 (codes "SVID_CLOSED") (codes "The validator, the bundles or the token is closed.") (codes "Make a new one.")
    ∷ row 6 (codes "SVID_IS_OPEN") (codes "The handle is open already.") []
    ∷ row 7 (codes "SVID_GONE") (codes "The token has expired, so that there is nothing to withdraw.") []
    ∷ row 8 (codes "SVID_TOO_FAR") (codes "A message's moment is more than ahead seconds past now.") (codes "Set the clocks of both validators right.")
    ∷ row 9 (codes "SVID_JUMP") (codes "now is more than step seconds past the record's moment.") (codes "Set the clock right, or let a new validator take the record.")
    ∷ row 10 (codes "SVID_HAS_LOG") (codes "The validator reads a log, which decides about its tokens.") (codes "Put the use of a judgment into the log, and read it.")
    ∷ row 19 (codes "SVID_NO_LOG") (codes "The validator reads no log.") (codes "Let it read one.")
    ∷ row 31 (codes "SVID_BUNDLES_NOT_OBJECT") (codes "The bundles are no JSON object.") (codes "Write one object that has a JWK Set under the name of each trust domain.")
    ∷ row 32 (codes "SVID_BUNDLES_DOMAIN") (codes "A name of the bundles is no trust domain name.") (codes "Correct that name, or take it out.")
    ∷ row 33 (codes "SVID_BUNDLES_KEYS") (codes "A name of the bundles has no list of keys.") (codes "Write a JWK Set under that name, or take it out.")
    ∷ row 34 (codes "SVID_TABLE_LINE") (codes "A line of the table is neither empty nor a question.") []
    ∷ row 35 (codes "SVID_OWN_NOT_UTF8") (codes "An audience of the validator's own is not UTF-8.") []
    ∷ row 36 (codes "SVID_OWN_LENGTHS") (codes "The lengths of the audiences do not add up to the length of own.") []
    ∷ row 37 (codes "SVID_BUNDLES_UNNAMED") (codes "The document is the bundle of one trust domain, without its name.") (codes "Name it.")
    ∷ row 38 (codes "SVID_BUNDLES_TWICE") (codes "An earlier document has a bundle of this trust domain.") (codes "Leave one of them out.")
    ∷ row 39 (codes "SVID_BUNDLES_LENGTHS") (codes "The lengths of the documents do not add up to the length of bytes.") []
    ∷ []

unfoldable pub formats : List (ℕ × Texts)
formats = row 11 (codes "SVID_MAGIC") (codes "The first four bytes are those of no version.") []
    ∷ row 12 (codes "SVID_KIND") (codes "The fifth byte is that of no kind of message of the version.") []
    ∷ row 13 (codes "SVID_COUNT") (codes "A batch tells of too many uses.") []
    ∷ row 14 (codes "SVID_USE_KIND") (codes "The last byte of a use is neither 0 nor 1.") []
    ∷ row 15 (codes "SVID_USE_EXPIRED") (codes "A use expires at its batch's moment or before it.") []
    ∷ row 16 (codes "SVID_USE_FUTURE") (codes "A use was made after its batch's moment.") []
    ∷ row 17 (codes "SVID_USE_ORDER") (codes "A use is not greater than the one before it.") []
    ∷ row 18 (codes "SVID_TRUNCATED") (codes "The bytes end before the message does.") []
    ∷ row 21 (codes "SVID_ID_TOO_LONG") (codes "The ID has more than 2,048 bytes.") (codes "Write an ID as spiffe://DOMAIN/PATH.")
    ∷ row 22 (codes "SVID_ID_SCHEME") (codes "The ID does not begin with spiffe://.") (codes "Write an ID as spiffe://DOMAIN/PATH.")
    ∷ row 23 (codes "SVID_ID_DOMAIN_EMPTY") (codes "The trust domain name of the ID is empty.") (codes "Write an ID as spiffe://DOMAIN/PATH.")
    ∷ row 24 (codes "SVID_ID_DOMAIN_BYTE") (codes "The ID has a byte that may not stand in a trust domain name.") (codes "Write an ID as spiffe://DOMAIN/PATH.")
    ∷ row 25 (codes "SVID_ID_DOMAIN_LONG") (codes "The ID has a trust domain name of more than 255 bytes.") (codes "Write an ID as spiffe://DOMAIN/PATH.")
    ∷ row 26 (codes "SVID_ID_SEGMENT_EMPTY") (codes "The ID has an empty segment.") (codes "Write an ID as spiffe://DOMAIN/PATH.")
    ∷ row 27 (codes "SVID_ID_SEGMENT_DOTS") (codes "The ID has a segment that is one or two periods.") (codes "Write an ID as spiffe://DOMAIN/PATH.")
    ∷ row 28 (codes "SVID_ID_PATH_BYTE") (codes "The ID has a byte that may not stand in a path segment.") (codes "Write an ID as spiffe://DOMAIN/PATH.")
    ∷ row 81 (codes "SVID_BEARER_ABSENT") (codes "The request has no header field Authorization.") (codes "Send one such field, with Bearer and one token.")
    ∷ row 82 (codes "SVID_BEARER_SEVERAL") (codes "The request has more than one header field Authorization.") (codes "Send one such field, with Bearer and one token.")
    ∷ row 83 (codes "SVID_BEARER_SCHEME") (codes "The header field Authorization has another scheme than Bearer.") (codes "Send one such field, with Bearer and one token.")
    ∷ row 84 (codes "SVID_BEARER_SPELLING") (codes "In the header field Authorization, Bearer is not followed by one token.") (codes "Send one such field, with Bearer and one token.")
    ∷ row 91 (codes "SVID_NOT_ALLOWED") (codes "The pattern does not allow the ID.") []
    ∷ row 92 (codes "SVID_PATTERN_TOO_LONG") (codes "The ID in the pattern has more than 2,048 bytes.") (codes "Write spiffe://DOMAIN/PATH for one ID, spiffe://DOMAIN/PATH/* for all below it, or spiffe://DOMAIN for all of a trust domain.")
    ∷ row 93 (codes "SVID_PATTERN_SCHEME") (codes "The pattern does not begin with spiffe://.") (codes "Write spiffe://DOMAIN/PATH for one ID, spiffe://DOMAIN/PATH/* for all below it, or spiffe://DOMAIN for all of a trust domain.")
    ∷ row 94 (codes "SVID_PATTERN_DOMAIN_EMPTY") (codes "The trust domain name of the pattern is empty.") (codes "Write spiffe://DOMAIN/PATH for one ID, spiffe://DOMAIN/PATH/* for all below it, or spiffe://DOMAIN for all of a trust domain.")
    ∷ row 95 (codes "SVID_PATTERN_DOMAIN_BYTE") (codes "The pattern has a byte that may not stand in a trust domain name.") (codes "Write spiffe://DOMAIN/PATH for one ID, spiffe://DOMAIN/PATH/* for all below it, or spiffe://DOMAIN for all of a trust domain.")
    ∷ row 96 (codes "SVID_PATTERN_DOMAIN_LONG") (codes "The pattern has a trust domain name of more than 255 bytes.") (codes "Write spiffe://DOMAIN/PATH for one ID, spiffe://DOMAIN/PATH/* for all below it, or spiffe://DOMAIN for all of a trust domain.")
    ∷ row 97 (codes "SVID_PATTERN_SEGMENT_EMPTY") (codes "The pattern has an empty segment.") (codes "Write spiffe://DOMAIN/PATH for one ID, spiffe://DOMAIN/PATH/* for all below it, or spiffe://DOMAIN for all of a trust domain.")
    ∷ row 98 (codes "SVID_PATTERN_SEGMENT_DOTS") (codes "The pattern has a segment that is one or two periods.") (codes "Write spiffe://DOMAIN/PATH for one ID, spiffe://DOMAIN/PATH/* for all below it, or spiffe://DOMAIN for all of a trust domain.")
    ∷ row 99 (codes "SVID_PATTERN_PATH_BYTE") (codes "The pattern has a byte that may not stand in a path segment.") (codes "Write spiffe://DOMAIN/PATH for one ID, spiffe://DOMAIN/PATH/* for all below it, or spiffe://DOMAIN for all of a trust domain.")
    ∷ []

unfoldable pub keys : List (ℕ × Texts)
keys = row 61 (codes "SVID_ENTRY_NOT_OBJECT") (codes "The entry is no JSON object.") []
    ∷ row 62 (codes "SVID_ENTRY_NO_USE") (codes "The entry has no use, which must be \"jwt-svid\".") []
    ∷ row 63 (codes "SVID_ENTRY_X509") (codes "The entry is for X.509-SVIDs.") []
    ∷ row 64 (codes "SVID_ENTRY_USE") (codes "The entry's use is not \"jwt-svid\".") []
    ∷ row 65 (codes "SVID_ENTRY_KID") (codes "The entry's kid is not there, or no text.") []
    ∷ row 66 (codes "SVID_ENTRY_KTY") (codes "The entry's kty is neither RSA nor EC.") []
    ∷ row 67 (codes "SVID_ENTRY_NUMBER") (codes "A number in the entry is no whole number of 64 bits.") []
    ∷ row 68 (codes "SVID_ENTRY_TOO_LONG") (codes "The entry has more than 65,536 bytes as compact JSON.") []
    ∷ row 70 (codes "SVID_NO_ALGORITHM") (codes "The algorithm is none of RS256 to RS512, ES256 to ES512 and PS256 to PS512.") []
    ∷ row 71 (codes "SVID_KEY_NOT_OBJECT") (codes "The key is no JSON object.") []
    ∷ row 72 (codes "SVID_KEY_KTY") (codes "The key's kty is not the algorithm's: RSA for RS and PS, EC for ES.") []
    ∷ row 73 (codes "SVID_KEY_ALG") (codes "The key's alg is there, and is not the algorithm.") []
    ∷ row 74 (codes "SVID_KEY_N") (codes "The key's n is no odd number in as few bytes of base64url as hold it.") []
    ∷ row 75 (codes "SVID_KEY_BITS") (codes "The key's n has fewer than 2,048 bits, more than most_bits, or more than 16,384.") []
    ∷ row 76 (codes "SVID_KEY_E") (codes "The key's e is no odd number from 3 to 2^31-1 in as few bytes of base64url as hold it.") []
    ∷ row 77 (codes "SVID_KEY_CRV") (codes "The key's crv is not the algorithm's: P-256 for ES256, P-384 for ES384, P-521 for ES512.") []
    ∷ row 78 (codes "SVID_KEY_X") (codes "The key's x is not base64url of 32, 48 or 66 bytes, as the curve has it.") []
    ∷ row 79 (codes "SVID_KEY_Y") (codes "The key's y is not base64url of 32, 48 or 66 bytes, as the curve has it.") []
    ∷ []

unfoldable pub folders : List (ℕ × Texts)
folders = row 41 (codes "SVID_FOLDER_UNFIT") (codes "The numbers are not those of a folder, or of the file that is read.") []
    ∷ row 42 (codes "SVID_FOLDER_ENDED") (codes "A sync failed.") (codes "Mend the disk, and start the service again.")
    ∷ row 43 (codes "SVID_FOLDER_NOT_GROWING") (codes "No journal grows yet.") (codes "Make the calls that are due.")
    ∷ row 44 (codes "SVID_FOLDER_BUSY") (codes "A call is due already.") (codes "Make it first.")
    ∷ row 45 (codes "SVID_FOLDER_NOTHING_DUE") (codes "No call is due.") []
    ∷ row 46 (codes "SVID_FOLDER_FLYING") (codes "A frame was handed out, and is not synced yet.") (codes "Sync it first.")
    ∷ row 47 (codes "SVID_FOLDER_NOT_FLYING") (codes "No frame was handed out.") []
    ∷ row 48 (codes "SVID_FOLDER_NOT_WRITING") (codes "No snapshot is being written.") []
    ∷ row 49 (codes "SVID_FOLDER_NO_MARK") (codes "The snapshot has no mark at its end.") (codes "Put an empty piece after it.")
    ∷ row 50 (codes "SVID_FOLDER_TOO_LONG") (codes "The payload has more than 16,777,215 bytes.") (codes "Append less at once.")
    ∷ row 51 (codes "SVID_FOLDER_FULL") (codes "A number of the folder has come to its end.") (codes "Go on in a new folder, which takes the messages of this one.")
    ∷ row 52 (codes "SVID_FILE_END") (codes "The end: nothing was written here.") []
    ∷ row 53 (codes "SVID_FILE_TEAR") (codes "A write was cut off: nobody was told that it is on the disk.") []
    ∷ row 54 (codes "SVID_FILE_DAMAGE") (codes "What was synced here has changed.") []
    ∷ row 55 (codes "SVID_FILE_OTHER") (codes "A frame of another format stands here.") []
    ∷ []

unfoldable pub members : List (ℕ × Texts)
members = row 56 (codes "SVID_CLAIM_WITHDRAWN") (codes "The entry says that the token was withdrawn.") []
    ∷ row 57 (codes "SVID_CLAIM_TAKEN") (codes "The entry is another's, so the token was used.") []
    ∷ row 58 (codes "SVID_CLAIM_FAR") (codes "The token expires more than lasts seconds past the store's time.") (codes "Set the store's clock right.")
    ∷ row 59 (codes "SVID_CLAIM_DEAF") (codes "The token may have been claimed before the store lost entries.") (codes "Present a token that was issued later.")
    ∷ row 60 (codes "SVID_CLAIM_EXPIRED") (codes "The token has expired.") []
    ∷ row 20 (codes "SVID_NO_MEMBER") (codes "The validator has no member.") (codes "Open one.")
    ∷ row 29 (codes "SVID_UNASKED") (codes "The request does not wait for that, or its time is over.") []
    ∷ row 30 (codes "SVID_NO_MODE") (codes "The number is none of a mode.") []
    ∷ row 201 (codes "SVID_LATE") (codes "The time of the request was over before it had an answer.") (codes "Try again.")
    ∷ row 202 (codes "SVID_NOT_KEPT") (codes "The state folder did not take the acceptance.") (codes "Mend the disk.")
    ∷ row 203 (codes "SVID_LEFT") (codes "Nobody waits for the answer any more.") []
    ∷ row 211 (codes "SVID_ENDED") (codes "The member has ended.") []
    ∷ row 212 (codes "SVID_NO_BUNDLE") (codes "There is no trust bundle.") []
    ∷ row 213 (codes "SVID_LOADING") (codes "The state folder is being read.") []
    ∷ row 214 (codes "SVID_STORE_UNREACHED") (codes "The group's store was not reached yet.") []
    ∷ row 215 (codes "SVID_WITHDRAWALS_UNREAD") (codes "The store's withdrawals are being read.") []
    ∷ row 216 (codes "SVID_BROKER_UNREACHED") (codes "The group's broker was not reached yet.") []
    ∷ row 217 (codes "SVID_GROUP_UNREAD") (codes "What the group had is being read.") []
    ∷ row 218 (codes "SVID_DRAINING") (codes "The member is to end soon.") []
    ∷ row 219 (codes "SVID_JUMPED") (codes "The clock went ahead too far at once.") (codes "Set the clock right.")
    ∷ row 220 (codes "SVID_KEEPS_NOTHING") (codes "The state folder takes no acceptance.") (codes "Mend the disk.")
    ∷ row 221 (codes "SVID_STORE_AWAY") (codes "The group's store does not answer, so no token can be claimed.") []
    ∷ row 222 (codes "SVID_DEAF") (codes "The store has lost entries, so no token is accepted that lives as long as it may.") []
    ∷ []

unfoldable pub refusals : List (ℕ × Texts)
refusals = row 101 (codes "SVID_TOO_LONG") (codes "The token has more than 65,536 bytes.") []
    ∷ row 102 (codes "SVID_NOT_THREE_PARTS") (codes "The token has not exactly two periods.") []
    ∷ row 103 (codes "SVID_HEADER_SPELLING") (codes "The header is not base64url.") []
    ∷ row 104 (codes "SVID_HEADER_NOT_OBJECT") (codes "The header is no JSON object.") []
    ∷ row 105 (codes "SVID_CRIT") (codes "The header has a member crit.") []
    ∷ row 106 (codes "SVID_ALG") (codes "alg is none of the nine algorithms RS256 to RS512, ES256 to ES512 and PS256 to PS512.") []
    ∷ row 107 (codes "SVID_TYP") (codes "typ is there, and is neither \"JWT\" nor \"JOSE\".") []
    ∷ row 108 (codes "SVID_KID") (codes "kid is there, and is no string.") []
    ∷ row 109 (codes "SVID_PAYLOAD_SPELLING") (codes "The payload is not base64url.") []
    ∷ row 110 (codes "SVID_PAYLOAD_NOT_OBJECT") (codes "The payload is no JSON object.") []
    ∷ row 111 (codes "SVID_SIGNATURE_SPELLING") (codes "The signature is empty, or not base64url.") []
    ∷ row 112 (codes "SVID_SUB") (codes "sub is no SPIFFE ID.") []
    ∷ row 113 (codes "SVID_AUD") (codes "aud is neither a string nor a list of one or more strings.") []
    ∷ row 114 (codes "SVID_EXP") (codes "exp is no whole number from 0 to 2^64-1, written with digits alone.") []
    ∷ row 115 (codes "SVID_NBF") (codes "nbf is there, and is no whole number from 0 to 2^64-1.") []
    ∷ row 116 (codes "SVID_JTI") (codes "jti is there, and is no string.") []
    ∷ row 117 (codes "SVID_NOT_AUDIENCE") (codes "No value of aud is one of the validator's audiences.") []
    ∷ row 118 (codes "SVID_EXPIRED") (codes "The token has expired: exp is not greater than the record's moment.") []
    ∷ row 119 (codes "SVID_NOT_YET") (codes "The token is not valid yet: nbf is greater than the record's moment.") []
    ∷ row 120 (codes "SVID_TOO_LONG_LIVED") (codes "The token expires more than longest seconds past the record's moment.") []
    ∷ row 121 (codes "SVID_UNKNOWN_DOMAIN") (codes "The bundles have no trust domain of this name.") []
    ∷ row 122 (codes "SVID_NO_KEY") (codes "The trust domain has no key that fits alg and kid.") []
    ∷ row 123 (codes "SVID_BAD_SIGNATURE") (codes "No key among the first 3 that fit made the signature.") []
    ∷ row 124 (codes "SVID_WITHDRAWN") (codes "The token was withdrawn.") []
    ∷ row 125 (codes "SVID_REPLAYED") (codes "The token was accepted before, here or by a validator whose messages were taken.") []
    ∷ []

-- lists:end

-- every status
unfoldable pub statuses : List (ℕ × Texts)
statuses = calls ++ (formats ++ (keys ++ (folders ++ (members ++ refusals))))

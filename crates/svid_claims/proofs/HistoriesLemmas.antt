-- Histories that show what happens, and what is lost where a premise is missing.
use Rattle.std.proofs.Common.{refl}
use Rattle.svid_claims.specs.Histories.{HistoriesSay}

pub histories_say : HistoriesSay
histories_say = (
  record { first = refl; again = refl; other = refl; taken = refl; bound = refl },
  record { lost = refl; deaf = refl; later = refl; twice = refl; far = refl },
  record {
    margin_one = refl;
    margin_two = refl;
    owners = refl;
    withdrawn_late = refl;
    withdrawn_after = refl;
    withdrawn_far = refl;
    expiry_one = refl;
    expiry_two = refl;
  },
)

-- What a validator learns by reading the log, in terms of the log and of its earlier knowledge.
use Rattle.std.specs.Prelude.{◌≡◌, ◌⊎◌, ℕ, ◌<◌, ◌≤◌, true, false, List, slice_get, Some, IsTrue}
use Rattle.svid_replay.specs.declared.token_use.Use.{Use}
use Rattle.svid_replay.specs.Buckets.{raised_to}
use Rattle.svid_replay.specs.Sets.{holds}
use Rattle.svid_check.specs.Runs.{Terms}
use Rattle.svid_check.specs.Told.{Told}
use Rattle.svid_check.specs.World as check
use Rattle.svid_log.specs.Once.{AllGone}
use Rattle.svid_log.specs.Steps.{is_early}
use Rattle.svid_group.specs.World.{Event, Read, World, happen, happens, judges, start}

-- validator v reads the next use of the log at this time, and that is neither early nor expired
pub record ReadsTimely (group : ℕ → Terms) (w : World) (v now : ℕ) (c : Use) : Type 0 where
  pub next : slice_get w.log (w.asides v).read ≡ Some c
  pub timely : is_early (raised_to (w.group.members v).held now) (check.far group v now) c ≡ false
  pub sound : c.at < c.exp
  pub live : (judges group w v now c).moment < c.exp

-- each use of a key that was learned has expired by a moment
abbrev pub IsToldGone : Told → List ℕ → ℕ → Type 0
IsToldGone x key moment = (u : Use) → IsTrue (holds x.uses u) → u.key ≡ key → u.exp ≤ moment

-- what validator v has learned after it read the next use
abbrev pub told_after : (ℕ → Terms) → World → (v now : ℕ) → Told
told_after group w v now = ((happens group w (Read v now false)).group.members v).told

-- a read tells a withdrawal
abbrev pub ReadsTellWithdrawals : Type 0
ReadsTellWithdrawals = (group : ℕ → Terms) (events : List Event) (v now : ℕ) (c : Use)
    → let w = happen group start events in
    ReadsTimely group w v now c → c.withdrawn ≡ true → IsTrue (holds (told_after group w v now).uses c)

-- it learns a claim if each use of its key that it has learned, or that is before it in the log, has expired
abbrev pub ReadsTellFirstClaims : Type 0
ReadsTellFirstClaims = (group : ℕ → Terms) (events : List Event) (v now : ℕ) (c : Use)
    → let w = happen group start events in
    let moment = (judges group w v now c).moment in
    ReadsTimely group w v now c → c.withdrawn ≡ false → IsToldGone (w.group.members v).told c.key moment → AllGone w.log (w.asides v).read c.key moment
    → IsTrue (holds (told_after group w v now).uses c)

-- and it learns no use but the one that it reads, if that is timely: a withdrawal, or a claim for which each use of its key that it has
-- learned has expired
abbrev pub ReadsTellNothingElse : Type 0
ReadsTellNothingElse = (group : ℕ → Terms) (events : List Event) (v now : ℕ) (c u : Use)
    → let w = happen group start events in
    let x = w.group.members v in
    slice_get w.log (w.asides v).read ≡ Some c → IsTrue (holds (told_after group w v now).uses u)
    → IsTrue (holds x.told.uses u)
    ⊎ ((u ≡ c) × ReadsTimely group w v now c × ((c.withdrawn ≡ true) ⊎ IsToldGone x.told c.key (judges group w v now c).moment))

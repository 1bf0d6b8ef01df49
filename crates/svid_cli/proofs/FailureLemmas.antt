-- Two texts that a writer takes, one after the other.
use Rattle.std.proofs.Common.{◌≡◌, ℕ, List, [], ◌∷◌, ◌++◌, Option, Result, Ok, Err, OnOk, subst, append_assoc}
use Rattle.std.specs.Io.KnownBytes.{Appends}
use Rattle.std.proofs.KnownBytes.{Appends-trans}

-- the second one, where its write succeeds
pub told_both : {T E : Type 0} (a b c : Option (List ℕ)) (one two : List ℕ) (r : Result T E) → Appends a b one → OnOk r (Appends b c two) → OnOk r (Appends a c (one ++ two))
told_both a b c one two (Ok x) first second = Appends-trans a b c one two first second
told_both a b c one two (Err e) first second = second

-- the same where the first one is a line
pub told_behind : {T E : Type 0} (a b c : Option (List ℕ)) (line rest : List ℕ) (r : Result T E) → Appends a b (line ++ 10 ∷ []) → OnOk r (Appends b c rest) → OnOk r (Appends a c (line ++ 10 ∷ rest))
told_behind a b c line rest (Ok x) first second = subst (Appends a c) (append_assoc line (10 ∷ []) rest) (Appends-trans a b c (line ++ 10 ∷ []) rest first second)
told_behind a b c line rest (Err e) first second = second

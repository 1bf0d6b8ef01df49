use Rattle.svid_keys.proofs.KeyLemmas.{IsKey-from_kept, kept_key-IsKey}
use Rattle.svid_keys.proofs.laws.kept_entries_are_keys.Goals as goal

pub returns : goal.returns
returns c = λ name entry key. (IsKey-from_kept name entry key, kept_key-IsKey name entry key)

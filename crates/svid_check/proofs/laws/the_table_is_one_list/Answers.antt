use Rattle.std.proofs.Common.{Option, Some, ◌++◌, ap, ◌∙◌}
use Rattle.svid_token.specs.Compact.{Parts, compact_rows}
use Rattle.svid_check.specs.Said.{Said, rows_if_three, said_of}
use Rattle.svid_check.specs.Verdict.{rows_if_said, setting_rows}
use Rattle.svid_check.proofs.laws.the_table_is_one_list.Goals as goal

pub returns : goal.returns
returns c s moment uses token p t is_parts is_said =
    ap (λ (o : Option Parts). (compact_rows token ++ rows_if_three o) ++ rows_if_said (setting_rows s moment uses) (said_of token)) is_parts
    ∙ ap (λ (o : Option Said). (compact_rows token ++ rows_if_three (Some p)) ++ rows_if_said (setting_rows s moment uses) o) is_said

use Rattle.std.proofs.Common.{◌≡◌, ◌≢◌, ℕ, ◌+◌, ◌-◌, ◌^◌, ◌<◌, ◌≤◌, List, [], Option, None, length, inl, inr, refl, sym, ap, subst, arith, ◌∙◌}
use Rattle.svid_keys.specs.Bundles.{Bundle}
use Rattle.svid_keys.specs.Lines.{lines_of}
use Rattle.svid_keys.specs.Question.{question_of}
use Rattle.svid_keys.specs.Table.{is_among, questions_in, table_fault, table_says}
use Rattle.svid_replay.specs.Parts.{join_all}
use Rattle.svid_replay.specs.Records.{State, state_of}
use Rattle.std.proofs.Math.Nat.{le-min}
use Rattle.std.specs.Io.KnownBytes.{Appends}
use Rattle.svid_wire.specs.Faults.{raised}
use Rattle.svid_wire.specs.Streams.{Drawn, IsRead, TookAll}
use Rattle.svid_check.specs.Setting.{Says}
use Rattle.svid_lines.specs.Bundles.{AreBundlesRead, IsBundlesFault}
use Rattle.svid_lines.specs.Check.{CheckInputs, CheckOutputs, IsCheckFault, IsEarlier, IsEarlierFault, IsKept, IsOfInput, IsOneRefused, IsOutcome, IsTableFault, IsTableOf, IsUnkept, IsWanting, Outcome, behind_three, earlier_fault, outcome_from, setting_under}
use Rattle.svid_lines.specs.Checks.{tokens_of}
use Rattle.svid_share.specs.Inputs.{IsRefused, IsUnread, Sources, all_of, inputs_of, most_bytes}
use Rattle.svid_share.specs.Joined.{JoinsAll}
use Rattle.svid_share.proofs.InputsLemmas.{not_write}
use Rattle.svid_share.proofs.JoinedLemmas.{joined_from_nothing}
use Rattle.svid_lines.specs.declared.check.CheckSetting.{CheckSetting}
use Rattle.svid_share.specs.declared.tool_fault.ToolFault.{ToolFault}
use Rattle.svid_share.specs.declared.tool_fault.ToolFault.TheVariants as tool

-- a text without a fault is a table of its questions
pub table_of : (input : Drawn) (text : List ℕ) (table : List (List ℕ)) → IsRead input most_bytes text → table_fault text ≡ None → ((question : List ℕ) → is_among question table ≡ is_among question (questions_in text)) → IsTableOf input table
table_of input text table read good same = record { questions = questions_in text; read = record { text = text; read = read; good = good; are = refl }; same = same }

-- a new record to which all inputs were joined
pub begins_with : (inputs : List Drawn) (old new : State) → old ≡ state_of 0 [] → JoinsAll inputs old new → IsEarlier inputs new
begins_with inputs old new begun joins = record {
  told = joins.told;
  whole = joins.whole;
  is = joins.joins ∙ ap (λ r. join_all r (all_of joins.told)) begun ∙ joined_from_nothing (all_of joins.told);
}

-- the earlier records have other numbers than the inputs before them
pub numbered : (number before : ℕ) → number < 4 → behind_three (before + 1) ≡ number → ⊥
numbered number before few is =
    let below : 4 ≤ before + 1 + 3 = omega arith in
    let held : 4 ≤ 2 ^ 64 - 1 = omega arith in
    let past : 4 ≤ behind_three (before + 1) = le-min below held in
    let no : 4 ≤ number = subst (λ n. 4 ≤ n) is past in
    omega (arith, no, few)

of_input : {R : Type 0} (s : Sources R) (number : ℕ) (own : ToolFault) → number < 4 → IsRefused s own → IsOfInput number (earlier_fault own) → ⊥
of_input s number (tool.Wire input message offset reason) few why is = numbered number (length why.before) few (ap behind_three (sym why.why.0) ∙ is)
of_input s number (tool.Read input) few why is = numbered number (length why.before) few (ap behind_three (sym why.why.0) ∙ is)
of_input s number (tool.TooMuch input) few why is = numbered number (length why.before) few (ap behind_three (sym why.why.0) ∙ is)
of_input s number tool.NotSummary few why is = is
of_input s number (tool.Bundles fault) few why is = why.why
of_input s number (tool.Table line) few why is = why.why
of_input s number tool.Write few why is = is
of_input s number tool.OutOfMemory few why is = is

-- a fault of an earlier record is not one of the inputs before it
pub not_before : {R : Type 0} (s : Sources R) (number : ℕ) (fault : ToolFault) → number < 4 → IsEarlierFault s fault → IsOfInput number fault → ⊥
not_before s number fault few earlier is = of_input s number earlier.own few earlier.why (subst (IsOfInput number) earlier.is is)

-- a sink that took the whole text, and then keeps it
pub is_kept : (before mid after old kept : Option (List ℕ)) (s0 s1 s2 : ℕ) (text : List ℕ)
    → TookAll (record { told_before = before; told_after = mid; stops_before = s0; stops_after = s1 }) text → after ≡ mid → s2 ≡ s1 → kept ≡ after
    → IsKept (record { sink = record { told_before = before; told_after = after; stops_before = s0; stops_after = s2 }; kept_before = old; kept = kept }) text
is_kept before mid after old kept s0 s1 s2 text all same counts keeps = record {
  all = record { gained = subst (λ (t : Option (List ℕ)). Appends before t text) (sym same) all.gained; unstopped = counts ∙ all.unstopped };
  keeps = keeps;
}

-- a sink that took the whole text, and stopped when it had to keep it
pub is_unkept : (before mid after : Option (List ℕ)) (s0 s1 s2 : ℕ) (text : List ℕ)
    → TookAll (record { told_before = before; told_after = mid; stops_before = s0; stops_after = s1 }) text → after ≡ mid → s2 ≡ raised s1
    → IsUnkept (record { told_before = before; told_after = after; stops_before = s0; stops_after = s2 }) text
is_unkept before mid after s0 s1 s2 text all same counts = record {
  gained = subst (λ (t : Option (List ℕ)). Appends before t text) (sym same) all.gained;
  stopped = counts ∙ ap raised all.unstopped;
}

-- tables with the same questions, in any order and any number of times, give the same answers
pub same_says : (table questions : List (List ℕ)) → ((question : List ℕ) → is_among question table ≡ is_among question questions) → table_says table ≡ table_says questions
same_says table questions same = λ i key alg input signature. same (question_of key alg input signature) i

-- the outcome of the checks is what is due to the inputs
pub comes_to : {R : Type 0} (given : CheckSetting) (inputs : CheckInputs R) (bundles : List Bundle) (table : List (List ℕ)) (tokens : List ℕ) (earlier : State) (outcome : Outcome)
    → AreBundlesRead inputs.bundles bundles → IsTableOf inputs.table table → IsRead inputs.tokens most_bytes tokens → IsEarlier (inputs_of inputs.earlier) earlier
    → outcome ≡ outcome_from (setting_under given bundles (table_says table)) given.now earlier (tokens_of (lines_of tokens))
    → IsOutcome given inputs outcome
comes_to given inputs bundles table tokens earlier outcome first second third fourth is = record {
  said = record { bundles = bundles; questions = second.questions; tokens = tokens; earlier = earlier };
  read = record { bundles = first; table = second.read; tokens = third; earlier = fourth };
  is = is ∙ ap (λ (says : Says). outcome_from (setting_under given bundles says) given.now earlier (tokens_of (lines_of tokens))) (same_says table second.questions second.same);
}

pub first_refused : {R : Type 0} (inputs : CheckInputs R) (fault : ToolFault) → IsBundlesFault inputs.bundles fault → IsOneRefused inputs fault
first_refused inputs fault why = inl why

pub second_refused : {R : Type 0} (inputs : CheckInputs R) (fault : ToolFault) (bundles : List Bundle) → AreBundlesRead inputs.bundles bundles → IsTableFault inputs.table fault → IsOneRefused inputs fault
second_refused inputs fault bundles first why = inr (inl (record { bundles = bundles; first = first; why = why }))

pub third_refused : {R : Type 0} (inputs : CheckInputs R) (fault : ToolFault) (bundles : List Bundle) (table : List (List ℕ)) → AreBundlesRead inputs.bundles bundles → IsTableOf inputs.table table → IsUnread 3 inputs.tokens fault → IsOneRefused inputs fault
third_refused inputs fault bundles table first second why = inr (inr (inl (record { bundles = bundles; questions = second.questions; first = first; second = second.read; why = why })))

pub fourth_refused : {R : Type 0} (inputs : CheckInputs R) (fault : ToolFault) (bundles : List Bundle) (table : List (List ℕ)) (tokens : List ℕ) → AreBundlesRead inputs.bundles bundles → IsTableOf inputs.table table → IsRead inputs.tokens most_bytes tokens → IsEarlierFault inputs.earlier fault → IsOneRefused inputs fault
fourth_refused inputs fault bundles table tokens first second third why = inr (inr (inr (record { bundles = bundles; questions = second.questions; tokens = tokens; first = first; second = second.read; third = third; why = why })))

-- memory was refused for the bundles
pub first_wants : {R : Type 0} (inputs : CheckInputs R) (table_kept tokens_kept earlier_kept : Type 0) (fault : ToolFault)
    → IsBundlesFault inputs.bundles fault → table_kept → tokens_kept → earlier_kept → fault ≡ tool.OutOfMemory → IsWanting inputs table_kept tokens_kept earlier_kept
first_wants inputs table_kept tokens_kept earlier_kept fault why table tokens earlier is = inl (subst (IsBundlesFault inputs.bundles) is why, table, tokens, earlier)

-- memory was refused for the table
pub second_wants : {R : Type 0} (inputs : CheckInputs R) (table_kept tokens_kept earlier_kept : Type 0) (fault : ToolFault) (bundles : List Bundle)
    → AreBundlesRead inputs.bundles bundles → IsTableFault inputs.table fault → tokens_kept → earlier_kept → fault ≡ tool.OutOfMemory → IsWanting inputs table_kept tokens_kept earlier_kept
second_wants inputs table_kept tokens_kept earlier_kept fault bundles first why tokens earlier is = inr (inl (record { bundles = bundles; first = first; why = subst (IsTableFault inputs.table) is why }, tokens, earlier))

-- memory was refused for the tokens
pub third_wants : {R : Type 0} (inputs : CheckInputs R) (table_kept tokens_kept earlier_kept : Type 0) (fault : ToolFault) (bundles : List Bundle) (table : List (List ℕ))
    → AreBundlesRead inputs.bundles bundles → IsTableOf inputs.table table → IsUnread 3 inputs.tokens fault → earlier_kept → fault ≡ tool.OutOfMemory → IsWanting inputs table_kept tokens_kept earlier_kept
third_wants inputs table_kept tokens_kept earlier_kept fault bundles table first second why earlier is = inr (inr (inl (record { bundles = bundles; questions = second.questions; first = first; second = second.read; why = subst (IsUnread 3 inputs.tokens) is why }, earlier)))

-- memory was refused for the earlier records
pub fourth_wants : {R : Type 0} (inputs : CheckInputs R) (table_kept tokens_kept earlier_kept : Type 0) (fault : ToolFault) (bundles : List Bundle) (table : List (List ℕ)) (tokens : List ℕ)
    → AreBundlesRead inputs.bundles bundles → IsTableOf inputs.table table → IsRead inputs.tokens most_bytes tokens → IsEarlierFault inputs.earlier fault → fault ≡ tool.OutOfMemory → IsWanting inputs table_kept tokens_kept earlier_kept
fourth_wants inputs table_kept tokens_kept earlier_kept fault bundles table tokens first second third why is = inr (inr (inr (inl (record { bundles = bundles; questions = second.questions; tokens = tokens; first = first; second = second.read; third = third; why = subst (IsEarlierFault inputs.earlier) is why }))))

-- memory was refused for the checks
pub checks_want : {R : Type 0} (inputs : CheckInputs R) (table_kept tokens_kept earlier_kept : Type 0) (bundles : List Bundle) (table : List (List ℕ)) (tokens : List ℕ) (earlier : State)
    → AreBundlesRead inputs.bundles bundles → IsTableOf inputs.table table → IsRead inputs.tokens most_bytes tokens → IsEarlier (inputs_of inputs.earlier) earlier → IsWanting inputs table_kept tokens_kept earlier_kept
checks_want inputs table_kept tokens_kept earlier_kept bundles table tokens earlier first second third fourth = inr (inr (inr (inr (record {
  said = record { bundles = bundles; questions = second.questions; tokens = tokens; earlier = earlier };
  read = record { bundles = first; table = second.read; tokens = third; earlier = fourth };
}))))

own_not_write : {R : Type 0} (s : Sources R) (own : ToolFault) → IsRefused s own → tool.Write ≡ earlier_fault own → ⊥
own_not_write s (tool.Wire input message offset reason) why is = cc
own_not_write s (tool.Read input) why is = cc
own_not_write s (tool.TooMuch input) why is = cc
own_not_write s tool.NotSummary why is = cc
own_not_write s (tool.Bundles fault) why is = cc
own_not_write s (tool.Table line) why is = cc
own_not_write s tool.Write why is = why.why
own_not_write s tool.OutOfMemory why is = cc

earlier_not_write : {R : Type 0} (s : Sources R) → IsEarlierFault s tool.Write → ⊥
earlier_not_write s fault = own_not_write s fault.own fault.why fault.is

-- no input is refused with the fault of a write
no_write : {R : Type 0} (inputs : CheckInputs R) → IsOneRefused inputs tool.Write → ⊥
no_write inputs (inl first) = not_write 1 inputs.bundles first
no_write inputs (inr (inl second)) = not_write 2 inputs.table second.why
no_write inputs (inr (inr (inl third))) = not_write 3 inputs.tokens third.why
no_write inputs (inr (inr (inr fourth))) = earlier_not_write inputs.earlier fourth.why

-- the run gives up for its inputs
pub inputs_refused : {R : Type 0} (given : CheckSetting) (inputs : CheckInputs R) (outputs : CheckOutputs) (fault : ToolFault) → (fault ≢ tool.OutOfMemory → IsOneRefused inputs fault) → IsCheckFault given inputs outputs fault
inputs_refused given inputs outputs tool.Write why = absurd (no_write inputs (why (λ is. cc)))
inputs_refused given inputs outputs tool.OutOfMemory why = tt
inputs_refused given inputs outputs _ why = why (λ is. cc)

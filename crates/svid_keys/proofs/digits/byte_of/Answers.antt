use Rattle.std.proofs.Common.{sym, ◌∙◌}
use Rattle.svid_keys.proofs.DigitsLemmas.{byte_read, no_high, no_low}
use Rattle.svid_keys.proofs.digits.byte_of.Goals as goal

pub returns-in_err-high : goal.returns-in_err-high
returns-in_err-high c i =
    c.from_residual.ensures ∙ sym (no_high c.args.high c.args.low i (sym c.digit.ensures.value ∙ c.in_err-high.was))

pub returns-in_err-low : goal.returns-in_err-low
returns-in_err-low c i =
    c.from_residual-in_err-low.ensures ∙ sym (no_low c.args.high c.args.low i (sym c.digit-2.ensures.value ∙ c.in_err-low.was))

pub returns : goal.returns
returns c i =
    sym (byte_read c.args.high c.args.low _ _ i (sym c.digit.ensures.value ∙ c.in_ok-high.was) (sym c.digit-2.ensures.value ∙ c.in_ok-low.was))

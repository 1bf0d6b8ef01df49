use Rattle.std.proofs.Common.{◌*◌, [], arith, ap, refl, sym, ◌∙◌}
use Rattle.std.proofs.lemmas.List.{length-set}
use Rattle.std.specs.Result.{result_ok}
use Rattle.hex.proofs.Pairs.{decode_done, decode_err, decode_sized-pairs, decode_start, decode_step}
use Rattle.svid_keys.proofs.DigitsLemmas.{other_length, was_err, was_ok}
use Rattle.svid_keys.proofs.digits.question_in.Goals as goal

pub returns-then-line-ne64 : goal.returns-then-line-ne64
returns-then-line-ne64 c = sym (other_length _ c.if-line-ne64.true)

pub bytes-init : goal.bytes-init
bytes-init c = (refl, decode_start c.args.line.now [])

pub returns-in_err-question : goal.returns-in_err-question
returns-in_err-question c =
    let read = was_err _ (sym c.in_err-question.was ∙ c.byte_of.ensures (2 * c.bytes.i)) in
    let refused = decode_sized-pairs c.args.line.now 32 (omega arith) (omega arith)
    ∙ decode_err _ c.bytes.question c.bytes.i read.0 (omega arith) read.1 c.bytes.invariant.1 in
    c.from_residual.ensures ∙ sym (ap result_ok refused)

pub bytes-preserved : goal.bytes-preserved
bytes-preserved c =
    let read = was_ok _ _ (sym c.in_ok-question.was ∙ c.byte_of.ensures (2 * c.bytes.i)) in
    (length-set _ _ _ ∙ c.bytes.invariant.0, decode_step _ _ c.bytes.i _ (omega arith) (omega arith) read c.bytes.invariant.1)

pub returns : goal.returns
returns c =
    let whole = decode_sized-pairs c.args.line.now 32 (omega arith) (omega arith)
    ∙ decode_done _ c.bytes.question c.bytes.i (omega arith) (omega arith) c.bytes.invariant.1 in
    sym (ap result_ok whole)

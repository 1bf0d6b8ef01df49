use Rattle.svid_c.proofs.NamesLemmas.{is_piece, one_more, piece_fault, taken_apart}
use Rattle.svid_c.proofs.names.cut.Goals as goal

pub returns-in-Err-clause-fault : goal.returns-in-Err-clause-fault
returns-in-Err-clause-fault c =
    let piece = c.split_at.result.0.now in let behind = c.split_at.result.1.now in
    piece_fault c.args.text.now c.args.lens.now piece c.in-Err.fault c.requires
    (is_piece c.args.text.now c.args.lens.now _ c.loop-len.rest.now piece behind c.loop-len.len-index 0 c.loop-len-test.true c.loop-len.invariant
    (taken_apart c.loop-len.rest.now piece behind _ c.split_at.ensures.front c.split_at.ensures.back) c.split_at.ensures.front_len)
    c.in-Err.ensures.fault

pub loop-len-preserved : goal.loop-len-preserved
loop-len-preserved c =
    let piece = c.split_at.result.0.now in let behind = c.split_at.result.1.now in
    one_more c.args.text.now c.args.lens.now _ _ c.loop-len.rest.now piece behind c.loop-len.len-index 0 c.loop-len-test.true c.loop-len.invariant
    (taken_apart c.loop-len.rest.now piece behind _ c.split_at.ensures.front c.split_at.ensures.back) c.split_at.ensures.front_len
    c.in_default.ensures.name c.in_default.ensures.added

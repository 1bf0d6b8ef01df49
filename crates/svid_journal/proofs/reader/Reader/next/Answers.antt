use Rattle.std.proofs.Common.{◌≡◌, ◌+◌, arith, sym, ◌∙◌}
use Rattle.svid_journal.specs.declared.reader.Reader.{Reader}
use Rattle.svid_journal.specs.Reading.{GoesOn}
use Rattle.svid_journal.proofs.ReadingLemmas.{read_one}
use Rattle.svid_journal.proofs.reader.Reader.next.Goals as goal

pub returns-in-Some-clause-reads : goal.returns-in-Some-clause-reads
returns-in-Some-clause-reads c payloads rest h =
    let old = c.args.self.now in
    let new : Reader = record { count = old.count + 1; at = old.at + c.frame_len.result; marked = c.is_empty-self.result } in
    let on : GoesOn c.args.title.now old new c.args.bytes.now c.in-Some.payload.now = record {
      fit = (omega arith, omega arith);
      behind = c.in-Some.field-0-1.now;
      bears = c.in-Some.ensures.found.1;
      stands = sym c.split_at.ensures.back ∙ c.in-Some.ensures.found.0;
      moved = λ i. record {
        count = (let same : old.count + 1 ≡ 1 + old.count = omega arith in same) i;
        at = old.at + c.frame_len.ensures.value i;
        marked = c.is_empty-self.ensures i;
      };
    } in
    (on.behind, read_one old new c.args.title.now c.args.bytes.now c.in-Some.payload.now payloads rest on h)

use Rattle.std.proofs.Common.{refl, rules}
use Rattle.svid_c.specs.Judged.{judges_nobody, judges_request, refuses_request}
use Rattle.svid_c.proofs.peer.Peer.judge.Goals as goal

pub returns-then-allows : goal.returns-then-allows
returns-then-allows c = judges_request c.judge-asked.result c.judge-asked.new.self (search rules) (search rules, search rules) c.tell_answer.ensures c.deed_seen.ensures refl

pub returns-then-awaits : goal.returns-then-awaits
returns-then-awaits c = refuses_request (search rules) (search rules) (record {
  answer = c.judge_read-answer.result;
  deed = c.refuse.result;
  m = c.refuse.new.self;
  judged = search rules;
  hears = search rules;
  status_is = search rules;
  told_is = search rules;
  room_is = search rules;
  record_is = search rules;
  leaves = refl;
})

pub returns : goal.returns
returns c = judges_nobody (search rules) (search rules) (record { status_is = search rules; told_is = search rules; room_is = search rules; record_is = refl; leaves = refl })

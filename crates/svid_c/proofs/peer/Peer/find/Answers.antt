use Rattle.std.proofs.Common.{refl, rules}
use Rattle.svid_c.specs.Judged.{finds_nobody, finds_request, refuses_claim}
use Rattle.svid_c.proofs.LiveLemmas.{holds_none, holds_one}
use Rattle.svid_c.proofs.peer.Peer.find.Goals as goal

pub returns-then-allows : goal.returns-then-allows
returns-then-allows c = finds_request c.found-claimed.result c.found-claimed.new.self (search rules) (search rules, search rules) c.tell_claim.ensures c.deed_seen.ensures refl

pub returns-then-awaits_claim : goal.returns-then-awaits_claim
returns-then-awaits_claim c =
    let one = holds_one _ c.if-awaits_claim.ensures in
    refuses_claim one.0 (search rules) (search (rules, one.1)) (record {
      answer = c.judge_read-answer.result;
      deed = c.refuse_claim.result;
      m = c.refuse_claim.new.self;
      judged = search rules;
      hears = search rules;
      status_is = search rules;
      told_is = search rules;
      room_is = search rules;
      record_is = search rules;
      leaves = refl;
    })

pub returns : goal.returns
returns c =
    let none = holds_none _ c.if-awaits_claim.ensures in
    finds_nobody (search rules) (search (rules, none)) (record { status_is = search rules; told_is = search rules; room_is = search rules; record_is = refl; leaves = refl })

use Rattle.std.proofs.Common.{refl, arith}
use Rattle.svid_bearer.proofs.ScanLemmas.{cut-steps, found-Carries, none-Carries}
use Rattle.svid_bearer.proofs.bearer.Bearer.read.Goals as goal

pub returns-in_default : goal.returns-in_default
returns-in_default c =
    let value = c.args.value.now in
    let scheme = c.split_at-2.result.0.now in
    let rest = c.split_at-2.result.1.now in
    let cut = cut-steps value c.split_at.result.1.now scheme rest c.blanks.result c.word.result c.blanks.ensures.count c.split_at.ensures.back c.word.ensures.count c.split_at-2.ensures.front c.split_at-2.ensures.back in
    let (is, none) = none-Carries value scheme rest cut (c.if-not-is_bearer.ensures.0 refl) c.in_default.ensures in
    (omega arith, is, none)

pub returns-then-token-gt-MAX_TOKEN : goal.returns-then-token-gt-MAX_TOKEN
returns-then-token-gt-MAX_TOKEN c =
    let value = c.args.value.now in
    let scheme = c.split_at-2.result.0.now in
    let rest = c.split_at-2.result.1.now in
    let cut = cut-steps value c.split_at.result.1.now scheme rest c.blanks.result c.word.result c.blanks.ensures.count c.split_at.ensures.back c.word.ensures.count c.split_at-2.ensures.front c.split_at-2.ensures.back in
    (omega arith, (_, c.in-Some.token.now, found-Carries value scheme rest c.in-Some.token.now _ cut (c.if-not-is_bearer.ensures.0 refl) c.in-Some.ensures.0 c.in-Some.ensures.1 refl, omega arith))

pub returns : goal.returns
returns c =
    let value = c.args.value.now in
    let scheme = c.split_at-2.result.0.now in
    let rest = c.split_at-2.result.1.now in
    let cut = cut-steps value c.split_at.result.1.now scheme rest c.blanks.result c.word.result c.blanks.ensures.count c.split_at.ensures.back c.word.ensures.count c.split_at-2.ensures.front c.split_at-2.ensures.back in
    (omega arith, found-Carries value scheme rest c.in-Some.token.now _ cut (c.if-not-is_bearer.ensures.0 refl) c.in-Some.ensures.0 c.in-Some.ensures.1 (rw c.spaces.ensures.count refl), omega arith)

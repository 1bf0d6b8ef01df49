use Rattle.std.proofs.Common.{Some, None}
use Rattle.std.proofs.lemmas.Bool.Decides.{Decides-eqb}
use Rattle.std.proofs.lemmas.Slice.Eq.{strip_prefix_is}
use Rattle.svid_allow.proofs.AllowsLemmas.{goes_answer}
use Rattle.svid_allow.proofs.text.goes_on.Goals as goal

pub returns-in-Some : goal.returns-in-Some
returns-in-Some c =
    let cut = strip_prefix_is Decides-eqb c.args.path.now c.args.above.now (Some c.in-Some.rest) c.in-Some.ensures.cases in
    goes_answer c.starts_with.result _ _ _ _ c.as_slice.ensures cut c.starts_with.ensures.value

pub returns-in-None : goal.returns-in-None
returns-in-None c =
    let other = strip_prefix_is Decides-eqb c.args.path.now c.args.above.now None c.in-None.ensures.cases in
    (λ holds. absurd (cc), λ (tail, is). absurd (other _ is))

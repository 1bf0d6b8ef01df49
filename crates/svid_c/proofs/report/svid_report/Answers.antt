use Rattle.std.proofs.Common.{refl, subst, sym}
use Rattle.svid_share.specs.Report.{report_of}
use Rattle.svid_c.specs.Joined.{IsTextOf}
use Rattle.svid_c.specs.Written.{refused, written}
use Rattle.svid_c.proofs.report.svid_report.Goals as goal

pub returns-in-Ok : goal.returns-in-Ok
returns-in-Ok c = written _ (subst (IsTextOf report_of c.args.messages.now c.args.now) (sym c.bytes.ensures) c.in-Ok.ensures.ok) c.put.ensures.put c.put.ensures.told

pub returns-in-Err : goal.returns-in-Err
returns-in-Err c = refused _ c.in-Err.ensures.fault c.refuse.ensures.number c.refuse.ensures.told refl

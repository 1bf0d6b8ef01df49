use Rattle.std.proofs.Common.{refl}
use Rattle.svid_journal.specs.declared.reader.Next.TheVariants.{Payload, End, Tear, Damage, Other, Unfit}
use Rattle.svid_c.specs.Journal.{reads}
use Rattle.svid_c.proofs.JournalLemmas.{read_as, stands}
use Rattle.svid_c.proofs.journal_read.svid_journal_read.Goals as goal

pub returns-in-Payload : goal.returns-in-Payload
returns-in-Payload c =
    let next = read_as (Payload c.in-Payload.payload) _ _ _ _ c.next.new.self c.args.bytes.now c.title_of.ensures c.reader_in-read.ensures c.in-Payload.ensures.next in
    reads (Payload c.in-Payload.payload) c.next.new.self next refl c.reader_out.ensures refl (stands _ _ _ _ _ next)

pub returns-in-End : goal.returns-in-End
returns-in-End c = reads End c.next.new.self (read_as End _ _ _ _ c.next.new.self c.args.bytes.now c.title_of.ensures c.reader_in-read.ensures c.in-End.ensures.next) refl refl refl tt

pub returns-in-Tear : goal.returns-in-Tear
returns-in-Tear c = reads Tear c.next.new.self (read_as Tear _ _ _ _ c.next.new.self c.args.bytes.now c.title_of.ensures c.reader_in-read.ensures c.in-Tear.ensures.next) refl refl refl tt

pub returns-in-Damage : goal.returns-in-Damage
returns-in-Damage c = reads Damage c.next.new.self (read_as Damage _ _ _ _ c.next.new.self c.args.bytes.now c.title_of.ensures c.reader_in-read.ensures c.in-Damage.ensures.next) refl refl refl tt

pub returns-in-Other : goal.returns-in-Other
returns-in-Other c = reads (Other c.in-Other.format) c.next.new.self (read_as (Other c.in-Other.format) _ _ _ _ c.next.new.self c.args.bytes.now c.title_of.ensures c.reader_in-read.ensures c.in-Other.ensures.next) refl refl refl tt

pub returns-in-Unfit : goal.returns-in-Unfit
returns-in-Unfit c = reads Unfit c.next.new.self (read_as Unfit _ _ _ _ c.next.new.self c.args.bytes.now c.title_of.ensures c.reader_in-read.ensures c.in-Unfit.ensures.next) refl refl refl tt

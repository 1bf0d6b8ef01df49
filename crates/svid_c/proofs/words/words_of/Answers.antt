use Rattle.std.proofs.Common.{◌≡◌, ap}
use Rattle.svid_c.specs.Statuses.{calls, folders, formats, keys, members, refusals, statuses}
use Rattle.svid_c.specs.Texts.{Shown, seen, shown, texts_of}
use Rattle.svid_c.proofs.TextsLemmas.{last, one_more}
use Rattle.svid_c.proofs.words.words_of.Goals as goal

-- what is answered is what stands in the first table that has the number
same : (c : goal.After-row_in) → seen c.row_in.result.now ≡ shown (texts_of c.args.number)
unfolding texts_of statuses
same c =
    let in_refusals = last c.args.number _ _ _ refusals c.row_in-in_refusals.ensures c.refusals.ensures c.none.ensures in
    let in_members = one_more c.args.number _ _ _ members _ c.row_in-in_members.ensures c.members.ensures in_refusals in
    let in_folders = one_more c.args.number _ _ _ folders _ c.row_in-in_folders.ensures c.folders.ensures in_members in
    let in_keys = one_more c.args.number _ _ _ keys _ c.row_in-in_keys.ensures c.keys.ensures in_folders in
    let in_formats = one_more c.args.number _ _ _ formats _ c.row_in-in_formats.ensures c.formats.ensures in_keys in
    one_more c.args.number _ _ _ calls _ c.row_in.ensures c.calls.ensures in_formats

pub returns-clause-name : goal.returns-clause-name
returns-clause-name c = ap (λ (s : Shown). s.name) (same c)

pub returns-clause-sentence : goal.returns-clause-sentence
returns-clause-sentence c = ap (λ (s : Shown). s.sentence) (same c)

pub returns-clause-says : goal.returns-clause-says
returns-clause-says c = ap (λ (s : Shown). s.says_len) (same c)

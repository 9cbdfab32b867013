use Rattle.std.proofs.Common.{◌≡◌, List, ap, sym, subst, ◌∙◌}
use Rattle.std.specs.Prelude.{slice_get}
use Rattle.block.specs.EncodedEntry.{Entry}
use Rattle.table.specs.EntriesFrom.{entries_from}
use Rattle.table.specs.EntryTests.{HaveKeys}
use Rattle.table.proofs.Walks.{keys_from}
use Rattle.scan.proofs.Giving.{gives_from, handed}
use Rattle.scan.proofs.Others.{other_handed}
use Rattle.scan.proofs.block_search.first_in_block.Goals as goal

pub returns-in_err-entries-clause-given : goal.returns-in_err-entries-clause-given
returns-in_err-entries-clause-given g c entries block keys some = handed c.from_residual.result c.in_err-entries.field-0.0 _ c.from_residual.ensures.1 (c.in_err-entries.ensures.given entries block keys some)

pub returns-in_err-entries-clause-other : goal.returns-in_err-entries-clause-other
returns-in_err-entries-clause-other g c = other_handed c.from_residual.result c.in_err-entries.field-0.0 c.from_residual.ensures.1 c.in_err-entries.ensures.other

pub returns-clause-given : goal.returns-clause-given
returns-clause-given g c entries block keys some =
    let cmp = g.C.Comparator.cmp in
    let t = c.args.target.bytes.now in
    let ahead = c.in_ok-entries.ensures.given entries block keys some in
    let left : List Entry = c.in_ok-entries.entries in
    gives_from c.first_of.result (λ found. found ≡ slice_get left 0) (λ found. found ≡ slice_get (entries_from cmp t entries) 0) (λ found is. is ∙ ap (λ (es : List Entry). slice_get es 0) ahead)
    (c.first_of.ensures.given (subst HaveKeys (sym ahead) (keys_from cmp t entries keys)))

use Rattle.std.proofs.Common.{ap, sym, ◌∙◌}
use Rattle.block.specs.EncodedEntry.{Entry}
use Rattle.table.specs.Key.{user_of}
use Rattle.reads.proofs.ByteTests.{bytes_differ, bytes_same}
use Rattle.scan.proofs.UserEntries.{none_found, other_found, own_found}
use Rattle.scan.proofs.file_search.of_user.Goals as goal

pub returns-in_default : goal.returns-in_default
returns-in_default g c es rising is =
    none_found g.C.Comparator.cmp g.met.C.Comparator.total g.met.C.Comparator.exact c.args.target.bytes.now c.requires es rising (sym c.in_default.is ∙ is)

pub returns-then-ne : goal.returns-then-ne
returns-then-ne g c es rising is =
    other_found g.C.Comparator.cmp g.met.C.Comparator.total g.met.C.Comparator.exact c.args.target.bytes.now c.requires es rising c.in-Some.entry (sym c.in-Some.is ∙ is)
    (λ own. bytes_differ _ _ c.ne.result c.ne.ensures c.if-ne.true (c.user.ensures ∙ ap user_of (c.as_key.ensures ∙ ap (λ (e : Entry). e.key) c.entry.view_is) ∙ own ∙ sym c.user-2.ensures))

pub returns : goal.returns
returns g c es rising is =
    own_found g.C.Comparator.cmp g.met.C.Comparator.total g.met.C.Comparator.exact c.args.target.bytes.now c.requires es rising c.in-Some.entry (sym c.in-Some.is ∙ is)
    (sym (c.user.ensures ∙ ap user_of (c.as_key.ensures ∙ ap (λ (e : Entry). e.key) c.entry.view_is)) ∙ bytes_same _ _ c.ne.result c.ne.ensures c.if-ne.false ∙ c.user-2.ensures)

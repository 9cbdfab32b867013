use Rattle.std.proofs.Common.{◌≡◌, List, ℕ, Err, sym, ◌∙◌, ap, get_or}
use Rattle.std.specs.Ordering.{is_lt}
use Rattle.std.proofs.lemmas.Cmp.{is_lt_index}
use Rattle.coding.proofs.Binds.{done}
use Rattle.ikey.specs.Order.{internal_cmp}
use Rattle.table.proofs.EntryTests.{key_same}
use Rattle.table.proofs.Searches.{none_at, key_there, key_reads}
use Rattle.table.proofs.block_walk.restart_is_below.Goals as goal

pub returns-in_default : goal.returns-in_default
returns-in_default g c = sym (none_at g.C.Comparator.cmp c.args.target.bytes.now c.args.block.now.entries (get_or c.args.block.now.restarts c.args.restart 0) (sym c.in_default.ensures))

pub unreachable-requires : goal.unreachable-requires
unreachable-requires g c =
    let place : ℕ = get_or c.args.block.now.restarts c.args.restart 0 in
    let no : Err c.in-Err.field-0 ≡ done c.in-Some.key.now = c.in-Err.ensures.reading ∙ key_reads c.args.block.now.entries place c.in-Some.key.now c.requires.keys (sym c.in-Some.ensures) in
    absurd cc

pub returns : goal.returns
returns g c =
    let cmp = g.C.Comparator.cmp in
    let target = c.args.target.bytes.now in
    let place : ℕ = get_or c.args.block.now.restarts c.args.restart 0 in
    let own : c.in-Ok.key.bytes.now ≡ c.in-Some.key.now = sym (key_same c.in-Some.key.now c.in-Ok.key.bytes.now (sym c.in-Ok.ensures.reading)) in
    c.eq.ensures
    ∙ sym (is_lt_index c.compare.result)
    ∙ ap is_lt c.compare.ensures.order
    ∙ ap (λ (k : List ℕ). is_lt (internal_cmp cmp k target)) own
    ∙ key_there cmp target c.args.block.now.entries place c.in-Some.key.now (sym c.in-Some.ensures)

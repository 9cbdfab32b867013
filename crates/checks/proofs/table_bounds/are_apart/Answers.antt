use Rattle.std.proofs.Common.{sym, ◌∙◌}
use Rattle.checks.specs.TableBounds.{AreCheckedEntries}
use Rattle.checks.proofs.BoundsLemmas.{by_back, by_front, by_sequences}
use Rattle.checks.proofs.table_bounds.are_apart.Goals as goal

pub returns-then-is_later : goal.returns-then-is_later
returns-then-is_later g c told =
    let cmp = g.C.Comparator.cmp in
    let newer = c.args.newer.now.entries in
    let older = c.args.older.now.entries in
    let one : AreCheckedEntries cmp newer = record { keys = c.tally-counted.ensures.keys; rising = c.tally-counted.ensures.rising } in
    let two : AreCheckedEntries cmp older = record { keys = c.tally-others.ensures.keys; rising = c.tally-others.ensures.rising } in
    by_sequences cmp g.met.C.Comparator.total newer older one two c.tally-counted.result c.tally-others.result c.tally-counted.ensures.tally c.tally-others.ensures.tally (sym c.is_later.ensures ∙ c.if-is_later.true)

pub returns-then-ends_before : goal.returns-then-ends_before
returns-then-ends_before g c told =
    let cmp = g.C.Comparator.cmp in
    let newer = c.args.newer.now.entries in
    let older = c.args.older.now.entries in
    let one : AreCheckedEntries cmp newer = record { keys = c.tally-counted.ensures.keys; rising = c.tally-counted.ensures.rising } in
    let two : AreCheckedEntries cmp older = record { keys = c.tally-others.ensures.keys; rising = c.tally-others.ensures.rising } in
    by_front cmp g.met.C.Comparator.total newer older one two (sym c.ends_before.ensures ∙ c.if-ends_before.true)

pub returns : goal.returns
returns g c told =
    let cmp = g.C.Comparator.cmp in
    let newer = c.args.newer.now.entries in
    let older = c.args.older.now.entries in
    let one : AreCheckedEntries cmp newer = record { keys = c.tally-counted.ensures.keys; rising = c.tally-counted.ensures.rising } in
    let two : AreCheckedEntries cmp older = record { keys = c.tally-others.ensures.keys; rising = c.tally-others.ensures.rising } in
    by_back cmp g.met.C.Comparator.total newer older one two (sym c.ends_before-2.ensures ∙ told)

use Rattle.std.proofs.Common.{[], refl}
use Rattle.table.specs.Table.{index_keys}
use Rattle.table.specs.BuilderState.{entries_so_far}
use Rattle.table.proofs.Builds.{IsBuilt-nil}
use Rattle.table.proofs.builder.TableBuilder.new.Goals as goal

pub invariant_of-result : goal.invariant_of-result
invariant_of-result g c =
    rw (c.new.ensures.items, c.new-2.ensures.items, c.new-3.ensures, c.new-4.ensures)
    (([], IsBuilt-nil (index_keys g.C.Comparator.cmp g.C.Comparator.short_keys) c.args.options c.args.options.restart_interval c.requires refl), refl)

pub returns : goal.returns
unfolding entries_so_far
returns g c = rw (c.new.ensures.items, c.new-2.ensures.items, c.new-3.ensures) refl

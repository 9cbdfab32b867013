use Rattle.std.proofs.Common.{◌≡◌, List, true, map, sym, subst, ◌∙◌}
use Rattle.std.specs.Prelude.{◌↔◌, IfOk}
use Rattle.std.proofs.lemmas.List.{map-id}
use Rattle.table.specs.EncodedEntry.{Entry}
use Rattle.ikey.proofs.Binds.{ok_is}
use Rattle.merge.specs.MergedLists.{entries_of_lists}
use Rattle.split.specs.Ranges.{key_range, IsIn}
use Rattle.reads.specs.TableOrder.{AreFallingIn}
use Rattle.reads.proofs.entries_walk.falls_in.Goals as goal

pub returns-clause-falls : goal.returns-clause-falls
returns-clause-falls g c =
    let same : c.in_ok-merging.merging ≡ c.args.cursors.items = sym (ok_is (map (λ (es : List Entry). es) c.args.cursors.items) c.in_ok-merging.merging c.in_ok-merging.ensures) ∙ map-id c.args.cursors.items in
    subst (λ (lists : List (List Entry)). IfOk c.is_falling.result (λ falls. (falls ≡ true) ↔ AreFallingIn (IsIn g.C.Comparator.cmp (key_range c.args.range)) (entries_of_lists lists))) same c.is_falling.ensures.falls

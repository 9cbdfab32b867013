use Rattle.std.proofs.Common.{true, false, fold, eq-eqb, ne_eqb, ap, ◌∙◌}
use Rattle.edit.specs.FilePlaces.{numbered_files}
use Rattle.edit.specs.Version.{are_new, with_file}
use Rattle.edit.proofs.Added.{new_by_count, values_are, some_files, no_files}
use Rattle.edit.proofs.Places.{by_number_is, counted, count_before, length_after, placed_after, is_placed_after}
use Rattle.edit.proofs.files.Files.with_all.Goals as goal

pub invariant_of-result : goal.invariant_of-result
invariant_of-result c =
    let files = c.self.inside.files.items in
    let ps = c.self.inside.places.entries in
    let all = c.in_ok-files.files.items in
    let qs = c.insert_all.new.places.entries in
    let after = counted files ps c.args.added.items c.deref.result.now qs c.len-3.result (c.len-3.ensures ∙ c.self.inside.files.ok.0) c.deref.ensures.value c.in_ok-insert_all.ensures.ok in
    let whole = placed_after files ps c.args.added.items all qs c.self.invariant c.in_ok-files.ensures.ok after in
    let new = new_by_count (numbered_files files ps) (numbered_files all qs) c.args.self c.args.added.items c.len.result c.len-2.result c.len-4.result true (by_number_is files ps c.self.invariant) c.self.view_is whole
    (c.len.ensures.len ∙ count_before files ps c.self.invariant) (c.len-2.ensures ∙ c.args.added.ok.0) (c.len-4.ensures.len ∙ length_after files ps c.args.added.items all qs c.self.invariant c.in_ok-files.ensures.ok after) (eq-eqb _ _ c.if-len-wanted.true) in
    is_placed_after files ps c.args.added.items all qs c.self.invariant c.in_ok-files.ensures.ok after (ap (λ fs. are_new fs c.args.added.items) c.self.view_is ∙ new)

pub returns-then-len-wanted : goal.returns-then-len-wanted
returns-then-len-wanted c =
    let files = c.self.inside.files.items in
    let ps = c.self.inside.places.entries in
    let all = c.in_ok-files.files.items in
    let qs = c.insert_all.new.places.entries in
    let after = counted files ps c.args.added.items c.deref.result.now qs c.len-3.result (c.len-3.ensures ∙ c.self.inside.files.ok.0) c.deref.ensures.value c.in_ok-insert_all.ensures.ok in
    let whole = placed_after files ps c.args.added.items all qs c.self.invariant c.in_ok-files.ensures.ok after in
    let new = new_by_count (numbered_files files ps) (numbered_files all qs) c.args.self c.args.added.items c.len.result c.len-2.result c.len-4.result true (by_number_is files ps c.self.invariant) c.self.view_is whole
    (c.len.ensures.len ∙ count_before files ps c.self.invariant) (c.len-2.ensures ∙ c.args.added.ok.0) (c.len-4.ensures.len ∙ length_after files ps c.args.added.items all qs c.self.invariant c.in_ok-files.ensures.ok after) (eq-eqb _ _ c.if-len-wanted.true) in
    some_files (are_new c.args.self c.args.added.items) (fold with_file c.args.self c.args.added.items) _ new
    (values_are (numbered_files files ps) (numbered_files all qs) c.args.self c.args.added.items (by_number_is files ps c.self.invariant) c.self.view_is whole new)

pub returns-else-len-wanted : goal.returns-else-len-wanted
returns-else-len-wanted c =
    let files = c.self.inside.files.items in
    let ps = c.self.inside.places.entries in
    let all = c.in_ok-files.files.items in
    let qs = c.insert_all.new.places.entries in
    let after = counted files ps c.args.added.items c.deref.result.now qs c.len-3.result (c.len-3.ensures ∙ c.self.inside.files.ok.0) c.deref.ensures.value c.in_ok-insert_all.ensures.ok in
    let whole = placed_after files ps c.args.added.items all qs c.self.invariant c.in_ok-files.ensures.ok after in
    no_files (are_new c.args.self c.args.added.items) (fold with_file c.args.self c.args.added.items)
    (new_by_count (numbered_files files ps) (numbered_files all qs) c.args.self c.args.added.items c.len.result c.len-2.result c.len-4.result false (by_number_is files ps c.self.invariant) c.self.view_is whole
    (c.len.ensures.len ∙ count_before files ps c.self.invariant) (c.len-2.ensures ∙ c.args.added.ok.0) (c.len-4.ensures.len ∙ length_after files ps c.args.added.items all qs c.self.invariant c.in_ok-files.ensures.ok after) (ne_eqb _ _ c.if-len-wanted.false))

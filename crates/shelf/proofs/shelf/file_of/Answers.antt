use Rattle.std.proofs.Common.{◌≡◌, ◌∙◌, sym, rules, get_or, true, false}
use Rattle.std.specs.Str.{bytes_eq}
use Rattle.shelf.proofs.ShelfLemmas.{found_here, found_later, no_file}
use Rattle.shelf.proofs.shelf.file_of.Goals as goal

pub returns-then-eq : goal.returns-then-eq
returns-then-eq c =
    let file = get_or c.args.files.now c.loop-file.file-index no_file in
    let is : bytes_eq c.args.name.now file.0.now ≡ true = search rules in
    sym (found_here c.args.files.now c.loop-file.file-index c.args.name.now c.loop-file-test.true is) ∙ c.loop-file.invariant

pub loop-file-preserved : goal.loop-file-preserved
loop-file-preserved c =
    let file = get_or c.args.files.now c.loop-file.file-index no_file in
    let differs : bytes_eq c.args.name.now file.0.now ≡ false = search rules in
    sym (found_later c.args.files.now c.loop-file.file-index c.args.name.now c.loop-file-test.true differs) ∙ c.loop-file.invariant

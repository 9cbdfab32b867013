use Rattle.std.proofs.Common.{Bor, List, ◌++◌, ap, sym, ◌∙◌, arith}
use Rattle.std.proofs.lemmas.List.{take_all}
use Rattle.edit.proofs.Binds.{ok_is}
use Rattle.edit.specs.declared.meta.FileMeta.{FileMeta}
use Rattle.pick.proofs.Lists.{lent, pushed_more}
use Rattle.pick.proofs.file_copies.push_copies.Goals as goal

pub loop-file-preserved : goal.loop-file-preserved
loop-file-preserved c =
    let file = c.file-item.result in
    pushed_more (λ (f : Bor FileMeta). f.now) c.args.copies.now.items c.loop-file.copies.items c.push.new.self.items c.in_ok-copy.field-0 c.args.files.now c.loop-file.file-index file c.loop-file-test.true c.file-item.is
    c.in_ok-push.ensures.items c.loop-file.invariant (sym (ok_is file.now c.in_ok-copy.field-0 c.in_ok-copy.ensures))

pub returns-clause-ok : goal.returns-clause-ok
returns-clause-ok c =
    let copies : List (Bor FileMeta) → List FileMeta = λ fs. c.args.copies.now.items ++ lent fs in
    c.loop-file.invariant ∙ ap copies (take_all c.loop-file.file-index c.args.files.now (omega arith))

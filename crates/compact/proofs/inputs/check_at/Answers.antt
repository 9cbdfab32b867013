use Rattle.std.proofs.Common.{List, Result, subst}
use Rattle.ikey.specs.Answers.{EqualOrMemory}
use Rattle.ikey.specs.fault.Fault.{Fault}
use Rattle.table.specs.EncodedEntry.{Entry}
use Rattle.compact.proofs.InputAnswers.{answer_is}
use Rattle.compact.proofs.inputs.check_at.Goals as goal

pub returns : goal.returns
returns g c =
    λ answer at. subst (λ (a : Result (List Entry) Fault). EqualOrMemory (λ t. t.entries) c.check_input.result a)
    (answer_is g.C.Comparator.cmp c.args.files.now (λ t. t.now) c.args.tables.now c.args.job c.index-files-place.result _ answer c.requires.files c.requires.tables c.index-files-place.is at)
    c.check_input.ensures

use Rattle.std.proofs.Common.{List, Ok, subst}
use Rattle.ikey.specs.Answers.{EqualOrMemory}
use Rattle.pick.specs.PickedInputs.{picked_in}
use Rattle.c_api.specs.Merges.{AskedMerge, asked_in}
use Rattle.c_api.specs.Requests.{picked_with}
use Rattle.c_api.specs.declared.file.File.{File}
use Rattle.c_api.proofs.Merging.{context_seen, files_lent}
use Rattle.c_api.proofs.range_run.inputs_of.Goals as goal

pub picked_with-requires : goal.picked_with-requires
picked_with-requires g c = files_lent (asked_in c.args.lent.now) c.requires.lent c.args.files.now c.requires.files

pub returns : goal.returns
returns g c =
    let m : AskedMerge = asked_in c.args.lent.now in
    context_seen g.C.Comparator.cmp m c.in_ok-any.any c.picked_with.result
    (subst (λ (fs : List File). EqualOrMemory picked_in c.picked_with.result (Ok (picked_with g.C.Comparator.cmp m.keys m.request.level fs m.deeper c.in_ok-any.any))) c.requires.files c.picked_with.ensures)

use Rattle.std.proofs.Common.{◌≡◌, List, take, refl, subst, arith}
use Rattle.std.specs.List.{All}
use Rattle.std.proofs.lemmas.List.{take_all}
use Rattle.std.proofs.lemmas.List.Elements.{All-more}
use Rattle.reads.specs.declared.level_file.LevelFile.{LevelFile}
use Rattle.reads.specs.FileChecks.{IsStatedFile}
use Rattle.reads.proofs.lawfulness.are_as_stated.Goals as goal

pub loop-file-preserved : goal.loop-file-preserved
loop-file-preserved g c =
    let P : LevelFile → Type 0 = λ f. IsStatedFile g.C.Comparator.cmp c.args.tables.now c.args.next f.meta.now in
    let own : P c.file-item.result = c.is_as_stated.ensures.0 c.if-not-is_as_stated.false in
    All-more P c.args.files.now c.loop-file.file-index c.file-item.result c.loop-file-test.true c.loop-file.invariant (subst P c.file-item.is own)

pub returns : goal.returns
returns g c =
    let P : LevelFile → Type 0 = λ f. IsStatedFile g.C.Comparator.cmp c.args.tables.now c.args.next f.meta.now in
    let all : take c.loop-file.file-index c.args.files.now ≡ c.args.files.now = take_all c.loop-file.file-index c.args.files.now (omega arith) in
    (λ e. subst (λ (fs : List LevelFile). All P fs) all c.loop-file.invariant, λ h. refl)

use Rattle.std.proofs.Common.{Bor, ◌≡◌, List, take, refl, subst, arith}
use Rattle.std.specs.List.{All}
use Rattle.std.proofs.lemmas.List.{take_all}
use Rattle.std.proofs.lemmas.List.Elements.{All-more}
use Rattle.folder.specs.meta.FileMeta.{FileMeta}
use Rattle.reads.specs.Lawful.{IsBelowNextFile}
use Rattle.store.proofs.version_files.are_below.Goals as goal

pub loop-file-preserved : goal.loop-file-preserved
loop-file-preserved c =
    let P : Bor FileMeta → Type 0 = λ f. IsBelowNextFile c.args.next f.now.number in
    let own : P c.file-item.result = c.is_below.ensures.below.0 c.if-not-is_below.false in
    All-more P c.args.files.now c.loop-file.file-index c.file-item.result c.loop-file-test.true c.loop-file.invariant (subst P c.file-item.is own)

pub returns : goal.returns
returns c =
    let P : Bor FileMeta → Type 0 = λ f. IsBelowNextFile c.args.next f.now.number in
    let all : take c.loop-file.file-index c.args.files.now ≡ c.args.files.now = take_all c.loop-file.file-index c.args.files.now (omega arith) in
    (λ e. subst (λ (fs : List (Bor FileMeta)). All P fs) all c.loop-file.invariant, λ h. refl)

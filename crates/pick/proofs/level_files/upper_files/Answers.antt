use Rattle.std.proofs.Common.{Bor, Vec, Global, List, Ok, sym, ap, subst, ◌∙◌, ◌≡◌, arith}
use Rattle.std.specs.List.{filter}
use Rattle.std.specs.Option.{option_copied}
use Rattle.edit.specs.Answers.{EqualOrMemory}
use Rattle.edit.proofs.Binds.{ok_is}
use Rattle.edit.specs.Version.{pointer_of}
use Rattle.edit.specs.VersionOrder.{level_files}
use Rattle.edit.specs.declared.meta.FileMeta.{FileMeta}
use Rattle.pick.specs.Boundaries.{largest_key}
use Rattle.pick.specs.ChosenFiles.{first_file}
use Rattle.pick.specs.Choices.{is_chosen, boundary_pass, IsGrown}
use Rattle.pick.specs.declared.choice.Choice.{Choice}
use Rattle.pick.proofs.Lists.{lent}
use Rattle.pick.proofs.ChosenInputs.{upper_one, upper_around, upper_none}
use Rattle.pick.proofs.level_files.upper_files.Goals as goal
use Rattle.pick.proofs.level_files.upper_files.Goals.{in-0, in_default-level}

pub returns-in_default : goal.returns-in_default
returns-in_default g c =
    let cmp = g.C.Comparator.cmp in
    let v = c.args.version.now in
    let items = c.in_ok-files.files.items in
    let same = sym (ok_is (level_files cmp v c.args.level) (lent items) c.in_ok-files.ensures.ordered) in
    let pointed : option_copied c.pointer.result ≡ pointer_of v c.args.level = cc in
    let found : option_copied c.first_file.result ≡ first_file cmp (pointer_of v c.args.level) (lent items) =
    c.first_file.ensures ∙ ap (λ o. first_file cmp o (lent c.deref.result.now)) pointed ∙ ap (λ (fs : List (Bor FileMeta)). first_file cmp (pointer_of v c.args.level) (lent fs)) c.deref.ensures.value in
    upper_none cmp g.met.C.Comparator.total v c.args.level c.in_ok-files.ensures.state.apart (lent items) same (sym found ∙ ap option_copied c.in_default.is)

pub returns : goal.returns
returns g c =
    let cmp = g.C.Comparator.cmp in
    let v = c.args.version.now in
    let items = c.in_ok-files.files.items in
    let same = sym (ok_is (level_files cmp v c.args.level) (lent items) c.in_ok-files.ensures.ordered) in
    let pointed : option_copied c.pointer.result ≡ pointer_of v c.args.level = cc in
    let found : option_copied c.first_file.result ≡ first_file cmp (pointer_of v c.args.level) (lent items) =
    c.first_file.ensures ∙ ap (λ o. first_file cmp o (lent c.deref.result.now)) pointed ∙ ap (λ (fs : List (Bor FileMeta)). first_file cmp (pointer_of v c.args.level) (lent fs)) c.deref.ensures.value in
    let is_first = sym found ∙ ap option_copied c.in-Some.is in
    let view = λ (fs : Vec (Bor FileMeta) Global). lent fs.items in
    let given = λ (choice : Choice) (fs : List (Bor FileMeta)). EqualOrMemory view c.with_boundaries.result (Ok (boundary_pass cmp (is_chosen cmp choice) (largest_key cmp (filter (is_chosen cmp choice) (lent fs))) (lent fs))) in
    let gives = λ (choice : Choice) (e : c.match-level.choice ≡ choice). subst (given choice) c.deref-2.ensures.value (subst (λ (choice : Choice). given choice c.deref-2.result.now) e c.with_boundaries.ensures) in
    elim c.match-level.branch [
      | in-0 w ↦ upper_around cmp g.met.C.Comparator.total v c.args.level c.in_ok-files.ensures.state.apart view c.with_boundaries.result (lent items) c.in-Some.first.now w.grown_range.result.smallest.now w.grown_range.result.largest.now same is_first w.in-0.is
          (subst (λ (fs : List (Bor FileMeta)). IsGrown cmp (lent fs) c.in-Some.first.now w.grown_range.result.smallest.now w.grown_range.result.largest.now) w.deref-in-0.ensures.value w.grown_range.ensures) (gives _ w.choice-is)
      | in_default-level w ↦ upper_one cmp g.met.C.Comparator.total v c.args.level c.in_ok-files.ensures.state.apart view c.with_boundaries.result (lent items) c.in-Some.first.now same is_first (λ zeroth. omega arith) (gives _ w.choice-is)
    ]

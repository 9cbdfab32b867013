use Rattle.std.proofs.Common.{List, Result, Ok, ◌≡◌, ◌+◌, ◌++◌, ◌∷◌, [], ℕ, false, drop, sym, ap, subst, ◌∙◌, append-nil}
use Rattle.std.specs.List.{filter}
use Rattle.std.specs.Ordering.{is_le}
use Rattle.edit.specs.Key.{user_of}
use Rattle.edit.specs.fault.Fault.{Fault}
use Rattle.edit.specs.declared.meta.FileMeta.{FileMeta}
use Rattle.pick.specs.Choices.{is_in}
use Rattle.pick.specs.FileRanges.{AreByStart}
use Rattle.pick.specs.Ranges.{is_at_most}
use Rattle.pick.proofs.Lists.{lent}
use Rattle.pick.proofs.PartRanges.{step_rest}
use Rattle.pick.proofs.Starts.{later_too, none_in}
use Rattle.pick.proofs.file_ranges.files_in.Goals as goal

abbrev metas : List FileMeta → Result (List FileMeta) Fault
metas files = Ok files

pub returns-then-not-is_le : goal.returns-then-not-is_le
returns-then-not-is_le g c =
    let cmp = g.C.Comparator.cmp in
    let total = g.met.C.Comparator.total in
    let files = c.args.files.now in
    let k = c.loop-file.file-index in
    let file = c.file-item.result in
    let range = c.args.range in
    let rest : lent (drop k files) ≡ file.now ∷ lent (drop (k + 1) files) = ap lent (step_rest files k file c.loop-file-test.true c.file-item.is) in
    let order : AreByStart cmp (file.now ∷ lent (drop (k + 1) files)) = subst (AreByStart cmp) rest (later_too cmp total files k c.requires) in
    let user : user_of file.now.smallest ≡ c.user.result.now = ap user_of (sym c.as_key.ensures) ∙ sym c.user.ensures in
    let behind : is_at_most cmp (user_of file.now.smallest) range.largest.now ≡ false =
    ap (λ (u : List ℕ). is_at_most cmp u range.largest.now) user ∙ ap is_le (sym c.compare.ensures) ∙ sym c.is_le.ensures ∙ c.if-not-is_le.true in
    let none : filter (is_in cmp range) (lent (drop k files)) ≡ [] = ap (filter (is_in cmp range)) rest ∙ none_in cmp total range.smallest.now range.largest.now file.now (lent (drop (k + 1) files)) order behind in
    ap metas (sym c.loop-file.invariant ∙ ap (λ (fs : List FileMeta). lent c.loop-file.found.items ++ fs) none ∙ append-nil (lent c.loop-file.found.items))

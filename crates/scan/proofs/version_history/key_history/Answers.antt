use Rattle.std.proofs.Common.{List, map, rules, sym, subst, arith}
use Rattle.std.specs.Ordering.{is_lt, nat_cmp}
use Rattle.std.proofs.lemmas.List.Sorted.{answers_always}
use Rattle.reads.specs.FileList.{AreAll, level_file_in}
use Rattle.reads.specs.declared.level_file.LevelFile.{LevelFile}
use Rattle.table.specs.Key.{sequence_of}
use Rattle.scan.specs.KeyHistory.{AreHistory}
use Rattle.scan.specs.declared.placed_entry.PlacedEntry.{PlacedEntry}
use Rattle.scan.proofs.Giving.{handed}
use Rattle.scan.proofs.KeyHistories.{falls, lent_stated, long_history, placed_of_all, sorted_history}
use Rattle.scan.proofs.version_history.key_history.Goals as goal

pub returns-then-key-gt-MAX_USER_KEY-clause-given : goal.returns-then-key-gt-MAX_USER_KEY-clause-given
returns-then-key-gt-MAX_USER_KEY-clause-given g c tables held stated =
    let user = c.args.key.now in
    let files = c.args.version.now.files in
    subst (λ (found : List PlacedEntry). AreHistory user tables files found) (sym c.new.ensures.items) (long_history user tables g.C.Comparator.cmp files (omega arith) stated)

pub returns-in_err-found-clause-given : goal.returns-in_err-found-clause-given
returns-in_err-found-clause-given g c tables held stated =
    let here = subst (λ (fs : List LevelFile). AreAll c.args.version.now.files (map level_file_in fs)) (sym c.deref.ensures.value) c.in_ok-files.ensures.all in
    handed c.from_residual-in_err-found.result c.in_err-found.field-0.0 _ c.from_residual-in_err-found.ensures.1
    (c.in_err-found.ensures.given tables held (lent_stated c.args.key.now tables g.C.Comparator.cmp c.args.version.now.files c.deref.result.now here stated) here.distinct)

pub returns-clause-given : goal.returns-clause-given
returns-clause-given g c tables held stated =
    let user = c.args.key.now in
    let files = c.args.version.now.files in
    let here = subst (λ (fs : List LevelFile). AreAll files (map level_file_in fs)) (sym c.deref.ensures.value) c.in_ok-files.ensures.all in
    let is = c.in_ok-found.ensures.given tables held (lent_stated user tables g.C.Comparator.cmp files c.deref.result.now here stated) here.distinct in
    let up = c.sort_unstable_by.ensures.sorted (λ (a b : PlacedEntry). is_lt (nat_cmp (sequence_of b.entry.key) (sequence_of a.entry.key))) falls (answers_always _ _ _ (λ f a r k h. search rules)) in
    sorted_history user tables files c.in_ok-found.found.items c.sort_unstable_by.new.self.items (placed_of_all user tables files (map level_file_in c.deref.result.now) c.in_ok-found.found.items here is.0) is.1 c.sort_unstable_by.ensures.permutation up

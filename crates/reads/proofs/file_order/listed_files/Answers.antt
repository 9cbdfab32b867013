use Rattle.std.proofs.Common.{List, map, rules, subst}
use Rattle.std.specs.List.Sorted.{IsPermutation}
use Rattle.std.specs.Ordering.{is_lt}
use Rattle.std.proofs.lemmas.List.Sorted.{IsPermutation-map, answers_always, ranks_by}
use Rattle.edit.specs.declared.meta.NewFile.{NewFile}
use Rattle.reads.specs.declared.level_file.LevelFile.{LevelFile}
use Rattle.reads.specs.FileChecks.{newest_first_cmp}
use Rattle.reads.specs.FileList.{level_file_in}
use Rattle.reads.proofs.Apart.{listed_again}
use Rattle.reads.proofs.FileOrder.{newest_first_cmp-total}
use Rattle.reads.proofs.file_order.listed_files.Goals as goal

pub returns-clause-listed : goal.returns-clause-listed
returns-clause-listed g c = record {
  all = listed_again c.args.version.now.files c.in_ok-files.files.items c.sort_unstable_by.new.self.items c.sort_unstable_by.ensures.permutation c.in_ok-files.ensures.all;
  sorted = c.sort_unstable_by.ensures.sorted (λ (f g' : LevelFile). is_lt (newest_first_cmp g.C.Comparator.cmp (level_file_in f) (level_file_in g'))) (ranks_by (newest_first_cmp-total g.met.C.Comparator.total) level_file_in) (answers_always _ _ _ (λ f a r k h. search rules));
}

pub returns-clause-permutation : goal.returns-clause-permutation
returns-clause-permutation g c =
    subst (λ (fs : List NewFile). IsPermutation fs (map level_file_in c.sort_unstable_by.new.self.items)) c.in_ok-files.ensures.order (IsPermutation-map level_file_in c.in_ok-files.files.items c.sort_unstable_by.new.self.items c.sort_unstable_by.ensures.permutation)

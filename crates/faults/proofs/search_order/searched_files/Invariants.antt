use Rattle.std.proofs.Common.{◌≡◌, map, take}
use Rattle.faults.specs.Findings.{found_in, is_deep_found, is_top_found, metas_found}
use Rattle.faults.proofs.search_order.searched_files.Given as goal

abbrev pub invariant-loop-file : goal.invariant-loop-file
invariant-loop-file l = record {
  top : map (λ f. f.now) l.files.items ≡ metas_found is_top_found (map found_in (take l.file-index l.tested));
  deep : map (λ f. f.now) l.deep.items ≡ metas_found is_deep_found (map found_in (take l.file-index l.tested));
}

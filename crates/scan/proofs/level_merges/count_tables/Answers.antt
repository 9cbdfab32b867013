use Rattle.std.proofs.Common.{◌≡◌, ℕ, suc, List, [], ◌∷◌, drop, length, map, refl, sym, ap, subst, ◌∙◌}
use Rattle.std.proofs.lemmas.List.{length-map}
use Rattle.std.proofs.lemmas.Result.{on_ok_weaker}
use Rattle.table.proofs.Binds.{ok_is}
use Rattle.block.specs.EncodedEntry.{Entry}
use Rattle.folder.proofs.LoadingLemmas.{map_fused}
use Rattle.merge.specs.MergedLists.{entries_of_lists, merged, sorted_entries}
use Rattle.reads.specs.Ranges.{key_range}
use Rattle.merge.specs.InRange.{entries_in}
use Rattle.scan.specs.Counts.{AreAmountsCounted}
use Rattle.scan.specs.ListParts.{in_parts}
use Rattle.scan.proofs.SortedCounts.{sorted_counted}
use Rattle.scan.proofs.level_merges.count_tables.Goals as goal

number_of_parts : {X : Type 0} (ns : List ℕ) (xs : List X) → length (in_parts ns xs) ≡ length ns
number_of_parts [] xs = refl
number_of_parts (n ∷ ns) xs = ap suc (number_of_parts ns (drop n xs))

pub returns-clause-counted : goal.returns-clause-counted
returns-clause-counted g c =
    let cmp = g.C.Comparator.cmp in
    let range = key_range c.args.range in
    let own : List (List Entry) → List Entry = λ lists. entries_in cmp range (entries_of_lists lists) in
    let merges : List (List (List Entry)) = c.in_ok-merges.merges.items in
    let parts : List (List (List Entry)) = in_parts (map (λ files. length files.items) c.args.levels.now) (map (λ t. t.now.entries) c.args.tables.now) in
    let are : c.in_ok-merging.merging ≡ map (merged cmp) merges = sym (ok_is _ _ c.in_ok-merging.ensures) in
    let lists : map (entries_in cmp range) c.in_ok-merging.merging ≡ map (sorted_entries cmp) (map own parts) =
    ap (map (entries_in cmp range)) are ∙ sym (map_fused (merged cmp) (entries_in cmp range) merges) ∙ c.in_ok-merges.ensures.merges ∙ map_fused own (sorted_entries cmp) parts in
    on_ok_weaker c.count_merged.result (λ counts. sorted_counted cmp c.args.last (map own parts) c.args.amounts.now c.count_merged.new.amounts (subst (λ (ls : List (List Entry)). AreAmountsCounted c.args.last ls c.args.amounts.now c.count_merged.new.amounts) lists counts)) c.count_merged.ensures.counted

pub count_merged-requires : goal.count_merged-requires
count_merged-requires g c =
    let cmp = g.C.Comparator.cmp in
    let range = key_range c.args.range in
    let merges : List (List (List Entry)) = c.in_ok-merges.merges.items in
    let are : c.in_ok-merging.merging ≡ map (merged cmp) merges = sym (ok_is _ _ c.in_ok-merging.ensures) in
    λ k. (
      (refl, tt),
      c.requires.number
          ∙ sym (length-map c.args.levels.now (λ files. length files.items))
          ∙ sym (number_of_parts (map (λ files. length files.items) c.args.levels.now) (map (λ t. t.now.entries) c.args.tables.now))
          ∙ sym (length-map _ _)
          ∙ sym (ap length c.in_ok-merges.ensures.merges)
          ∙ length-map merges _
          ∙ sym (length-map merges (merged cmp))
          ∙ sym (ap length are),
    )

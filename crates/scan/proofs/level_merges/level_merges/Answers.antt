use Rattle.std.proofs.Common.{Bor, Vec, Global, ◌≡◌, ◌<◌, ◌≤◌, ◌+◌, ℕ, zero, suc, List, [], ◌∷◌, ◌++◌, drop, get_or, length, map, refl, sym, take, ap, ◌∙◌, arith}
use Rattle.std.specs.List.{sum_by}
use Rattle.std.proofs.lemmas.List.{append-nil, get_or-map, length-map}
use Rattle.std.proofs.lemmas.List.Sums.{sum_by-drop_more}
use Rattle.block.specs.EncodedEntry.{Entry}
use Rattle.folder.specs.meta.FileMeta.{FileMeta}
use Rattle.merge.specs.MergedLists.{entries_of_lists, merged, sorted_entries}
use Rattle.reads.specs.Ranges.{key_range}
use Rattle.merge.specs.InRange.{entries_in}
use Rattle.scan.specs.ListParts.{in_parts}
use Rattle.scan.proofs.LevelParts.{made_more, parts_more}
use Rattle.scan.proofs.LevelTables.{sizes_of}
use Rattle.scan.proofs.level_merges.level_merges.Goals as goal

abbrev size : Vec (Bor FileMeta) Global → ℕ
size files = length files.items

fits : (start number rest whole all : ℕ) → start + whole ≡ all → whole ≡ number + rest → start + number ≤ all
fits start number rest whole all is parts = omega (arith, is, parts)

left_more : (start number rest whole all : ℕ) → start + whole ≡ all → whole ≡ number + rest → (start + number) + rest ≡ all
left_more start number rest whole all is parts = omega (arith, is, parts)

-- the tables that are left are those of this level and of the others
parts : (levels : List (Vec (Bor FileMeta) Global)) (i : ℕ) (files : Vec (Bor FileMeta) Global) (number : ℕ) → i < length levels → files ≡ get_or levels i files → number ≡ length files.items → sum_by size (drop i levels) ≡ number + sum_by size (drop (i + 1) levels)
parts levels i files number lt is counted =
    sum_by-drop_more size levels i files lt ∙ ap (λ (f : Vec (Bor FileMeta) Global). size f + sum_by size (drop (i + 1) levels)) (sym is) ∙ ap (λ (n : ℕ). n + sum_by size (drop (i + 1) levels)) (sym counted)

size_at : (levels : List (Vec (Bor FileMeta) Global)) (i : ℕ) (files : Vec (Bor FileMeta) Global) (number : ℕ) → i < length levels → files ≡ get_or levels i files → number ≡ length files.items → get_or (sizes_of levels) i 0 ≡ number
size_at levels i files number lt is counted = get_or-map size levels i files 0 lt ∙ ap size (sym is) ∙ sym counted

-- none are left after the last level
ended : (ns : List ℕ) (i : ℕ) → length ns ≤ i → drop i ns ≡ []
ended [] zero le = refl
ended [] (suc i) le = refl
ended (n ∷ ns) zero le = absurd (omega (arith, le))
ended (n ∷ ns) (suc i) le = ended ns i (omega (arith, le))

pub loop-files-init : goal.loop-files-init
loop-files-init g c =
    let cmp = g.C.Comparator.cmp in
    let range = key_range c.args.range in
    record {
      left = omega (arith, c.requires);
      all = ap
          (λ (ms : List (List (List Entry))). map (λ (lists : List (List Entry)). entries_in cmp range (merged cmp lists)) ms
          ++ map (λ (lists : List (List Entry)). sorted_entries cmp (entries_in cmp range (entries_of_lists lists))) (in_parts (sizes_of c.args.levels.now) (map (λ t. t.now.entries) c.args.tables.now)))
          c.in_ok-merges.ensures.items;
    }

pub tables_at-own-requires : goal.tables_at-own-requires
tables_at-own-requires g c =
    let levels = c.args.levels.now in
    let i : ℕ = c.loop-files.files-index in
    let number : ℕ = c.number_of-number.result in
    let counted : number ≡ length c.files-item.result.items = c.number_of-number.ensures ∙ ap length c.deref.ensures.value in
    fits c.loop-files.start number _ _ _ c.loop-files.invariant.left (parts levels i c.files-item.result number c.loop-files-test.true c.files-item.is counted)

pub loop-files-preserved : goal.loop-files-preserved
loop-files-preserved g c =
    let cmp = g.C.Comparator.cmp in
    let range = key_range c.args.range in
    let levels = c.args.levels.now in
    let tables = c.args.tables.now in
    let i : ℕ = c.loop-files.files-index in
    let start : ℕ = c.loop-files.start in
    let number : ℕ = c.number_of-number.result in
    let counted : number ≡ length c.files-item.result.items = c.number_of-number.ensures ∙ ap length c.deref.ensures.value in
    let made : List (List (List Entry)) = c.loop-files.merges.items in
    let one : List (List Entry) = c.in_ok-level_merge.field-0 in
    let own : List (List Entry) → List Entry = λ lists. sorted_entries cmp (entries_in cmp range (entries_of_lists lists)) in
    let all : List (List (List Entry)) → List (List Entry) = λ ms. map (λ (lists : List (List Entry)). entries_in cmp range (merged cmp lists)) ms ++ map own (in_parts (drop (i + 1) (sizes_of levels)) (map (λ t. t.now.entries) (drop (start + number) tables))) in
    record {
      left = left_more start number _ _ _ c.loop-files.invariant.left (parts levels i c.files-item.result number c.loop-files-test.true c.files-item.is counted);
      all = ap all c.in_ok-push.ensures.items
          ∙ made_more (λ (lists : List (List Entry)). entries_in cmp range (merged cmp lists)) own made one (map (λ t. t.now.entries) (take number (drop start tables))) _ _ _
          (c.in_ok-level_merge.ensures.merge ∙ ap (λ ts. own (map (λ t. t.now.entries) ts)) c.tables_at-own.ensures)
          (parts_more (λ t. t.now.entries) (sizes_of levels) tables start i number (omega (arith, c.loop-files-test.true, length-map levels size)) (size_at levels i c.files-item.result number c.loop-files-test.true c.files-item.is counted))
          c.loop-files.invariant.all;
    }

pub returns-clause-merges : goal.returns-clause-merges
returns-clause-merges g c =
    let cmp = g.C.Comparator.cmp in
    let range = key_range c.args.range in
    let levels = c.args.levels.now in
    let i : ℕ = c.loop-files.files-index in
    let made : List (List Entry) = map (λ (lists : List (List Entry)). entries_in cmp range (merged cmp lists)) c.loop-files.merges.items in
    let own : List (List Entry) → List Entry = λ lists. sorted_entries cmp (entries_in cmp range (entries_of_lists lists)) in
    let none : drop i (sizes_of levels) ≡ [] = ended (sizes_of levels) i (omega (arith, c.loop-files-test.false, length-map levels size)) in
    sym (append-nil made)
    ∙ sym (ap (λ (ns : List ℕ). made ++ map own (in_parts ns (map (λ t. t.now.entries) (drop c.loop-files.start c.args.tables.now)))) none)
    ∙ c.loop-files.invariant.all

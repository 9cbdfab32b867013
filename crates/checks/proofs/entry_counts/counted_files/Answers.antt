use Rattle.std.proofs.Common.{Bor, ◌≡◌, ℕ, ◌<◌, ◌≤◌, ◌^◌, List, length, map, get_or, sym, ap, subst, ◌∙◌, arith}
use Rattle.std.proofs.lemmas.List.{length-map}
use Rattle.std.proofs.Math.ListN.{get_or-map}
use Rattle.table.specs.TableContents.{Contents}
use Rattle.folder.specs.meta.FileMeta.{FileMeta}
use Rattle.reads.specs.Tables.{NumberedContents}
use Rattle.split.specs.Ranges.{key_range}
use Rattle.checks.specs.GroupTest.{contents_of_all}
use Rattle.checks.proofs.CountLemmas.{count_more, not_stated, stated_more}
use Rattle.checks.proofs.entry_counts.counted_files.Goals as goal

-- a file and its table, at a place of both lists
record At (metas : List FileMeta) (xs : List Contents) (k : ℕ) (f : FileMeta) (x : Contents) : Type 0 where
  same : length xs ≡ length metas
  lt : k < length metas
  is : f ≡ get_or metas k f
  at : x ≡ get_or xs k x

place_of : (files : List (Bor FileMeta)) (tables : List NumberedContents) (k : ℕ) (f : Bor FileMeta) (t : NumberedContents) (x : Contents) → length tables ≡ length files → k < length files → f ≡ get_or files k f → t ≡ get_or tables k t → x ≡ t.contents
    → At (map (λ f. f.now) files) (contents_of_all tables) k f.now x
place_of files tables k f t x same lt is at own =
    let now_of : Bor FileMeta → FileMeta = λ g. g.now in
    let held : NumberedContents → Contents = λ u. u.contents in
    let there : t.contents ≡ get_or (map held tables) k t.contents = ap held at ∙ sym (get_or-map held tables k t) in
    record {
      same = length-map tables held ∙ same ∙ sym (length-map files now_of);
      lt = subst (λ (n : ℕ). k < n) (sym (length-map files now_of)) lt;
      is = ap now_of is ∙ sym (get_or-map now_of files k f);
      at = subst (λ (y : Contents). y ≡ get_or (map held tables) k y) (sym own) there;
    }

pub returns-in_default-clause-counted : goal.returns-in_default-clause-counted
returns-in_default-clause-counted g c =
    let cmp = g.C.Comparator.cmp in
    let k : ℕ = c.loop-place.place in
    let f : FileMeta = c.index-files-place.result.now in
    let x : Contents = c.table-table.result.now in
    let range = key_range c.args.range in
    let lt : k < length c.args.files.now = omega arith in
    let p = place_of c.args.files.now c.args.tables.now k c.index-files-place.result c.index-tables-place.result x c.requires.same lt c.index-files-place.is c.index-tables-place.is c.table-table.ensures in
    not_stated cmp c.args.next range (map (λ f. f.now) c.args.files.now) (contents_of_all c.args.tables.now) p.same k f x p.lt p.is p.at
    c.in_default.ensures.counted

pub loop-place-preserved : goal.loop-place-preserved
loop-place-preserved g c =
    let cmp = g.C.Comparator.cmp in
    let k : ℕ = c.loop-place.place in
    let f : FileMeta = c.index-files-place.result.now in
    let x : Contents = c.table-table.result.now in
    let range = key_range c.args.range in
    let metas : List FileMeta = map (λ f. f.now) c.args.files.now in
    let xs : List Contents = contents_of_all c.args.tables.now in
    let lt : k < length c.args.files.now = omega arith in
    let p = place_of c.args.files.now c.args.tables.now k c.index-files-place.result c.index-tables-place.result x c.requires.same lt c.index-files-place.is c.index-tables-place.is c.table-table.ensures in
    let counted = c.in-Some.ensures.counted in
    let few : c.in-Some.entries ≤ 2 ^ 60 = c.in-Some.ensures.small in
    record {
      stated = stated_more cmp c.args.next range metas xs p.same k f x p.lt p.is p.at c.loop-place.invariant.stated counted.0;
      all = count_more cmp c.args.next range metas xs p.same k c.loop-place.count c.from-count.result _ f x p.lt p.is p.at c.loop-place.invariant.all (c.from-count.ensures ∙ counted.1);
      small = omega (arith, few, c.loop-place.invariant.small, c.from-count.ensures);
    }

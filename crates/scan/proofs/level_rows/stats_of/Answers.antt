use Rattle.std.proofs.Common.{Bor, Vec, Global, ◌≡◌, ◌<◌, ◌+◌, ℕ, List, [], ◌++◌, drop, get_or, length, map, sym, ap, ◌∙◌, append_assoc, arith}
use Rattle.std.proofs.lemmas.List.{get_or-map, length-map}
use Rattle.folder.specs.meta.FileMeta.{FileMeta}
use Rattle.scan.specs.LevelRows.{level_rows}
use Rattle.scan.specs.Stats.{level_stats, no_amounts}
use Rattle.scan.specs.declared.level_stats.LevelStats.{LevelStats}
use Rattle.scan.proofs.LevelTables.{metas_of, now_of}
use Rattle.scan.proofs.RowSteps.{rows_more}
use Rattle.scan.proofs.level_rows.stats_of.Goals as goal

pub loop-level-preserved : goal.loop-level-preserved
loop-level-preserved g c =
    let cmp = g.C.Comparator.cmp in
    let i : ℕ = c.loop-level.level in
    let levels = metas_of c.args.levels.now in
    let amounts = c.args.amounts.now in
    let stats : List LevelStats = c.loop-level.stats.items in
    let low : i < length c.args.levels.now = omega (arith, c.loop-level-test.true) in
    let meta : Vec (Bor FileMeta) Global → List FileMeta = λ fs. map now_of fs.items in
    let here : map now_of c.deref.result.now ≡ get_or levels i [] =
    ap (map now_of) c.deref.ensures.value ∙ ap meta c.index-levels-level.is ∙ sym (get_or-map meta c.args.levels.now i _ [] low) in
    let rest = level_rows cmp (i + 1) (drop (i + 1) levels) (drop (i + 1) amounts) in
    let own = level_stats cmp i (get_or amounts i no_amounts) (get_or levels i []) in
    let pushed : c.push_level.new.stats.items ≡ stats ++ own = c.in_ok-push_level.ensures.ok ∙ ap (λ (fs : List FileMeta). stats ++ level_stats cmp i (get_or amounts i no_amounts) fs) here in
    ap (λ (rs : List LevelStats). rs ++ rest) pushed
    ∙ append_assoc stats own rest
    ∙ ap (λ (rs : List LevelStats). stats ++ rs) (sym (rows_more cmp levels amounts i (omega (arith, low, length-map c.args.levels.now meta)) (length-map c.args.levels.now meta ∙ c.requires)))
    ∙ c.loop-level.invariant

use Rattle.std.proofs.Common.{◌≡◌, ℕ, List, Ok, length, map, refl, sym, ap, subst, ◌∙◌, inl}
use Rattle.std.specs.Prelude.{fold}
use Rattle.table.specs.Answers.{fault, UnlessMemory}
use Rattle.table.specs.fault.Fault.{Fault}
use Rattle.table.specs.fault.FaultName.TheVariants.{Lawless}
use Rattle.folder.specs.meta.FileMeta.{FileMeta}
use Rattle.folder.specs.OpenAnswer.{IsStopped}
use Rattle.folder.proofs.ReportLemmas.{reports_steady}
use Rattle.reads.specs.TableOrder.{IsNeverLawful}
use Rattle.checks.proofs.LawfulLemmas.{sound_lawful}
use Rattle.scan.specs.Counts.{capped_plus}
use Rattle.scan.specs.LevelCounts.{all_of_levels, AreLevelsIn}
use Rattle.scan.specs.LevelRows.{level_rows}
use Rattle.scan.specs.Stats.{amounts_of, no_amounts, seen_stats, Stats, told_amounts, version_stats}
use Rattle.scan.specs.declared.amounts.Amounts.{Amounts}
use Rattle.scan.proofs.LevelTables.{metas_of}
use Rattle.scan.proofs.StatsAnswers.{answers_equal, answers_handed, other_handed}
use Rattle.scan.proofs.VersionCounts.{levels_in, levels_of, stats_are}
use Rattle.scan.proofs.counted_version.unverified_stats.Goals as goal

pub returns-in_err-split-clause-stats : goal.returns-in_err-split-clause-stats
returns-in_err-split-clause-stats g c files loaded tables told there sound counted held =
    let cmp = g.C.Comparator.cmp in
    let v = c.args.version.now in
    let failed = g.F.Folder.failed in
    let before = failed c.args.folder.now in
    let e = c.in_err-split.field-0.0 in
    answers_handed seen_stats before before c.from_residual.result e ((e ≡ fault Lawless) × IsNeverLawful cmp v) (λ answer. answer ≡ Ok (version_stats cmp v tables)) c.from_residual.ensures.1 c.in_err-split.ensures.refused (λ never. absurd (never.1 tables (sound_lawful cmp v loaded tables sound)))

pub returns-in_err-split-clause-device : goal.returns-in_err-split-clause-device
returns-in_err-split-clause-device g c =
    reports_steady c.from_residual.result refl (other_handed c.from_residual.result c.in_err-split.field-0.0 (IsNeverLawful g.C.Comparator.cmp c.args.version.now) c.from_residual.ensures.1 c.in_err-split.ensures.refused)

pub returns-in_err-levels-clause-stats : goal.returns-in_err-levels-clause-stats
returns-in_err-levels-clause-stats g c files loaded tables told there sound counted held =
    let cmp = g.C.Comparator.cmp in
    let v = c.args.version.now in
    let failed = g.F.Folder.failed in
    let before = failed c.args.folder.now in
    answers_handed seen_stats before before c.from_residual-in_err-levels.result c.in_err-levels.field-0.0 ⊥ (λ answer. answer ≡ Ok (version_stats cmp v tables)) c.from_residual-in_err-levels.ensures.1
    (subst (λ (e : Fault). UnlessMemory e ⊥) (sym c.in_err-levels.ensures.memory) tt) (λ no. absurd no)

pub returns-in_err-amounts-clause-stats : goal.returns-in_err-amounts-clause-stats
returns-in_err-amounts-clause-stats g c files loaded tables told there sound counted held =
    let met = g.met.C.Comparator g.world.𝓛 g.world.𝓜 g.world.𝓡 ((λ s x. x), (λ x. x), (λ x. x), λ x. x) in
    let cmp = g.C.Comparator.cmp in
    let v = c.args.version.now in
    let tells = g.F.Folder.tells c.args.folder.now in
    let failed = g.F.Folder.failed in
    let before = failed c.args.folder.now in
    let now = failed c.count_ranges.new.folder in
    let e = c.in_err-amounts.field-0.0 in
    let lent : metas_of c.deref.result.now ≡ levels_of cmp v = ap metas_of c.deref.ensures.value ∙ c.in_ok-levels.ensures.files in
    let are : AreLevelsIn cmp files v.next_file (metas_of c.deref.result.now) tables = subst (λ (ls : List (List FileMeta)). AreLevelsIn cmp files v.next_file ls tables) (sym lent) (levels_in cmp met.total tells files v loaded tables told there sound c.in_ok-split.ensures.few counted) in
    answers_handed seen_stats before now c.from_residual-in_err-amounts.result e (IsStopped before now e) (λ answer. answer ≡ Ok (version_stats cmp v tables)) c.from_residual-in_err-amounts.ensures.1 (c.in_err-amounts.ensures.errors files v.next_file tables told are held) (λ stopped. inl stopped)

pub stats_of-requires : goal.stats_of-requires
stats_of-requires g c = ap length c.deref-2.ensures.value ∙ sym (ap length c.deref.ensures.value) ∙ sym c.in_ok-amounts.ensures.number ∙ sym (ap length c.deref-3.ensures.value)

pub returns-clause-stats : goal.returns-clause-stats
returns-clause-stats g c files loaded tables told there sound counted held =
    let met = g.met.C.Comparator g.world.𝓛 g.world.𝓜 g.world.𝓡 ((λ s x. x), (λ x. x), (λ x. x), λ x. x) in
    let cmp = g.C.Comparator.cmp in
    let v = c.args.version.now in
    let tells = g.F.Folder.tells c.args.folder.now in
    let failed = g.F.Folder.failed in
    let few = c.in_ok-split.ensures.few in
    let last : ℕ = c.sequence_of-last.result in
    let made : List Amounts = c.deref-3.result.now in
    let one : metas_of c.deref.result.now ≡ levels_of cmp v = ap metas_of c.deref.ensures.value ∙ c.in_ok-levels.ensures.files in
    let two : metas_of c.deref-2.result.now ≡ levels_of cmp v = ap metas_of c.deref-2.ensures.value ∙ c.in_ok-levels.ensures.files in
    let are : AreLevelsIn cmp files v.next_file (metas_of c.deref.result.now) tables = subst (λ (ls : List (List FileMeta)). AreLevelsIn cmp files v.next_file ls tables) (sym one) (levels_in cmp met.total tells files v loaded tables told there sound few counted) in
    let own : List (List FileMeta) → List Amounts = λ ls. map (λ (fs : List FileMeta). told_amounts (amounts_of last (all_of_levels tables ls) tables fs)) ls in
    let made_is : made ≡ own (levels_of cmp v) = c.deref-3.ensures.value ∙ c.in_ok-amounts.ensures.counted files v.next_file tables told are held ∙ ap own one in
    let stats : List (List FileMeta) → Stats = λ ls. record { levels = level_rows cmp 0 ls made; all = fold capped_plus no_amounts made } in
    let is : version_stats cmp v tables ≡ stats (metas_of c.deref-2.result.now) = stats_are cmp met.total tells files v loaded tables told there sound few counted last c.sequence_of-last.ensures made made_is ∙ ap stats (sym two) in
    answers_equal seen_stats (failed c.args.folder.now) (failed c.count_ranges.new.folder) c.stats_of.result (stats (metas_of c.deref-2.result.now)) (version_stats cmp v tables) c.stats_of.ensures is

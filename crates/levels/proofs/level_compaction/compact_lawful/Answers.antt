use Rattle.std.proofs.Common.{map}
use Rattle.pick.specs.PickedInputs.{picked_in}
use Rattle.levels.specs.WholeAnswer.{AreSelected}
use Rattle.levels.proofs.Ends.{end_answer, end_left, end_other, end_runs}
use Rattle.levels.proofs.level_compaction.compact_lawful.Goals as goal

pub returns-clause-answer : goal.returns-clause-answer
returns-clause-answer g c selection level files order loaded tables chosen told current reads sound =
    let cmp = g.C.Comparator.cmp in
    let keys = g.C.Comparator.short_keys in
    let laws = g.met.C.Comparator g.world.𝓛 g.world.𝓜 g.world.𝓡 ((λ s x. x), (λ x. x), (λ x. x), λ x. x) in
    let v = c.args.opened.now.version in
    end_answer cmp laws.total laws.exact keys c.table_reads_back.ensures c.passed_law.ensures g.F.Folder order g.C.Comparator.name_bytes c.args.folder.now c.compact_parts.new.folder files told v c.args.opened.now.manifest current loaded tables reads sound
    c.version_is_state.ensures c.small_logs.ensures.0 c.small_logs.ensures.1 c.args.settings.now selection level (map picked_in c.args.parts.now) chosen c.compact_parts.result c.compact_parts.ensures.end

pub returns-clause-left : goal.returns-clause-left
returns-clause-left g c selection level files order loaded tables chosen told current named reads sound =
    let cmp = g.C.Comparator.cmp in
    let keys = g.C.Comparator.short_keys in
    let laws = g.met.C.Comparator g.world.𝓛 g.world.𝓜 g.world.𝓡 ((λ s x. x), (λ x. x), (λ x. x), λ x. x) in
    let v = c.args.opened.now.version in
    end_left cmp laws.total laws.exact keys c.table_reads_back.ensures c.passed_law.ensures g.F.Folder order g.C.Comparator.name_bytes c.args.folder.now c.compact_parts.new.folder files told v c.args.opened.now.manifest current loaded tables reads sound
    c.version_is_state.ensures c.small_logs.ensures.0 c.small_logs.ensures.1 c.args.settings.now selection level (map picked_in c.args.parts.now) chosen c.compact_parts.result named c.compact_parts.ensures.end

pub returns-clause-runs : goal.returns-clause-runs
returns-clause-runs g c selection level chosen =
    end_runs g.F.Folder g.C.Comparator.name_bytes g.C.Comparator.cmp g.C.Comparator.short_keys c.args.opened.now.version c.args.opened.now.manifest (map picked_in c.args.parts.now) c.args.settings.now c.args.folder.now c.compact_parts.new.folder c.compact_parts.result (AreSelected selection g.C.Comparator.cmp c.args.opened.now.version level) chosen c.compact_parts.ensures.end

pub returns-clause-other : goal.returns-clause-other
returns-clause-other g c =
    end_other g.F.Folder g.C.Comparator.name_bytes g.C.Comparator.cmp g.C.Comparator.short_keys c.args.opened.now.version c.args.opened.now.manifest (map picked_in c.args.parts.now) c.args.settings.now c.args.folder.now c.compact_parts.new.folder c.compact_parts.result c.compact_parts.ensures.end

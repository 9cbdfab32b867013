use Rattle.std.proofs.Common.{sym, ◌∙◌}
use Rattle.checks.proofs.LawfulLemmas.{sound_lawful}
use Rattle.store.proofs.ChosenInputs.{chosen_over, chosen_placed}
use Rattle.store.proofs.PlacedInputs.{same_compaction}
use Rattle.store.proofs.input_laws.chosen_is_installed.Goals as goal

pub returns : goal.returns
returns g c = λ order first files v loaded own tables choice p s answer held sound state given internal read log previous answered.
    let cmp = g.C.Comparator.cmp in
    let keys = g.C.Comparator.short_keys in
    let total = g.met.C.Comparator.total in
    let lawful = sound_lawful cmp v loaded tables sound in
    let over = chosen_over cmp total v tables lawful state.levels.file_levels choice p given internal in
    let same = same_compaction cmp total files v loaded tables held sound p (chosen_placed cmp total v tables lawful choice p given) own read first keys s in
    let all = sym same ∙ answered in
    let made = c.closed_is_installed.ensures first v loaded tables p s answer sound state.levels.file_levels over log previous all in
    record {
      tables = tables;
      lawful = sound;
      is_chosen = given;
      over = over;
      answered = all;
      edited = made.edited;
      within = made.within;
    }

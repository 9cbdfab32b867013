use Rattle.folder.proofs.AloneLemmas.{loaded_alone, opened_alone, reads_back}
use Rattle.folder.proofs.folder_answer_laws.reading_laws.Goals as goal

pub returns : goal.returns
returns g c =
    let tells = g.F.Folder.tells c.args._folder.now in
    record {
      opened = λ cmp order v tables. opened_alone cmp order v tables tells;
      loaded = λ cmp order v tables. loaded_alone cmp order v tables tells;
      reads = λ cmp order v tables. reads_back cmp order v tables tells;
    }

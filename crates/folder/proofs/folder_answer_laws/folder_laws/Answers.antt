use Rattle.folder.proofs.RefusalLemmas.{load_refused, open_refused}
use Rattle.folder.proofs.folder_answer_laws.folder_laws.Goals as goal

pub returns : goal.returns
returns g c =
    let tells = g.F.Folder.tells c.args._folder.now in
    record {
      opening = open_refused tells;
      loading = load_refused tells;
    }

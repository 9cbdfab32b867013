use Rattle.std.proofs.Common.{sym, subst}
use Rattle.std.proofs.lemmas.List.{length-map}
use Rattle.merge.specs.Tournament.{IsBracket}
use Rattle.merge.proofs.tournament.play_all.Goals as goal

pub returns : goal.returns
returns g c = record {
  tournament = record {
    ordered = c.note_heads.ensures.ordered;
    bracket = subst (λ n. IsBracket n c.play_matches.new.winners) (sym (length-map c.args.cursors.now g.S.Entries.remaining)) c.play_matches.ensures.bracket;
    matches = c.play_matches.ensures.played;
  };
  headed = c.note_heads.ensures.heads;
}

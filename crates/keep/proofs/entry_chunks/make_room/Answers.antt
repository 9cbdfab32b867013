use Rattle.std.proofs.Common.{◌≡◌, List, [], ◌∷◌, ◌++◌, sym, ap, ◌∙◌, rules}
use Rattle.reads.specs.EncodedEntry.{Entry}
use Rattle.keep.specs.EntryChunks.{all_kept}
use Rattle.keep.proofs.ChunkLists.{all_kept_closed}
use Rattle.keep.proofs.OnAnswers.{same_ok}
use Rattle.keep.proofs.entry_chunks.make_room.Goals as goal

pub returns-clause-same : goal.returns-clause-same
returns-clause-same c =
    let last : c.replace.new.dest ≡ [] = c.replace.ensures.after ∙ sym (same_ok _ _ c.in_ok-empty.ensures) in
    let items : c.push.new.self.items ≡ c.args.full.now.items ++ c.replace.result ∷ [] = search rules in
    ap (λ (es : List Entry). all_kept c.push.new.self.items es) last
    ∙ ap (λ (ps : List (List Entry)). all_kept ps []) items
    ∙ ap (λ (p : List Entry). all_kept (c.args.full.now.items ++ p ∷ []) []) c.replace.ensures.value
    ∙ all_kept_closed c.args.full.now.items c.args.last.now

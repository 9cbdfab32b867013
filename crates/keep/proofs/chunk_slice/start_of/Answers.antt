use Rattle.std.proofs.Common.{◌≡◌, ◌-◌, ℕ, suc, sym, ap, ◌∙◌, arith}
use Rattle.std.proofs.lemmas.Option.{get_or_from_slice_get}
use Rattle.keep.specs.KeyBuffer.{start_of}
use Rattle.keep.proofs.KeyBuffers.{start_behind}
use Rattle.keep.proofs.chunk_slice.start_of.Goals as goal

pub returns-else-place-eq0 : goal.returns-else-place-eq0
returns-else-place-eq0 c =
    let before : ℕ = c.args.place - 1 in
    let here : suc before ≡ c.args.place = omega arith in
    let k = c.entry_of.result.now in
    sym (start_behind c.args.start c.args.kept.now before k (omega arith) (sym (get_or_from_slice_get c.args.kept.now before k k c.entry_of.ensures))) ∙ ap (start_of c.args.start c.args.kept.now) here

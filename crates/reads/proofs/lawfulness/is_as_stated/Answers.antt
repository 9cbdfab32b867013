use Rattle.std.proofs.Common.{◌≡◌, List, ℕ, length, ap, sym, ◌∙◌}
use Rattle.reads.specs.FileChecks.{matches_metadata}
use Rattle.reads.proofs.SoundFiles.{stated_tests}
use Rattle.reads.proofs.lawfulness.is_as_stated.Goals as goal

pub returns : goal.returns
returns g c =
    let t = c.in-Some.table.now in
    let small = c.smallest-smallest.result.bytes.now in
    let large = c.largest-largest.result.bytes.now in
    let is : c.is_stated.result ≡ matches_metadata c.args.next c.args.file.now (length t.bytes) small large =
    c.is_stated.ensures ∙ ap (λ (bytes : List ℕ). matches_metadata c.args.next c.args.file.now (length bytes) small large) c.bytes.ensures.bytes in
    stated_tests g.C.Comparator.cmp c.args.tables.now c.args.next c.args.file.now t small large (sym c.in-Some.ensures) c.bytes.ensures.reading c.smallest-smallest.ensures c.largest-largest.ensures g.met.C.Comparator.total c.is_stated.result is

use Rattle.std.proofs.Common.{Bor, ◌≡◌, ◌<◌, ◌+◌, ◌-◌, ◌^◌, ℕ, List, get_or, length, map, min, take, sym, ap, ◌∙◌, arith}
use Rattle.std.specs.List.{sum_by}
use Rattle.std.proofs.lemmas.List.{map_more}
use Rattle.std.proofs.lemmas.List.Sums.{sum_by_push}
use Rattle.folder.specs.meta.FileMeta.{FileMeta}
use Rattle.scan.proofs.amounts.bytes_of.Goals as goal

abbrev now_of : Bor FileMeta → FileMeta
now_of f = f.now

abbrev size_of : FileMeta → ℕ
size_of f = f.size

capped : (sum size most : ℕ) → min (min sum most + size) most ≡ min (sum + size) most
capped sum size most = omega arith

bytes_next : (files : List (Bor FileMeta)) (i : ℕ) (file : Bor FileMeta) (bytes most : ℕ) → i < length files → file ≡ get_or files i file → bytes ≡ min (sum_by size_of (map now_of (take i files))) most → min (bytes + file.now.size) most ≡ min (sum_by size_of (map now_of (take (i + 1) files))) most
bytes_next files i file bytes most lt is so_far =
    ap (λ (b : ℕ). min (b + file.now.size) most) so_far
    ∙ capped (sum_by size_of (map now_of (take i files))) file.now.size most
    ∙ ap (λ (f : Bor FileMeta). min (sum_by size_of (map now_of (take i files)) + f.now.size) most) is
    ∙ ap (λ (n : ℕ). min n most) (sym (ap (sum_by size_of) (map_more now_of files i file lt) ∙ sum_by_push size_of (map now_of (take i files)) (get_or files i file).now))

pub loop-file-preserved : goal.loop-file-preserved
loop-file-preserved c = c.saturating_add-bytes.ensures ∙ bytes_next c.args.files.now c.loop-file.file-index c.file-item.result c.loop-file.bytes (2 ^ 64 - 1) c.loop-file-test.true c.file-item.is c.loop-file.invariant

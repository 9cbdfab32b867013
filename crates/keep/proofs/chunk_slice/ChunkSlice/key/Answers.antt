use Rattle.std.proofs.Common.{◌≡◌, ◌<◌, ◌≤◌, ℕ, List, length, sym, ap, subst, ◌∙◌, arith}
use Rattle.std.proofs.lemmas.Option.{get_or_from_slice_get}
use Rattle.std.specs.Prelude.{slice_get, slice_range, Some}
use Rattle.std.specs.Option.{option_map}
use Rattle.ikey.specs.Key.{IsInternalKey}
use Rattle.reads.specs.EncodedEntry.{Entry}
use Rattle.keep.specs.KeyBuffer.{start_of}
use Rattle.keep.proofs.KeyBuffers.{length-entries, entry_at, part_at, internal_at}
use Rattle.keep.proofs.chunk_slice.ChunkSlice.key.Goals as goal

pub entry_of-entry-requires : goal.entry_of-entry-requires
entry_of-entry-requires c =
    let was = c.self.inside in
    let count : length was.kept.now ≡ length c.args.self.now = sym (length-entries was.start was.keys.now was.kept.now) ∙ ap length c.self.view_is in
    let lt : c.args.place < length c.args.self.now = c.requires in
    omega (arith, count, lt)

pub start_of-start-requires : goal.start_of-start-requires
start_of-start-requires c =
    let was = c.self.inside in
    let count : length was.kept.now ≡ length c.args.self.now = sym (length-entries was.start was.keys.now was.kept.now) ∙ ap length c.self.view_is in
    let lt : c.args.place < length c.args.self.now = c.requires in
    omega (arith, count, lt)

pub part_of-bytes-requires-clause-rises : goal.part_of-bytes-requires-clause-rises
part_of-bytes-requires-clause-rises c =
    let was = c.self.inside in
    let count : length was.kept.now ≡ length c.args.self.now = sym (length-entries was.start was.keys.now was.kept.now) ∙ ap length c.self.view_is in
    let lt : c.args.place < length c.args.self.now = c.requires in
    let k = c.entry_of-entry.result.now in
    let part = part_at was.start (length was.keys.now) was.kept.now c.args.place k c.self.invariant.ends (omega (arith, count, lt)) (sym (get_or_from_slice_get was.kept.now c.args.place c.entry_of-entry.result.now c.entry_of-entry.result.now c.entry_of-entry.ensures)) in
    subst (λ (s : ℕ). s ≤ k.end) (sym c.start_of-start.ensures) part.rises

pub part_of-bytes-requires-clause-within : goal.part_of-bytes-requires-clause-within
part_of-bytes-requires-clause-within c =
    let was = c.self.inside in
    let count : length was.kept.now ≡ length c.args.self.now = sym (length-entries was.start was.keys.now was.kept.now) ∙ ap length c.self.view_is in
    let lt : c.args.place < length c.args.self.now = c.requires in
    let k = c.entry_of-entry.result.now in
    (part_at was.start (length was.keys.now) was.kept.now c.args.place k c.self.invariant.ends (omega (arith, count, lt)) (sym (get_or_from_slice_get was.kept.now c.args.place c.entry_of-entry.result.now c.entry_of-entry.result.now c.entry_of-entry.ensures))).within

pub invariant_of-result : goal.invariant_of-result
invariant_of-result c =
    let was = c.self.inside in
    let count : length was.kept.now ≡ length c.args.self.now = sym (length-entries was.start was.keys.now was.kept.now) ∙ ap length c.self.view_is in
    let lt : c.args.place < length c.args.self.now = c.requires in
    let k = c.entry_of-entry.result.now in
    let is : c.part_of-bytes.result.now ≡ slice_range was.keys.now (start_of was.start was.kept.now c.args.place) k.end =
    c.part_of-bytes.ensures ∙ ap (λ (s : ℕ). slice_range was.keys.now s k.end) c.start_of-start.ensures in
    record { lawful = subst IsInternalKey (sym is) (internal_at was.start was.keys.now was.kept.now c.args.place k c.self.invariant (omega (arith, count, lt)) (sym (get_or_from_slice_get was.kept.now c.args.place c.entry_of-entry.result.now c.entry_of-entry.result.now c.entry_of-entry.ensures))) }

pub returns : goal.returns
returns c =
    let was = c.self.inside in
    let count : length was.kept.now ≡ length c.args.self.now = sym (length-entries was.start was.keys.now was.kept.now) ∙ ap length c.self.view_is in
    let lt : c.args.place < length c.args.self.now = c.requires in
    let k = c.entry_of-entry.result.now in
    let is : c.part_of-bytes.result.now ≡ slice_range was.keys.now (start_of was.start was.kept.now c.args.place) k.end =
    c.part_of-bytes.ensures ∙ ap (λ (s : ℕ). slice_range was.keys.now s k.end) c.start_of-start.ensures in
    ap (λ (es : List Entry). option_map (λ (e : Entry). e.key) (slice_get es c.args.place)) (sym c.self.view_is)
    ∙ ap (option_map (λ (e : Entry). e.key)) (entry_at was.start was.keys.now was.kept.now c.args.place k (omega (arith, count, lt)) (sym (get_or_from_slice_get was.kept.now c.args.place c.entry_of-entry.result.now c.entry_of-entry.result.now c.entry_of-entry.ensures)))
    ∙ ap (λ (bytes : List ℕ). Some bytes) (sym is)

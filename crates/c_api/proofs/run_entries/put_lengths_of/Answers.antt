use Rattle.std.proofs.Common.{◌≡◌, ◌+◌, ◌<◌, ◌∷◌, [], ℕ, length, map, refl, subst, arith}
use Rattle.reads.specs.EncodedEntry.{Entry}
use Rattle.c_api.specs.Runs.{lengths_of}
use Rattle.c_api.specs.declared.run_arrays.EntryLengths.{EntryLengths}
use Rattle.c_api.proofs.RunLists.{map_got}
use Rattle.c_api.proofs.RunWrites.{WrittenSoFar, write_first, write_on}
use Rattle.c_api.proofs.run_entries.put_lengths_of.Goals as goal

pub loop-place-init : goal.loop-place-init
loop-place-init c =
    let at : c.args.at ≡ c.args.at + 0 = omega arith in
    subst (λ (n : ℕ). WrittenSoFar (map lengths_of) c.args.entries.now c.args.at c.args.room.now c.args.room.now 0 n) at
    (write_first (map lengths_of) c.args.entries.now c.args.at c.args.room.now refl)

pub loop-place-preserved : goal.loop-place-preserved
loop-place-preserved c =
    let none : Entry = record { key = []; value = [] } in
    let y : EntryLengths = c.lengths_at.result in
    let within : c.loop-place.place < length c.args.entries.now = omega (arith, c.loop-place-test.true, c.len-place-end.ensures) in
    write_on (map lengths_of) c.args.entries.now c.args.at c.args.room.now c.loop-place.room c.loop-place.place (c.args.at + c.loop-place.place) c.loop-place.invariant
    (y ∷ []) (c.loop-place.place + 1) c.put_at.new.room (c.args.at + (c.loop-place.place + 1)) (omega (arith, within)) (map_got lengths_of c.args.entries.now c.loop-place.place none y within c.lengths_at.ensures)
    c.put_at.ensures (omega arith)

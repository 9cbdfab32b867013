use Rattle.std.proofs.Common.{◌+◌, ◌<◌, ◌++◌, ℕ, List, Option, Some, length, refl, sym, ap, ◌∙◌, arith}
use Rattle.std.proofs.lemmas.List.{length-append}
use Rattle.c_api.specs.Runs.{bytes_of}
use Rattle.c_api.proofs.RunLists.{bytes_more}
use Rattle.c_api.proofs.RunWrites.{bytes_join, fit_next, write_first, write_on}
use Rattle.c_api.proofs.run_entries.put_slice.Goals as goal

pub loop-place-init : goal.loop-place-init
loop-place-init c = write_first bytes_of c.args.entries.now c.args.at c.args.room.now refl

pub put_entry-end-requires : goal.put_entry-end-requires
put_entry-end-requires c =
    let k : List ℕ = c.bytes.result.now in
    let v : List ℕ = c.value.result.now in
    let some : List ℕ → Option (List ℕ) = λ b. Some b in
    let within : c.loop-place.place < length c.args.entries.now = omega (arith, c.loop-place-test.true, c.len-place-end.ensures) in
    let grown = bytes_more c.args.entries.now c.loop-place.place k v within (c.key-key.ensures ∙ ap some (sym c.bytes.ensures)) c.value.ensures in
    let fits = fit_next bytes_of c.args.entries.now c.args.at c.args.room.now c.loop-place.room c.loop-place.place c.loop-place.end c.loop-place.invariant bytes_join c.requires (k ++ v) (c.loop-place.place + 1) grown in
    let two = length-append k v in
    omega (arith, fits, two)

pub loop-place-preserved : goal.loop-place-preserved
loop-place-preserved c =
    let k : List ℕ = c.bytes.result.now in
    let v : List ℕ = c.value.result.now in
    let some : List ℕ → Option (List ℕ) = λ b. Some b in
    let within : c.loop-place.place < length c.args.entries.now = omega (arith, c.loop-place-test.true, c.len-place-end.ensures) in
    let grown = bytes_more c.args.entries.now c.loop-place.place k v within (c.key-key.ensures ∙ ap some (sym c.bytes.ensures)) c.value.ensures in
    write_on bytes_of c.args.entries.now c.args.at c.args.room.now c.loop-place.room c.loop-place.place c.loop-place.end c.loop-place.invariant
    (k ++ v) (c.loop-place.place + 1) c.put_entry-end.new.room c.put_entry-end.result (omega (arith, within)) grown c.put_entry-end.ensures.written c.put_entry-end.ensures.end

use Rattle.std.proofs.Common.{◌≡◌, ◌≤◌, ◌∷◌, subst}
use Rattle.edit.specs.Field.{DeleteFile}
use Rattle.edit.specs.declared.meta.DeletedFile.{DeletedFile}
use Rattle.edit.proofs.Written.{Writes, writes_on, writes_next}
use Rattle.edit.proofs.field_writer.push_deleted.Goals as goal

abbrev within : DeletedFile → Type 0
within f = f.level ≤ 6

pub push_deletion-requires : goal.push_deletion-requires
push_deletion-requires c =
    let next : c.loop-file.file-iterator ≡ c.in-Some.file.now ∷ c.next.new.self = c.in-Some.ensures.steps in
    let w = subst (Writes DeleteFile within c.args.deleted.now.keys c.args.out.now.items c.loop-file.out.items) next c.loop-file.invariant in
    writes_next DeleteFile within c.args.deleted.now.keys c.args.out.now.items c.loop-file.out.items c.in-Some.file.now c.next.new.self w

pub loop-file-preserved : goal.loop-file-preserved
loop-file-preserved c =
    let next : c.loop-file.file-iterator ≡ c.in-Some.file.now ∷ c.next.new.self = c.in-Some.ensures.steps in
    let w = subst (Writes DeleteFile within c.args.deleted.now.keys c.args.out.now.items c.loop-file.out.items) next c.loop-file.invariant in
    rw c.in_ok-push_deletion.ensures.ok (writes_on DeleteFile within c.args.deleted.now.keys c.args.out.now.items c.loop-file.out.items c.in-Some.file.now c.next.new.self w c.in_ok-push_deletion.ensures.lawful)

use Rattle.std.proofs.Common.{◌≡◌, true, List, map, Ok, sym, ap, subst, ◌∙◌}
use Rattle.std.specs.List.{list_all}
use Rattle.std.proofs.lemmas.Bool.{and_parts}
use Rattle.ikey.specs.Answers.{EqualOrMemory}
use Rattle.edit.proofs.Binds.{ok_is}
use Rattle.edit.specs.declared.meta.FileMeta.{FileMeta}
use Rattle.pick.specs.Ranges.{overlaps}
use Rattle.c_api.specs.Files.{has_keys, meta_at}
use Rattle.c_api.specs.Held.{near_of, overlaps_at}
use Rattle.c_api.specs.Requests.{is_of, metas_of}
use Rattle.c_api.specs.declared.file.File.{File}
use Rattle.c_api.specs.declared.lent.LentFiles.{LentFiles}
use Rattle.c_api.proofs.SparedFiles.{map_both, some_lent}
use Rattle.c_api.proofs.picked.near_metas.Goals as goal

pub metas_of-requires : goal.metas_of-requires
metas_of-requires g c =
    let cmp = g.C.Comparator.cmp in
    let l : LentFiles = c.args.asked.now in
    let keys = l.lent.now.keys.now in
    let deeper : List File = l.lent.now.deeper.now in
    let metas : List FileMeta = map (meta_at keys) l.files.now in
    subst (λ (fs : List File). list_all (has_keys keys) fs ≡ true) (ok_is (near_of cmp keys l.files.now deeper) c.in_ok-near.near.items c.in_ok-near.ensures ∙ sym c.deref.ensures.value)
    (some_lent (has_keys keys) (overlaps_at cmp keys metas) deeper (and_parts (list_all (has_keys keys) l.files.now) (list_all (has_keys keys) deeper) c.requires).1)

pub returns : goal.returns
returns g c =
    let cmp = g.C.Comparator.cmp in
    let l : LentFiles = c.args.asked.now in
    let keys = l.lent.now.keys.now in
    let metas : List FileMeta = map (meta_at keys) l.files.now in
    subst (λ (ms : List FileMeta). EqualOrMemory (λ found. found.items) c.metas_of.result (Ok ms))
    (ap (metas_of keys c.args.level) (c.deref.ensures.value ∙ sym (ok_is (near_of cmp keys l.files.now l.lent.now.deeper.now) c.in_ok-near.near.items c.in_ok-near.ensures))
    ∙ map_both (meta_at keys) (overlaps cmp metas) (is_of c.args.level) l.lent.now.deeper.now)
    c.metas_of.ensures

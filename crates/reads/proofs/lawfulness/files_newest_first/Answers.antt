use Rattle.std.proofs.Common.{Bor, ◌≡◌, true, false, List, map, sym, ap, subst, ◌∙◌}
use Rattle.std.proofs.lemmas.Bool.{both_ways}
use Rattle.edit.specs.declared.meta.FileMeta.{FileMeta}
use Rattle.reads.specs.declared.level_file.LevelFile.{LevelFile}
use Rattle.reads.specs.FileChecks.{AreInTurn, AreListed}
use Rattle.reads.proofs.Listed.{listed_in_turn}
use Rattle.reads.proofs.StandingFiles.{all_added, standing_of}
use Rattle.reads.proofs.lawfulness.files_newest_first.Goals as goal

pub returns-then-not-are_in_turn-clause-standing : goal.returns-then-not-are_in_turn-clause-standing
returns-then-not-are_in_turn-clause-standing g c = λ tables lawful.
    let cmp = g.C.Comparator.cmp in
    let v = c.args.version.now in
    let listing = subst (AreListed cmp v.files) (sym c.deref.ensures.value) c.in_ok-files.ensures.listed in
    both_ways c.are_in_turn.result c.if-not-are_in_turn.true (c.are_in_turn.ensures.1 (listed_in_turn cmp g.met.C.Comparator.total v tables c.deref.result.now listing lawful))

pub returns-then-not-are_in_turn-clause-added : goal.returns-then-not-are_in_turn-clause-added
returns-then-not-are_in_turn-clause-added g c =
    all_added g.C.Comparator.cmp c.args.version.now c.in_ok-files.files.items c.in_ok-files.ensures.listed c.in_ok-files.ensures.permutation

pub returns-clause-standing : goal.returns-clause-standing
returns-clause-standing g c =
    let cmp = g.C.Comparator.cmp in
    let items : List LevelFile = c.in_ok-files.files.items in
    let turn : AreInTurn cmp items = subst (AreInTurn cmp) c.deref.ensures.value (c.are_in_turn.ensures.0 c.if-not-are_in_turn.false) in
    let are : map (λ (f : Bor FileMeta). f.now) c.in_ok-metas_of.field-0.items ≡ map (λ (f : LevelFile). f.meta.now) items = c.in_ok-metas_of.ensures.metas ∙ ap (map (λ (f : LevelFile). f.meta.now)) c.deref-2.ensures.value in
    standing_of cmp g.met.C.Comparator.total c.args.version.now items (map (λ (f : Bor FileMeta). f.now) c.in_ok-metas_of.field-0.items) c.in_ok-files.ensures.listed turn c.in_ok-files.ensures.permutation are

pub returns-clause-added : goal.returns-clause-added
returns-clause-added g c =
    all_added g.C.Comparator.cmp c.args.version.now c.in_ok-files.files.items c.in_ok-files.ensures.listed c.in_ok-files.ensures.permutation

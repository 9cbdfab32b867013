use Rattle.std.proofs.Common.{◌≡◌, ℕ, Bool, List, [], ◌∷◌, ◌++◌, Some, Option, sym, ap, ◌∙◌, append-nil}
use Rattle.ikey.specs.Key.{user_of, sequence_of}
use Rattle.reads.specs.EncodedEntry.{Entry}
use Rattle.reads.specs.BuilderView.{last_key}
use Rattle.keep.specs.Runs.{Run}
use Rattle.keep.specs.Versions.{EntryVersion, StoredVersion, last_version, newer_of, version_of}
use Rattle.keep.specs.WalkedRange.{WalkedRange}
use Rattle.keep.specs.RangeWalk.{walk_after_entry}
use Rattle.keep.proofs.LastKept.{last_pushed, passed_by}
use Rattle.keep.proofs.walk.Walk.take.Goals as goal

pub returns-then-keeps-clause-ok : goal.returns-then-keeps-clause-ok
returns-then-keeps-clause-ok c =
    let was = c.self.inside in
    let e : Entry = record { key = c.args.key.bytes.now; value = c.args.value.now } in
    let grown : Run = record { kept = was.run.kept ++ e ∷ []; marks = was.run.marks } in
    let whole : Run → StoredVersion → WalkedRange = λ r v. record { run = r; last = last_version (last_key [] r.kept) v; passed = was.passed } in
    ap (λ (r : Run). whole r c.keep.new.self) c.in_ok-push.ensures.ok
    ∙ ap (λ (v : StoredVersion). whole grown v) c.keep.ensures
    ∙ ap (λ (k : List ℕ). record { run = grown; last = Some (record { user = user_of k; sequence = sequence_of e.key }); passed = was.passed }) (last_pushed [] was.run.kept e)
    ∙ ap (λ (b : Bool). walk_after_entry b (whole was.run was.last) e) (sym c.if-keeps.true)
    ∙ ap (λ (w : WalkedRange). walk_after_entry c.args.keeps w e) c.self.view_is

pub returns-then-is_some-clause-ok : goal.returns-then-is_some-clause-ok
returns-then-is_some-clause-ok c =
    let was = c.self.inside in
    let e : Entry = record { key = c.args.key.bytes.now; value = c.args.value.now } in
    let whole : Run → StoredVersion → WalkedRange = λ r v. record { run = r; last = last_version (last_key [] r.kept) v; passed = was.passed } in
    let newer : c.args.newer ≡ newer_of (last_version (last_key [] was.run.kept) was.last) (user_of e.key) =
    c.requires.newer ∙ ap (λ (w : WalkedRange). newer_of w.last (user_of e.key)) (sym c.self.view_is) in
    ap (λ (v : StoredVersion). whole was.run v) c.pass.ensures
    ∙ ap (λ (l : Option EntryVersion). record { run = was.run; last = l; passed = was.passed }) (passed_by (last_key [] was.run.kept) (user_of e.key) was.last c.args.newer (sequence_of e.key) newer (sym c.is_some.ensures ∙ c.if-is_some.true))
    ∙ ap (λ (kept : List Entry). record { run = record { kept = kept; marks = was.run.marks }; last = Some (version_of e.key); passed = was.passed }) (sym (append-nil was.run.kept))
    ∙ ap (λ (b : Bool). walk_after_entry b (whole was.run was.last) e) (sym c.if-keeps.false)
    ∙ ap (λ (w : WalkedRange). walk_after_entry c.args.keeps w e) c.self.view_is

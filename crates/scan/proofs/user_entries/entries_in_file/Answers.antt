use Rattle.std.proofs.Common.{◌≡◌, ◌<◌, ◌^◌, ◌-◌, [], ℕ, All, List, Option, Some, None, false, refl, sym, subst, ◌∙◌, arith}
use Rattle.std.specs.Option.{option_map}
use Rattle.block.specs.EncodedEntry.{Entry}
use Rattle.folder.proofs.CountLemmas.{steady}
use Rattle.folder.proofs.ReportLemmas.{reads_then}
use Rattle.table.specs.Key.{IsInternalKey, sequence_of}
use Rattle.reads.proofs.Answers.{entries_are, not_held}
use Rattle.reads.specs.Bounds.{may_hold}
use Rattle.reads.specs.Tables.{table_entries}
use Rattle.reads.specs.Visible.{IsAnswer, IsNewest, visible_of}
use Rattle.scan.specs.UserHistory.{AreEntriesOf}
use Rattle.scan.proofs.Giving.{handed}
use Rattle.scan.proofs.HistorySteps.{AreWalked, IsNext, NextFits, all_passed, next_fits, none_left, none_walked, one_walked}
use Rattle.scan.proofs.Parts.{table_later}
use Rattle.scan.proofs.user_entries.entries_in_file.Goals as goal

pub returns-then-not-may_hold-clause-given : goal.returns-then-not-may_hold-clause-given
returns-then-not-may_hold-clause-given g c tables held is =
    let cmp = g.C.Comparator.cmp in
    let file = c.args.file.now in
    let user = c.args.user.now in
    let entries : List Entry = table_entries tables file.number in
    let keys : All (λ (e : Entry). IsInternalKey e.key) entries = subst (λ (es : List Entry). All (λ (e : Entry). IsInternalKey e.key) es) (sym (entries_are tables file.number is.table is.there)) is.keys in
    let out : may_hold cmp file user ≡ false = sym c.may_hold.ensures ∙ c.if-not-may_hold.true in
    subst (λ (found : List Entry). AreEntriesOf user entries found) (sym c.new-found.ensures.items)
    (none_left user entries (2 ^ 56 - 1) [] (none_walked user entries keys) (not_held cmp g.met.C.Comparator.total tables file user (2 ^ 56 - 1) is out))

pub older-init : goal.older-init
older-init g c =
    let file = c.args.file.now in
    let user = c.args.user.now in
    record {
      fits = omega arith;
      walked = λ tables held is.
          let entries : List Entry = table_entries tables file.number in
          let keys : All (λ (e : Entry). IsInternalKey e.key) entries = subst (λ (es : List Entry). All (λ (e : Entry). IsInternalKey e.key) es) (sym (entries_are tables file.number is.table is.there)) is.keys in
          subst (λ (found : List Entry). AreWalked user entries (Some (2 ^ 56 - 1)) found) (sym c.new-found.ensures.items) (none_walked user entries keys);
      reads = record { same = λ name told. ((λ h. h), (λ h. h)); calls = refl };
      failures = refl;
    }

pub returns-in_err-newest-clause-given : goal.returns-in_err-newest-clause-given
returns-in_err-newest-clause-given g c tables held is =
    let file = c.args.file.now in
    let there = table_later _ _ file.number is.table.bytes c.older.invariant.reads.same (held file.number is.table is.there) in
    handed c.from_residual.result c.in_err-newest.field-0.0 _ c.from_residual.ensures.1 (c.in_err-newest.ensures.given is.table there is.accepted is.size)

pub returns-in_default-newest-clause-given : goal.returns-in_default-newest-clause-given
returns-in_default-newest-clause-given g c tables held is =
    let file = c.args.file.now in
    let user = c.args.user.now in
    let at = c.in-Some.at in
    let entries : List Entry = table_entries tables file.number in
    let there = table_later _ _ file.number is.table.bytes c.older.invariant.reads.same (held file.number is.table is.there) in
    let walked = subst (λ (o : Option ℕ). AreWalked user entries o c.older.found.items) c.in-Some.is (c.older.invariant.walked tables held is) in
    let answer = subst (λ (o : Option Entry). IsAnswer is.table.entries user at (option_map visible_of o)) c.in_default-newest.is (c.in_ok-newest.ensures.given is.table there is.accepted is.size) in
    none_left user entries at c.older.found.items walked (subst (λ (es : List Entry). IsAnswer es user at None) (sym (entries_are tables file.number is.table is.there)) answer)

pub older-preserved : goal.older-preserved
older-preserved g c =
    let failed = g.F.Folder.failed in
    let file = c.args.file.now in
    let user = c.args.user.now in
    let at = c.in-Some.at in
    let own = c.in-Some-newest.entry in
    let next = c.before-next.result in
    let fits : at < 2 ^ 56 = subst NextFits c.in-Some.is c.older.invariant.fits in
    let after : IsNext at (sequence_of own.key) next = subst (λ (n : ℕ). IsNext at n next) c.sequence.ensures c.before-next.ensures in
    record {
      fits = next_fits at (sequence_of own.key) next fits after;
      walked = λ tables held is.
          let entries : List Entry = table_entries tables file.number in
          let there = table_later _ _ file.number is.table.bytes c.older.invariant.reads.same (held file.number is.table is.there) in
          let walked = subst (λ (o : Option ℕ). AreWalked user entries o c.older.found.items) c.in-Some.is (c.older.invariant.walked tables held is) in
          let answer = subst (λ (o : Option Entry). IsAnswer is.table.entries user at (option_map visible_of o)) c.in-Some-newest.is (c.in_ok-newest.ensures.given is.table there is.accepted is.size) in
          let new = subst (λ (es : List Entry). IsNewest es user at (visible_of own)) (sym (entries_are tables file.number is.table is.there)) answer in
          subst (λ (found : List Entry). AreWalked user entries next found) (sym c.in_ok-push.ensures.items) (one_walked user entries at next c.older.found.items own walked new after);
      reads = reads_then c.older.invariant.reads c.newest_of_user.ensures.reads;
      failures = steady (failed c.args.folder.now) (failed c.older.folder) (failed c.newest_of_user.new.folder) c.in_ok-newest.newest c.newest_of_user.result c.in_ok-newest.was c.older.invariant.failures c.newest_of_user.ensures.device.later
          c.newest_of_user.ensures.device.at_once;
    }

pub returns-clause-given : goal.returns-clause-given
returns-clause-given g c tables held is =
    let user = c.args.user.now in
    let entries : List Entry = table_entries tables c.args.file.now.number in
    all_passed user entries c.older.found.items (subst (λ (o : Option ℕ). AreWalked user entries o c.older.found.items) c.in_default.is (c.older.invariant.walked tables held is))

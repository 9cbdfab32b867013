use Rattle.std.proofs.Common.{◌≡◌, ℕ, true, List, ◌∷◌, drop, Option, None, Ok, refl, sym, ap, subst, ◌∙◌}
use Rattle.block.specs.EncodedEntry.{Entry}
use Rattle.merge.specs.MergedLists.{merged}
use Rattle.reads.specs.Ranges.{key_range}
use Rattle.merge.specs.InRange.{entries_in}
use Rattle.merge.specs.CursorsLeft.{is_before}
use Rattle.merge.proofs.FirstEntries.{fewer, first_some, head_is}
use Rattle.scan.specs.Row.{Row}
use Rattle.scan.specs.EntryRows.{entry_rows, rows_after, sorted_rows}
use Rattle.scan.specs.RowParts.{AreTelling, IsRowPart}
use Rattle.scan.specs.declared.row_limit.RowLimit.{RowLimit}
use Rattle.scan.proofs.MergedRows.{at_end, begun_after, merged_rows, walked_begun, walked_enough, walked_left, walked_more}
use Rattle.scan.proofs.Told.{handed_begun, none_told, refused_first}
use Rattle.scan.specs.ToldRows.{telling_by}
use Rattle.scan.proofs.merge_walk.tell_merged.Goals as goal

pub returns-in_err-skip_before-clause-told : goal.returns-in_err-skip_before-clause-told
returns-in_err-skip_before-clause-told g c =
    let tells = g.T.RowTaker.tells in
    let rows = sorted_rows g.C.Comparator.cmp (key_range c.args.range) c.args.at c.args.merging.now in
    handed_begun tells rows c.args.taker.now c.args.taker.now c.args.limit c.from_residual.result c.in_err-skip_before.field-0.0 c.from_residual.ensures.1 (refused_first tells rows c.args.taker.now c.args.taker.now c.args.limit refl)

pub loop-merging-init : goal.loop-merging-init
loop-merging-init g c =
    let cmp = g.C.Comparator.cmp in
    let range = key_range c.args.range in
    let at : ℕ = c.args.at in
    let tells = g.T.RowTaker.tells in
    let taker = c.args.taker.now in
    let rows = sorted_rows cmp range at c.args.merging.now in
    let start : rows ≡ rows_after at c.none-decided.result (entries_in cmp range (merged cmp c.skip_before.new.merging)) =
    merged_rows cmp g.met.C.Comparator.total range at c.args.merging.now
    ∙ ap (rows_after at None) (sym c.in_ok-skip_before.ensures.same)
    ∙ ap (λ (d : Option (List ℕ)). rows_after at d (entries_in cmp range (merged cmp c.skip_before.new.merging))) (sym c.none-decided.ensures) in
    record {
      part = subst (λ (rs : List Row). IsRowPart (telling_by tells taker taker) rows c.args.limit rs c.args.limit true) start (none_told tells rows taker taker c.args.limit refl);
      after = begun_after cmp g.met.C.Comparator.total range c.skip_before.new.merging c.in_ok-skip_before.ensures.begun;
      wanted = c.requires;
    }

pub key-key-requires : goal.key-key-requires
key-key-requires g c = λ k. ((refl, tt), first_some (is_before g.C.Comparator.cmp (key_range c.args.range).upper true) (merged g.C.Comparator.cmp c.loop-merging.merging) (sym c.starts_before.ensures ∙ c.loop-merging-test.true))

pub value-value-requires : goal.value-value-requires
value-value-requires g c = λ k. ((refl, tt), first_some (is_before g.C.Comparator.cmp (key_range c.args.range).upper true) (merged g.C.Comparator.cmp c.loop-merging.merging) (sym c.starts_before.ensures ∙ c.loop-merging-test.true))

pub walk_entry-requires : goal.walk_entry-requires
walk_entry-requires g c = c.loop-merging.invariant.wanted

pub advance-requires : goal.advance-requires
advance-requires g c = λ k. ((refl, tt), first_some (is_before g.C.Comparator.cmp (key_range c.args.range).upper true) (merged g.C.Comparator.cmp c.loop-merging.merging) (sym c.starts_before.ensures ∙ c.loop-merging-test.true))

pub loop-merging-smaller : goal.loop-merging-smaller
loop-merging-smaller g c =
    fewer (is_before g.C.Comparator.cmp (key_range c.args.range).upper true) (merged g.C.Comparator.cmp c.loop-merging.merging) (merged g.C.Comparator.cmp c.advance.new.self) (sym c.starts_before.ensures ∙ c.loop-merging-test.true) c.in_ok-advance.ensures.ok

pub loop-merging-preserved : goal.loop-merging-preserved
loop-merging-preserved g c =
    let cmp = g.C.Comparator.cmp in
    let range = key_range c.args.range in
    let at : ℕ = c.args.at in
    let tells = g.T.RowTaker.tells in
    let now = c.loop-merging in
    let e : Entry = record { key = c.key-key.result.bytes.now; value = c.value-value.result.now } in
    let head : merged cmp now.merging ≡ e ∷ drop 1 (merged cmp now.merging) = head_is (merged cmp now.merging) c.key-key.result.bytes.now c.value-value.result.now c.key-key.ensures c.value-value.ensures in
    let told = subst (λ (w : RowLimit). AreTelling tells (entry_rows at now.decided e) now.taker now.left c.walk_entry.new.taker (Ok w)) c.in-More.is c.in_ok-wanted.ensures.told in
    walked_more cmp g.met.C.Comparator.total range tells at (sorted_rows cmp range at c.args.merging.now) c.args.taker.now now.taker c.walk_entry.new.taker c.args.limit now.left (merged cmp now.merging) now.decided e now.invariant (sym c.starts_before.ensures ∙ c.loop-merging-test.true) head
    c.in-More.less c.walk_entry.new.decided (merged cmp c.advance.new.self) told c.in_ok-wanted.ensures.decided c.in_ok-advance.ensures.ok

pub returns-in_err-wanted-clause-told : goal.returns-in_err-wanted-clause-told
returns-in_err-wanted-clause-told g c =
    let cmp = g.C.Comparator.cmp in
    let range = key_range c.args.range in
    let at : ℕ = c.args.at in
    let tells = g.T.RowTaker.tells in
    let now = c.loop-merging in
    let rows = sorted_rows cmp range at c.args.merging.now in
    let e : Entry = record { key = c.key-key.result.bytes.now; value = c.value-value.result.now } in
    let head : merged cmp now.merging ≡ e ∷ drop 1 (merged cmp now.merging) = head_is (merged cmp now.merging) c.key-key.result.bytes.now c.value-value.result.now c.key-key.ensures c.value-value.ensures in
    handed_begun tells rows c.args.taker.now c.walk_entry.new.taker c.args.limit c.from_residual-in_err-wanted.result c.in_err-wanted.field-0.0 c.from_residual-in_err-wanted.ensures.1
    (walked_begun cmp g.met.C.Comparator.total range tells at rows c.args.taker.now now.taker c.walk_entry.new.taker c.args.limit now.left (merged cmp now.merging) now.decided e now.invariant (sym c.starts_before.ensures ∙ c.loop-merging-test.true) head c.in_err-wanted.ensures.told)

pub returns-in_default-clause-told : goal.returns-in_default-clause-told
returns-in_default-clause-told g c =
    let cmp = g.C.Comparator.cmp in
    let range = key_range c.args.range in
    let at : ℕ = c.args.at in
    let tells = g.T.RowTaker.tells in
    let now = c.loop-merging in
    let e : Entry = record { key = c.key-key.result.bytes.now; value = c.value-value.result.now } in
    let head : merged cmp now.merging ≡ e ∷ drop 1 (merged cmp now.merging) = head_is (merged cmp now.merging) c.key-key.result.bytes.now c.value-value.result.now c.key-key.ensures c.value-value.ensures in
    let told = subst (λ (w : RowLimit). AreTelling tells (entry_rows at now.decided e) now.taker now.left c.walk_entry.new.taker (Ok w)) c.in_default.is c.in_ok-wanted.ensures.told in
    walked_enough cmp g.met.C.Comparator.total range tells at (sorted_rows cmp range at c.args.merging.now) c.args.taker.now now.taker c.walk_entry.new.taker c.args.limit now.left (merged cmp now.merging) now.decided e now.invariant (sym c.starts_before.ensures ∙ c.loop-merging-test.true) head told

pub returns-in_err-advance-clause-told : goal.returns-in_err-advance-clause-told
returns-in_err-advance-clause-told g c =
    let cmp = g.C.Comparator.cmp in
    let range = key_range c.args.range in
    let at : ℕ = c.args.at in
    let tells = g.T.RowTaker.tells in
    let now = c.loop-merging in
    let rows = sorted_rows cmp range at c.args.merging.now in
    let e : Entry = record { key = c.key-key.result.bytes.now; value = c.value-value.result.now } in
    let head : merged cmp now.merging ≡ e ∷ drop 1 (merged cmp now.merging) = head_is (merged cmp now.merging) c.key-key.result.bytes.now c.value-value.result.now c.key-key.ensures c.value-value.ensures in
    let told = subst (λ (w : RowLimit). AreTelling tells (entry_rows at now.decided e) now.taker now.left c.walk_entry.new.taker (Ok w)) c.in-More.is c.in_ok-wanted.ensures.told in
    handed_begun tells rows c.args.taker.now c.walk_entry.new.taker c.args.limit c.from_residual-in_err-advance.result c.in_err-advance.field-0.0 c.from_residual-in_err-advance.ensures.1
    (walked_left cmp g.met.C.Comparator.total range tells at rows c.args.taker.now now.taker c.walk_entry.new.taker c.args.limit now.left (merged cmp now.merging) now.decided e now.invariant (sym c.starts_before.ensures ∙ c.loop-merging-test.true) head c.in-More.less told)

pub returns-clause-told : goal.returns-clause-told
returns-clause-told g c =
    let cmp = g.C.Comparator.cmp in
    let range = key_range c.args.range in
    let at : ℕ = c.args.at in
    let tells = g.T.RowTaker.tells in
    let now = c.loop-merging in
    let none = at_end cmp g.met.C.Comparator.total range now.merging now.invariant.after (sym c.starts_before.ensures ∙ c.loop-merging-test.false) in (
      now.invariant.wanted,
      subst (λ (es : List Entry). IsRowPart (telling_by tells c.args.taker.now now.taker) (sorted_rows cmp range at c.args.merging.now) c.args.limit (rows_after at now.decided es) now.left true) none now.invariant.part,
    )

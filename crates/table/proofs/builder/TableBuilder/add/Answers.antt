use Rattle.std.proofs.Common.{◌≡◌, ℕ, List, [], ◌++◌, ◌∷◌, length, sym, ap, subst, refl, ◌∙◌}
use Rattle.block.specs.EncodedEntry.{Entry}
use Rattle.block.specs.BlockFormat.{block}
use Rattle.block.specs.BuilderView.{BlockBuilding, last_key, with_entry}
use Rattle.ikey.specs.ShortenedKeys.{internal_separator_of}
use Rattle.table.specs.declared.options.Options.{Options}
use Rattle.table.specs.Table.{index_keys}
use Rattle.table.specs.declared.flushed_block.FlushedBlock.{FlushedBlock}
use Rattle.table.specs.FlushedBlocks.{flushed_block_at}
use Rattle.table.specs.BuilderView.{TableBuilding}
use Rattle.table.specs.BuilderState.{entries_so_far, IsAnyTableBuilder}
use Rattle.table.proofs.Builds.{Adds, first_fits, open_fits, grows, flushes}
use Rattle.table.proofs.Refused.{ok_is}
use Rattle.table.proofs.builder.TableBuilder.add.Given.{Over}
use Rattle.table.proofs.builder.TableBuilder.add.Goals as goal
use Rattle.table.proofs.builder.TableBuilder.add.Goals.{In_ok-add, After-clear-2}

-- what a table is seen as
abbrev seen : Options → List Entry → TableBuilding
seen o q = record { options = o; entries = q }

pub add-requires : goal.add-requires
add-requires g c =
    let was = c.self.inside in
    open_fits (index_keys g.C.Comparator.cmp g.C.Comparator.short_keys) was.options was.flushed.bytes.items was.flushed.index.items was.block c.args.key.bytes.now c.args.value.now c.self.invariant.0 (sym c.is_full.ensures ∙ c.if-not-is_full.true) c.args.key.lawful c.requires.value_fits

pub add-requires-2 : goal.add-requires-2
add-requires-2 g c =
    first_fits c.self.inside.next c.args.key.bytes.now c.args.value.now (ap (λ (b : BlockBuilding). b.entries) c.self.invariant.1) c.args.key.lawful c.requires.value_fits

-- ---- the entry goes into the open block

grown : (g : Over) (c : In_ok-add g) → Adds (index_keys g.C.Comparator.cmp g.C.Comparator.short_keys) c.self.inside.options (entries_so_far c.self.inside.flushed.bytes.items c.self.inside.flushed.index.items c.self.inside.block.entries) c.args.key.bytes.now c.args.value.now
    c.self.inside.options c.self.inside.flushed.bytes.items c.self.inside.flushed.index.items c.add.new.self
grown g c =
    let was = c.self.inside in
    let keys = index_keys g.C.Comparator.cmp g.C.Comparator.short_keys in
    grows keys was.options was.flushed.bytes.items was.flushed.index.items was.block c.args.key.bytes.now c.args.value.now _ _ _ _ c.self.invariant.0 (sym c.is_full.ensures ∙ c.if-not-is_full.true) c.args.key.lawful c.requires.value_fits refl refl refl c.in_ok-add.ensures.ok

pub invariant_of-self : goal.invariant_of-self
invariant_of-self g c = rw (c.in_err-add.ensures.err) c.self.invariant

pub invariant_of-self-then-not-is_full : goal.invariant_of-self-then-not-is_full
invariant_of-self-then-not-is_full g c = ((grown g c).kept, c.self.invariant.1)

pub returns-then-not-is_full-clause-ok : goal.returns-then-not-is_full-clause-ok
returns-then-not-is_full-clause-ok g c =
    ap (seen c.self.inside.options) (grown g c).entries ∙ ap (λ (b : TableBuilding). seen b.options (with_entry b.entries c.args.key.bytes.now c.args.value.now)) c.self.view_is

-- ---- the open block is flushed, and the entry begins another

begun : (g : Over) (c : After-clear-2 g) → Adds (index_keys g.C.Comparator.cmp g.C.Comparator.short_keys) c.self.inside.options (entries_so_far c.self.inside.flushed.bytes.items c.self.inside.flushed.index.items c.self.inside.block.entries) c.args.key.bytes.now c.args.value.now
    c.self.inside.options c.push.new.self.bytes.items c.push.new.self.index.items c.add-2.new.self
unfolding index_keys
begun g c =
    let was = c.self.inside in
    let keys = index_keys g.C.Comparator.cmp g.C.Comparator.short_keys in
    let key : List ℕ = c.args.key.bytes.now in
    let between : c.in_ok-between.between ≡ internal_separator_of g.C.Comparator.cmp g.C.Comparator.short_keys.separator (last_key [] was.block.entries) key =
    sym (ok_is c.in_ok-between.ensures.separator) ∙ ap (λ (x : List ℕ). internal_separator_of g.C.Comparator.cmp g.C.Comparator.short_keys.separator x key) c.last_key.ensures in
    let size : ℕ = length (block was.block.interval was.block.entries) in
    flushes keys was.options was.flushed.bytes.items was.flushed.index.items was.block key c.args.value.now _ _ _ _ c.self.invariant.0 (sym c.is_full.ensures ∙ c.if-not-is_full.false) c.args.key.lawful c.requires.value_fits
    refl
    c.in_default.ensures.bytes
    (c.in_default.ensures.index ∙ ap (λ (k : List ℕ). was.flushed.index.items ++ flushed_block_at k (length was.flushed.bytes.items) size ∷ []) between)
    (c.in_ok-add-2.ensures.ok ∙ ap (λ (b : BlockBuilding). record { interval = b.interval; entries = with_entry b.entries key c.args.value.now }) c.self.invariant.1)

pub invariant_of-self-2 : goal.invariant_of-self-2
invariant_of-self-2 g c =
    let spare = c.clear-2.ensures ∙ ap (λ (b : BlockBuilding). record { interval = b.interval; entries = [] }) c.swap.ensures.y_after ∙ ap (λ (n : ℕ). record { interval = n; entries = [] }) c.self.invariant.0.1.interval_is in
    rw (c.swap.ensures.x_after) ((begun g c).kept, spare)

pub returns-clause-ok : goal.returns-clause-ok
returns-clause-ok g c =
    let bytes = c.push.new.self.bytes.items in
    let index = c.push.new.self.index.items in
    ap (λ (b : BlockBuilding). seen c.self.inside.options (entries_so_far bytes index b.entries)) c.swap.ensures.x_after
    ∙ ap (seen c.self.inside.options) (begun g c).entries
    ∙ ap (λ (b : TableBuilding). seen b.options (with_entry b.entries c.args.key.bytes.now c.args.value.now)) c.self.view_is

-- ---- a refusal leaves it as it was

pub invariant_of-self-in_err-add-2 : goal.invariant_of-self-in_err-add-2
invariant_of-self-in_err-add-2 g c = rw (c.in_err-add-2.ensures.err) c.self.invariant

pub invariant_of-self-in-Err : goal.invariant_of-self-in-Err
invariant_of-self-in-Err g c =
    let was = c.self.inside in
    let keys = index_keys g.C.Comparator.cmp g.C.Comparator.short_keys in
    let added = c.in_ok-add-2.ensures.ok ∙ ap (λ (b : BlockBuilding). record { interval = b.interval; entries = with_entry b.entries c.args.key.bytes.now c.args.value.now }) c.self.invariant.1 in (
      subst (λ (b : List ℕ). IsAnyTableBuilder keys was.options b c.push.new.self.index.items was.block) (sym c.in-Err.ensures.bytes_stay)
          (subst (λ (i : List FlushedBlock). IsAnyTableBuilder keys was.options was.flushed.bytes.items i was.block) (sym c.in-Err.ensures.index_stays) c.self.invariant.0),
      c.clear.ensures ∙ ap (λ (b : BlockBuilding). record { interval = b.interval; entries = [] }) added,
    )

pub returns-in-Err-clause-err : goal.returns-in-Err-clause-err
returns-in-Err-clause-err g c =
    let was = c.self.inside in
    ap (λ (b : List ℕ). seen was.options (entries_so_far b c.push.new.self.index.items was.block.entries)) c.in-Err.ensures.bytes_stay
    ∙ ap (λ (i : List FlushedBlock). seen was.options (entries_so_far was.flushed.bytes.items i was.block.entries)) c.in-Err.ensures.index_stays
    ∙ c.self.view_is

-- The data blocks of a plan make its tables.
use Rattle.std.proofs.Common.{◌≡◌, ◌≢◌, ℕ, zero, suc, ◌+◌, ◌^◌, ◌<◌, ◌≤◌, List, [], ◌∷◌, ◌++◌, length, map, take, drop, get_or, refl, sym, ap, ◌∙◌, arith}
use Rattle.std.specs.Prelude.{flat_map, slice_get, Some}
use Rattle.std.specs.List.{AllByRecursion}
use Rattle.std.specs.Option.{option_map}
use Rattle.std.specs.declared.cmp.Ordering.{Ordering}
use Rattle.std.proofs.lemmas.List.{length-map, map-append, take_at, drop_at, drop_more}
use Rattle.std.proofs.lemmas.Option.{slice_get-map}
use Rattle.block.specs.EncodedEntry.{Entry}
use Rattle.table.specs.declared.options.Options.{Options}
use Rattle.table.specs.Table.{IndexKeys, index_keys, stored_blocks, table, table_of_blocks}
use Rattle.cut.specs.declared.planned_block.PlannedBlock.{PlannedBlock}
use Rattle.cut.specs.BlockNumbers.{planned_blocks}
use Rattle.cut.specs.PlannedBlocks.{IsPlanned, block_lists}
use Rattle.cut.specs.declared.planned_output.PlannedOutput.{PlannedOutput}
use Rattle.cut.specs.PlanTables.{IsReady, stored_each, stored_one, tables_of}
use Rattle.cut.specs.OutputInProgress.{entries_in_blocks, HasLen, ArePlanned}
use Rattle.cut.specs.Plan.{OutputView, plan_tables}
use Rattle.cut.specs.PlanInvariant.{planned_of, IsPlannedOutput}
use Rattle.cut.proofs.PlanBlocks.{output_here}
use Rattle.ikey.specs.Comparator.{ShortKeys}

-- ---- the pieces of one output are taken off

map-drop : {X Y : Type 0} (f : X → Y) (n : ℕ) (xs : List X) → drop n (map f xs) ≡ map f (drop n xs)
map-drop f zero xs = refl
map-drop f (suc n) [] = refl
map-drop f (suc n) (x ∷ xs) = map-drop f n xs

map-take : {X Y : Type 0} (f : X → Y) (n : ℕ) (xs : List X) → take n (map f xs) ≡ map f (take n xs)
map-take f zero xs = refl
map-take f (suc n) [] = refl
map-take {Y = Y} f (suc n) (x ∷ xs) = ap (λ (ys : List Y). f x ∷ ys) (map-take f n xs)

-- the bytes of elements are those of blocks, one by one, and so joined
flat_of : {X : Type 0} (f : X → List ℕ) (interval : ℕ) (xs : List X) (bs : List PlannedBlock) → map f xs ≡ map (stored_one interval) bs → flat_map f xs ≡ stored_blocks interval (block_lists bs)
flat_of f interval [] [] e = refl
flat_of f interval [] (b ∷ bs) e = absurd cc
flat_of f interval (x ∷ xs) [] e = absurd cc
flat_of f interval (x ∷ xs) (b ∷ bs) e =
    let first : f x ≡ stored_one interval b = cc in
    let rest : map f xs ≡ map (stored_one interval) bs = cc in
    ap (λ (bytes : List ℕ). bytes ++ flat_map f xs) first ∙ ap (λ (bytes : List ℕ). stored_one interval b ++ bytes) (flat_of f interval xs bs rest)

module _ {X : Type 0} (f : X → List ℕ) (interval : ℕ) (outputs : List PlannedOutput) (i : ℕ) (p : PlannedOutput) (old : List X) (lt : i < length outputs) (is : get_or outputs i p ≡ p) (all : map f old ≡ stored_each interval (drop i outputs)) where
  split : map f old ≡ map (stored_one interval) p.blocks.items ++ stored_each interval (drop (i + 1) outputs)
  split =
      all
      ∙ ap (stored_each interval) (drop_more outputs i p lt ∙ ap (λ (x : PlannedOutput). x ∷ drop (i + 1) outputs) is)
      ∙ map-append (stored_one interval) p.blocks.items (planned_blocks (drop (i + 1) outputs))

  pub front_bytes : flat_map f (take (length p.blocks.items) old) ≡ stored_blocks interval (block_lists p.blocks.items)
  front_bytes =
      flat_of f interval (take (length p.blocks.items) old) p.blocks.items
      (sym (map-take f (length p.blocks.items) old)
      ∙ ap (take (length p.blocks.items)) split
      ∙ take_at (map (stored_one interval) p.blocks.items) (stored_each interval (drop (i + 1) outputs)) (length p.blocks.items) (length-map p.blocks.items (stored_one interval)))

  pub left_bytes : map f (drop (length p.blocks.items) old) ≡ stored_each interval (drop (i + 1) outputs)
  left_bytes =
      sym (map-drop f (length p.blocks.items) old)
      ∙ ap (drop (length p.blocks.items)) split
      ∙ drop_at (map (stored_one interval) p.blocks.items) (stored_each interval (drop (i + 1) outputs)) (length p.blocks.items) (length-map p.blocks.items (stored_one interval))

-- ---- the outputs of a plan are ready

each_planned : (o : Options) (blocks : List PlannedBlock) → AllByRecursion (HasLen o) blocks → AllByRecursion (λ (b : PlannedBlock). b.entries.entries ≢ []) blocks → AllByRecursion (IsPlanned o.restart_interval) blocks
each_planned o [] h some = tt
each_planned o (b ∷ bs) h some = (record { some = some.0; len_is = h.0 }, each_planned o bs h.1 some.1)

table_is : (cmp : List ℕ → List ℕ → Ordering) (short_keys : ShortKeys) (o : Options) (blocks : List PlannedBlock) → ArePlanned o blocks
    → table cmp short_keys o (entries_in_blocks blocks) ≡ table_of_blocks (index_keys cmp short_keys) o.restart_interval (block_lists blocks)
unfolding table
table_is cmp short_keys o blocks h = ap (table_of_blocks (index_keys cmp short_keys) o.restart_interval) (sym h.cut)

module _ (cmp : List ℕ → List ℕ → Ordering) (short_keys : ShortKeys) (o : Options) where
  abbrev T : List Entry → List ℕ
  T q = table cmp short_keys o q

  abbrev keys : IndexKeys
  keys = index_keys cmp short_keys

  pub tables_are : (outputs : List PlannedOutput) → AllByRecursion (IsPlannedOutput T o) outputs → tables_of keys o.restart_interval outputs ≡ plan_tables T (map planned_of outputs)
  tables_are [] h = refl
  tables_are (p ∷ ps) h =
      ap (λ (bs : List ℕ). (p.number, bs) ∷ tables_of keys o.restart_interval ps) (sym (table_is cmp short_keys o p.blocks.items h.0.planned))
      ∙ ap (λ (ts : List (ℕ × List ℕ)). (p.number, T (entries_in_blocks p.blocks.items)) ∷ ts) (tables_are ps h.1)

  -- ---- one output, encoded whole

  pub one_planned : (p : PlannedOutput) → IsPlannedOutput T o p → AllByRecursion (IsPlanned o.restart_interval) p.blocks.items
  one_planned p h = each_planned o p.blocks.items h.planned.lens h.some.some

  pub one_fits : (p : PlannedOutput) → IsPlannedOutput T o p → length (table_of_blocks keys o.restart_interval (block_lists p.blocks.items)) ≤ 2 ^ 30
  one_fits p h = omega (arith, h.len_is, h.len_le, ap length (table_is cmp short_keys o p.blocks.items h.planned))

  -- its number and its table
  pub table_here : (outputs : List PlannedOutput) (i : ℕ) (p : PlannedOutput) → i < length outputs → get_or outputs i p ≡ p → IsPlannedOutput T o p
      → slice_get (plan_tables T (map planned_of outputs)) i ≡ Some (p.number, table_of_blocks keys o.restart_interval (block_lists p.blocks.items))
  table_here outputs i p lt is h =
      let seen : OutputView → ℕ × List ℕ = λ v. (v.number, T v.entries) in
      slice_get-map seen (map planned_of outputs) i
      ∙ ap (option_map seen) (output_here outputs i p lt is)
      ∙ ap (λ (bs : List ℕ). Some (p.number, bs)) (table_is cmp short_keys o p.blocks.items h.planned)

  pub all_ready : (outputs : List PlannedOutput) → AllByRecursion (IsPlannedOutput T o) outputs → AllByRecursion (IsReady keys o.restart_interval) outputs
  all_ready [] h = tt
  all_ready (p ∷ ps) h = (record { planned = one_planned p h.0; fits = one_fits p h.0 }, all_ready ps h.1)

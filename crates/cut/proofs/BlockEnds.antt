-- Where the data blocks of an output end, and that there are no more entries than bytes.
use Rattle.std.proofs.Common.{◌≡◌, ℕ, zero, suc, ◌+◌, ◌<◌, ◌≤◌, List, [], ◌∷◌, ◌++◌, length, take, get_or, ap, sym, ◌∙◌, append-nil, append_assoc, arith, refl}
use Rattle.std.specs.Prelude.{Some, None, slice_get}
use Rattle.std.specs.declared.cmp.Ordering.{Ordering}
use Rattle.std.proofs.lemmas.List.{length-append}
use Rattle.coding.proofs.Varints.{length-varint_pos}
use Rattle.block.specs.EncodedEntry.{Entry, EncodedEntry}
use Rattle.block.specs.BlockFormat.{block, encoded_entry_of}
use Rattle.block.specs.BuilderView.{last_key}
use Rattle.ikey.specs.Comparator.{ShortKeys}
use Rattle.table.specs.declared.options.Options.{Options}
use Rattle.table.specs.declared.table_check.TheConstants.{MAX_TABLE_LEN}
use Rattle.table.specs.Table.{table}
use Rattle.cut.specs.declared.planned_block.PlannedBlock.{PlannedBlock}
use Rattle.cut.specs.declared.planned_output.PlannedOutput.{PlannedOutput}
use Rattle.cut.specs.PlannedBlocks.{block_lists}
use Rattle.cut.specs.OutputInProgress.{entries_in_blocks, stored_len}
use Rattle.cut.specs.Plan.{block_ends_from}
use Rattle.cut.specs.PlanInvariant.{IsPlannedOutput}
use Rattle.cut.proofs.Metered.{length-piece}
use Rattle.cut.proofs.MeteredLengths.{lengths_law}
use Rattle.cut.proofs.TableLengths.{length-table, stored_cons}

-- ---- no more entries than bytes

module _ (interval : ℕ) where
  -- an entry adds a byte at least
  one_more : (q : List Entry) (e : Entry) → length (block interval q) + 1 ≤ length (block interval (q ++ e ∷ []))
  one_more q e =
      let p : EncodedEntry = encoded_entry_of interval (length q) (last_key [] q) e in
      omega (arith, lengths_law.more interval q e, length-piece p, length-varint_pos p.shared)

  all_more : (front back : List Entry) → length (block interval front) + length back ≤ length (block interval (front ++ back))
  all_more front [] = omega (arith, ap (λ (q : List Entry). length (block interval q)) (append-nil front))
  all_more front (e ∷ es) =
      omega (arith, one_more front e, all_more (front ++ e ∷ []) es, ap (λ (q : List Entry). length (block interval q)) (append_assoc front (e ∷ []) es))

  block_holds : (q : List Entry) → length q ≤ length (block interval q)
  block_holds q = omega (arith, all_more [] q)

stored_holds : (o : Options) (blocks : List PlannedBlock) → length (entries_in_blocks blocks) ≤ stored_len o.restart_interval (block_lists blocks)
stored_holds o [] = omega arith
stored_holds o (b ∷ bs) =
    omega (arith, length-append b.entries.entries (entries_in_blocks bs), stored_cons o b.entries.entries (block_lists bs), block_holds o.restart_interval b.entries.entries, stored_holds o bs)

pub output_holds : (cmp : List ℕ → List ℕ → Ordering) (short_keys : ShortKeys) (o : Options) (p : PlannedOutput) → IsPlannedOutput (table cmp short_keys o) o p → length (entries_in_blocks p.blocks.items) ≤ MAX_TABLE_LEN
output_holds cmp short_keys o p h =
    omega (arith, h.len_is, h.len_le, length-table cmp short_keys o p.blocks.items h.planned, stored_holds o p.blocks.items)

-- ---- a block

pub part_at : (blocks : List PlannedBlock) (i : ℕ) (b : PlannedBlock) → i < length blocks → slice_get (block_lists blocks) i ≡ Some (get_or blocks i b).entries.entries
part_at [] i b lt = absurd (omega arith)
part_at (x ∷ xs) zero b lt = refl
part_at (x ∷ xs) (suc i) b lt = part_at xs i b (omega arith)

pub part_none : (blocks : List PlannedBlock) (i : ℕ) → length blocks ≤ i → slice_get (block_lists blocks) i ≡ None
part_none [] zero le = refl
part_none [] (suc i) le = refl
part_none (b ∷ bs) zero le = absurd (omega arith)
part_none (b ∷ bs) (suc i) le = part_none bs i (omega arith)

-- ---- the ends

pub front_le : (blocks : List PlannedBlock) (n : ℕ) → length (entries_in_blocks (take n blocks)) ≤ length (entries_in_blocks blocks)
front_le blocks zero = omega arith
front_le [] (suc n) = omega arith
front_le (b ∷ bs) (suc n) =
    omega (arith, length-append b.entries.entries (entries_in_blocks (take n bs)), length-append b.entries.entries (entries_in_blocks bs), front_le bs n)

pub end_at : (at : ℕ) (blocks : List PlannedBlock) (i : ℕ) → i < length blocks → slice_get (block_ends_from at (block_lists blocks)) i ≡ Some (at + length (entries_in_blocks (take (suc i) blocks)))
end_at at [] i lt = absurd (omega arith)
end_at at (b ∷ bs) zero lt = ap (λ (q : List Entry). Some (at + length q)) (sym (append-nil b.entries.entries))
end_at at (b ∷ bs) (suc i) lt =
    let rest : List Entry = entries_in_blocks (take (suc i) bs) in
    let same : at + length b.entries.entries + length rest ≡ at + length (b.entries.entries ++ rest) = omega (arith, length-append b.entries.entries rest) in
    end_at (at + length b.entries.entries) bs i (omega arith) ∙ ap (λ (n : ℕ). Some n) same

pub end_none : (at : ℕ) (blocks : List PlannedBlock) (i : ℕ) → length blocks ≤ i → slice_get (block_ends_from at (block_lists blocks)) i ≡ None
end_none at [] zero le = refl
end_none at [] (suc i) le = refl
end_none at (b ∷ bs) zero le = absurd (omega arith)
end_none at (b ∷ bs) (suc i) le = end_none (at + length b.entries.entries) bs i (omega arith)

-- The entries of planned data blocks: their number, the first and the last.
use Rattle.std.proofs.Common.{◌≡◌, ◌≢◌, ℕ, zero, suc, ◌+◌, ◌<◌, List, [], ◌∷◌, ◌++◌, length, get_or, refl, sym, ap, subst, ◌∙◌, append-nil, arith}
use Rattle.std.specs.Prelude.{Option, Some, None, slice_get}
use Rattle.std.specs.List.{AllByRecursion, last_or}
use Rattle.std.specs.Option.{option_map}
use Rattle.std.proofs.lemmas.List.{length-map}
use Rattle.std.proofs.lemmas.Option.{same_Some}
use Rattle.block.specs.EncodedEntry.{Entry}
use Rattle.block.specs.BuilderView.{last_key}
use Rattle.table.specs.EntryTests.{first_key}
use Rattle.cut.specs.declared.planned_block.PlannedBlock.{PlannedBlock}
use Rattle.cut.specs.BlockInProgress.{last_entry_key}
use Rattle.cut.specs.PlannedBlocks.{block_lists}
use Rattle.cut.specs.OutputInProgress.{entries_in_blocks}
use Rattle.cut.specs.Plan.{block_ends_from}
use Rattle.cut.specs.PlanInvariant.{HaveEntries}
use Rattle.cut.proofs.Metered.{ended_is}

first_same : (q here there : List Entry) (key : List ℕ) → q ≢ [] → option_map (λ (e : Entry). e.key) (slice_get (q ++ here) 0) ≡ Some key → option_map (λ (e : Entry). e.key) (slice_get (q ++ there) 0) ≡ Some key
first_same [] here there key some is = absurd (some refl)
first_same (e ∷ es) here there key some is = is

pub first_of : (blocks : List PlannedBlock) (b : PlannedBlock) (key : List ℕ) → 0 < length blocks → get_or blocks 0 b ≡ b → b.entries.entries ≢ []
    → option_map (λ (e : Entry). e.key) (slice_get (b.entries.entries ++ b.entries.behind) 0) ≡ Some key → option_map (λ (e : Entry). e.key) (slice_get (entries_in_blocks blocks) 0) ≡ Some key
first_of [] b key lt is some first = absurd (omega arith)
first_of (x ∷ xs) b key lt is some first =
    subst (λ (y : PlannedBlock). option_map (λ (e : Entry). e.key) (slice_get (y.entries.entries ++ entries_in_blocks xs) 0) ≡ Some key) (sym is) (first_same b.entries.entries b.entries.behind (entries_in_blocks xs) key some first)

last_of : (o : Option Entry) (xs ys : List Entry) → ys ≢ [] → last_or o (xs ++ ys) ≡ last_or None ys
last_of o [] [] some = absurd (some refl)
last_of o [] (y ∷ ys) some = refl
last_of o (x ∷ xs) ys some = last_of (Some x) xs ys some

pub ended_append : (xs ys : List Entry) → ys ≢ [] → last_entry_key (xs ++ ys) ≡ last_entry_key ys
ended_append xs ys some = ap (option_map (λ (e : Entry). e.key)) (last_of None xs ys some)

front_some : (xs ys : List Entry) → xs ≢ [] → xs ++ ys ≢ []
front_some [] ys some = absurd (some refl)
front_some (x ∷ xs) ys some = λ none. absurd (cc)

-- ---- the bounds

pub entries_some : (blocks : List PlannedBlock) → HaveEntries blocks → entries_in_blocks blocks ≢ []
entries_some [] h = absurd (h.any refl)
entries_some (b ∷ bs) h = front_some b.entries.entries (entries_in_blocks bs) h.some.0

pub first_is : (es : List Entry) (key : List ℕ) → option_map (λ (e : Entry). e.key) (slice_get es 0) ≡ Some key → key ≡ first_key es
first_is [] key h = absurd cc
first_is (e ∷ es) key h = sym (same_Some e.key key h)

pub last_is : (es : List Entry) (key : List ℕ) → last_entry_key es ≡ Some key → key ≡ last_key [] es
last_is [] key h = absurd cc
last_is (e ∷ es) key h = sym (same_Some (last_key e.key es) key (sym (ended_is e es) ∙ h))

pub last_block : (blocks : List PlannedBlock) (i : ℕ) (b : PlannedBlock) → i + 1 ≡ length blocks → AllByRecursion (λ (x : PlannedBlock). x.entries.entries ≢ []) blocks → get_or blocks i b ≡ b → last_entry_key (entries_in_blocks blocks) ≡ last_entry_key b.entries.entries
last_block [] i b end some is = absurd (omega arith)
last_block (x ∷ []) zero b end some is = ap last_entry_key (append-nil x.entries.entries) ∙ ap (λ (y : PlannedBlock). last_entry_key y.entries.entries) is
last_block (x ∷ []) (suc i) b end some is = absurd (omega arith)
last_block (x ∷ y ∷ ys) zero b end some is = absurd (omega arith)
last_block (x ∷ y ∷ ys) (suc i) b end some is =
    ended_append x.entries.entries (entries_in_blocks (y ∷ ys)) (front_some y.entries.entries (entries_in_blocks ys) some.1.0) ∙ last_block (y ∷ ys) i b (omega arith) some.1 is

length-ends : (at : ℕ) (ps : List (List Entry)) → length (block_ends_from at ps) ≡ length ps
length-ends at [] = refl
length-ends at (p ∷ ps) = let rest = length-ends (at + length p) ps in omega (arith, rest)

pub blocks_are : (blocks : List PlannedBlock) → length blocks ≡ length (block_ends_from 0 (block_lists blocks))
blocks_are blocks = sym (length-ends 0 (block_lists blocks) ∙ length-map blocks (λ (b : PlannedBlock). b.entries.entries))

pub some_len : (blocks : List PlannedBlock) → blocks ≢ [] → 0 < length blocks
some_len [] some = absurd (some refl)
some_len (b ∷ bs) some = omega arith

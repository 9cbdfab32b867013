-- A block that takes in entries, one after the other, until it is full.
use Rattle.std.proofs.Common.{◌≡◌, ℕ, ◌+◌, ◌-◌, ◌^◌, ◌<◌, ◌≤◌, false, List, [], ◌∷◌, ◌++◌, length, take, drop, min, refl, sym, ap, subst, ◌∙◌, append_assoc, append-nil, inl, inr, arith}
use Rattle.std.specs.Prelude.{Option, Some, None, slice_get}
use Rattle.std.specs.List.{last_or}
use Rattle.std.specs.Option.{option_map}
use Rattle.std.proofs.lemmas.Bool.{cases_lt, leb-false, lt-leb}
use Rattle.std.proofs.lemmas.List.{length-append, length-drop, length-take}
use Rattle.std.proofs.Math.Seq.{take-add}
use Rattle.coding.specs.Saturated.{saturated}
use Rattle.block.specs.EncodedEntry.{Entry}
use Rattle.block.specs.BlockFormat.{block}
use Rattle.table.specs.declared.options.Options.{Options}
use Rattle.table.specs.DataBlocks.{is_full}
use Rattle.keep.proofs.ChunkLists.{first_dropped}
use Rattle.cut.proofs.Lists.{length_le_block}
use Rattle.cut.proofs.Places.{drop_next, last_joined, last_counted}
use Rattle.cut.specs.BlockInProgress.{BlockInProgress, IsMetered, block_after_entries, last_entry_key, next_since, added_size}
use Rattle.cut.proofs.Metered.{metered_push}

-- `taken` of the entries after are taken in, and the block was full before none of them; `rest` is what is left, and `before` the key
-- before it
pub record IsFilling (o : Options) (m : BlockInProgress) (taken : ℕ) (rest : List Entry) (before : Option (List ℕ)) (len since : ℕ) : Type 0 where
  pub metered : IsMetered m.interval (m.entries ++ take taken m.behind) len since
  pub rest_is : rest ≡ drop taken m.behind
  pub before_is : before ≡ last_entry_key (m.entries ++ take taken m.behind)
  pub within : taken ≤ length m.behind
  pub part : (n : ℕ) → n < taken → is_full o (block_after_entries n m).entries ≡ false

pub filling_first : (o : Options) (m : BlockInProgress) (rest : List Entry) (before : Option (List ℕ)) (len since : ℕ) → rest ≡ m.behind → before ≡ last_entry_key m.entries → IsMetered m.interval m.entries len since → IsFilling o m 0 rest before len since
filling_first o m rest before len since rest_is before_is is =
    let none : m.entries ≡ m.entries ++ take 0 m.behind = sym (append-nil m.entries) in
    record {
      metered = subst (λ (xs : List Entry). IsMetered m.interval xs len since) none is;
      rest_is = rest_is;
      before_is = before_is ∙ ap last_entry_key none;
      within = omega arith;
      part = λ n lt. absurd (omega (arith, lt));
    }

not_full : (o : Options) (r : ℕ) (q : List Entry) (len since : ℕ) → IsMetered r q len since → r ≡ o.restart_interval → (q ≡ [] → ⊥) → len < o.block_size → o.block_size ≤ 4194304 → is_full o q ≡ false
not_full o r [] len since h interval some lt le = absurd (some refl)
not_full o r (e ∷ es) len since h interval some lt le =
    let len_is : len ≡ saturated (length (block o.restart_interval (e ∷ es))) = h.len_is ∙ ap (λ (i : ℕ). saturated (length (block i (e ∷ es)))) interval in
    lt-leb o.block_size (length (block o.restart_interval (e ∷ es))) (omega (arith, len_is, lt, le))

-- a block that is not full has room for the count of one more
pub counted_part : (o : Options) (r : ℕ) (q : List Entry) → r ≡ o.restart_interval → o.block_size ≤ 4194304 → is_full o q ≡ false → length q < 2 ^ 64 - 1
counted_part o r [] interval le part = omega arith
counted_part o r (e ∷ es) interval le part =
    let below : length (block o.restart_interval (e ∷ es)) < o.block_size = leb-false o.block_size (length (block o.restart_interval (e ∷ es))) part in
    omega (arith, below, le, length_le_block o.restart_interval (e ∷ es))

-- the key of the last one taken in
pub last_in : (m : BlockInProgress) (taken : ℕ) → 0 < taken → taken ≤ length m.behind → last_entry_key (m.entries ++ take taken m.behind) ≡ option_map (λ (e : Entry). e.key) (slice_get m.behind (taken - 1))
last_in m taken some within =
    ap (option_map (λ (e : Entry). e.key)) (last_joined None m.entries (take taken m.behind) ∙ last_counted (last_or None m.entries) m.behind taken some within)

pub filling_more : (o : Options) (m : BlockInProgress) (taken : ℕ) (rest : List Entry) (before : Option (List ℕ)) (len since added : ℕ) → IsFilling o m taken rest before len since
    → o.block_size ≤ 4194304 → m.interval ≡ o.restart_interval → is_full o (m.entries ++ take taken m.behind) ≡ false → 0 < length rest
    → option_map (λ (e : Entry). saturated (added_size since before e.key (length e.value))) (slice_get rest 0) ≡ Some added
    → IsFilling o m (taken + 1) (drop 1 rest) (option_map (λ (e : Entry). e.key) (slice_get rest 0)) (min (len + added) (2 ^ 64 - 1)) (next_since m.interval since)
filling_more o m taken rest before len since added h le interval part some added_is =
    let q : List Entry = m.entries ++ take taken m.behind in
    let few : length q < 2 ^ 64 - 1 = counted_part o m.interval q interval le part in
    let grown : q ++ take 1 rest ≡ m.entries ++ take (taken + 1) m.behind =
    append_assoc m.entries (take taken m.behind) (take 1 rest)
    ∙ ap (λ (xs : List Entry). m.entries ++ (take taken m.behind ++ take 1 xs)) h.rest_is
    ∙ ap (λ (xs : List Entry). m.entries ++ xs) (sym (take-add taken 1 m.behind)) in
    let within : taken + 1 ≤ length m.behind = omega (arith, some, ap length h.rest_is, length-drop taken m.behind) in
    let place : taken ≡ (taken + 1) - 1 = omega arith in
    record {
      metered =
          subst (λ (xs : List Entry). IsMetered m.interval xs (min (len + added) (2 ^ 64 - 1)) (next_since m.interval since)) grown
          (metered_push m.interval q rest len since added before h.metered few added_is h.before_is);
      rest_is = ap (drop 1) h.rest_is ∙ sym (drop_next taken m.behind);
      before_is =
          ap (option_map (λ (e : Entry). e.key)) (ap (λ (xs : List Entry). slice_get xs 0) h.rest_is ∙ first_dropped taken m.behind ∙ ap (slice_get m.behind) place)
          ∙ sym (last_in m (taken + 1) (omega arith) within);
      within = within;
      part = λ n below. elim (cases_lt n taken) [
        | inl lower ↦ h.part n lower
        | inr above ↦ (let same : taken ≡ n = omega (arith, above, below) in subst (λ (k : ℕ). is_full o (m.entries ++ take k m.behind) ≡ false) same part)
      ];
    }

-- a block that has an entry and fewer bytes than its size is not full
pub filling_part : (o : Options) (m : BlockInProgress) (taken : ℕ) (rest : List Entry) (before : Option (List ℕ)) (len since : ℕ) → IsFilling o m taken rest before len since → 0 < taken
    → o.block_size ≤ 4194304 → m.interval ≡ o.restart_interval → len < o.block_size → is_full o (m.entries ++ take taken m.behind) ≡ false
filling_part o m taken rest before len since h some le interval lt =
    let number : length (m.entries ++ take taken m.behind) ≡ length m.entries + min taken (length m.behind) = length-append m.entries (take taken m.behind) ∙ ap (λ (n : ℕ). length m.entries + n) (length-take taken m.behind) in
    not_full o m.interval (m.entries ++ take taken m.behind) len since h.metered interval (λ none. omega (arith, number, some, h.within, ap length none)) lt le

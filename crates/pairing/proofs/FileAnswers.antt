-- What two files answer, step by step.
use Rattle.std.proofs.Common.{◌≡◌, ℕ, ◌++◌, List, [], ◌∷◌, length, Result, Ok, Err, None, refl, sym, ap, subst, ◌∙◌}
use Rattle.std.specs.Global.{Vec}
use Rattle.ikey.specs.Answers.{UnlessMemory, EqualOrMemory, FailsOrMemory, ◌>>=◌, HoldsOrMemory}
use Rattle.ikey.specs.fault.Fault.{Fault}
use Rattle.ikey.proofs.Binds.{bind_ok, ok_is}
use Rattle.ikey.proofs.Refusals.{unless_from}
use Rattle.std.specs.Prelude.{IfOk}
use Rattle.block.specs.EncodedEntry.{Entry, IsBlock}
use Rattle.block.specs.BlockReading.{block_reading}
use Rattle.block.proofs.BlockReadings.{reads_blocks}
use Rattle.ikey.specs.Bytewise.{bytewise_cmp}
use Rattle.pairing.specs.TestedUnion.{tested_entries, union_of, unions_of}
use Rattle.pairing.specs.EntryTests.{tested_after}
use Rattle.merge.specs.MergedLists.{entries_of_lists}
use Rattle.merge.specs.Union.{IsUnion}
use Rattle.board.specs.CollectedResults.{collected_results}
use Rattle.std.proofs.lemmas.List.{append-nil}
use Rattle.pairing.specs.Repeats.{HasRepeat}
use Rattle.pairing.specs.Blocks.{IsFileAnswer, AreBlocksMerged, IsUnionAnswer, IsBlocksAnswer, block_within, counted_block}
use Rattle.pairing.specs.declared.tested_entry.TestedEntry.{TestedEntry}
use Rattle.pairing.proofs.Repeats.{no_union, repeat_in_parts, repeat_in_rests}
use Rattle.pairing.proofs.Unions.{Cut, block_of, union_of_runs}
use Rattle.pairing.proofs.RangeUnions.{union_found, union_refused_for}

-- the tests of a block are those of its entries
tested_block : (bytes : List ℕ) (q : List Entry) → IsBlock bytes q → (block_reading bytes >>= tested_after None) ≡ tested_after None q
tested_block bytes q block = ap (λ (r : Result (List Entry) Fault). r >>= tested_after None) (reads_blocks.only bytes q block)

-- the tests of a block's entries answer for the file
pub file_answer : (bytes : List ℕ) (q : List Entry) (r : Result (Vec TestedEntry) Fault) → IsBlock bytes q → EqualOrMemory (λ v. tested_entries v.items) r (tested_after None q) → HoldsOrMemory (λ v. tested_entries v.items) r (IsFileAnswer bytes)
file_answer bytes q (Ok v) block given = sym (tested_block bytes q block ∙ given)
file_answer bytes q (Err e) block given = unless_from e (tested_after None q ≡ Err e) (IsFileAnswer bytes (Err e)) (λ same. sym (tested_block bytes q block ∙ same)) given

cut_twice : (a1 a2 b1 b2 qa qb : List Entry) → qa ≡ a1 ++ a2 → qb ≡ b1 ++ b2 → HasRepeat ((a1 ++ a2) ++ (b1 ++ b2)) → HasRepeat (qa ++ qb)
cut_twice a1 a2 b1 b2 qa qb a b h = subst HasRepeat (ap (λ (t : List Entry). t ++ (b1 ++ b2)) (sym a) ∙ ap (λ (t : List Entry). qa ++ t) (sym b)) h

-- the runs of two ranges, one after the other, are the union; if one is refused, there is none
union_answer : (at : List ℕ) (qa qb a1 a2 b1 b2 : List Entry) → Cut at qa a1 a2 → Cut at qb b1 b2 → IsUnionAnswer qa qb (collected_results (union_of (a1 ∷ b1 ∷ []) ∷ union_of (a2 ∷ b2 ∷ []) ∷ []) >>= λ runs. Ok (entries_of_lists runs))
union_answer at qa qb a1 a2 b1 b2 a b = by_runs (union_of (a1 ∷ b1 ∷ [])) (union_of (a2 ∷ b2 ∷ [])) refl refl
  where
    by_runs : (x y : Result (List Entry) Fault) → union_of (a1 ∷ b1 ∷ []) ≡ x → union_of (a2 ∷ b2 ∷ []) ≡ y → IsUnionAnswer qa qb (collected_results (x ∷ y ∷ []) >>= λ runs. Ok (entries_of_lists runs))
    by_runs (Ok u) (Ok v) p q =
        let first = union_found a1 b1 u p in
        let second = union_found a2 b2 v q in
        subst (λ (t : List Entry). IsUnion bytewise_cmp (qa ∷ qb ∷ []) (u ++ t)) (sym (append-nil v)) (union_of_runs at qa qb a1 a2 b1 b2 u v a b first.0 first.1 second.0 second.1)
    by_runs (Err e) y p q =
        let found = union_refused_for a1 b1 e p in
        (λ union is. no_union qa qb union (cut_twice a1 a2 b1 b2 qa qb a.parts b.parts (repeat_in_parts a1 a2 b1 b2 found.1)) is, found.0)
    by_runs (Ok u) (Err e) p q =
        let found = union_refused_for a2 b2 e q in
        (λ union is. no_union qa qb union (cut_twice a1 a2 b1 b2 qa qb a.parts b.parts (repeat_in_rests a1 a2 b1 b2 found.1)) is, found.0)

-- the same of two ranges as they stand in the code
pub ranges_answer : (at : List ℕ) (qa qb a1 a2 b1 b2 : List Entry) (before from : List (List Entry)) → Cut at qa a1 a2 → Cut at qb b1 b2 → before ≡ a1 ∷ b1 ∷ [] → from ≡ a2 ∷ b2 ∷ []
    → IsUnionAnswer qa qb (collected_results (unions_of before from) >>= λ runs. Ok (entries_of_lists runs))
ranges_answer at qa qb a1 a2 b1 b2 before from a b first second =
    subst (λ (t : List (List Entry)). IsUnionAnswer qa qb (collected_results (unions_of t from) >>= λ runs. Ok (entries_of_lists runs))) (sym first)
    (subst (λ (t : List (List Entry)). IsUnionAnswer qa qb (collected_results (unions_of (a1 ∷ b1 ∷ []) t) >>= λ runs. Ok (entries_of_lists runs))) (sym second) (union_answer at qa qb a1 a2 b1 b2 a b))

-- what holds of an answer holds of what a call gives that answers it
holds_from : {X Y : Type 0} (view : X → Y) (r : Result X Fault) (answer : Result Y Fault) (IsAnswer : Result Y Fault → Type 0) → EqualOrMemory view r answer → IsAnswer answer → HoldsOrMemory view r IsAnswer
holds_from view (Ok x) answer IsAnswer is h = subst IsAnswer is h
holds_from view (Err e) answer IsAnswer is h = unless_from e (answer ≡ Err e) (IsAnswer (Err e)) (λ same. subst IsAnswer same h) is

-- the refusal of a run of the jobs, and what comes of their results
pub refused_answer : (qa qb : List Entry) (answers : List (Result (List Entry) Fault)) (e : Fault) → IsUnionAnswer qa qb (collected_results answers >>= λ runs. Ok (entries_of_lists runs)) → FailsOrMemory e (collected_results answers) → UnlessMemory e (IsUnionAnswer qa qb (Err e))
refused_answer qa qb answers e holds failed =
    unless_from e (collected_results answers ≡ Err e) (IsUnionAnswer qa qb (Err e)) (λ same. subst (IsUnionAnswer qa qb) (ap (λ (r : Result (List (List Entry)) Fault). r >>= λ runs. Ok (entries_of_lists runs)) same) holds) failed

pub joined_answer : (qa qb : List Entry) (answers : List (Result (List Entry) Fault)) (runs : List (List Entry)) (r : Result (Vec TestedEntry) Fault) → IsUnionAnswer qa qb (collected_results answers >>= λ runs. Ok (entries_of_lists runs)) → collected_results answers ≡ Ok runs
    → EqualOrMemory (λ v. tested_entries v.items) r (Ok (entries_of_lists runs)) → HoldsOrMemory (λ v. tested_entries v.items) r (IsUnionAnswer qa qb)
joined_answer qa qb answers runs r holds same given =
    holds_from (λ v. tested_entries v.items) r (Ok (entries_of_lists runs)) (IsUnionAnswer qa qb) given (subst (IsUnionAnswer qa qb) (ap (λ (r : Result (List (List Entry)) Fault). r >>= λ runs. Ok (entries_of_lists runs)) same) holds)

-- there is no union
pub union_refused : (a b : List ℕ) (qa qb : List Entry) (e : Fault) → IsFileAnswer a (Ok qa) → IsFileAnswer b (Ok qb) → UnlessMemory e (IsUnionAnswer qa qb (Err e)) → UnlessMemory e (IsBlocksAnswer a b (Err e))
union_refused a b qa qb e first second h = unless_from e (IsUnionAnswer qa qb (Err e)) (IsBlocksAnswer a b (Err e)) (λ f. (Ok qa, (first, (Ok qb, (second, (Err e, (f, refl))))))) h

-- the union is there, and what comes of it
pub blocks_counted : (a b : List ℕ) (qa qb union : List Entry) (r : Result (ℕ × Vec ℕ) Fault) → IsFileAnswer a (Ok qa) → IsFileAnswer b (Ok qb) → IsUnion bytewise_cmp (qa ∷ qb ∷ []) union
    → EqualOrMemory (λ v. (v.0, v.1.items)) r (counted_block union) → HoldsOrMemory (λ v. (v.0, v.1.items)) r (IsBlocksAnswer a b)
blocks_counted a b qa qb union r first second is given =
    holds_from (λ v. (v.0, v.1.items)) r (counted_block union) (IsBlocksAnswer a b) given (Ok qa, (first, (Ok qb, (second, (Ok union, (is, refl))))))

-- the number of its entries and their block
pub blocks_merged : (a b : List ℕ) (qa qb union : List Entry) (r : Result (ℕ × Vec ℕ) Fault) → block_reading a ≡ Ok qa → block_reading b ≡ Ok qb → IsUnion bytewise_cmp (qa ∷ qb ∷ []) union
    → EqualOrMemory (λ v. (v.0, v.1.items)) r (counted_block union) → IfOk r (λ v. AreBlocksMerged a b v.0 v.1.items)
blocks_merged a b qa qb union (Err e) first second is given = tt
blocks_merged a b qa qb union (Ok v) first second is given =
    let found = bind_ok (block_within union) (λ bytes. Ok (length union, bytes)) (v.0, v.1.items) given in
    let same : (length union, found.0) ≡ (v.0, v.1.items) = ok_is (length union, found.0) (v.0, v.1.items) found.2 in
    record {
      entries_a = qa;
      entries_b = qb;
      read_a = first;
      read_b = second;
      union = union;
      is_union = is;
      counted = sym (ap (λ (p : ℕ × List ℕ). p.0) same);
      written = sym (ap (λ (p : ℕ × List ℕ). p.1) same) ∙ block_of union found.0 found.1;
    }

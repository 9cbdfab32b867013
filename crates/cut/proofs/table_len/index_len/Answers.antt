use Rattle.std.proofs.Common.{◌≡◌, ◌+◌, ◌-◌, ◌^◌, List, ℕ, length, drop, min, Ok, sym, ap, subst, ◌∙◌, arith}
use Rattle.coding.specs.Varint.{varint}
use Rattle.coding.specs.Saturated.{saturated}
use Rattle.table.specs.Table.{IndexKeys, index_keys}
use Rattle.keep.proofs.OnAnswers.{same_ok}
use Rattle.cut.specs.declared.planned_block.PlannedBlock.{PlannedBlock}
use Rattle.keep.specs.Sizes.{encoded_entry_size}
use Rattle.cut.specs.TableLength.{planned_index_key}
use Rattle.cut.proofs.TableLengths.{IsIndexLen, index_len_more, index_len_all}
use Rattle.cut.proofs.table_len.index_len.Goals as goal

pub loop-place-preserved : goal.loop-place-preserved
loop-place-preserved g c =
    let keys : IndexKeys = index_keys g.C.Comparator.cmp g.C.Comparator.short_keys in
    let b : PlannedBlock = c.index-blocks-place.result in
    let is = sym c.index-blocks-place.is in
    let key : List ℕ = c.bytes.result.now in
    let handle : ℕ = c.varint_len.result + c.varint_len-in-loop-place.result in
    let key_is : key ≡ planned_index_key keys (drop c.loop-place.place c.args.blocks.now) = c.bytes.ensures ∙ c.as_key.ensures ∙ sym (same_ok _ _ c.in_ok-key.ensures) in
    let handle_is : handle ≡ length (varint c.loop-place.offset) + length (varint b.len) =
    ap (λ (n : ℕ). n + c.varint_len-in-loop-place.result) c.varint_len.ensures.value
    ∙ ap (λ (n : ℕ). length (varint c.loop-place.offset) + n) (subst (λ (x : PlannedBlock). c.varint_len-in-loop-place.result ≡ length (varint x.len)) is c.varint_len-in-loop-place.ensures.value) in
    let len : c.saturating_add-len.result ≡ min (min (c.loop-place.len + saturated (encoded_entry_size 0 (length key) handle)) (2 ^ 64 - 1) + 4) (2 ^ 64 - 1) =
    c.saturating_add-len.ensures
    ∙ ap (λ (n : ℕ). min (n + 4) (2 ^ 64 - 1)) (c.saturating_add.ensures ∙ ap (λ (n : ℕ). min (c.loop-place.len + n) (2 ^ 64 - 1)) c.encoded_entry_len-piece.ensures) in
    let next : IsIndexLen keys c.args.blocks.now (c.loop-place.place + 1) (c.loop-place.offset + (b.len + 5)) c.saturating_add-len.result =
    subst (IsIndexLen keys c.args.blocks.now (c.loop-place.place + 1) (c.loop-place.offset + (b.len + 5))) (sym len)
    (index_len_more keys c.args.blocks.now c.loop-place.place c.loop-place.offset c.loop-place.len b key handle (omega (arith, c.loop-place-test.true)) is key_is handle_is c.loop-place.invariant) in
    subst (λ (x : PlannedBlock). IsIndexLen keys c.args.blocks.now (c.loop-place.place + 1) (c.loop-place.offset + (x.len + 5)) c.saturating_add-len.result) (sym is) next

pub returns : goal.returns
returns g c =
    ap Ok (index_len_all (index_keys g.C.Comparator.cmp g.C.Comparator.short_keys) c.args.blocks.now c.loop-place.place c.loop-place.offset c.loop-place.len c.requires.any (omega (arith, c.loop-place-test.false)) c.loop-place.invariant)

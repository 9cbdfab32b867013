use Rattle.std.proofs.Common.{◌≡◌, ℕ, ◌-◌, List, drop, Some, None, subst, arith}
use Rattle.std.specs.Prelude.{slice_get}
use Rattle.std.specs.List.{last_or}
use Rattle.std.specs.Option.{option_map}
use Rattle.block.specs.EncodedEntry.{Entry}
use Rattle.cut.specs.EntrySpanView.{EntrySpanView}
use Rattle.cut.proofs.Skips.{last_taken}
use Rattle.cut.proofs.entry_ref.EntryRef.last_key.Goals as goal

pub returns : goal.returns
returns c =
    let start : List Entry = c.self.inside.start in
    let len : ℕ = c.self.inside.len in
    let key : List ℕ = c.key.result.bytes.now in
    let last : option_map (λ (e : Entry). e.key) (slice_get (drop (len - 1) start) 0) ≡ Some key =
    subst (λ (es : List Entry). option_map (λ (e : Entry). e.key) (slice_get es 0) ≡ Some key) c.skip-last.ensures c.key.ensures in
    subst (λ (s : EntrySpanView). Some key ≡ option_map (λ (e : Entry). e.key) (last_or None s.entries)) c.self.view_is
    (last_taken len start key (omega (arith, c.if-self-eq0.false)) c.self.invariant last)

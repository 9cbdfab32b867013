use Rattle.std.proofs.Common.{◌≡◌, ◌-◌, ◌≤◌, ℕ, List, ◌++◌, length, take, drop, Option, sym, ap, subst, ◌∙◌}
use Rattle.std.specs.Prelude.{slice_get}
use Rattle.std.specs.Option.{option_map}
use Rattle.block.specs.EncodedEntry.{Entry}
use Rattle.cut.specs.EntrySpanView.{EntrySpanView}
use Rattle.cut.specs.SpanPlaces.{span_between, IsSpanBetween}
use Rattle.cut.proofs.Places.{pushed_all}
use Rattle.cut.proofs.entry_span.EntrySpan.push_all.Goals as goal

pub invariant_of-self : goal.invariant_of-self
invariant_of-self c =
    let was = c.self.inside in
    let n : ℕ = c.args.count in
    let within : n ≤ length was.behind = subst (λ (s : EntrySpanView). n ≤ length s.behind) (sym c.self.view_is) c.requires.within in
    let last : Option (List ℕ) = option_map (λ key. key.bytes.now) c.args.last in
    let key : last ≡ option_map (λ (e : Entry). e.key) (slice_get was.behind (n - 1)) =
    c.requires.last ∙ ap (λ (s : EntrySpanView). option_map (λ (e : Entry). e.key) (slice_get s.behind (n - 1))) (sym c.self.view_is) in
    let is = (pushed_all was.start was.behind was.len n _ last c.self.invariant c.requires.some within key).0 in
    subst (λ (to : List Entry). IsSpanBetween was.start to c.saturating_add-self-inside.result last) (sym c.skip-self-inside.ensures)
    (subst (λ (m : ℕ). IsSpanBetween was.start (drop n was.behind) m last) (sym c.saturating_add-self-inside.ensures) is)

pub returns : goal.returns
returns c =
    let was = c.self.inside in
    let n : ℕ = c.args.count in
    let within : n ≤ length was.behind = subst (λ (s : EntrySpanView). n ≤ length s.behind) (sym c.self.view_is) c.requires.within in
    let last : Option (List ℕ) = option_map (λ key. key.bytes.now) c.args.last in
    let key : last ≡ option_map (λ (e : Entry). e.key) (slice_get was.behind (n - 1)) =
    c.requires.last ∙ ap (λ (s : EntrySpanView). option_map (λ (e : Entry). e.key) (slice_get s.behind (n - 1))) (sym c.self.view_is) in
    let is = (pushed_all was.start was.behind was.len n _ last c.self.invariant c.requires.some within key).1 in
    let next : EntrySpanView → EntrySpanView = λ s. record { entries = s.entries ++ take n s.behind; behind = drop n s.behind } in
    ap (span_between was.start) c.skip-self-inside.ensures ∙ is ∙ ap next c.self.view_is

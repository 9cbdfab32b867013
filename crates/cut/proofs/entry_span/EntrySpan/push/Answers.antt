use Rattle.std.proofs.Common.{◌≡◌, ℕ, List, ◌++◌, take, drop, Some, sym, ap, subst, ◌∙◌}
use Rattle.std.specs.Prelude.{slice_get}
use Rattle.std.specs.Option.{option_map}
use Rattle.block.specs.EncodedEntry.{Entry}
use Rattle.cut.specs.EntrySpanView.{EntrySpanView}
use Rattle.cut.specs.SpanPlaces.{span_between, IsSpanBetween}
use Rattle.cut.proofs.Places.{pushed}
use Rattle.cut.proofs.entry_span.EntrySpan.push.Goals as goal

pub invariant_of-self : goal.invariant_of-self
invariant_of-self c =
    let key : option_map (λ (e : Entry). e.key) (slice_get c.self.inside.behind 0) ≡ Some c.args.key.bytes.now =
    ap (λ (s : EntrySpanView). option_map (λ (e : Entry). e.key) (slice_get s.behind 0)) c.self.view_is ∙ c.requires in
    let is = (pushed c.self.inside.start c.self.inside.behind c.self.inside.len _ c.args.key.bytes.now c.self.invariant key).0 in
    subst (λ (to : List Entry). IsSpanBetween c.self.inside.start to c.saturating_add-self-inside.result (Some c.args.key.bytes.now)) (sym c.advance.ensures)
    (subst (λ (n : ℕ). IsSpanBetween c.self.inside.start (drop 1 c.self.inside.behind) n (Some c.args.key.bytes.now)) (sym c.saturating_add-self-inside.ensures) is)

pub returns : goal.returns
returns c =
    let key : option_map (λ (e : Entry). e.key) (slice_get c.self.inside.behind 0) ≡ Some c.args.key.bytes.now =
    ap (λ (s : EntrySpanView). option_map (λ (e : Entry). e.key) (slice_get s.behind 0)) c.self.view_is ∙ c.requires in
    let is = (pushed c.self.inside.start c.self.inside.behind c.self.inside.len _ c.args.key.bytes.now c.self.invariant key).1 in
    let next : EntrySpanView → EntrySpanView = λ s. record { entries = s.entries ++ take 1 s.behind; behind = drop 1 s.behind } in
    ap (span_between c.self.inside.start) c.advance.ensures ∙ is ∙ ap next c.self.view_is

use Rattle.std.proofs.Common.{◌≡◌, ◌<◌, List, ℕ, true, false, length, sym, ap, subst, ◌∙◌, arith}
use Rattle.std.specs.Prelude.{Bool, Some, None, slice_get, not, nat_le, ◌&&◌}
use Rattle.std.specs.Option.{option_map}
use Rattle.std.specs.Str.{bytes_eq}
use Rattle.std.proofs.lemmas.Bool.{le-leb, lt-leb}
use Rattle.ikey.specs.Key.{user_of}
use Rattle.block.specs.EncodedEntry.{Entry}
use Rattle.cut.specs.OutputInProgress.{OutputInProgress, IsOpen, ends_by}
use Rattle.cut.proofs.Opened.{ends_not, ends_part, ends_last}
use Rattle.cut.proofs.open_output.OpenOutput.ends_before_next.Goals as goal

pub returns-in-None : goal.returns-in-None
returns-in-None c =
    let was = c.self.inside in
    let h : IsOpen was.options was.blocks.items was.flushed None was.current =
    subst (λ last. IsOpen was.options was.blocks.items was.flushed (option_map (λ key. key.bytes.now) last) was.current) c.in-None.is c.self.invariant in
    subst (λ (s : OutputInProgress). false ≡ ends_by s.options s.entries s.behind) c.self.view_is (sym (ends_not was.options was.blocks.items was.flushed was.current h))

pub returns-then-self : goal.returns-then-self
returns-then-self c =
    let was = c.self.inside in
    let last : List ℕ = c.in-Some.last.bytes.now in
    let next : List ℕ = c.key.result.bytes.now in
    let h : IsOpen was.options was.blocks.items was.flushed (Some last) was.current =
    subst (λ l. IsOpen was.options was.blocks.items was.flushed (option_map (λ key. key.bytes.now) l) was.current) c.in-Some.is c.self.invariant in
    let some : 0 < length was.current.behind = subst (λ (s : OutputInProgress). 0 < length s.behind) (sym c.self.view_is) c.requires in
    let next_is : option_map (λ (e : Entry). e.key) (slice_get was.current.behind 0) ≡ Some next =
    subst (λ (es : List Entry). option_map (λ (e : Entry). e.key) (slice_get es 0) ≡ Some next) c.behind-next.ensures c.key.ensures in
    let reached : nat_le was.options.file_size was.flushed ≡ true = le-leb was.options.file_size was.flushed (omega (arith, c.if-self.true)) in
    let users : c.ne.result ≡ not (bytes_eq (user_of last) (user_of next)) =
    c.ne.ensures ∙ ap (λ (u : List ℕ). not (bytes_eq u c.user-then-self.result.now)) c.user.ensures ∙ ap (λ (u : List ℕ). not (bytes_eq (user_of last) u)) c.user-then-self.ensures in
    subst (λ (s : OutputInProgress). c.ne.result ≡ ends_by s.options s.entries s.behind) c.self.view_is
    (users ∙ ap (λ (b : Bool). b && not (bytes_eq (user_of last) (user_of next))) (sym reached) ∙ sym (ends_last was.options was.blocks.items was.flushed last next was.current h some next_is))

pub returns-else-self : goal.returns-else-self
returns-else-self c =
    let was = c.self.inside in
    let last : List ℕ = c.in-Some.last.bytes.now in
    let h : IsOpen was.options was.blocks.items was.flushed (Some last) was.current =
    subst (λ l. IsOpen was.options was.blocks.items was.flushed (option_map (λ key. key.bytes.now) l) was.current) c.in-Some.is c.self.invariant in
    let below : nat_le was.options.file_size was.flushed ≡ false = lt-leb was.options.file_size was.flushed (omega (arith, c.if-self.false)) in
    subst (λ (s : OutputInProgress). nat_le was.options.file_size was.flushed ≡ ends_by s.options s.entries s.behind) c.self.view_is (below ∙ sym (ends_part was.options was.blocks.items was.flushed last was.current h below))

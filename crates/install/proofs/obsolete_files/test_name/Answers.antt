use Rattle.std.proofs.Common.{◌≡◌, ◌<◌, ◌^◌, ℕ, [], ◌∷◌, refl, arith}
use Rattle.folder.specs.Orders.{order_cmp}
use Rattle.install.specs.ObsoleteFile.{name_of}
use Rattle.install.specs.declared.file_kind.FileKind.{FileKind}
use Rattle.install.specs.declared.file_kind.FileKind.TheVariants.{Manifest, OldTable, Table, Temporary}
use Rattle.install.proofs.Unused.{each_kind, exact_of, no_kind}
use Rattle.install.proofs.obsolete_files.test_name.Goals as goal

pub returns-in-Some-clause-exact : goal.returns-in-Some-clause-exact
returns-in-Some-clause-exact c =
    let o = c.args.opened.now in
    let fact = rw c.in-Some.is at c.in_ok-number.ensures.number in
    exact_of (order_cmp o.order) o.version c.args.manifest _ c.in-Some.number c.args.name.now c.is_unneeded.result fact.0 fact.1 c.is_unneeded.ensures

pub returns-clause-exact : goal.returns-clause-exact
returns-clause-exact c =
    let o = c.args.opened.now in
    let P : FileKind → Type 0 = λ k. (n : ℕ) → n < 2 ^ 64 → c.args.name.now ≡ name_of k n → ⊥ in
    let none' = each_kind P (Table ∷ OldTable ∷ Manifest ∷ Temporary ∷ []) refl (λ i l. c.loop-kind.invariant i (omega (arith, l, c.loop-kind-test.false))) in
    (λ t. absurd (cc t), λ o'. absurd (no_kind (order_cmp o.order) o.version c.args.manifest c.args.name.now none' o'))

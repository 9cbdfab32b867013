-- A version with the number of its manifest: what is read, and what a crash leaves.
use Rattle.std.proofs.Common.{◌≡◌, ◌<◌, ◌^◌, ℕ, List, codes, Some, sym, subst, ◌∙◌}
use Rattle.std.proofs.lemmas.List.{append_cancel_right}
use Rattle.std.proofs.lemmas.Option.{same_Some}
use Rattle.folder.specs.Calls.{Files}
use Rattle.folder.specs.Crash.{World}
use Rattle.folder.specs.Names.{current_text, manifest_name}
use Rattle.folder.specs.Orders.{order_cmp}
use Rattle.folder.specs.ReadsAs.{Current, StandsBy}
use Rattle.folder.proofs.CrashLemmas.{left_reads}
use Rattle.folder.proofs.ReadsLemmas.{opened_parts}
use Rattle.install.proofs.WideTexts.{texts_wide}
use Rattle.install.specs.ReadsOf.{NamedVersion, Reads}

-- texts of CURRENT that are one name one manifest
pub named_alike : (n m : ℕ) → current_text n ≡ current_text m → manifest_name n ≡ manifest_name m
named_alike n m same = append_cancel_right (manifest_name n) (manifest_name m) (codes "\n") same

abbrev pub StandsNamed : NamedVersion → List (ℕ × List ℕ) → World → Type 0
StandsNamed v tables w = StandsBy (order_cmp v.order) v.order v.version v.manifest tables w

-- the number of its manifest has 64 bits
pub manifest_small : (v : NamedVersion) (tables : List (ℕ × List ℕ)) (files : Files) → Reads v tables files → v.manifest < 2 ^ 64
manifest_small v tables files h =
    let o = opened_parts files v.order v.version h.reads.opened in
    let same : v.manifest ≡ o.number = texts_wide v.manifest o.number o.small (same_Some _ _ (sym h.named ∙ o.current)) in
    subst (λ (n : ℕ). n < 2 ^ 64) (sym same) o.small

-- what a crash leaves
pub left_of : (v : NamedVersion) (tables : List (ℕ × List ℕ)) (w : World) → StandsNamed v tables w → Reads v tables w.left
left_of v tables w h = record {
  reads = left_reads (order_cmp v.order) v.order v.version tables w h.stands;
  named = (h.stands.settled (codes "CURRENT") Current).left ∙ h.named;
}

-- Moments of steps, one after the other; what the last calls of an installation name.
use Rattle.std.proofs.Common.{◌≡◌, ◌⊎◌, ℕ, List, [], ◌∷◌, ◌++◌, codes, Some, None, refl, sym, ap, subst, ◌∙◌, inl, inr, append_assoc}
use Rattle.folder.specs.Calls.{Created, Done, Files, FolderSynced, FolderView, Renamed, Step, Synced}
use Rattle.folder.specs.Crash.{IsMoment, Leads, LeavesOnly, MayLeave, World}
use Rattle.folder.specs.Names.{current_text, manifest_name, temporary_name}
use Rattle.folder.proofs.PutLemmas.{moved_to, put_same}

-- ---- moments

-- a moment of some steps and then others is one of the first, or after them one of the others
pub moment_split : (one two sofar : List Step) → IsMoment (one ++ two) sofar → IsMoment one sofar ⊎ ((later : List Step) × (sofar ≡ one ++ later) × IsMoment two later)
moment_split [] two sofar h = inr (sofar, refl, h)
moment_split (x ∷ one) two [] h = inl tt
moment_split (x ∷ one) two (now ∷ sofar) (inl done) = elim (moment_split one two sofar done.1) [
  | inl a ↦ inl (inl (done.0, a))
  | inr b ↦ inr (b.0, ap (λ (s : Step). s ∷ sofar) done.0 ∙ ap (λ (t : List Step). x ∷ t) b.1, b.2)
]
moment_split (x ∷ one) two (now ∷ sofar) (inr tried) = inl (inr tried)

-- what holds of each crash of some steps, and of each one of others after them, holds of all
pub leaves_then : (start : World) (a b c : List Step) (P Q R : Files → Type 0) → ((f : Files) → P f → R f) → ((f : Files) → Q f → R f) → LeavesOnly start a b P → LeavesOnly start b c Q → LeavesOnly start a c R
leaves_then start a b c P Q R f g one two = record {
  steps = one.steps ++ two.steps;
  all = two.all ∙ (ap (λ (t : List Step). t ++ two.steps) one.all ∙ append_assoc a one.steps two.steps);
  each = λ sofar moment files left. elim (moment_split one.steps two.steps sofar moment) [
    | inl m ↦ f files (one.each sofar m files left)
    | inr m ↦
        let is : a ++ sofar ≡ b ++ m.0 = ap (λ (t : List Step). a ++ t) m.1 ∙ (sym (append_assoc a one.steps m.0) ∙ ap (λ (t : List Step). t ++ m.0) (sym one.all)) in
        g files (two.each m.0 m.2 files (subst (λ (t : List Step). MayLeave start t files) is left))
  ];
}

pub leaves_as : (start : World) (a b : List Step) (P Q : Files → Type 0) → ((f : Files) → P f → Q f) → LeavesOnly start a b P → LeavesOnly start a b Q
leaves_as start a b P Q f h = record { steps = h.steps; all = h.all; each = λ sofar moment files left. f files (h.each sofar moment files left) }

-- ---- after an installation CURRENT names its manifest

-- the last seven calls of an installation that were all done, one by one
abbrev pub last_seven : ℕ → List ℕ → List Step
last_seven number manifest = Done (Created (manifest_name number) manifest) ∷ (Done (Synced (manifest_name number)) ∷ (Done (Created (temporary_name number) (current_text number)) ∷ (Done (Synced (temporary_name number)) ∷ (Done FolderSynced
    ∷ (Done (Renamed (temporary_name number) (codes "CURRENT")) ∷ (Done FolderSynced ∷ []))))))

pub file_at : (name : List ℕ) (s t : FolderView) → s ≡ t → s.files name ≡ t.files name
file_at name s t is = ap (λ (x : FolderView). x.files name) is

pub seven_name : (number : ℕ) (manifest : List ℕ) (start w : World) → Leads start (last_seven number manifest) w → w.shown.files (codes "CURRENT") ≡ Some (current_text number)
seven_name number manifest start w a =
    let b = a.2 in
    let c = b.2 in
    let d = c.2 in
    let e = d.2 in
    let f = e.2 in
    let h = f.2 in
    let t = temporary_name number in
    let current = codes "CURRENT" in
    let text = Some (current_text number) in
    let made : c.0.shown.files t ≡ text = file_at t c.0.shown _ c.1.0 ∙ put_same b.0.shown.files t text in
    let kept : e.0.shown.files t ≡ text = file_at t e.0.shown d.0.shown e.1.0 ∙ (file_at t d.0.shown _ d.1.0 ∙ made) in
    let moved : f.0.shown.files current ≡ text = file_at current f.0.shown _ f.1.0 ∙ (moved_to None e.0.shown.files t current ∙ kept) in
    ap (λ (x : World). x.shown.files current) h.2 ∙ (file_at current h.0.shown f.0.shown h.1.0 ∙ moved)

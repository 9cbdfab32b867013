-- Parts whose tables were written so far.
use Rattle.std.proofs.Common.{◌≡◌, ◌⊎◌, ℕ, zero, ◌+◌, ◌<◌, ◌≤◌, List, [], ◌∷◌, ◌++◌, append_assoc, length, map, slice_get, Some, Result, Ok, Err, IfErr, IsErrAnd, OnOk, refl, sym, ap, subst, ◌∙◌, inl, inr, arith}
use Rattle.std.specs.declared.cmp.Ordering.{Ordering}
use Rattle.std.proofs.lemmas.List.{append-nil, length-append, map-append}
use Rattle.std.proofs.lemmas.Grind.{flat_map-append}
use Rattle.edit.proofs.Refusals.{unless_from}
use Rattle.edit.specs.Answers.{UnlessMemory}
use Rattle.edit.specs.fault.Fault.{Fault}
use Rattle.edit.specs.Comparator.{ShortKeys}
use Rattle.edit.specs.Version.{State}
use Rattle.folder.specs.Calls.{Call, Done, Step}
use Rattle.folder.specs.CallSequence.{MakesCalls, TellsThrough}
use Rattle.folder.specs.Folder.{TellsSame}
use Rattle.folder.specs.OpenAnswer.{IsStopped}
use Rattle.folder.specs.Reports.{ReportsDevice}
use Rattle.folder.specs.declared.folder.Folder.{Ghosts}
use Rattle.folder.proofs.OpeningLemmas.{failed_since}
use Rattle.folder.proofs.ReportLemmas.{reports_then}
use Rattle.folder.proofs.RunLemmas.{runs_then}
use Rattle.install.specs.Install.{table_calls}
use Rattle.pick.specs.PickedInputs.{PickedInputs}
use Rattle.compact.specs.GroupedAnswer.{table_sizes}
use Rattle.compact.specs.OneThread.{Answer}
use Rattle.compact.specs.declared.settings.Settings.{Settings}
use Rattle.store.specs.FolderRequest.{manifest_of}
use Rattle.levels.specs.WholeRuns.{GroupedAnswer}
use Rattle.store.specs.PickedOutcome.{IsPickedCompacted}
use Rattle.store.specs.Runs.{HasMade}
use Rattle.store.proofs.InstallPart.{still}
use Rattle.levels.specs.PartsEnd.{ArePartsWritten, AreWrittenBefore, IsPartDone, IsPartWritten, IsRefusedFor, IsRangeWritten, last_after}
use Rattle.levels.specs.WholeAnswer.{edits_of, next_last, tables_of}
use Rattle.levels.specs.WholeRuns.{ArePartLinks, IsPartLink, answers_in, groups_in}
use Rattle.levels.specs.declared.part_writer.WrittenParts.{WrittenParts}
use Rattle.levels.proofs.Ends.{ended_calls}

-- ---- one link more

-- what was made is a beginning of what is made with one link more
calls_more : (l : GroupedAnswer) (links : List GroupedAnswer) → map Done (table_calls (groups_in (l ∷ links))) ≡ map Done (table_calls l.groups) ++ map Done (table_calls (groups_in links))
calls_more l links = ap (map Done) (map-append _ l.groups (groups_in links)) ∙ map-append Done (table_calls l.groups) (table_calls (groups_in links))

groups_push : (links : List GroupedAnswer) (l : GroupedAnswer) → groups_in (links ++ l ∷ []) ≡ groups_in links ++ l.groups
groups_push links l = flat_map-append _ links (l ∷ []) ∙ ap (λ (gs : List (List (ℕ × List ℕ))). groups_in links ++ gs) (append-nil l.groups)

answers_push : (links : List GroupedAnswer) (l : GroupedAnswer) → answers_in (links ++ l ∷ []) ≡ answers_in links ++ l.answer ∷ []
answers_push links l = map-append _ links (l ∷ [])

last_push : (last : ℕ) (answers : List Answer) (a : Answer) → last_after last (answers ++ a ∷ []) ≡ next_last (last_after last answers) a
last_push last [] a = refl
last_push last (b ∷ answers) a = last_push (next_last last b) answers a

no_part : {X : Type 0} (x : X) (k : ℕ) → slice_get [] k ≡ Some x → ⊥
no_part x k h = cc h

same_part : (q p : PickedInputs) → Some q ≡ Some p → q ≡ p
same_part q p h = cc h

module _ {F : Type 0} (g : Ghosts F) (first : F) (cmp : List ℕ → List ℕ → Ordering) (short_keys : ShortKeys) (v : State) (s : Settings) where
  chain_push : (so_far : List Step) (last : ℕ) (parts : List PickedInputs) (links : List GroupedAnswer) (p : PickedInputs) (l : GroupedAnswer) → ArePartLinks g first so_far cmp short_keys v s last parts links → slice_get parts (length links) ≡ Some p
      → IsPartLink g first (so_far ++ map Done (table_calls (groups_in links))) cmp short_keys v s (last_after last (answers_in links)) p l → ArePartLinks g first so_far cmp short_keys v s last parts (links ++ l ∷ [])
  chain_push so_far last [] [] p l h next link = absurd (no_part p zero next)
  chain_push so_far last (q ∷ parts) [] p l h next link =
      (subst (λ (t : List Step). IsPartLink g first t cmp short_keys v s last q l) (append-nil so_far) (subst (λ (x : PickedInputs). IsPartLink g first (so_far ++ []) cmp short_keys v s last x l) (sym (same_part q p next)) link), tt)
  chain_push so_far last [] (k ∷ links) p l h next link = absurd h
  chain_push so_far last (q ∷ parts) (k ∷ links) p l h next link = (
    h.0,
    chain_push (so_far ++ map Done (table_calls k.groups)) (next_last last k.answer) parts links p l h.1 next
        (subst (λ (t : List Step). IsPartLink g first t cmp short_keys v s (last_after (next_last last k.answer) (answers_in links)) p l)
        (ap (λ (t : List Step). so_far ++ t) (calls_more k links) ∙ sym (append_assoc so_far (map Done (table_calls k.groups)) (map Done (table_calls (groups_in links))))) link),
  )

  -- ---- what holds so far

  abbrev pub SoFar : List PickedInputs → F → ℕ → WrittenParts → Type 0
  SoFar parts at place w = AreWrittenBefore g first cmp short_keys v s parts at place w

  module _ (parts : List PickedInputs) (at : F) (place : ℕ) (w : WrittenParts) (so_far : SoFar parts at place w) where
    made : HasMade g first (map Done (table_calls (groups_in so_far.links))) at
    made = record {
      calls = so_far.runs.appended ∙ ap (λ (t : List Step). g.calls first ++ t) so_far.runs.made;
      change = subst (λ (t : List Step). TellsThrough t (g.tells first) (g.tells at)) so_far.runs.made so_far.runs.change;
    }

    -- no calls after them
    nothing_more : (new : F) {X : Type 0} (e : Fault) → g.calls new ≡ g.calls at → TellsSame (g.tells at) (g.tells new) → MakesCalls {T = X} {E = Fault} (table_calls (groups_in so_far.links)) (g.calls first) (g.calls new) (g.tells first) (g.tells new) (Err e)
    nothing_more new {X = X} e same told =
        let all = ended_calls {T = Unit {0}} {U = X} (λ f. f ≡ e) (table_calls (groups_in so_far.links)) (g.calls first) (g.calls at) (g.tells first) (g.tells at) tt (Err e) refl so_far.runs in
        record {
          steps = all.steps;
          made = all.made;
          appended = same ∙ all.appended;
          change = λ view tells. let last = all.change view tells in (last.0, last.1, still (g.tells at) (g.tells new) told last.0.files last.2);
        }

    module _ (p : PickedInputs) (next : slice_get parts place ≡ Some p) (after : WrittenParts) (new : F) where
      abbrev link_of : {X : Type 0} {r : Result X Fault} (d : IsPartDone g cmp short_keys v s p w after at new r) → GroupedAnswer
      link_of d = record { picked = p; answer = d.answer; groups = d.answer.tables ∷ [] }

      chained : {X : Type 0} {r : Result X Fault} (d : IsPartDone g cmp short_keys v s p w after at new r) → ArePartLinks g first [] cmp short_keys v s (manifest_of v) parts (so_far.links ++ link_of d ∷ [])
      chained d =
          chain_push [] (manifest_of v) parts so_far.links p (link_of d) so_far.chain (ap (slice_get parts) so_far.count ∙ next) (record {
            at = at;
            made = made;
            of_part = refl;
            compacted = subst (λ (n : ℕ). IsPickedCompacted (Some (n + 1)) cmp short_keys (g.tells at) v s p d.answer) so_far.whole.last d.compacted;
            together = append-nil d.answer.tables;
            pointer = d.pointer;
            bytes = d.made.bytes;
          })

      runs_more : {X : Type 0} (r : Result X Fault) (d : IsPartDone g cmp short_keys v s p w after at new r) → MakesCalls (table_calls (groups_in (so_far.links ++ link_of d ∷ []))) (g.calls first) (g.calls new) (g.tells first) (g.tells new) r
      runs_more r d =
          subst (λ (c : List Call). MakesCalls c (g.calls first) (g.calls new) (g.tells first) (g.tells new) r)
          (sym (map-append _ (groups_in so_far.links) (d.answer.tables ∷ [])) ∙ sym (ap table_calls (groups_push so_far.links (link_of d))))
          (runs_then {E = Fault} (table_calls (groups_in so_far.links)) (table_calls (d.answer.tables ∷ [])) (g.calls first) (g.calls at) (g.calls new) (g.tells first) (g.tells at) (g.tells new) tt r so_far.runs d.made.runs)

      -- the part was written, and the next one begins
      pub one_more : (d : IsPartDone {X = Unit {0}} g cmp short_keys v s p w after at new (Ok tt)) → place < length parts → ReportsDevice {X = Unit {0}} g first new (Ok tt) → SoFar parts new (place + 1) after
      one_more d lt device = record {
        within = omega (arith, lt);
        links = so_far.links ++ link_of d ∷ [];
        count = length-append so_far.links (link_of d ∷ []) ∙ ap (λ (n : ℕ). n + 1) so_far.count;
        chain = chained d;
        runs = runs_more (Ok tt) d;
        whole = record {
          outputs = d.made.taken.outputs ∙ ap (λ (o : List (ℕ × ℕ)). o ++ table_sizes d.answer.tables) so_far.whole.outputs
              ∙ sizes_joined (answers_in so_far.links) d.answer ∙ sym (ap (λ (answers : List Answer). table_sizes (tables_of answers)) (answers_push so_far.links (link_of d)));
          edits = d.made.taken.edits ∙ ap (λ (b : List ℕ). b ++ d.answer.edit) so_far.whole.edits
              ∙ edits_joined (answers_in so_far.links) d.answer ∙ sym (ap edits_of (answers_push so_far.links (link_of d)));
          last = d.made.taken.last ∙ ap (λ (n : ℕ). next_last n d.answer) so_far.whole.last ∙ sym (last_push (manifest_of v) (answers_in so_far.links) d.answer) ∙ sym (ap (last_after (manifest_of v)) (answers_push so_far.links (link_of d)));
        };
        device = device;
      }
        where
          sizes_joined : (answers : List Answer) (a : Answer) → table_sizes (tables_of answers) ++ table_sizes a.tables ≡ table_sizes (tables_of (answers ++ a ∷ []))
          sizes_joined answers a =
              sym (map-append _ (tables_of answers) a.tables) ∙ ap table_sizes (ap (λ (ts : List (ℕ × List ℕ)). tables_of answers ++ ts) (sym (append-nil a.tables)) ∙ sym (flat_map-append _ answers (a ∷ [])))

          edits_joined : (answers : List Answer) (a : Answer) → edits_of answers ++ a.edit ≡ edits_of (answers ++ a ∷ [])
          edits_joined answers a = ap (λ (b : List ℕ). edits_of answers ++ b) (sym (append-nil a.edit)) ∙ sym (flat_map-append _ answers (a ∷ []))

      -- it was refused, or a call failed
      stopped_since : (middle now : ℕ) (e : Fault) → g.failed first ≤ middle → middle ≤ now → IsStopped middle now e → IsStopped (g.failed first) now e
      stopped_since middle now e one two h = (h.0, failed_since (g.failed first) middle now one two h.1)

      pub parts_stopped : {X : Type 0} (e : Fault) (r : Result WrittenParts Fault) → IsErrAnd r (λ f. f ≡ e) → g.failed at ≤ g.failed new → IsPartWritten {X = X} g cmp short_keys v s p w after at new (Err e) → ArePartsWritten g cmp short_keys v s parts first new r
      parts_stopped e (Ok x) h later d = absurd h
      parts_stopped {X = X} e (Err f) h later (inl refused) = subst (λ (d : Fault). ArePartsWritten g cmp short_keys v s parts first new (Err d)) (sym h) (record {
        links = so_far.links;
        chain = so_far.chain;
        runs = nothing_more new e refused.nothing.calls refused.nothing.same;
        whole = tt;
        why = inr (record {
          p = p;
          next = ap (slice_get parts) so_far.count ∙ next;
          at = at;
          made = made;
          refused = λ files tells. subst (λ (n : ℕ). UnlessMemory e (IsStopped (g.failed first) (g.failed new) e ⊎ IsRefusedFor cmp short_keys files v s n p e)) so_far.whole.last
              (unless_from e (IsStopped (g.failed at) (g.failed new) e ⊎ IsRefusedFor cmp short_keys files v s w.last p e) (IsStopped (g.failed first) (g.failed new) e ⊎ IsRefusedFor cmp short_keys files v s w.last p e) (λ x. elim x [
                | inl stop ↦ inl (stopped_since (g.failed at) (g.failed new) e so_far.device.later later stop)
                | inr why ↦ inr why
              ]) (refused.why files tells));
        });
      })
      parts_stopped {X = X} e (Err f) h later (inr d) = subst (λ (x : Fault). ArePartsWritten g cmp short_keys v s parts first new (Err x)) (sym h) (record {
        links = so_far.links ++ link_of d ∷ [];
        chain = chained d;
        runs = let all = runs_more (Err e) d in record { steps = all.steps; made = all.made; appended = all.appended; change = all.change };
        whole = tt;
        why = inl (unless_from e (IsStopped (g.failed at) (g.failed new) e) (IsStopped (g.failed first) (g.failed new) e)
            (λ stop. stopped_since (g.failed at) (g.failed new) e so_far.device.later later stop) d.made.refused);
      })

    -- all parts were written
    pub all_written : length parts ≤ place → ArePartsWritten g cmp short_keys v s parts first at (Ok w)
    all_written end = record {
      links = so_far.links;
      chain = so_far.chain;
      runs = record { steps = so_far.runs.steps; made = so_far.runs.made; appended = so_far.runs.appended; change = so_far.runs.change };
      whole = (let count = so_far.count in let within = so_far.within in omega (arith, end, count, within), so_far.whole);
      why = tt;
    }

  -- before the first part
  pub none_written : (parts : List PickedInputs) (w : WrittenParts) → w.outputs.items ≡ [] → w.edits.items ≡ [] → w.last ≡ manifest_of v → SoFar parts first zero w
  none_written parts w outputs edits last = record {
    within = omega arith;
    links = [];
    count = refl;
    chain = tt;
    runs = record { steps = []; made = refl; appended = sym (append-nil (g.calls first)); change = λ view tells. (view, refl, tells) };
    whole = record { outputs = outputs; edits = edits; last = last };
    device = record { device = tt; at_once = λ rose. absurd (omega (arith, rose)); later = omega arith };
  }

-- ---- a range

-- one
pub range_one : {F : Type 0} (g : Ghosts F) (cmp : List ℕ → List ℕ → Ordering) (short_keys : ShortKeys) (v : State) (s : Settings) (parts : List PickedInputs) (from to : ℕ) (before after : WrittenParts) (old new : F) (p : PickedInputs) (r : Result (Unit {0}) Fault)
    → slice_get parts from ≡ Some p → from < length parts → from + 1 ≡ to → ReportsDevice g old new r → IsPartWritten g cmp short_keys v s p before after old new r
    → IsRangeWritten g cmp short_keys v s parts from to before after old new r
range_one g cmp short_keys v s parts from to before after old new p (Ok x) next lt same device written first so_far = (
  subst (λ (n : ℕ). AreWrittenBefore g first cmp short_keys v s parts new n after) same
      (one_more g first cmp short_keys v s parts old from before so_far p next after new (part_done g cmp short_keys v s p before after old new x written) lt (reports_then refl so_far.device device)),
  tt,
)
  where
    part_done : {F : Type 0} (g : Ghosts F) (cmp : List ℕ → List ℕ → Ordering) (short_keys : ShortKeys) (v : State) (s : Settings) (p : PickedInputs) (before after : WrittenParts) (old new : F) (x : Unit {0})
        → IsPartWritten g cmp short_keys v s p before after old new (Ok x) → IsPartDone g cmp short_keys v s p before after old new (Ok x)
    part_done g cmp short_keys v s p before after old new x (inl refused) = absurd refused.nothing.refused
    part_done g cmp short_keys v s p before after old new x (inr done) = done
range_one g cmp short_keys v s parts from to before after old new p (Err e) next lt same device written first so_far =
    (tt, parts_stopped g first cmp short_keys v s parts old from before so_far p next after new e (Err e) refl device.later written)

-- all
module _ {F : Type 0} (g : Ghosts F) (cmp : List ℕ → List ℕ → Ordering) (short_keys : ShortKeys) (v : State) (s : Settings) (parts : List PickedInputs) (w after : WrittenParts) (old new : F) (outputs : w.outputs.items ≡ []) (edits : w.edits.items ≡ []) (last : w.last ≡ manifest_of v) (count : ℕ) (is : count ≡ length parts) where
  pub all_stopped : {X : Type 0} (one : Result X Fault) (e : Fault) (r : Result WrittenParts Fault) → one ≡ Err e → IsErrAnd r (λ f. f ≡ e) → IsRangeWritten g cmp short_keys v s parts zero count w after old new one
      → ArePartsWritten g cmp short_keys v s parts old new r
  all_stopped one e (Ok y) was h range = absurd h
  all_stopped {X = X} one e (Err f) was h range =
      subst (λ (d : Fault). ArePartsWritten g cmp short_keys v s parts old new (Err d)) (sym h)
      (subst (λ (q : Result X Fault). IfErr q (λ d. ArePartsWritten g cmp short_keys v s parts old new (Err d))) was (range old (none_written g old cmp short_keys v s parts w outputs edits last)).1)

  pub all_done : {X : Type 0} (one : Result X Fault) (x : X) → one ≡ Ok x → IsRangeWritten g cmp short_keys v s parts zero count w after old new one → ArePartsWritten g cmp short_keys v s parts old new (Ok after)
  all_done {X = X} one x was range =
      all_written g old cmp short_keys v s parts new count after
      (subst (λ (q : Result X Fault). OnOk q (AreWrittenBefore g old cmp short_keys v s parts new count after)) was (range old (none_written g old cmp short_keys v s parts w outputs edits last)).0)
      (omega (arith, is))

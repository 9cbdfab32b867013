-- `then` makes the empty struct, with the files that its clause names. It reads neither argument.
use Rattle.std.proofs.Common.{[], ◌∷◌, refl}
use Rattle.std.proofs.raw_atomic.Walks.{proved}
use mir.Syntax.{named}
use mir.Val.{Val, vptr, vstruct, vnil}
use types.Kit.{‵, raw, ◌⊛◌, ◌$◌, ◌∵◌, !, qed, move, keep, split, suffices, done}
use types.Part.{agg}
use types.Run.{enter, returns, no_more}
use types.ByLocal.{alloc_all, pass_all, free_all, look_at, sets}
use denote.Exit.{yes}
use denote.RattleType.{owns}
use denote.Ref.{shr_vals, shr_Tells}
use denote.Shadow.{pure_i}
use denote.Signature.{named_lft, plain, types_at}
use denote.Triple.Entry.{alive}
use denote.Triple.Walked.{says, Stays, stay_none_ref, Goes-none_ref, walk_of, ends_at}
use Rattle.folder.specs.Readings.{readings_after}
use Rattle.folder.specs.contracts.readings.FileRead as file_read
use Rattle.folder.specs.contracts.readings.Readings as readings
use Rattle.folder.specs.contracts.readings.Readings.then as f
use Rattle.folder.proofs.readings.Readings.then.Statement.{statement}
use Rattle.folder.proofs.readings.Readings.then.Code as code

abbrev stayed : Stays f.ended.signature.params f.ended.kept
stayed = (stay_none_ref (0 ∷ []) tt (plain (λ _. readings.the_row)) yes, (stay_none_ref (1 ∷ []) tt (plain (λ κs. file_read.the_row (named_lft 3 2 tt κs))) yes, tt))

pub then_spec : {M : Type 1} → statement M
then_spec 𝓤 𝓛 𝓜 𝓡 wired =
    let c = f.clauses 𝓛 𝓜.mem 𝓡.returns in
    proved 𝓛 f.ended stayed c 𝓜 𝓡
    (Goes-none_ref 𝓛 3 (0 ∷ []) tt (plain (λ _. readings.the_row)) yes, (Goes-none_ref 𝓛 3 (1 ∷ []) tt (plain (λ κs. file_read.the_row (named_lft 3 2 tt κs))) yes, tt))
    f.Key.name code.function (code.unfolded 𝓤 𝓛.H 𝓜 𝓡 wired)
    (λ κs. (shr_vals, (shr_vals, tt)))
    (λ κs. (shr_Tells (named 0) κs.0 readings.the_row, (shr_Tells (named 1) κs.1.0 (file_read.the_row (named_lft 3 2 tt κs)), tt))) (λ κs qs bounds a g are.
    let before : Val = vptr a.0.ref_ptr.0 a.0.ref_ptr.1 in
    let tried : Val = vptr a.1.0.ref_ptr.0 a.1.0.ref_ptr.1 in
    let made : readings.the_row.Denot = record { files = readings_after a.0.now.files a.1.0.now.trail.now.steps a.1.0.now.name.now a.1.0.now.answer.now } in
    let y : (walk_of 𝓛 f.ended stayed c).Ghost = ((κs, qs, bounds, a, (before ∷ [], (tried ∷ [], tt))), g) in
    qed 𝓛 ((raw (alive 𝓛 f.signature κs qs) ⊛ ‵ (owns (types_at f.signature.params κs) a y.0.4)) ∷ raw ((c κs a).requires g) ∷ []) ∵
    keep ! (0 ∷ []) $ split ! $
    enter ! _ _ _ _ _ $ alloc_all ! (λ l. pass_all ! refl ((tt, tt), ((tt, tt), tt)) $
    sets ! (agg ! (no_more !)) refl (tt, tt) $
    returns ! (look_at ! 0 refl) $ free_all ! refl $
    suffices ! _ (ends_at 𝓛 f.ended stayed c y (vstruct vnil) made (tt, (tt, tt)) (tt, (tt, tt))) $ says ! refl $
    pure_i ! (readings.the_row.own_val made (vstruct vnil ∷ [])) ((λ vss. (tt, tt)), tt) ((tt, (refl, tt)), tt) $
    move ! (1 ∷ 2 ∷ 0 ∷ []) $ done !))

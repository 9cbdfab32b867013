-- `with` makes the empty struct, with the numbers that its clause names. It reads neither argument.
use Rattle.std.proofs.Common.{[], ◌∷◌, ◌++◌, refl}
use Rattle.std.proofs.raw_atomic.Walks.{proved}
use mir.Syntax.{named}
use mir.Val.{Val, vptr, vstruct, vnil}
use types.Kit.{‵, raw, ◌⊛◌, ◌$◌, ◌∵◌, !, qed, move, keep, split, suffices, done}
use types.Part.{agg}
use types.Run.{enter, returns, no_more}
use types.ByLocal.{alloc_all, pass_all, free_all, look_at, sets}
use denote.Exit.{yes}
use denote.RattleType.{owns}
use denote.Ref.{shr_vals, shr_Tells}
use denote.Shadow.{pure_i}
use denote.Signature.{plain, types_at}
use denote.Triple.Entry.{alive}
use denote.Triple.Walked.{says, Stays, stay_none_ref, Goes-none_ref, walk_of, ends_at}
use Rattle.board.specs.contracts.job.Job as job
use Rattle.board.specs.contracts.trail.Trail as trail
use Rattle.board.specs.contracts.trail.Trail.with as f
use Rattle.board.proofs.trail.Trail.with.Statement.{statement}
use Rattle.board.proofs.trail.Trail.with.Code as code

abbrev stayed : Stays f.ended.signature.params f.ended.kept
stayed = (stay_none_ref (0 ∷ []) tt (plain (λ _. trail.the_row)) yes, (stay_none_ref (1 ∷ []) tt (plain (λ _. job.the_row)) yes, tt))

pub with_spec : {M : Type 1} → statement M
with_spec 𝓤 𝓛 𝓜 𝓡 wired =
    let c = f.clauses 𝓛 𝓜.mem 𝓡.returns in
    proved 𝓛 f.ended stayed c 𝓜 𝓡
    (Goes-none_ref 𝓛 2 (0 ∷ []) tt (plain (λ _. trail.the_row)) yes, (Goes-none_ref 𝓛 2 (1 ∷ []) tt (plain (λ _. job.the_row)) yes, tt))
    f.Key.name code.function (code.unfolded 𝓤 𝓛.H 𝓜 𝓡 wired)
    (λ κs. (shr_vals, (shr_vals, tt)))
    (λ κs. (shr_Tells (named 0) κs.0 trail.the_row, (shr_Tells (named 1) κs.1.0 job.the_row, tt))) (λ κs qs bounds a g are.
    let before : Val = vptr a.0.ref_ptr.0 a.0.ref_ptr.1 in
    let drawn : Val = vptr a.1.0.ref_ptr.0 a.1.0.ref_ptr.1 in
    let made : trail.the_row.Denot = record { items = a.0.now.items ++ a.1.0.now ∷ [] } in
    let y : (walk_of 𝓛 f.ended stayed c).Ghost = ((κs, qs, bounds, a, (before ∷ [], (drawn ∷ [], tt))), g) in
    qed 𝓛 ((raw (alive 𝓛 f.signature κs qs) ⊛ ‵ (owns (types_at f.signature.params κs) a y.0.4)) ∷ raw ((c κs a).requires g) ∷ []) ∵
    keep ! (0 ∷ []) $ split ! $
    enter ! _ _ _ _ _ $ alloc_all ! (λ l. pass_all ! refl ((tt, tt), ((tt, tt), tt)) $
    sets ! (agg ! (no_more !)) refl (tt, tt) $
    returns ! (look_at ! 0 refl) $ free_all ! refl $
    suffices ! _ (ends_at 𝓛 f.ended stayed c y (vstruct vnil) made (tt, (tt, tt)) (tt, (tt, tt))) $ says ! refl $
    pure_i ! (trail.the_row.own_val made (vstruct vnil ∷ [])) ((λ vss. (tt, tt)), tt) ((tt, (refl, tt)), tt) $
    move ! (1 ∷ 2 ∷ 0 ∷ []) $ done !))

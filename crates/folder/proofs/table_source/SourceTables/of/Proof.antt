-- `of` makes the empty struct, with the tables that its clause names. It doesn't read its argument.
use Rattle.std.proofs.Common.{[], ◌∷◌, refl}
use Rattle.std.proofs.raw_atomic.Walks.{proved}
use mir.Syntax.{a_type, dcons, dnil, named}
use mir.MapTy.{inst_fn}
use mir.Val.{Val, vptr, vstruct, vnil}
use types.Kit.{‵, raw, ◌⊛◌, ◌$◌, ◌∵◌, !, qed, move, keep, split, suffices, done}
use types.Part.{agg}
use types.Run.{enter, returns, no_more}
use types.ByLocal.{alloc_all, pass_all, free_all, look_at, sets}
use denote.Exit.{yes}
use denote.Param.{param, bounded}
use denote.RattleType.{owns}
use denote.Ref.{shr_vals, shr_Tells}
use denote.Shadow.{pure_i}
use denote.Signature.{plain, types_at}
use denote.Triple.Entry.{alive}
use denote.Triple.Walked.{says, Stays, stay_none_ref, Goes-none_ref, walk_of, ends_at}
use Rattle.folder.specs.contracts.table_source.SourceTables as tables
use Rattle.folder.specs.contracts.table_source.SourceTables.of as f
use Rattle.folder.proofs.table_source.SourceTables.of.Statement.{statement}
use Rattle.folder.proofs.table_source.SourceTables.of.Code as code

pub of_spec : {M : Type 1} → statement M
of_spec 𝓤 𝓛 𝓜 𝓡 wired S L g d met =
    let args = bounded (a_type ∷ []) (S, tt) (dcons d dnil) in
    let En = f.ended S g d in
    let c = f.clauses S g d 𝓛 𝓜.mem 𝓡.returns in
    let stayed : Stays En.signature.params En.kept = (stay_none_ref (0 ∷ []) tt (plain (λ _. param 0 S)) yes, tt) in
    proved 𝓛 En stayed c 𝓜 𝓡
    (Goes-none_ref 𝓛 2 (0 ∷ []) tt (plain (λ _. param 0 S)) yes, tt)
    (f.Key.name args) (inst_fn args code.function) (code.unfolded 𝓤 𝓛.H 𝓜 𝓡 wired (S, tt) d)
    (λ κs. (shr_vals, tt))
    (λ κs. (shr_Tells (named 0) κs.0 (param 0 S), tt)) (λ κs qs bounds a x are.
    let source : Val = vptr a.0.ref_ptr.0 a.0.ref_ptr.1 in
    let made : tables.the_row.Denot = record { tables = g.tables a.0.now } in
    let y : (walk_of 𝓛 En stayed c).Ghost = ((κs, qs, bounds, a, (source ∷ [], tt)), x) in
    qed 𝓛 ((raw (alive 𝓛 En.signature κs qs) ⊛ ‵ (owns (types_at En.signature.params κs) a y.0.4)) ∷ raw ((c κs a).requires x) ∷ []) ∵
    keep ! (0 ∷ []) $ split ! $
    enter ! _ _ _ _ _ $ alloc_all ! (λ l. pass_all ! refl ((tt, tt), tt) $
    sets ! (agg ! (no_more !)) refl (tt, tt) $
    returns ! (look_at ! 0 refl) $ free_all ! refl $
    suffices ! _ (ends_at 𝓛 En stayed c y (vstruct vnil) made (tt, tt) (tt, tt)) $ says ! refl $
    pure_i ! (tables.the_row.own_val made (vstruct vnil ∷ [])) ((λ vss. (tt, tt)), tt) ((tt, (refl, tt)), tt) $
    move ! (1 ∷ 2 ∷ 0 ∷ []) $ done !))

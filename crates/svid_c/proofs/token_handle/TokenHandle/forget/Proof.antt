-- `forget` lets go of a handle that owns nothing.
use mathlib.Core.Path.{◌≡◌, refl, sym, subst}
use Rattle.std.specs.Prelude.{None}
use mathlib.Core.List.{List, [], ◌∷◌, ◌++◌}
use lib.Dec.{T}
use mir.Val.{Val, vunit, vstruct, vcons, vnil, of_list, has_ty, WT}
use base.Logic.{ent}
use base.Fml.{ftrue, fsep}
use prog.Wp.{WpFn}
use contract.Monad.{fact}
use contract.Running.{tables}
use types.Kit.{Item, ‵, raw, ◌⊛◌, ◌$◌, ◌∵◌, !, qed, by, move, drop, use1, join, keep, split, fsplit, fjoin, fpick, feq_i, feq_l, suffices, done}
use types.Run.{unit_lit, of_opd, returns, enter}
use types.ByLocal.{alloc_all, pass_all, free_all, look_at, sets}
use denote.Exit.{yes}
use denote.RawPtr.{Ptr, block_ptr, null_ptr, ptr_val}
use Rattle.std.proofs.alloc.Calls.{handle_tells, α, Fits}
use Rattle.std.proofs.ResultValues.{and_tt}
use denote.Steps.{nothing}
use denote.Triple.Walked.{Stays, stay_dropped, walk_of, ends_at, Goes-dropped}
use Rattle.std.proofs.raw_atomic.Walks.{proved_at}
use Rattle.std.proofs.BoxSteps.Form.{box_ty}
use Rattle.svid_c.proofs.AsTokenBox.{E, FromHandle as From, Ptr-Good}
use Rattle.svid_c.specs.contracts.token_handle.TokenHandle as Handle
use Rattle.svid_c.specs.contracts.token_handle.TokenHandle.forget as F
use Rattle.svid_c.specs.contracts.token_handle.TokenHandle.forget.Key.{name as self_name}
use Rattle.svid_c.proofs.token_handle.TokenHandle.forget.Statement as stated
use Rattle.svid_c.proofs.token_handle.TokenHandle.forget.Code as code

ptr_first : (p : Ptr) (hv : Val) → Fits E.al hv → let w : Val = vstruct (vcons (ptr_val p) (vcons hv vnil)) in T (has_ty (box_ty E) w) × WT w
ptr_first (block_ptr b o) hv fa = (and_tt (has_ty (α E.al) hv) fa.0, ((Ptr-Good (block_ptr b o)).1, (fa.1, tt)))
ptr_first null_ptr hv fa = (and_tt (has_ty (α E.al) hv) fa.0, ((Ptr-Good null_ptr).1, (fa.1, tt)))

abbrev stayed : Stays (F.ended).signature.params (F.ended).kept
stayed = (stay_dropped From yes, tt)

pub forget_spec : {M : Type 1} → stated.statement M
forget_spec 𝓤 𝓛 𝓜 𝓡 wired =
    let c = F.clauses 𝓛 𝓜.mem 𝓡.returns in
    let 𝓣 = tables 𝓤 𝓛.H 𝓜 𝓡 𝓡.env in
    proved_at 𝓛 F.ended stayed c 𝓜 𝓡 (Goes-dropped 𝓛 0 From yes (λ κs x f. refl), tt) self_name code.function (code.unfolded 𝓤 𝓛.H 𝓜 𝓡 wired) (λ z are.
    let Post = (walk_of 𝓛 F.ended stayed c).post z in
    let d : Handle.the_row.Denot = z.0.3.0 in
    qed 𝓛 ((‵ ftrue ⊛ ‵ (fsep (Handle.the_row.own_val d z.0.4.0) ftrue)) ∷ raw (fact 𝓤 (d.read ≡ None)) ∷ []) ∵ split ! $ drop ! $ fsplit ! $
    fsplit ! $ fpick ! (λ vss. fsplit ! $ feq_l ! (λ ev. fsplit ! $ feq_l ! (λ ep. fsplit ! $ handle_tells E.al ! d.alloc vss.1.0 (λ hv ea fa.
    let word : Ptr → Val = λ p. vstruct (vcons (ptr_val p) (vcons hv vnil)) in
    let w : Val = word d.ptr in
    let ws : z.0.4.0 ≡ w ∷ [] = subst (λ (us : List Val). z.0.4.0 ≡ vstruct (of_list (ptr_val d.ptr ∷ (us ++ []))) ∷ []) ea (subst (λ (ps : List Val). z.0.4.0 ≡ vstruct (of_list (ps ++ (vss.1.0 ++ []))) ∷ []) ep ev) in
    let good : T (has_ty (box_ty E) w) × WT w = ptr_first d.ptr hv fa in
    keep ! [] $
    let Γ : List (Item 𝓤) = [] in
    by ! (subst (λ (us : List Val). ent 𝓤 (types.Kit.⋆ 𝓛 Γ) (WpFn 𝓤 𝓛.H 𝓣.C 𝓣.Λ code.function (us ++ []) Post)) (sym ws)
    (qed 𝓛 Γ ∵ enter ! 𝓣.C 𝓣.Λ code.function (w ∷ []) _ $ alloc_all ! (λ ls. pass_all ! refl (good, tt) $
    sets ! (of_opd ! (unit_lit !)) refl (tt, tt) $ returns ! (look_at ! 0 refl) $ free_all ! refl $
    suffices ! _ (ends_at 𝓛 F.ended stayed c z vunit tt (tt, tt) (tt, tt)) $
    feq_i ! (List Val) (vunit ∷ []) (vunit ∷ []) refl $ nothing ! $ nothing ! $ fjoin ! $ join ! $ nothing ! $ join ! $ nothing ! $ move ! (1 ∷ 0 ∷ []) $ join ! $ done !))))))))

-- `empty` holds a null pointer, and owns nothing.
use mathlib.Core.Path.{refl, sym, subst}
use Rattle.std.specs.Prelude.{None}
use mathlib.Core.List.{List, [], ◌∷◌, ◌++◌}
use lib.Dec.{T}
use mir.Val.{Val, vstruct, vcons, vnil, has_ty, WT}
use base.Logic.{ent, emp, id⊢}
use base.Fml.{ftrue, fsep}
use prog.Wp.{WpFn}
use contract.Running.{tables}
use types.Kit.{Item, ‵, raw, ◌⊛◌, ◌$◌, ◌∵◌, !, qed, by, move, drop, use1, join, split, fsplit, fjoin, fpack, feq_i, suffices, done}
use types.Part.{agg}
use types.Run.{lit, no_more, and_then, returns, enter}
use types.ByLocal.{alloc_all, pass_all, free_all, look_at, get, sets}
use denote.Exit.{yes}
use denote.Signature.{type_at, Slot, plain}
use denote.RattleType.{Valss}
use denote.RawPtr.{RawPtr, null_ptr, ptr_val}
use denote.Struct.Struct.{within}
use denote.Struct.Owning.{shape}
use Rattle.std.proofs.alloc.Calls.{handle_tells, α}
use Rattle.std.proofs.ResultValues.{and_tt}
use denote.Steps.{nothing}
use denote.Triple.Walked.{says, Stays, stay_dropped, walk_of, ends_at, Goes-dropped}
use Rattle.std.proofs.raw_atomic.Walks.{proved_at}
use Rattle.std.proofs.BoxSteps.Form.{P, owning, box_ty}
use Rattle.svid_c.proofs.AsTokenBox.{E, Ptr-Good}
use Rattle.std.specs.contracts.alloc.Global as Heap
use Rattle.svid_c.specs.contracts.token_handle.TokenHandle.empty as F
use Rattle.svid_c.specs.contracts.token_handle.TokenHandle.empty.Key.{name as self_name}
use Rattle.svid_c.proofs.token_handle.TokenHandle.empty.Statement as stated
use Rattle.svid_c.proofs.token_handle.TokenHandle.empty.Code as code

abbrev From : Slot 0
From = plain (λ _. Heap.the_row)

abbrev stayed : Stays (F.ended).signature.params (F.ended).kept
stayed = (stay_dropped From yes, tt)

pub empty_spec : {M : Type 1} → stated.statement M
empty_spec 𝓤 𝓛 𝓜 𝓡 wired =
    let c = F.clauses 𝓛 𝓜.mem 𝓡.returns in
    let 𝓣 = tables 𝓤 𝓛.H 𝓜 𝓡 𝓡.env in
    proved_at 𝓛 F.ended stayed c 𝓜 𝓡 (Goes-dropped 𝓛 0 From yes (λ κs x f. refl), tt) self_name code.function (code.unfolded 𝓤 𝓛.H 𝓜 𝓡 wired) (λ z are.
    let Post = (walk_of 𝓛 F.ended stayed c).post z in
    let a = z.0.3.0 in
    let To = type_at (F.signature).result tt in
    let made : To.Denot = record { ptr = null_ptr; alloc = a; read = None } in
    qed 𝓛 ((‵ ftrue ⊛ ‵ (fsep (Heap.the_row.own_val a z.0.4.0) ftrue)) ∷ raw (emp 𝓤) ∷ []) ∵ split ! $ drop ! $ fsplit ! $
    handle_tells E.al ! a z.0.4.0 (λ hv ea fa. move ! (1 ∷ 2 ∷ []) $ drop ! $ drop ! $
    let w : Val = vstruct (vcons (ptr_val null_ptr) (vcons hv vnil)) in
    let good : T (has_ty (box_ty E) w) × WT w = (and_tt (has_ty (α E.al) hv) fa.0, ((Ptr-Good null_ptr).1, (fa.1, tt))) in
    nothing ! $ nothing ! $ move ! (2 ∷ 0 ∷ []) $ fjoin ! $ feq_i ! (List Val) (ptr_val null_ptr ∷ []) (ptr_val null_ptr ∷ []) refl $ fjoin ! $
    feq_i ! (List Val) (w ∷ []) (w ∷ []) refl $ fjoin ! $
    fpack ! (Valss (RawPtr ∷ P E ∷ [])) (within (shape (owning E)) (null_ptr, (a, tt)) (w ∷ [])) (ptr_val null_ptr ∷ [], (hv ∷ [], tt)) $ fjoin ! $
    use1 𝓛 (‵ (To.own_val made (w ∷ []))) (id⊢ 𝓤 _) $
    let Γ : List (Item 𝓤) = ‵ (To.own_val made (w ∷ [])) ∷ [] in
    by ! (subst (λ (us : List Val). ent 𝓤 (types.Kit.⋆ 𝓛 Γ) (WpFn 𝓤 𝓛.H 𝓣.C 𝓣.Λ code.function (us ++ []) Post)) (sym ea)
    (qed 𝓛 Γ ∵ enter ! 𝓣.C 𝓣.Λ code.function (hv ∷ []) _ $ alloc_all ! (λ ls. pass_all ! refl (fa, tt) $
    sets ! (agg ! (and_then ! (lit ! tt) (and_then ! (get ! refl) (no_more !)))) refl good $ returns ! (look_at ! 0 refl) $ free_all ! refl $
    suffices ! _ (ends_at 𝓛 F.ended stayed c z w made (tt, tt) (tt, tt)) $ says ! refl $
    nothing ! $ nothing ! $ fjoin ! $ join ! $ nothing ! $ join ! $ done !)))))

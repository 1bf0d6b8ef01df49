-- A box is made of parts: `from_raw` is given the pointer, the allocator, and the block that the parts own.
use Rattle.std.proofs.Common.{◌≡◌, List, [], ◌∷◌, ◌++◌, refl, sym, ap, subst}
use Rattle.std.proofs.raw_atomic.Walks.{proved_at}
use Rattle.std.proofs.alloc.Calls.{token, Goes-blank}
use Rattle.std.proofs.BoxSteps.Form.{Bx, D, R, P, B, args, box_ty, word, box_typed}
use Rattle.std.proofs.BoxSteps.Steps.{box_out, box_in}
use Rattle.std.specs.Box.Ownership.{box_owns}
use Rattle.std.specs.contracts.boxed.Box.from_raw as Made
use Rattle.std.proofs.boxed.Box.from_raw.Met as made
use lib.Dec.{T}
use mir.Syntax.{Fn, Body, place, copy, assign, rv_opd, seq, return}
use mir.MapTy.{inst_fn}
use mir.Val.{Val, vptr, has_ty, WT}
use base.Logic.{ent, id⊢}
use base.Fml.{ftrue, fsep, flft}
use prog.Wp.{WpFn}
use contract.BorrowLft.{◌⊑◌}
use contract.Monad.{fact}
use contract.Running.{tables}
use types.Kit.{Item, ‵, raw, ◌⊛◌, some, later, at_ret, ◌$◌, ◌∵◌, !, qed, by, move, drop, use1, join, split, split3, pick, rewrite, fsplit, fjoin, feq_i, suffices, await, done}
use types.Part.{whole, sub}
use types.Run.{stop, fld, no_more, and_then, of_opd, returns, enter, first, blocks, exec}
use types.ByLocal.{alloc_all, pass_all, free_all, look_at, get, get_in, sets, lands_last, env}
use denote.Exit.{no}
use denote.RawPtr.{block_ptr}
use denote.Signature.{plain}
use denote.Steps.{heard, nothing, only}
use denote.Triple.Call.{calls_at_last}
use denote.Triple.Clauses.{Ended}
use denote.Triple.Spec.{triple_of}
use denote.Triple.Table.{framed}
use denote.Triple.Walked.{says, Stays, stay_dropped, walk_of, ends_at}
use Rattle.svid_c.specs.contracts.handle.parts.Parts as parts
use Rattle.svid_c.specs.contracts.handle.parts.Parts.into_box as F
use Rattle.svid_c.specs.contracts.handle.parts.Parts.into_box.Key.{name as self_name}
use Rattle.svid_c.proofs.handle.parts.Parts.into_box.Statement as stated
use Rattle.svid_c.proofs.handle.parts.Parts.into_box.Code as code

-- what is left to run after the call
abbrev answers : Body
answers = seq (assign (place 0 []) (rv_opd (copy (place 4 [])))) return

module _ (E : Bx) where
  abbrev body : Fn
  body = inst_fn (args E) code.function

  abbrev ended : Ended
  ended = F.ended E.row E.al.row E.al.g E.al.d E.al.drops

  abbrev stayed : Stays ended.signature.params ended.kept
  stayed = (stay_dropped (plain (λ _. parts.the_row (R E) (P E) E.al.g)) no, tt)

pub into_box_spec : {M : Type 1} → stated.statement M
into_box_spec 𝓤 𝓛 𝓜 𝓡 wired X Z LX LZ g d dd allocator md =
    let E : Bx = record { row = X; laws = LX; al = record { row = Z; laws = LZ; g = g; d = d; drops = dd } } in
    let c = F.clauses X Z g d dd 𝓛 𝓜.mem 𝓡.returns in
    let 𝓣 = tables 𝓤 𝓛.H 𝓜 𝓡 𝓡.env in
    let Makes = triple_of 𝓛 (Made.signature X Z g d dd) (Made.spec X Z g d dd 𝓛 𝓜.mem 𝓡.returns) in
    proved_at 𝓛 (ended E) (stayed E) c 𝓜 𝓡 (Goes-blank 𝓛 2 (plain (λ _. parts.the_row (R E) (P E) g)) no (λ κs x f. tt), tt)
    (self_name (args E)) (body E) (code.unfolded 𝓤 𝓛.H 𝓜 𝓡 wired (X, (Z, tt)) d dd) (λ y are.
    let κs = y.0.0 in let qs = y.0.1 in let p = y.0.3.0 in let Post = (walk_of 𝓛 (ended E) (stayed E) c).post y in
    let box : D E = record { ptr = p.ptr; alloc = p.alloc; value = p.value } in
    let alive : Item 𝓤 = ‵ (flft κs.0 qs.0) ⊛ ‵ (flft κs.1.0 qs.1.0) ⊛ ‵ ftrue in
    let outlived : Item 𝓤 = raw (fact 𝓤 (κs.0 ⊑ X.lives)) ⊛ raw (fact 𝓤 (κs.1.0 ⊑ Z.lives)) ⊛ ‵ ftrue in
    qed 𝓛 ((alive ⊛ ‵ (fsep ((B E).own_val box y.0.4.0) ftrue)) ∷ outlived ∷ []) ∵ split ! $ move ! (1 ∷ []) $ fsplit ! $
    -- [what the parts own, which is what a box owns; true; the tokens; the bounds]
    box_out E ! box y.0.4.0 (λ b o hv at words fits. fjoin ! $
    let start : Item 𝓤 = ‵ (box_owns (token E.al p.alloc) (R E) (block_ptr b o) p.value) in
    let Γ : List (Item 𝓤) = start ∷ ‵ ((P E).own_val p.alloc (hv ∷ [])) ∷ ‵ ftrue ∷ alive ∷ outlived ∷ [] in
    by ! (subst (λ (us : List Val). ent 𝓤 (types.Kit.⋆ 𝓛 Γ) (WpFn 𝓤 𝓛.H 𝓣.C 𝓣.Λ (body E) (us ++ []) Post)) (sym words)
    (qed 𝓛 Γ ∵ enter ! 𝓣.C 𝓣.Λ (body E) (word E hv b o ∷ []) _ $ alloc_all ! (λ ls. pass_all ! refl (box_typed E hv b o fits, tt) $
    -- the pointer and the allocator, each to a local of its own
    sets ! (of_opd ! (get_in ! (fld ! refl (stop !)) (sub ! 0 refl (whole !)))) refl (tt, tt) $
    sets ! (of_opd ! (get_in ! (fld ! refl (stop !)) (sub ! 1 refl (whole !)))) refl fits $
    first ! $ blocks ! $ sets ! (of_opd ! (get ! refl)) refl fits $
    -- [the start of the block; the allocator; true; the tokens; the bounds], put in the order that the call requires
    move ! (4 ∷ []) $ split3 ! $ move ! (2 ∷ []) $ drop ! $ move ! (1 ∷ 2 ∷ []) $ join ! $ move ! (1 ∷ 0 ∷ []) $ join ! $
    move ! (2 ∷ []) $ feq_i ! (List Val) (vptr b o ∷ []) (vptr b o ∷ []) refl $ fjoin ! $ move ! (2 ∷ 0 ∷ []) $ fjoin ! $ move ! (2 ∷ 0 ∷ []) $ join ! $ join ! $
    let z : Makes.Ghost = ((κs, qs, tt, (p.alloc, (block_ptr b o, tt)), (hv ∷ [], (vptr b o ∷ [], tt))), p.value) in
    use1 𝓛 (raw (Makes.pre z)) (id⊢ 𝓤 _) $
    calls_at_last ! (framed 𝓤 𝓛.H 𝓜 𝓣) Makes (made.met 𝓤 𝓛 𝓜 𝓡 (code.calls-std_alloc::boxed::Box::from_raw 𝓡.env wired) X Z LX LZ g d dd allocator md) z
    (and_then ! (get ! refl) (and_then ! (get ! refl) (no_more !))) (λ u.
    use1 𝓛 (later (some (λ (r : D E). (alive ⊛ ‵ ((B E).own_val r (u ∷ []))) ⊛ some (λ (_ : Unit {0} × (Unit {0} × Unit {0})). ‵ (fsep ftrue (fsep ftrue ftrue)) ⊛ (raw (fact 𝓤 (r.value ≡ p.value)) ⊛ raw (fact 𝓤 (r.alloc ≡ p.alloc))))))) (id⊢ 𝓤 _) $
    await ! tt $ pick ! (λ r. split ! $ move ! (1 ∷ []) $ pick ! (λ _. split3 ! $ drop ! $ heard ! (r.value ≡ p.value) (λ same. drop ! $ split ! $ move ! (1 ∷ []) $
    -- the machine's value of the box that was made
    box_out E ! r (u ∷ []) (λ b' o' hw at' words' fits'. box_in E ! r b' o' r.value at' refl $ rewrite ! 0 (λ (us : List Val). ‵ ((B E).own_val r us)) (sym words') refl $
    let typed : T (has_ty (box_ty E) u) × WT u = subst (λ (s : Val). T (has_ty (box_ty E) s) × WT s) (sym (ap only words')) (box_typed E hw b' o' fits') in
    lands_last ! refl typed $ exec ! 𝓣.C 𝓣.Λ (env (body E).locals ls) answers (at_ret (env (body E).locals ls) Post) $
    sets ! (of_opd ! (get ! refl)) refl typed $ returns ! (look_at ! 0 refl) $ free_all ! refl $
    suffices ! _ (ends_at 𝓛 (ended E) (stayed E) c y u r ((tt, (tt, tt)), tt) (tt, tt)) $ says ! same $
    nothing ! $ nothing ! $ fjoin ! $ join ! $ move ! (1 ∷ 0 ∷ []) $ join ! $ done !))))))))))

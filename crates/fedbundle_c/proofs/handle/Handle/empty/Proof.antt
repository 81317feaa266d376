-- `empty` puts the two fields together, and owns nothing at null.
use Rattle.std.proofs.Common.{◌≡◌, List, [], ◌∷◌, ◌++◌, refl, sym, ap, ◌∙◌, subst}
use mir.Val.{Val}
use base.Logic.{SProp, ent, emp, id⊢}
use prog.Wp.{WpFn}
use types.Kit.{‵, raw, ◌⊛◌, ◌$◌, ◌∵◌, !, qed, by, move, keep, split, fsplit3, fjoin, suffices, use0, feq_l}
use types.Run.{no_more, and_then, returns, enter}
use types.ByLocal.{alloc_all, pass_all, free_all, look_at, get, sets}
use types.Part.{agg}
use contract.Monad.{fact, fact_i}
use contract.Running.{tables}
use denote.Exit.{yes}
use denote.RattleType.{owns}
use denote.Builtin.{RawPtr}
use denote.RawPtr.{Ptr, null_ptr, ptr_val}
use denote.Signature.{types_at, plain}
use denote.Steps.{nothing, heard}
use denote.Triple.Entry.{alive}
use denote.Triple.Walked.{Stays, stay_dropped, walk_of, Goes-dropped}
use Rattle.core.proofs.alloc.Calls.{handle_tells}
use Rattle.core.proofs.atomic.Steps.{Ptr-Good}
use Rattle.std.specs.declared.option.Option.TheVariants.{None}
use Rattle.std.proofs.raw_atomic.Walks.{proved_at, leaves}
use Rattle.fedbundle_c.specs.contracts.handle.Handle as handle
use Rattle.fedbundle_c.proofs.Values.{both}
use Rattle.fedbundle_c.proofs.HandleValues.{Alloc, al, handle_good, handle_in}
use Rattle.fedbundle_c.specs.contracts.handle.Handle.empty.{ended, clauses}
use Rattle.fedbundle_c.specs.contracts.handle.Handle.empty.Key.{name as #self}
use Rattle.fedbundle_c.proofs.handle.Handle.empty.Statement.{statement}
use Rattle.fedbundle_c.proofs.handle.Handle.empty.Code as code

pub empty_spec : {M : Type 1} → statement M
empty_spec 𝓤 𝓛 𝓜 𝓡 wired =
    let H = 𝓛.H in let 𝓣 = tables 𝓤 H 𝓜 𝓡 𝓡.env in let En = ended in let c = clauses 𝓛 𝓜.mem 𝓡.returns in let fn = code.function in
    let hs : Stays En.signature.params En.kept = (stay_dropped (plain (λ _. RawPtr)) yes, (stay_dropped (plain (λ _. Alloc)) yes, tt)) in
    proved_at 𝓛 En hs c 𝓜 𝓡 (
      Goes-dropped 𝓛 0 (plain (λ _. RawPtr)) yes (λ κs x f. refl),
      (
        Goes-dropped 𝓛 0 (plain (λ _. Alloc)) yes
            (λ κs x f. refl),
        tt,
      ),
    ) #self fn (code.unfolded 𝓤 H 𝓜 𝓡 wired) (λ z are.
    let κs = z.0.0 in let qs = z.0.1 in let Post : Val → SProp 𝓤 = (walk_of 𝓛 En hs c).post z in
    let Run : List Val → SProp 𝓤 = λ ws. WpFn 𝓤 H 𝓣.C 𝓣.Λ fn ws Post in
    let x = z.0.3.0 in let a = z.0.3.1.0 in
    qed 𝓛 ((raw (alive 𝓛 En.signature κs qs) ⊛ ‵ (owns (types_at En.signature.params κs) z.0.3 z.0.4)) ∷ raw (fact 𝓤 (x ≡ null_ptr)) ∷ []) ∵
    move ! (1 ∷ []) $ heard ! (x ≡ null_ptr) (λ is. split ! $ move ! (1 ∷ []) $ fsplit3 ! $ feq_l ! (λ ep. handle_tells al ! a z.0.4.1.0 (λ h ea fits.
    let p : Val = ptr_val null_ptr in let w : Val = both p h in let good = handle_good null_ptr h fits in
    let r : handle.the_row.Denot = record { at = null_ptr; alloc = a; value = None } in
    suffices ! (Run (p ∷ h ∷ [])) (subst (λ (us : List Val). ent 𝓤 (Run (p ∷ h ∷ [])) (Run us)) (sym (λ i. (ep ∙ ap
    (λ (q : Ptr). ptr_val q ∷ []) is) i ++ (ea i ++ []))) (id⊢ 𝓤 (Run (p ∷ h ∷ [])))) $
    enter ! 𝓣.C 𝓣.Λ fn (p ∷ h ∷ []) Post $ alloc_all ! (λ l. pass_all ! refl (Ptr-Good null_ptr, (fits, tt)) $
    sets ! (agg ! (and_then ! (get ! refl) (and_then ! (get ! refl) (no_more !)))) refl good $ nothing ! $ handle_in ! null_ptr h a None $
    use0 𝓛 (raw (fact 𝓤 (r.value ≡ None))) (fact_i 𝓤 (r.value ≡ None) (emp 𝓤) refl) $ nothing ! $ nothing ! $ fjoin ! $ nothing ! $ fjoin ! $
    returns ! (look_at ! 0 refl) $ free_all ! refl $ keep ! (4 ∷ 0 ∷ 2 ∷ 1 ∷ []) $ by ! (leaves 𝓛 En hs c z w r (tt, (tt, tt)) (tt, (tt, tt))))))))

-- The machine values of a `Handle`, and what it owns. Assumes `Logic`.
use Rattle.std.proofs.Common.{◌≡◌, ℕ, List, [], ◌∷◌, ◌++◌, refl, subst}
use mathlib.Core.Bool.{true, ◌&&◌}
use lib.Dec.{T}
use seplogic.Ra.Ura.{Ura}
use mir.Raw.{raw as bare}
use mir.Syntax.{impl, tnil, dnil}
use mir.Val.{Val, vstruct, of_list, has_ty, WT}
use base.Fraction.{full_share}
use base.Logic.{ent, guard, guard_i, via, snd∗}
use types.Logic.{Logic, sem}
use types.Kit.{Item, Goal, Seq, Step, step, ‵, given, ◌$◌, move, drop, fsplit, fjoin, fpick, fpack, feq_i, feq_l, use1, learn}
use contract.Monad.{fact_use}
use denote.RattleType.{RattleType, Valss}
use denote.Builtin.{RawPtr}
use denote.Memory.{lone}
use denote.RawPtr.{Ptr, block_ptr, null_ptr, ptr_val, lies_at, Testable}
use denote.Steps.{nothing}
use denote.Param.{layout}
use denote.Struct.Struct.{within}
use denote.Struct.Owning.{shape}
use Rattle.core.proofs.alloc.Calls.{Al, handle_tells}
use Rattle.core.proofs.atomic.Steps.{Ptr-Good}
use Rattle.core.proofs.cell.Inside.{Good}
use Rattle.std.specs.contracts.alloc.Global as heap
use Rattle.std.proofs.alloc.Global.TheLaws as heap_laws
use Rattle.std.specs.declared.alloc.Global.{Global}
use Rattle.std.specs.declared.option.Option.{Option}
use Rattle.std.specs.declared.option.Option.TheVariants.{None, Some}
use Rattle.std.specs.contracts.impls.GlobalAllocator.TheImpl.{ghosts}
use Rattle.std.proofs.GlobalToken.{dealloc_token-Testable}
use Rattle.std_alloc.specs.Box.Ownership.{box_owns}
use Rattle.fedbundle_c.specs.Holding.{handle_owns}
use Rattle.fedbundle_c.specs.contracts.held_replica.Replica as held
use Rattle.fedbundle_c.specs.contracts.handle.Handle as handle
use Rattle.fedbundle_c.proofs.Values.{both, both_tt}

abbrev pub Held : RattleType
Held = held.the_row

abbrev pub Alloc : RattleType
Alloc = heap.the_row

abbrev pub al : Al
al = record { row = Alloc; laws = heap_laws.the_row_laws; g = ghosts; d = impl [] tnil dnil; drops = impl [] tnil dnil }

abbrev pub boxed : Global → Ptr → Held.Denot → base.Fml.Fml
boxed a p x = box_owns (ghosts.dealloc_token a) Held p x

pub handle_good : (p : Ptr) (h : Val) → Good (layout Alloc) h
    → T (has_ty (layout RawPtr) (ptr_val p) && (has_ty (layout Alloc) h && true)) × WT (both (ptr_val p) h)
handle_good p h fits = (both_tt (has_ty (layout RawPtr) (ptr_val p)) (has_ty (layout Alloc) h) (Ptr-Good p).0 fits.0, ((Ptr-Good p).1, (fits.1, tt)))

module _ {M : Type 1} {𝓤 : Ura M} (𝓛 : Logic 𝓤) where
  -- a block that the allocator gave can be compared with null
  pub tested : (a : Global) (p : Ptr) (x : Held.Denot) → ent 𝓤 (sem 𝓛 (boxed a p x)) (guard 𝓤 (Testable p) (sem 𝓛 (boxed a p x)))
  tested a p x = let B = sem 𝓛 (boxed a p x) in fact_use 𝓤 (Testable p) (via 𝓤 _ (snd∗ 𝓤 (sem 𝓛 (lies_at Held full_share p x)) (sem 𝓛 (ghosts.dealloc_token a
      (bare (lone Held.mir)) p))) (dealloc_token-Testable 𝓛 a (bare (lone Held.mir)) p)) (guard_i 𝓤 (Testable p) B)

module _ {M : Type 1} {𝓤 : Ura M} {𝓛 : Logic 𝓤} {K : Type 0} {Γ : List (Item 𝓤)} {G : Goal 𝓤 𝓛.H} where
  -- a handle is a pointer and the allocator, and owns what it holds
  pub handle_out : K → (d : handle.the_row.Denot) (vs : List Val)
      → ((h : Val) → vs ≡ both (ptr_val d.at) h ∷ [] → Good (layout Alloc) h → Seq K 𝓛
      (‵ (handle_owns d.alloc d.at d.value) ∷ ‵ (Alloc.own_val d.alloc (h ∷ [])) ∷ Γ) G)
      → Seq K 𝓛 (‵ (handle.the_row.own_val d vs) ∷ Γ) G
  handle_out t d vs k =
      fsplit t $ fpick t (λ vss. fsplit t $ feq_l t (λ ev. fsplit t $ feq_l t (λ ep. fsplit t $
      handle_tells al t d.alloc vss.1.0 (λ h ea fits. move t (1 ∷ []) $ drop t $ move t (1 ∷ []) $
      k h (subst (λ (ws : List Val). vs ≡ vstruct (of_list (ptr_val d.at ∷ (ws ++ []))) ∷ []) ea (subst
      (λ (ps : List Val). vs ≡ vstruct (of_list (ps ++ (vss.1.0 ++ []))) ∷ []) ep ev)) fits))))

  pub handle_in : K → (p : Ptr) (h : Val) (a : Global) (x : Option Held.Denot)
      → Step K 𝓛 (‵ (handle.the_row.own_val (record { at = p; alloc = a; value = x }) (both (ptr_val p) h ∷ [])) ∷ Γ) G
      (‵ (handle_owns a p x) ∷ ‵ (Alloc.own_val a (h ∷ [])) ∷ Γ) G
  handle_in t p h a x = step (λ s. let v : Val = both (ptr_val p) h in
      nothing t $ move t (2 ∷ 0 ∷ []) $ fjoin t $ feq_i t (List Val) (ptr_val p ∷ []) (ptr_val p ∷ []) refl $ fjoin t $
      feq_i t (List Val) (v ∷ []) (v ∷ []) refl $ fjoin t $
      fpack t (Valss (RawPtr ∷ Alloc ∷ [])) (within (shape handle.the_type) (p, (heap.the_field.into a, tt)) (v ∷ [])) (ptr_val p ∷ [], (h ∷ [], tt)) $
      fjoin t $ s)

  -- nothing at null, or a value in a block
  pub either_held : K → (a : Global) (p : Ptr) (x : Option Held.Denot)
      → (p ≡ null_ptr → x ≡ None → Seq K 𝓛 Γ G)
      → ((b o : ℕ) (y : Held.Denot) → p ≡ block_ptr b o → x ≡ Some y → Testable (block_ptr b o) → Seq K 𝓛 (‵ (boxed a (block_ptr b o) y) ∷ Γ) G)
      → Seq K 𝓛 (‵ (handle_owns a p x) ∷ Γ) G
  either_held t a null_ptr None none one = drop t $ none refl refl
  either_held t a (block_ptr b o) (Some y) none one = use1 𝓛 (given (Testable (block_ptr b o))
      (‵ (boxed a (block_ptr b o) y))) (tested 𝓛 a (block_ptr b o) y) $ learn t (λ e. one b o y refl refl e)
  either_held t a null_ptr (Some y) none one = fpick t (λ e. absurd e)
  either_held t a (block_ptr b o) None none one = fpick t (λ e. absurd e)

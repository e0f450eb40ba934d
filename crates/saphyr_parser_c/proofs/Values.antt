-- The machine values of a `Handle`. Assumes `Logic`.
use Rattle.std.proofs.Common.{◌≡◌, ℕ, List, [], ◌∷◌, ◌++◌, refl, subst, lit<}
use mathlib.Core.Bool.{true, ◌&&◌}
use mathlib.Core.Option.{Option, none, some}
use lib.Dec.{T}
use seplogic.Ra.Ura.{Ura}
use mir.Syntax.{impl, tnil, dnil}
use mir.Raw.{raw as bare}
use mir.Val.{Val, vptr, vstruct, vcons, vnil, of_list, has_ty, WT}
use base.Fml.{Fml, ftrue, ffalse}
use base.Logic.{ent, via, snd∗, never, never_e, id⊢, guard_i}
use contract.Monad.{fact, fact_use}
use types.Logic.{Logic, sem}
use types.Kit.{Item, Goal, Seq, Step, step, ‵, given, ◌$◌, move, drop, learn, use1, fsplit, fjoin, fpick, fpack, feq_i, feq_l}
use denote.RattleType.{RattleType, Valss}
use denote.Builtin.{RawPtr}
use denote.Memory.{lone}
use denote.RawPtr.{Ptr, block_ptr, null_ptr, ptr_val, Testable}
use denote.Signature.{Slot, plain}
use denote.Steps.{nothing}
use denote.Param.{layout}
use denote.Struct.Struct.{within}
use denote.Struct.Owning.{shape, to}
use Rattle.core.specs.Ptr.{points_to}
use Rattle.core.proofs.alloc.Calls.{Al, handle_tells}
use Rattle.core.proofs.cell.Inside.{Good}
use Rattle.std.specs.Global.{Global}
use Rattle.std.proofs.GlobalToken.{dealloc_token-Testable}
use Rattle.std_heap.specs.contracts.Global as Heap
use Rattle.std_heap.specs.contracts.GlobalAllocator.TheImpl.{ghosts, dict}
use Rattle.std_heap.proofs.Global.TheLaws as heap
use Rattle.std_alloc.specs.Box.Ownership.{box_owns}
use Rattle.std_alloc.proofs.BoxSteps.Form.{Bx}
use Rattle.std_alloc.proofs.ResultValues.{and_tt}
use Rattle.saphyr_parser_c.specs.Held.{handle_owns}
use Rattle.saphyr_parser_c.specs.contracts.inner.Inner as Inner
use Rattle.saphyr_parser_c.proofs.inner.Inner.TheLaws as inner
use Rattle.saphyr_parser_c.specs.contracts.parts.Parts as Parts
use Rattle.saphyr_parser_c.specs.contracts.handle.Handle as Handle

abbrev pub R : RattleType
R = Inner.the_row

abbrev pub Z : RattleType
Z = Heap.the_row

abbrev pub al : Al
al = record { row = Z; laws = heap.the_row_laws; g = ghosts; d = dict; drops = impl [] tnil dnil }

abbrev pub E : Bx
E = record { row = R; laws = inner.the_row_laws; al = al }

abbrev pub HandleR : RattleType
HandleR = Handle.the_row

abbrev pub PartsR : RattleType
PartsR = Parts.the_row R Z ghosts

abbrev pub FromParts : Slot 0
FromParts = plain (λ _. PartsR)

abbrev pub FromHandle : Slot 0
FromHandle = plain (λ _. HandleR)

abbrev pub FromAlloc : Slot 0
FromAlloc = plain (λ _. Z)

abbrev pub both : Val → Val → Val
both v w = vstruct (vcons v (vcons w vnil))

pub block_good : (b o : ℕ) (h : Val) → Good (layout Z) h → T (has_ty (layout Z) h && true) × WT (both (vptr b o) h)
block_good b o h fits = (and_tt (has_ty (layout Z) h) fits.0, (tt, (fits.1, tt)))

pub null_good : (h : Val) → Good (layout Z) h → T (has_ty (layout Z) h && true) × WT (both (ptr_val null_ptr) h)
null_good h fits = (and_tt (has_ty (layout Z) h) fits.0, (record { fits = lit< tt }, (fits.1, tt)))

abbrev pub boxed : Global → ℕ → ℕ → R.Denot → Fml
boxed a b o x = box_owns (ghosts.dealloc_token a) R (block_ptr b o) x

module _ {M : Type 1} {𝓤 : Ura M} (𝓛 : Logic 𝓤) (a : Global) (b o : ℕ) (x : R.Denot) where
  pub boxed_testable : ent 𝓤 (sem 𝓛 (boxed a b o x)) (fact 𝓤 (Testable (block_ptr b o)))
  boxed_testable =
      via 𝓤 _ (snd∗ 𝓤 (sem 𝓛 (points_to R (block_ptr b o) x))
      (sem 𝓛 (ghosts.dealloc_token a (bare (lone R.mir)) (block_ptr b o))))
      (dealloc_token-Testable 𝓛 a (bare (lone R.mir)) (block_ptr b o))

module _ {M : Type 1} {𝓤 : Ura M} {𝓛 : Logic 𝓤} {K : Type 0} {Γ : List (Item 𝓤)} {G : Goal 𝓤 𝓛.H} where
  never_held : K → Seq K 𝓛 (‵ ffalse ∷ Γ) G
  never_held t = use1 𝓛 (given ⊥ (‵ ftrue)) (via 𝓤 (never 𝓤) (id⊢ 𝓤 _) (never_e 𝓤 _)) $ learn t (λ z. absurd z)

  pub either_held : K → (a : Global) (p : Ptr) (x : Option R.Denot)
      → (p ≡ null_ptr → x ≡ none → Seq K 𝓛 Γ G)
      → ((b o : ℕ) (y : R.Denot) → p ≡ block_ptr b o → x ≡ some y → Testable (block_ptr b o)
      → Seq K 𝓛 (‵ (boxed a b o y) ∷ Γ) G)
      → Seq K 𝓛 (‵ (handle_owns a p x) ∷ Γ) G
  either_held t a null_ptr none n k = drop t $ n refl refl
  either_held t a null_ptr (some x) n k = never_held t
  either_held t a (block_ptr b o) none n k = never_held t
  either_held t a (block_ptr b o) (some x) n k =
      use1 𝓛 (given (Testable (block_ptr b o)) (‵ (boxed a b o x)))
      (fact_use 𝓤 (Testable (block_ptr b o)) (boxed_testable 𝓛 a b o x)
      (λ s. guard_i 𝓤 (Testable (block_ptr b o)) (sem 𝓛 (boxed a b o x)) s)) $
      learn t (λ s. k b o x refl refl s)

module _ {M : Type 1} {𝓤 : Ura M} {𝓛 : Logic 𝓤} {K : Type 0} {Γ : List (Item 𝓤)} {G : Goal 𝓤 𝓛.H} where
  pub handle_out : K → (d : HandleR.Denot) (vs : List Val)
      → ((h : Val) → d.value ≡ none → vs ≡ both (ptr_val null_ptr) h ∷ [] → Good (layout Z) h
      → Seq K 𝓛 (‵ (Z.own_val d.alloc (h ∷ [])) ∷ Γ) G)
      → ((b o : ℕ) (y : R.Denot) (h : Val) → d.value ≡ some y → Testable (block_ptr b o) → vs ≡ both (vptr b o) h ∷ []
      → Good (layout Z) h → Seq K 𝓛 (‵ (boxed d.alloc b o y) ∷ ‵ (Z.own_val d.alloc (h ∷ [])) ∷ Γ) G)
      → Seq K 𝓛 (‵ (HandleR.own_val d vs) ∷ Γ) G
  handle_out t d vs n k =
      fsplit t $ fpick t (λ vss. fsplit t $ feq_l t
      (λ ev. fsplit t $ feq_l t
      (λ ep. fsplit t $ handle_tells al t d.alloc vss.1.0 (λ h ea fits. move t (1 ∷ []) $ drop t $ move t (1 ∷ []) $
      let as_laid : vs ≡ both (ptr_val d.at) h ∷ [] =
      subst (λ (ws : List Val). vs ≡ vstruct (of_list (ptr_val d.at ∷ (ws ++ []))) ∷ []) ea
      (subst (λ (ps : List Val). vs ≡ vstruct (of_list (ps ++ (vss.1.0 ++ []))) ∷ []) ep ev) in
      let laid : (p : Ptr) → d.at ≡ p → vs ≡ both (ptr_val p) h ∷ [] =
      λ p e. subst (λ (p : Ptr). vs ≡ both (ptr_val p) h ∷ []) e as_laid in
      either_held t d.alloc d.at d.value (λ e f. n h f (laid null_ptr e) fits)
      (λ b o y e f s. k b o y h f s (laid (block_ptr b o) e) fits)))))

  pub null_in : K → (h : Val) (a : Global)
      → Step K 𝓛 (‵ (HandleR.own_val (record { at = null_ptr; alloc = a; value = none })
      (both (ptr_val null_ptr) h ∷ [])) ∷ Γ) G (‵ ftrue ∷ ‵ (Z.own_val a (h ∷ [])) ∷ Γ) G
  null_in t h a = step (λ s. let v : Val = both (ptr_val null_ptr) h in
      nothing t $ move t (2 ∷ 0 ∷ []) $ fjoin t $ feq_i t (List Val) (ptr_val null_ptr ∷ []) (ptr_val null_ptr ∷ [])
      refl $ fjoin t $ feq_i t (List Val) (v ∷ []) (v ∷ []) refl $ fjoin t $
      fpack t (Valss (RawPtr ∷ Z ∷ []))
      (within (shape Handle.the_type) (to Handle.the_type (record { at = null_ptr; alloc = a; value = none }))
      (v ∷ [])) (ptr_val null_ptr ∷ [], (h ∷ [], tt)) $ fjoin t $ s)

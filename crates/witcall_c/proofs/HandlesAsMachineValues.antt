-- A handle as machine values, and what it owns.
use Rattle.std.proofs.Common.{◌≡◌, ◌≢◌, List, [], ◌∷◌, refl}
use Rattle.std.specs.Prelude.{Option, Some, None}
use seplogic.Ra.Ura.{Ura}
use mir.Syntax.{Callee, Dict, impl, method, no_args, tcons, tnil, dnil}
use mir.Raw.{raw as bare}
use mir.Val.{Val, vstruct, vcons, vnil}
use base.Logic.{SProp, sep, emp, ex, ex_i, ex_e, via, mono_r}
use base.Fml.{ftrue, fsep}
use prog.Model.{Model}
use prog.Routine.{Env}
use prog.Wired.{Wired}
use contract.Monad.{fm→mono}
use contract.Running.{Running}
use types.Logic.{Logic, sem}
use types.Kit.{Item as Entry, Goal, Seq, Step, step, ‵, raw, ◌$◌, ◌∵◌, !, qed, done, show, drop, feq_i, fjoin, fpack, fpick}
use denote.Exit.{no}
use denote.RattleType.{RattleType, Valss}
use denote.Builtin.{RawPtr}
use denote.RawPtr.{Ptr, ptr_val}
use denote.Param.{layout, arg}
use denote.Param.Glue.{Bound, Met, signature, spent}
use denote.Param.Laws.{Laws, arg_laws}
use denote.Param.NoDrop.{glues}
use denote.Steps.{nothing}
use denote.Triple.Carry.{grown, spared}
use denote.Triple.Spec.{Back, triple_of}
use denote.Triple.Table.{run_framed, widened}
use denote.Struct.Struct.{within}
use denote.Struct.Owning.{shape}
use Rattle.std.specs.declared.alloc.Global.{Global}
use Rattle.std.specs.contracts.alloc.Global as global
use Rattle.std.proofs.alloc.Global.TheLaws as global_laws
use Rattle.std.specs.contracts.impls.GlobalAllocator.TheImpl.{ghosts}
use Rattle.std_alloc.specs.Box.Ownership.{box_owns}
use Rattle.witcall_c.proofs.Destruct++none.drop.Symbol as none
use Rattle.witcall_c.proofs.witcall_c++held++Held+Destruct.drop.Symbol as dropped
use Rattle.witcall_c.proofs.witcall_c++held++Held+Destruct.drop.Met.{met}
use Rattle.witcall_c.specs.contracts.witcall_c++held++Held+Destruct.drop as drops
use Rattle.witcall_c.specs.Handle.{holds}
use Rattle.witcall_c.specs.declared.held.Held.{Held}
use Rattle.witcall_c.specs.contracts.held.Held as held
use Rattle.witcall_c.proofs.held.Held.TheLaws as held_laws
use Rattle.witcall_c.specs.contracts.kept.Kept as handle

-- the machine value of a handle at this pointer
abbrev pub handle_value : Ptr → Val
handle_value p = vstruct (vcons (ptr_val p) vnil)

module _ {M : Type 1} {𝓤 : Ura M} {𝓛 : Logic 𝓤} {K : Type 0} {Γ : List (Entry 𝓤)} {G : Goal 𝓤 𝓛.H} where
  -- what the handle owns becomes the handle
  pub handle_in : K → (p : Ptr) (h : Option Held) → Step K 𝓛 (‵ (handle.the_row.own_val (record { at = p; held = h }) (handle_value p ∷ [])) ∷ Γ) G (‵ (holds p h) ∷ Γ) G
  handle_in t p h = step (λ s.
      nothing t $ feq_i t (List Val) (ptr_val p ∷ []) (ptr_val p ∷ []) refl $ fjoin t $ feq_i t (List Val) (handle_value p ∷ []) (handle_value p ∷ []) refl $ fjoin t $
      fpack t (Valss (RawPtr ∷ [])) (within (shape handle.the_type) (p, tt) (handle_value p ∷ [])) (ptr_val p ∷ [], tt) $ fjoin t $ s)

  -- of a handle that stands for something, the box
  pub opens_box : K → (p : Ptr) (k : Option Held) → k ≢ None
      → ((h : Held) (from : Global) → k ≡ Some h → Seq K 𝓛 (‵ (box_owns (ghosts.dealloc_token from) held.the_row p h) ∷ Γ) G) → Seq K 𝓛 (‵ (holds p k) ∷ Γ) G
  opens_box t p None some k = absurd (some refl)
  opens_box t p (Some h) some k = fpick t (λ from. k h from refl)

-- what a call passes for `Held` and for `Global`: each at its raw layout
abbrev pub Item : RattleType
Item = arg (bare (layout held.the_row)) no held.the_row

abbrev pub item_laws : Laws Item
item_laws = arg_laws (bare (layout held.the_row)) no held.the_row held_laws.the_row_laws refl

abbrev pub Heap : RattleType
Heap = arg (bare (layout global.the_row)) no global.the_row

abbrev pub heap_laws : Laws Heap
heap_laws = arg_laws (bare (layout global.the_row)) no global.the_row global_laws.the_row_laws refl

-- the heap's handle needs no drop
abbrev pub no_drop : Dict
no_drop = impl (none.symbol ∷ []) (tcons (layout Heap) tnil) dnil

pub no_glue : (γ : Env) → Wired γ none.code → Bound γ Heap no_drop
unfolding Rattle.witcall_c.proofs.Destruct++none.drop.Code.code
no_glue γ wired = glues none.symbol γ wired Heap heap_laws

abbrev pub item_drop : Dict
item_drop = impl (dropped.symbol ∷ []) tnil dnil

-- the drop of `Held` is the glue of what a call passes for it
pub item_glue : {M : Type 1} (𝓤 : Ura M) (𝓛 : Logic 𝓤) (𝓜 : Model 𝓤 𝓛.H) (𝓡 : Running 𝓤 𝓛.H 𝓜) → Wired 𝓡.env dropped.code → Met 𝓛 𝓜 𝓡 𝓡.env Item item_drop
item_glue 𝓤 𝓛 𝓜 𝓡 wired y =
    let k : Callee = method item_drop 0 no_args in let S = drops.signature in let said = drops.spec 𝓛 𝓜.mem 𝓡.returns in let run = 𝓡.run (𝓡.env k) in let framed = run_framed 𝓤 𝓛.H 𝓜 𝓡 (𝓡.env k) in
    let longer = grown 𝓛 S 1 (Item.lives, tt) said in let z : longer.Ghost = ((y.0.0, y.0.1, tt, y.0.3, y.0.4), y.1) in
    let asked = triple_of 𝓛 (signature Item) (spent 𝓛 Item) in
    via 𝓤 (run (longer.args z) (longer.post z))
    (spared 𝓛 S run framed 1 (Item.lives, tt) said (widened 𝓤 𝓛.H (triple_of 𝓛 S said) 𝓜 𝓡 𝓡.env (𝓡.env dropped.name) (𝓡.env k) (dropped.as_method 𝓡.env wired k refl) (met 𝓤 𝓛 𝓜 𝓡 wired)) z)
    (fm→mono 𝓤 (run (longer.args z)) (framed (longer.args z)) (longer.post z) (asked.post y) (λ v. 𝓛.laws.⇛_mono _ _
    (let Returned : Unit {0} → SProp 𝓤 = λ r. Back 𝓛 (signature Item) y.0 v r in let Said : SProp 𝓤 = (said tt y.0.3).ensures tt tt in let Left : Unit {0} × Unit {0} → SProp 𝓤 = λ _. sep 𝓤 (sem 𝓛 (fsep ftrue ftrue)) (emp 𝓤) in
    ex_e 𝓤 (λ (r : Unit {0}). sep 𝓤 (Returned r) Said) (λ r. via 𝓤 (sep 𝓤 (Returned r) (ex 𝓤 Left)) (mono_r 𝓤 (Returned r)
    (qed 𝓛 (raw Said ∷ []) ∵ drop ! $ show ! Left (tt, tt) $ nothing ! $ nothing ! $ nothing ! $ fjoin ! $ done !))
    (ex_i 𝓤 (λ (r' : Unit {0}). sep 𝓤 (Returned r') (ex 𝓤 Left)) r)))))

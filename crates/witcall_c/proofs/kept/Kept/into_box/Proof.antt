-- From a handle and the heap to the box that the handle owns.
use Rattle.std.proofs.Common.{◌≡◌, ◌≢◌, List, [], ◌∷◌, refl, sym, ap, ◌∙◌}
use Rattle.std.specs.Prelude.{None, Some}
use mir.Val.{Val}
use base.Fraction.{full_share}
use base.Logic.{SProp, emp, id⊢}
use base.Fml.{ftrue, flft}
use types.Kit.{raw, ‵, ◌⊛◌, some, later, at_ret, ◌$◌, ◌∵◌, !, qed, done, move, drop, use0, use1, split, split3, join, fsplit, fsplit3, fjoin, feq_i, pick, await, suffices}
use types.Run.{enter, of_opd, stop, fld, no_more, and_then, first, blocks, exec, returns}
use types.ByLocal.{alloc_all, pass_all, free_all, look_at, get, get_in, sets, lands_last, env}
use types.Part.{sub, whole}
use contract.Monad.{fact, fact_i}
use contract.BorrowLft.{◌⊑◌}
use contract.Running.{tables}
use denote.Exit.{yes}
use denote.RattleType.{RattleType, owns}
use denote.RawPtr.{ptr_val, rawptr_Lawful}
use denote.Laws.{Is, shows}
use denote.Signature.{plain}
use denote.Steps.{nothing, heard, peeks}
use denote.Triple.Clauses.{Lasts, lasts}
use denote.Triple.Spec.{triple_of}
use denote.Triple.Call.{calls_at_last}
use denote.Triple.Table.{framed}
use denote.Triple.Walked.{Stays, stay_dropped, Goes-dropped, walk_of, says, ends_at}
use Rattle.std.proofs.raw_atomic.Walks.{proved}
use Rattle.std.specs.contracts.alloc.Global as global
use Rattle.std.proofs.alloc.Global.TheLaws as global_laws
use Rattle.std.specs.contracts.impls.GlobalAllocator.TheImpl.{ghosts, dict}
use Rattle.std.proofs.impls.GlobalAllocator.TheImpl.Met as heap
use Rattle.std_alloc.specs.contracts.boxed.Box as box
use Rattle.std_alloc.proofs.boxed.Box.TheLaws as box_laws
use Rattle.std_alloc.specs.contracts.boxed.Box.from_raw as g
use Rattle.std_alloc.proofs.boxed.Box.from_raw.Met.{met}
use Rattle.witcall_c.proofs.HandlesAsMachineValues.{handle_value, opens_box, Item, item_laws, Heap, heap_laws, no_drop, no_glue}
use Rattle.witcall_c.specs.contracts.held.Held as held
use Rattle.witcall_c.proofs.held.Held.TheLaws as held_laws
use Rattle.witcall_c.specs.contracts.kept.Kept as handle
use Rattle.witcall_c.proofs.kept.Kept.TheLaws as handle_laws
use Rattle.witcall_c.specs.contracts.kept.Kept.into_box as f
use Rattle.witcall_c.proofs.kept.Kept.into_box.Statement.{statement}
use Rattle.witcall_c.proofs.kept.Kept.into_box.Code as code

abbrev stayed : Stays f.ended.signature.params f.ended.kept
stayed = (stay_dropped _ yes, (stay_dropped _ yes, tt))

pub into_box_spec : {M : Type 1} → statement M
into_box_spec 𝓤 𝓛 𝓜 𝓡 wired =
    let c = f.clauses 𝓛 𝓜.mem 𝓡.returns in let W = walk_of 𝓛 f.ended stayed c in let 𝓣 = tables 𝓤 𝓛.H 𝓜 𝓡 𝓡.env in
    proved 𝓛 f.ended stayed c 𝓜 𝓡 (Goes-dropped 𝓛 0 (plain (λ _. handle.the_row)) yes (λ κs x w. refl), (Goes-dropped 𝓛 0 (plain (λ _. global.the_row)) yes (λ κs x w. refl), tt))
    f.Key.name code.function (code.unfolded 𝓤 𝓛.H 𝓜 𝓡 wired)
    (λ κs. (λ d. handle_laws.lowered d ∷ [], (λ d. global_laws.lowered d ∷ [], tt))) (λ κs. (handle_laws.lowers.val_is, (global_laws.lowers.val_is, tt))) (λ κs qs bounds a _ are.
    let self = a.0 in let alloc = a.1.0 in let v = global_laws.lowered alloc in let w = handle_value self.at in
    let y : W.Ghost = ((κs, qs, bounds, a, (w ∷ [], (v ∷ [], tt))), tt) in
    let post : Val → SProp 𝓤 = W.post y in
    let B : RattleType = box.the_row held.the_row global.the_row ghosts in
    let k = triple_of 𝓛 (g.signature Item Heap ghosts dict no_drop) (g.spec Item Heap ghosts dict no_drop 𝓛 𝓜.mem 𝓡.returns) in
    qed 𝓛 ((‵ ftrue ⊛ ‵ (owns (handle.the_row ∷ global.the_row ∷ []) a (w ∷ [], (v ∷ [], tt)))) ∷ raw (fact 𝓤 (self.held ≢ None)) ∷ []) ∵
    move ! (1 ∷ []) $ heard ! _ (λ some_held. split ! $ drop ! $ fsplit3 ! $ fsplit ! $ drop ! $
    opens_box ! self.at self.held some_held (λ h from is.
    -- [the box; the heap's handle; nothing]
    let z : k.Ghost = ((([], ([], tt)), (full_share, (full_share, tt)), tt, (alloc, (self.at, tt)), (v ∷ [], (ptr_val self.at ∷ [], tt))), h) in
    let typed = (rawptr_Lawful 𝓛).typed self.at (ptr_val self.at ∷ []) refl in
    use0 𝓛 (raw (fact 𝓤 ([] ⊑ global.the_row.lives))) (fact_i 𝓤 _ (emp 𝓤) (global_laws.the_within [])) $ join ! $
    use0 𝓛 (raw (fact 𝓤 ([] ⊑ held.the_row.lives))) (fact_i 𝓤 _ (emp 𝓤) (held_laws.the_within [])) $ join ! $
    move ! (2 ∷ []) $ feq_i ! (List Val) (ptr_val self.at ∷ []) (ptr_val self.at ∷ []) refl $ fjoin ! $ move ! (2 ∷ 0 ∷ []) $ fjoin ! $
    nothing ! $ use0 𝓛 (‵ (flft [] full_share)) (𝓛.lfts.lft-nil full_share) $ join ! $ use0 𝓛 (‵ (flft [] full_share)) (𝓛.lfts.lft-nil full_share) $ join ! $
    join ! $ join ! $ use1 𝓛 (raw (k.pre z)) (id⊢ 𝓤 _) $
    enter ! 𝓣.C 𝓣.Λ code.function (w ∷ v ∷ []) post $ alloc_all ! (λ l. pass_all ! refl (((handle_laws.the_row_laws.lawful 𝓛).typed self (w ∷ []) are.0).0, (((global_laws.the_row_laws.lawful 𝓛).typed alloc (v ∷ []) are.1.0).0, tt)) $
    sets ! (of_opd ! (get_in ! (fld ! refl (stop !)) (sub ! 0 refl (whole !)))) refl typed.0 $ first ! $ blocks ! $ sets ! (of_opd ! (get ! refl)) refl typed.0 $
    calls_at_last ! (framed 𝓤 𝓛.H 𝓜 𝓣) k (met 𝓤 𝓛 𝓜 𝓡 (code.calls-std_alloc::boxed::Box::from_raw 𝓡.env wired) Item Heap item_laws heap_laws ghosts dict no_drop
    (heap.passed 𝓡.env (code.calls-std_heap::GlobalAllocator::allocate 𝓡.env wired) (code.calls-std_heap::GlobalAllocator::deallocate 𝓡.env wired) (code.calls-std_heap::GlobalAllocator::grow 𝓡.env wired) (code.calls-std_heap::GlobalAllocator::shrink 𝓡.env wired) _ 𝓤 𝓛 𝓜 𝓡)
    (no_glue 𝓡.env (code.calls-witcall_c::Destruct++none::drop 𝓡.env wired) _ 𝓤 𝓛 𝓜 𝓡)) z
    (and_then ! (get ! refl) (and_then ! (get ! refl) (no_more !))) (λ u.
    use1 𝓛 (later (some (λ (r : B.Denot). ((‵ (flft [] full_share) ⊛ ‵ (flft [] full_share) ⊛ ‵ ftrue) ⊛ ‵ (B.own_val r (u ∷ []))) ⊛
    some (λ (ls : Lasts (g.ended Item Heap ghosts dict no_drop) z.0.0 z.0.3). ‵ (lasts (g.ended Item Heap ghosts dict no_drop) z.0.0 z.0.3 ls) ⊛ raw (fact 𝓤 (r.value ≡ h)) ⊛ raw (fact 𝓤 (r.alloc ≡ alloc)))))) (id⊢ 𝓤 (k.post z u)) $
    await ! tt $ pick ! (λ r. split ! $ move ! (1 ∷ []) $ pick ! (λ _. split3 ! $ drop ! $ heard ! _ (λ same. drop ! $ split ! $ drop ! $
    peeks ! B (Is B) (shows 𝓛 B) r (u ∷ []) (λ fits.
    let good = ((box_laws.the_field_loose held.the_row global.the_row ghosts held_laws.the_row_laws global_laws.the_row_laws).lawful 𝓛).typed r (u ∷ []) fits in
    lands_last ! refl good.0 $ exec ! 𝓣.C 𝓣.Λ (env code.Mir.locals l) code.Mir.t-3 (at_ret _ post) $ sets ! (of_opd ! (get ! refl)) refl good.0 $
    returns ! (look_at ! 0 refl) $ free_all ! refl $
    suffices ! _ (ends_at 𝓛 f.ended stayed c y u r (tt, (tt, tt)) (tt, (tt, tt))) $ says ! (is ∙ ap Some (sym same)) $
    nothing ! $ nothing ! $ join ! $ nothing ! $ join ! $ nothing ! $ done !)))))))))

-- A handle that owns what a box owned.
use Rattle.std.proofs.Common.{List, [], ◌∷◌, ◌++◌, refl, sym, ap, subst}
use Rattle.std.specs.Prelude.{Some}
use mir.Syntax.{ty_ptr}
use mir.Val.{Val, has_ty}
use base.Fraction.{full_share}
use base.Logic.{SProp, ent, emp, id⊢}
use base.Fml.{ftrue, flft}
use prog.Wp.{WpFn}
use types.Kit.{raw, ‵, ◌⊛◌, some, later, ◌$◌, ◌∵◌, !, qed, done, move, drop, use0, use1, split, join, fsplit, fjoin, feq_l, fpack, pick, await, suffices}
use types.Run.{enter, of_opd, no_more, and_then, returns}
use types.ByLocal.{alloc_all, pass_all, free_all, look_at, get, sets, lands_as}
use types.Part.{agg}
use contract.Monad.{fact, fact_i}
use contract.BorrowLft.{◌⊑◌}
use contract.Running.{tables}
use denote.Exit.{yes}
use denote.RattleType.{RattleType, owns}
use denote.Builtin.{RawPtr}
use denote.RawPtr.{Ptr, ptr_val, rawptr_Lawful}
use denote.Signature.{plain}
use denote.Steps.{nothing, only}
use denote.Triple.Clauses.{Lasts, lasts}
use denote.Triple.Spec.{triple_of}
use denote.Triple.Call.{calls_at}
use denote.Triple.Table.{framed}
use denote.Triple.Walked.{Stays, stay_dropped, Goes-dropped, walk_of, says, ends_at}
use Rattle.std.proofs.alloc.Calls.{Al, handle_tells}
use Rattle.std.proofs.raw_atomic.Walks.{proved_at}
use Rattle.std.specs.declared.alloc.Global.{Global}
use Rattle.std.specs.contracts.alloc.Global as global
use Rattle.std.proofs.alloc.Global.TheLaws as global_laws
use Rattle.std.specs.contracts.impls.GlobalAllocator.TheImpl.{ghosts, dict}
use Rattle.std.proofs.impls.GlobalAllocator.TheImpl.Met as heap
use Rattle.std_alloc.proofs.ResultValues.{and_tt}
use Rattle.std_alloc.specs.Box.Ownership.{box_owns}
use Rattle.std_alloc.specs.contracts.boxed.Box as box
use Rattle.std_alloc.proofs.boxed.Box.TheLaws as box_laws
use Rattle.std_alloc.specs.contracts.boxed.Box.into_raw as g
use Rattle.std_alloc.proofs.boxed.Box.into_raw.Met.{met}
use Rattle.witcall_c.proofs.HandlesAsMachineValues.{handle_value, handle_in, Item, item_laws, item_drop, item_glue, Heap, heap_laws, no_drop, no_glue}
use Rattle.witcall_c.specs.contracts.held.Held as held
use Rattle.witcall_c.proofs.held.Held.TheLaws as held_laws
use Rattle.witcall_c.specs.contracts.kept.Kept.of as f
use Rattle.witcall_c.proofs.kept.Kept.of.Statement.{statement}
use Rattle.witcall_c.proofs.kept.Kept.of.Code as code

abbrev stayed : Stays f.ended.signature.params f.ended.kept
stayed = (stay_dropped _ yes, tt)

abbrev B : RattleType
B = box.the_row held.the_row global.the_row ghosts

-- a box's machine value
abbrev as_value : Al
as_value = record { row = B; laws = box_laws.the_row_laws held.the_row global.the_row ghosts held_laws.the_row_laws global_laws.the_row_laws; g = record { dealloc_token = λ b τ p. ftrue }; d = dict; drops = no_drop }

pub of_spec : {M : Type 1} → statement M
of_spec 𝓤 𝓛 𝓜 𝓡 wired =
    let c = f.clauses 𝓛 𝓜.mem 𝓡.returns in let W = walk_of 𝓛 f.ended stayed c in let 𝓣 = tables 𝓤 𝓛.H 𝓜 𝓡 𝓡.env in
    proved_at 𝓛 f.ended stayed c 𝓜 𝓡 (Goes-dropped 𝓛 0 (plain (λ _. B)) yes (λ κs x w. refl), tt)
    f.Key.name code.function (code.unfolded 𝓤 𝓛.H 𝓜 𝓡 wired) (λ y are.
    let b = y.0.3.0 in
    let Runs : List Val → SProp 𝓤 = λ vs. WpFn 𝓤 𝓛.H 𝓣.C 𝓣.Λ code.function vs (W.post y) in
    let k = triple_of 𝓛 (g.signature Item Heap ghosts dict no_drop item_drop) (g.spec Item Heap ghosts dict no_drop item_drop 𝓛 𝓜.mem 𝓡.returns) in
    qed 𝓛 ((‵ ftrue ⊛ ‵ (owns (B ∷ []) (b, tt) y.0.4)) ∷ ‵ ftrue ∷ []) ∵ split ! $ drop ! $ fsplit ! $
    handle_tells as_value ! b y.0.4.0 (λ v vs_is fits.
    let z : k.Ghost = ((([], ([], tt)), (full_share, (full_share, tt)), tt, (b, tt), (v ∷ [], tt)), tt) in
    suffices ! (Runs (v ∷ [])) (subst (λ (vs : List Val). ent 𝓤 (Runs (v ∷ [])) (Runs vs)) (sym (ap (λ (vs : List Val). vs ++ []) vs_is)) (id⊢ 𝓤 (Runs (v ∷ [])))) $
    -- [the box; nothing; nothing]
    fjoin ! $
    use0 𝓛 (raw (fact 𝓤 ([] ⊑ global.the_row.lives))) (fact_i 𝓤 _ (emp 𝓤) (global_laws.the_within [])) $ move ! (0 ∷ 2 ∷ []) $ join ! $
    use0 𝓛 (raw (fact 𝓤 ([] ⊑ held.the_row.lives))) (fact_i 𝓤 _ (emp 𝓤) (held_laws.the_within [])) $ join ! $ move ! (1 ∷ 0 ∷ []) $
    nothing ! $ use0 𝓛 (‵ (flft [] full_share)) (𝓛.lfts.lft-nil full_share) $ join ! $ use0 𝓛 (‵ (flft [] full_share)) (𝓛.lfts.lft-nil full_share) $ join ! $
    join ! $ join ! $ use1 𝓛 (raw (k.pre z)) (id⊢ 𝓤 _) $
    enter ! 𝓣.C 𝓣.Λ code.function (v ∷ []) (W.post y) $ alloc_all ! (λ l. pass_all ! refl (fits, tt) $
    sets ! (of_opd ! (get ! refl)) refl fits $
    calls_at ! (framed 𝓤 𝓛.H 𝓜 𝓣) k (met 𝓤 𝓛 𝓜 𝓡 (code.calls-std_alloc::boxed::Box::into_raw 𝓡.env wired) Item Heap item_laws heap_laws ghosts dict no_drop item_drop
    (heap.passed 𝓡.env (code.calls-std_heap::GlobalAllocator::allocate 𝓡.env wired) (code.calls-std_heap::GlobalAllocator::deallocate 𝓡.env wired) (code.calls-std_heap::GlobalAllocator::grow 𝓡.env wired) (code.calls-std_heap::GlobalAllocator::shrink 𝓡.env wired) _ 𝓤 𝓛 𝓜 𝓡)
    (no_glue 𝓡.env (code.calls-witcall_c::Destruct++none::drop 𝓡.env wired) _ 𝓤 𝓛 𝓜 𝓡)
    (item_glue 𝓤 𝓛 𝓜 𝓡 (code.calls-witcall_c::witcall_c++held++Held+Destruct::drop 𝓡.env wired))) z
    (and_then ! (get ! refl) (no_more !)) (λ u.
    use1 𝓛 (later (some (λ (p : Ptr). ((‵ (flft [] full_share) ⊛ ‵ (flft [] full_share) ⊛ ‵ ftrue) ⊛ ‵ (RawPtr.own_val p (u ∷ []))) ⊛
    some (λ (ls : Lasts (g.ended Item Heap ghosts dict no_drop item_drop) z.0.0 z.0.3). ‵ (lasts (g.ended Item Heap ghosts dict no_drop item_drop) z.0.0 z.0.3 ls) ⊛ ‵ (box_owns (ghosts.dealloc_token b.alloc) held.the_row p b.value))))) (id⊢ 𝓤 (k.post z u)) $
    await ! tt $ pick ! (λ p. split ! $ move ! (1 ∷ []) $ pick ! (λ _. split ! $ drop ! $ move ! (1 ∷ []) $ split ! $ drop ! $ feq_l ! (λ u_is.
    let typed = ((rawptr_Lawful 𝓛).typed p (ptr_val p ∷ []) refl).0 in
    lands_as ! (ap only u_is) refl typed $ sets ! (of_opd ! (get ! refl)) refl typed $
    sets ! (agg ! (and_then ! (get ! refl) (no_more !))) refl (and_tt (has_ty ty_ptr (ptr_val p)) typed.0, (typed.1, tt)) $
    returns ! (look_at ! 0 refl) $ free_all ! refl $
    fpack ! Global (λ (from : Global). box_owns (ghosts.dealloc_token from) held.the_row p b.value) b.alloc $ handle_in ! p (Some b.value) $
    suffices ! _ (ends_at 𝓛 f.ended stayed c y (handle_value p) (record { at = p; held = Some b.value }) (tt, tt) (tt, tt)) $ says ! refl $
    nothing ! $ nothing ! $ join ! $ nothing ! $ done !)))))))

use Rattle.std.proofs.Common.{◌≡◌, map, subst, refl, ◌∙◌, arith, inl, inr, List, [], ◌∷◌, take, Option}
use Rattle.std.proofs.lemmas.List.{take_all}
use Rattle.tables.specs.declared.tables.Owner.{Owner}
use Rattle.tables.specs.declared.tables.TypeId.{TypeId}
use Rattle.set_rows.specs.Owners.{names}
use Rattle.set_rows.specs.Reaches.{owner_at}
use Rattle.set_rows.specs.Marking.{AddsMarks}
use Rattle.set_rows.proofs.MarksOfReached.{marked-none, adds-named, tells-more}
use Rattle.set_rows.proofs.reached.Reached.add_named.Goals as goal
use Rattle.set_rows.proofs.reached.Reached.add_named.Goals.{then-add, else-add}

pub loop-id-init : goal.loop-id-init
loop-id-init c = marked-none c.args.self.now

pub loop-id-preserved : goal.loop-id-preserved
loop-id-preserved c = record {
  adds = adds-named c.args.owners.now c.deref-id-items.result.now c.loop-id.id-index _ _ _ _ _ (omega arith) refl c.loop-id.invariant.adds
      (subst (λ (o : Option Owner). AddsMarks (o ∷ []) c.loop-id.self c.add.new.self) c.owner_at.ensures c.add.ensures.adds);
  tells = tells-more _ _ _ _ _ _ c.loop-id.invariant.tells c.add.ensures.tells (elim c.if-add.branch [ then-add w ↦ inl (w.if-add.true, w.grew-is) | else-add w ↦ inr (w.if-add.false, w.grew-is) ]);
}

pub returns-clause-adds : goal.returns-clause-adds
returns-clause-adds c =
    let whole : take c.loop-id.id-index c.deref-id-items.result.now ≡ names c.args.row.now =
    take_all c.loop-id.id-index c.deref-id-items.result.now (omega arith) ∙ (c.deref-id-items.ensures.value ∙ c.in_ok-ids.ensures) in
    subst (λ (ts : List TypeId). AddsMarks (map (owner_at c.args.owners.now) ts) c.args.self.now c.loop-id.self) whole c.loop-id.invariant.adds

pub returns-clause-tells : goal.returns-clause-tells
returns-clause-tells c = c.loop-id.invariant.tells

use Rattle.std.proofs.Common.{ap, sym, subst, ◌∙◌}
use Rattle.canonical_abi.specs.Labelled.{labelled_prim}
use Rattle.tables.specs.Closed.{prim_of}
use Rattle.tables.specs.Labelled.{labelled_types}
use Rattle.package_changes.specs.Alike.{leaves}
use Rattle.package_changes.specs.Comparing.{IsEndOf}
use Rattle.package_changes.specs.Likeness.{likeness}
use Rattle.package_changes.proofs.LeavesApart.{prims-alike, prim-string, prim-node}
use Rattle.package_changes.proofs.comparing.compare_primitive.Goals as goal

pub returns-in-Primitive : goal.returns-in-Primitive
returns-in-Primitive c = λ s w is.
    let p = prim_of c.args.primitive in
    c.of_leaves.ensures ∙ ap leaves c.is_same_primitive.ensures ∙ prims-alike p (prim_of c.in-Primitive.other) ∙ ap (likeness (labelled_prim p)) (sym (subst (IsEndOf s w) c.in-Primitive.is is))

pub returns-in-String : goal.returns-in-String
returns-in-String c = λ s w is.
    let p = prim_of c.args.primitive in
    c.of_leaves-in-String.ensures ∙ prim-string p ∙ ap (likeness (labelled_prim p)) (sym (subst (IsEndOf s w) c.in-String.is is))

pub returns-in-Node : goal.returns-in-Node
returns-in-Node c = λ s w is.
    let p = prim_of c.args.primitive in
    let end = subst (IsEndOf s w) c.in-Node.is is in
    c.of_leaves-in-Node.ensures ∙ prim-node p (labelled_types s) c.in-Node.field-1.now end.1.own ∙ ap (likeness (labelled_prim p)) (sym (end.0 ∙ end.1.is))

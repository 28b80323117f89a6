use Rattle.std.proofs.Common.{◌≡◌, ℕ, Bool, List, length, Result, Ok, Err, IfOk, OnErr, sym, subst}
use Rattle.std.specs.declared.alloc.AllocFailed.{AllocFailed}
use Rattle.indexmap.specs.IndexSet.{insert_key}
use Rattle.package_diff.specs.Shapes.{IsMadeBelow}
use Rattle.package_diff.specs.declared.shapes.Shape.{Shape}
use Rattle.package_diff.proofs.ShapesCompared.{same_shape}
use Rattle.package_diff.proofs.NumbersStandForTypes.{AreShapes, inserted, extends-inserted, stored-number}
use Rattle.package_diff.proofs.shapes.Shapes.number.Goals as goal

-- what `insert_full` leaves are shapes again
left : (ss us : List Shape) (s : Shape) (r : Result (ℕ × Bool) (AllocFailed Shape)) → AreShapes ss → IsMadeBelow (length ss) s
    → IfOk r (λ _. us ≡ insert_key same_shape ss s) → OnErr r (us ≡ ss) → AreShapes us
left ss us s (Ok x) are made more same = inserted ss us s are made more
left ss us s (Err x) are made more same = subst AreShapes (sym same) are

pub invariant_of-self : goal.invariant_of-self
invariant_of-self c =
    let was = c.args.self.now in
    let are = left was.known.keys c.insert_full.new.self.keys c.args.shape c.insert_full.result (was.ordered, was.distinct) c.requires c.insert_full.ensures.keys c.insert_full.ensures.err in
    record { ordered = are.0; distinct = are.1 }

pub returns-clause-number : goal.returns-clause-number
returns-clause-number c =
    let was = c.args.self.now in
    let now = c.insert_full.new.self in
    let found = c.in_ok-number.ensures.stored in
    let are = left was.known.keys now.keys c.args.shape c.insert_full.result (was.ordered, was.distinct) c.requires c.insert_full.ensures.keys c.insert_full.ensures.err in
    stored-number was.known.keys now.keys c.args.shape found.0 c.in_ok-number.number are.0 (extends-inserted was.known.keys now.keys c.args.shape c.in_ok-number.ensures.keys) c.requires found.1 found.2

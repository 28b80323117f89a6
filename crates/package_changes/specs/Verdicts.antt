-- What a host that was built for an older function can do with a newer one.
use Rattle.std.specs.Prelude.{◌≡◌, ◌↔◌, ◌≢◌, ◌⊎◌, Bool, true, false, ◌||◌, IsTrue, List, [], map, Option, Some, None}
use Rattle.std.specs.Option.{option_map}
use Rattle.canonical_abi.specs.Types.{ClosedType}
use Rattle.canonical_abi.specs.Labelled.{LabelledType, labelled_record, LabelledFields, no_labelled_field, closed}
use Rattle.tables.specs.Closed.{function_at}
use Rattle.tables.specs.Labelled.{labelled_types, labelled_type, labelled_params}
use Rattle.tables.specs.declared.tables.Function.{Function}
use Rattle.tables.specs.declared.tables.FunctionId.{FunctionId}
use Rattle.tables.specs.declared.tables.Resolve.{Resolve}
use Rattle.package_changes.specs.declared.verdicts.Role.{Role}
use Rattle.package_changes.specs.declared.verdicts.Role.TheVariants as role
use Rattle.package_changes.specs.declared.verdicts.Verdict.{Verdict}
use Rattle.package_changes.specs.declared.verdicts.Verdict.TheVariants as verdict
use Rattle.package_changes.specs.Forms.{form_of, moves, renames}
use Rattle.package_changes.specs.Widening.{Widens}

-- a function's parameters, as a record, and its result, with their labels
pub record LabelledFunction : Type 0 where
  pub params : LabelledType
  pub result : Option LabelledType

-- the labelled types of a function, and no parameters and no result without one
abbrev pub labelled_of : Resolve → Option Function → LabelledFunction
labelled_of r None = record { params = labelled_record no_labelled_field; result = None }
labelled_of r (Some f) = record {
  params = labelled_record (labelled_params (labelled_types r) f.params);
  result = option_map (labelled_type r) f.result;
}

-- the labelled types of the function at this place
abbrev pub labelled_function : Resolve → FunctionId → LabelledFunction
labelled_function r f = labelled_of r (function_at r f)

-- there is no type in both, or types of which this is true
abbrev pub OfBoth : (LabelledType → LabelledType → Type 0) → Option LabelledType → Option LabelledType → Type 0
OfBoth P None None = Unit {0}
OfBoth P (Some t) (Some u) = P t u
OfBoth P _ _ = ⊥

-- both are types of which the test is true
abbrev pub of_both : (LabelledType → LabelledType → Bool) → Option LabelledType → Option LabelledType → Bool
of_both p (Some t) (Some u) = p t u
of_both p _ _ = false

-- the closed types are equal
abbrev pub AreEqual : LabelledType → LabelledType → Type 0
AreEqual t u = closed t ≡ closed u

-- the closed type of the newer one takes all values of the older one as they were
abbrev pub IsWider : LabelledType → LabelledType → Type 0
IsWider t u = Widens (closed t) (closed u)

-- an older host sends values of the older type, so that the newer one may be wider
abbrev pub may_send : Role → Bool
may_send role.Called = true
may_send role.Served = false
may_send role.Both = false

-- an older host answers values of the older type, so that the newer one may be wider
abbrev pub may_answer : Role → Bool
may_answer role.Called = false
may_answer role.Served = true
may_answer role.Both = false

-- the closed types are equal, or the newer one may be wider and is
abbrev pub Takes : Bool → LabelledType → LabelledType → Type 0
Takes true t u = IsWider t u
Takes false t u = AreEqual t u

-- a host in this role deals with the newer function's closed types by those of the older one
abbrev pub IsTaken : Role → LabelledFunction → LabelledFunction → Type 0
IsTaken x f g = Takes (may_send x) f.params g.params × OfBoth (Takes (may_answer x)) f.result g.result

-- the closed types of parameters and results are equal
abbrev pub AreClosedAlike : LabelledFunction → LabelledFunction → Type 0
AreClosedAlike f g = AreEqual f.params g.params × OfBoth AreEqual f.result g.result

-- an older label is at another place
abbrev pub function_moves : LabelledFunction → LabelledFunction → Bool
function_moves f g = moves (form_of f.params) (form_of g.params) || of_both (λ t u. moves (form_of t) (form_of u)) f.result g.result

-- an older label is not where it was
abbrev pub function_renames : LabelledFunction → LabelledFunction → Bool
function_renames f g = renames (form_of f.params) (form_of g.params) || of_both (λ t u. renames (form_of t) (form_of u)) f.result g.result

-- the verdict of a function that is there in both versions
pub record IsVerdict (x : Role) (f g : LabelledFunction) (v : Verdict) : Type 0 where
  pub there : v ≢ verdict.Removed
  pub same : (v ≡ verdict.Same) ↔ (f ≡ g)
  pub changed : (v ≡ verdict.Changed) ↔ ¬ IsTaken x f g
  pub moved : (v ≡ verdict.Moved) ↔ (IsTaken x f g × IsTrue (function_moves f g))
  pub wider : (v ≡ verdict.Wider) ↔ (IsTaken x f g × (¬ AreClosedAlike f g) × (function_moves f g ≡ false) × (function_renames f g ≡ false))

-- a type as the only thing that crosses
abbrev pub alone : LabelledType → LabelledFunction
alone t = record { params = t; result = None }

-- the verdict of a type of which an older host sends values
abbrev pub IsTypeVerdict : LabelledType → LabelledType → Verdict → Type 0
IsTypeVerdict t u v = IsVerdict role.Called (alone t) (alone u) v

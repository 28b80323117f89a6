-- The one value of the result is lowered flat, or stored in the return area.
use Rattle.std.proofs.Common.{◌≡◌, List, [], ◌∷◌, Option, Some, IfSome, map, sym, subst}
use Rattle.std.specs.Option.{option_to_list}
use Rattle.adapter.proofs.FunctionsInLayouts.{all-inside, result-small}
use Rattle.canonical_abi.specs.Types.{Fields, field, no_field, result_fields}
use Rattle.canonical_abi.specs.Values.{Value, HaveTypes}
use Rattle.canonical_abi.specs.declared.flat.Flat.{Flat}
use Rattle.layout.specs.Layout.{AreWithin}
use Rattle.lift_lower.specs.Crossing.{IsStoredAt, StoreFails}
use Rattle.tables.specs.Closed.{closed_type, function_type}
use Rattle.tables.specs.Standard.{IsTypeOf}
use Rattle.tables.specs.declared.tables.FunctionId.{FunctionId}
use Rattle.tables.specs.declared.tables.Resolve.{Resolve}
use Rattle.tables.specs.declared.tables.ValType.{ValType}
use Rattle.values.specs.Members.{fields_of_types}
use Rattle.values.specs.Types.{IsInside}
use Rattle.values.specs.Val.{value_of}
use Rattle.host_values.specs.Results.{IsAnswered, AnswerFails}
use Rattle.host_values.proofs.import_values.ResultsFromParts.{stored-answered, stored-fails, one-value}
use Rattle.host_values.proofs.import_values.call.ImportCall.put.Goals as goal

pub kinds_within-requires-clause-inside : goal.kinds_within-requires-clause-inside
kinds_within-requires-clause-inside g c =
    let inside = subst (λ o. IfSome o (IsInside c.resolve-resolve.result.now)) c.in-Some.is c.result_type.ensures.inside in
    all-inside c.args.self.now.types.now (Some c.in-Some.ty) (subst (λ (r : Resolve). IsInside r c.in-Some.ty) c.resolve-resolve.ensures inside)

pub store-requires-clause-known : goal.store-requires-clause-known
store-requires-clause-known g c = subst (λ o. IfSome o (IsTypeOf c.resolve-resolve.result.now)) c.in-Some.is c.result_type.ensures.known

pub lower-requires-clause-known : goal.lower-requires-clause-known
lower-requires-clause-known g c = rw c.in-Some.is at c.result_type.ensures.all_known

pub lower-requires-clause-small : goal.lower-requires-clause-small
lower-requires-clause-small g c =
    let known = subst (λ o. IfSome o (IsTypeOf c.resolve-resolve.result.now)) c.in-Some.is c.result_type.ensures.known in
    result-small c.resolve-resolve.result.now (subst (λ (r : Resolve). ∥ AreWithin r ∥₁) (sym c.resolve-resolve.ensures) c.requires.within) (Some c.in-Some.ty) known

-- the fields of the result are those of its one type
own-fields : (r q : Resolve) (ty : ValType) (func : FunctionId) (o : Option ValType) → q ≡ r → o ≡ Some ty
    → fields_of_types q (option_to_list o) ≡ result_fields (function_type q func).result → field (closed_type r ty) no_field ≡ result_fields (function_type r func).result
own-fields r q ty func o same is fields =
    let one : fields_of_types q (ty ∷ []) ≡ result_fields (function_type q func).result = subst (λ p. fields_of_types q (option_to_list p) ≡ result_fields (function_type q func).result) is fields in
    subst (λ (x : Resolve). field (closed_type x ty) no_field ≡ result_fields (function_type x func).result) same one

pub returns-in-Ok-clause-given : goal.returns-in-Ok-clause-given
returns-in-Ok-clause-given g c =
    let r = c.args.self.now.types.now in
    let t = closed_type r c.in-Some.ty in
    let A = g.G.Guest.allocates in
    let old = g.G.Guest.memory c.args.guest.now in
    let new = g.G.Guest.memory c.store.new.guest in
    let x = c.index-values-0.result in
    let own = own-fields r c.resolve-resolve.result.now c.in-Some.ty c.args.self.now.func c.result_type.result c.resolve-resolve.ensures c.in-Some.is c.result_type.ensures.fields in
    let one = one-value t c.args.values.now x (subst (HaveTypes (map value_of c.args.values.now)) (sym own) c.requires.typed) c.index-values-0.is in
    let stored = subst (λ (q : Resolve). IsStoredAt A (closed_type q c.in-Some.ty) c.args.area (value_of x) old new) c.resolve-resolve.ensures c.in-Ok.ensures.stored in
    let answered = stored-answered A t c.args.area old c.in_default-kinds_within.ensures.spilled (value_of x) new stored in
    let P : Fields → List Value → List Flat → Type 0 = λ ts vs flats. IsAnswered A ts c.args.area vs old flats new in
    subst (λ ts. P ts (map value_of c.args.values.now) c.new-in-Ok.result.items) own
    (subst (λ vs. P (field t no_field) vs c.new-in-Ok.result.items) (sym one) (subst (P (field t no_field) (value_of x ∷ [])) (sym c.new-in-Ok.ensures) answered))

pub returns-in-Err-clause-fault : goal.returns-in-Err-clause-fault
returns-in-Err-clause-fault g c =
    let r = c.args.self.now.types.now in
    let t = closed_type r c.in-Some.ty in
    let A = g.G.Guest.allocates in
    let old = g.G.Guest.memory c.args.guest.now in
    let new = g.G.Guest.memory c.store.new.guest in
    let x = c.index-values-0.result in
    let own = own-fields r c.resolve-resolve.result.now c.in-Some.ty c.args.self.now.func c.result_type.result c.resolve-resolve.ensures c.in-Some.is c.result_type.ensures.fields in
    let one = one-value t c.args.values.now x (subst (HaveTypes (map value_of c.args.values.now)) (sym own) c.requires.typed) c.index-values-0.is in
    let failed = subst (λ (q : Resolve). StoreFails A (closed_type q c.in-Some.ty) c.args.area (value_of x) old c.in-Err.fault new) c.resolve-resolve.ensures c.in-Err.ensures.fault in
    let answered = stored-fails A t c.args.area old c.in_default-kinds_within.ensures.spilled (value_of x) c.in-Err.fault new failed in
    subst (λ ts. AnswerFails A ts c.args.area (map value_of c.args.values.now) old c.in-Err.fault new) own
    (subst (λ vs. AnswerFails A (field t no_field) c.args.area vs old c.in-Err.fault new) (sym one) answered)

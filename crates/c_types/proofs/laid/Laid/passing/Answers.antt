-- The parameters go through memory if the record of them has no count.
use Rattle.std.proofs.Common.{◌≡◌, ◌↔◌, ◌∙◌, Bool, true, false, not, nat_le, IsTrue, List, length, rules, refl, ap, sym}
use Rattle.std.specs.Option.{is_some}
use Rattle.canonical_abi.specs.Layout.{field_kinds, fits_flat, flat_kinds, max_flat_params}
use Rattle.canonical_abi.specs.Types.{FunctionType}
use Rattle.canonical_abi.specs.declared.flat.CoreKind.{CoreKind}
use Rattle.layout.specs.Kinds.{count_of, kinds_of}
use Rattle.tables.specs.Closed.{closed_type, function_type}
use Rattle.tables.specs.Tables.{is_below}
use Rattle.tables.specs.declared.tables.ValType.{ValType}
use Rattle.tables.proofs.ClosedTypesRowByRow.{stands, function-row, function-type}
use Rattle.c_types.proofs.laid.Laid.passing.Goals as goal

-- at most sixteen kinds have a count
counted : (ks : List CoreKind) → is_some (count_of (kinds_of ks)) ≡ nat_le (length ks) max_flat_params
counted ks = by (nat_le (length ks) max_flat_params) refl
  where
    by : (b : Bool) → nat_le (length ks) max_flat_params ≡ b → is_some (count_of (kinds_of ks)) ≡ nat_le (length ks) max_flat_params
    by true e = rw e refl
    by false e = rw e refl

turned : (spilled fits : Bool) → fits ≡ not spilled → IsTrue spilled ↔ (fits ≡ false)
turned true fits e = (λ _. e, λ _. refl)
turned false fits e = (λ h. absurd (cc), λ f. absurd (cc))

pub returns-clause-spilled : goal.returns-clause-spilled
returns-clause-spilled c = λ h.
    let r = c.args.self.now.resolve.now in
    let id = c.args.id in
    let s = stands r id h in
    let kinds : flat_kinds (closed_type r c.parameters_of.result) ≡ field_kinds (function_type r id).params =
    ap (λ (v : ValType). flat_kinds (closed_type r v)) c.parameters_of.ensures ∙ ap flat_kinds (function-row r id s)
    ∙ ap (λ (g : FunctionType). field_kinds g.params) (sym (function-type r id s)) in
    let below : IsTrue (is_below (length c.args.self.now.layouts.now.rows) c.parameters_of.result) =
    rw c.parameters_of.ensures (search rules) in
    let count = c.count.ensures.count below in
    let fits : fits_flat max_flat_params (function_type r id).params ≡ not c.is_none.result =
    sym (counted (field_kinds (function_type r id).params))
    ∙ ap (λ (ks : List CoreKind). is_some (count_of (kinds_of ks))) (sym kinds)
    ∙ ap is_some (sym count) ∙ c.is_none.ensures in
    turned c.is_none.result (fits_flat max_flat_params (function_type r id).params) fits

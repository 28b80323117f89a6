-- The text is that of an array, which is read back as these arguments alone.
use Rattle.std.proofs.Common.{◌≡◌, ◌≤◌, Some, List, map, sym, ◌∙◌, subst}
use Rattle.std.specs.Prelude.{string_bytes}
use Rattle.adapter.proofs.FunctionsInLayouts.{function-shallow}
use Rattle.canonical_abi.specs.Types.{fields_depth}
use Rattle.package_values.specs.Json.{JsonArray}
use Rattle.package_values.proofs.FunctionTypesAsFields.{own_params, params_are_fields}
use Rattle.serde_json.proofs.Views.{view-Array}
use Rattle.serde_json.specs.View.{view}
use Rattle.serde_json.specs.declared.value.Value.TheVariants.{Array}
use Rattle.tables.specs.Closed.{function_at}
use Rattle.tables.specs.Labelled.{labelled_members, labelled_types}
use Rattle.tables.specs.declared.tables.Function.{Function}
use Rattle.tables.specs.declared.tables.Resolve.{Resolve}
use Rattle.tables.specs.declared.tables.ValType.{ValType}
use Rattle.value_json.specs.Json.{MembersJson}
use Rattle.values.specs.Val.{value_of}
use Rattle.c_border.proofs.ArgumentsAsTuples.{array-whole, array-nests, array-only}
use Rattle.c_border.specs.Json.{parameters_of}
use Rattle.c_border.proofs.argument_texts.arguments_text.Goals as goal

pub returns : goal.returns
returns c =
    let p = c.args.«package».now in
    let r = p.resolve in
    let func = c.args.func in
    let types = c.in_ok-types.types.items in
    let ts = parameters_of r func in
    let vs = map value_of c.args.values.now in
    let items = c.in_ok-items.items in
    let j = view (Array items) in
    let named = subst (λ (q : Resolve). (f : Function) → function_at q func ≡ Some f → types ≡ map (λ p. p.ty) f.params) c.types.ensures.types c.in_ok-types.ensures.named in
    let own : c.as_slice.result.now ≡ ts = c.as_slice.ensures.value ∙ own_params (function_at r func) types c.requires.function named in
    let P : Resolve → List ValType → Type 0 = λ q xs. MembersJson (labelled_members (labelled_types q) xs) vs (map view items.items) in
    let array : JsonArray r ts vs j = (map view items.items, subst (P r) own (subst (λ (q : Resolve). P q c.as_slice.result.now) c.resolve.ensures c.in_ok-items.ensures), view-Array items) in
    let few = subst (λ fs. fields_depth fs ≤ 64) (sym (params_are_fields r func)) (function-shallow r p.within func c.requires.function).params in
    let reads = c.in_ok-text.ensures.reads_back (array-nests r ts vs j array few) in (
      (j, array, c.in_ok-text.ensures.text (array-whole r ts vs j array)),
      array-only r ts vs j (string_bytes c.in_ok-text.text) c.has_one_value.ensures c.has_labels_apart.ensures.types array reads,
    )

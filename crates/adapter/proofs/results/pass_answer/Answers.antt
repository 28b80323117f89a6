use Rattle.std.proofs.Common.{map, rules, refl, ◌≡◌, ◌≤◌, sym, ap, ◌∙◌, subst, arith}
use Rattle.canonical_abi.specs.Types.{record_type, result_fields}
use Rattle.canonical_abi.specs.Layout.{lifted_signature, passed_kinds, max_flat_results, size}
use Rattle.canonical_abi.specs.Reading.{kind_of}
use Rattle.tables.specs.Closed.{function_type}
use Rattle.values.specs.Members.{fields_of_types, AreAllInside}
use Rattle.adapter.proofs.ParametersAsTableTypes.{same_types}
use Rattle.adapter.proofs.FunctionsInLayouts.{function-stands, result-known, result-inside, result-is, result-fields, all-inside, result-small}
use Rattle.adapter.proofs.CallFromItsWays.{area-is, EndsResult, result-ends}
use Rattle.adapter.proofs.results.pass_answer.Goals as goal

pub lifted_result-requires : goal.lifted_result-requires
lifted_result-requires g c = function-stands c.args.walk.now.types.now c.layouts-layouts.result.now c.args.call.now.func c.layouts-layouts.ensures c.requires.function

pub lifted_count-requires : goal.lifted_count-requires
lifted_count-requires g c = function-stands c.args.walk.now.types.now c.layouts-layouts.result.now c.args.call.now.func c.layouts-layouts.ensures c.requires.function

pub cross_result-crossed-requires : goal.cross_result-crossed-requires
cross_result-crossed-requires g c =
    let r = c.args.walk.now.types.now in
    let func = c.args.call.now.func in
    let s = c.signature.result.now in
    let types = c.as_slice-types.result.now in
    let found = rw c.resolve.ensures at c.signature.ensures in
    let are = sym (same_types s.result _ c.as_slice-types.ensures) in
    let inside = subst (AreAllInside r) are (all-inside r s.result (result-inside r func c.requires.function s found)) in
    let small = subst (λ ts. size (record_type (fields_of_types r ts)) ≤ 16777216) are (result-small r c.requires.within s.result (result-known r func c.requires.function s found)) in
    let kinds : map kind_of c.args.answer.now ≡ passed_kinds max_flat_results (fields_of_types r types) = search rules in
    (search rules, (inside, (small, (c.requires.short, (kinds, (c.requires.capacity, (c.requires.room, c.requires.empty)))))))

pub returns-in-Ok-clause-returned : goal.returns-in-Ok-clause-returned
returns-in-Ok-clause-returned g c =
    let r = c.args.walk.now.types.now in
    let f = function_type r c.args.call.now.func in
    let flats = c.args.call.now.flats.now in
    let CA = g.C.Guest.allocates in
    let caller = g.C.Guest.memory c.args.caller.now in
    let caller' = g.C.Guest.memory c.cross_result-crossed.new.guest in
    let m = c.args.walk.now.source.now in
    let s = c.signature.result.now in
    let is = result-is r c.args.call.now.func c.requires.function s (rw c.resolve.ensures at c.signature.ensures) in
    let own : fields_of_types r c.as_slice-types.result.now ≡ result_fields f.result = ap (fields_of_types r) (same_types s.result _ c.as_slice-types.ensures) ∙ result-fields r s.result ∙ ap result_fields (sym is) in
    let area = area-is f flats c.area_in.result c.lifted_count.result (lifted_signature f) c.area_in.ensures (c.lifted_count.ensures r c.layouts-layouts.ensures c.requires.function) refl in
    let ends = rw (own, area) at c.cross_result-crossed.ensures in
    let told = result-ends CA f flats caller m c.args.answer.now _ c.cross_result-crossed.result caller' _ c.cross_result-crossed.new.out.items c.requires.fresh (omega arith) (omega arith) ends in
    subst (EndsResult CA f flats caller m c.args.answer.now caller' c.cross_result-crossed.new.nodes c.cross_result-crossed.new.out.items) c.in-Ok.is told

pub returns-in-Err-clause-fault : goal.returns-in-Err-clause-fault
returns-in-Err-clause-fault g c =
    let r = c.args.walk.now.types.now in
    let f = function_type r c.args.call.now.func in
    let flats = c.args.call.now.flats.now in
    let CA = g.C.Guest.allocates in
    let caller = g.C.Guest.memory c.args.caller.now in
    let caller' = g.C.Guest.memory c.cross_result-crossed.new.guest in
    let m = c.args.walk.now.source.now in
    let s = c.signature.result.now in
    let is = result-is r c.args.call.now.func c.requires.function s (rw c.resolve.ensures at c.signature.ensures) in
    let own : fields_of_types r c.as_slice-types.result.now ≡ result_fields f.result = ap (fields_of_types r) (same_types s.result _ c.as_slice-types.ensures) ∙ result-fields r s.result ∙ ap result_fields (sym is) in
    let area = area-is f flats c.area_in.result c.lifted_count.result (lifted_signature f) c.area_in.ensures (c.lifted_count.ensures r c.layouts-layouts.ensures c.requires.function) refl in
    let ends = rw (own, area) at c.cross_result-crossed.ensures in
    let told = result-ends CA f flats caller m c.args.answer.now _ c.cross_result-crossed.result caller' _ c.cross_result-crossed.new.out.items c.requires.fresh (omega arith) (omega arith) ends in
    rw c.fault_of.ensures (subst (EndsResult CA f flats caller m c.args.answer.now caller' c.cross_result-crossed.new.nodes c.cross_result-crossed.new.out.items) c.in-Err.is told)

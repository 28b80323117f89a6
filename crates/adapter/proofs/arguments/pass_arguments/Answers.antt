use Rattle.std.proofs.Common.{◌≡◌, ◌≤◌, length, map, refl, sym, ap, ◌∙◌, subst, arith, rules}
use Rattle.std.proofs.lemmas.List.{length-take}
use Rattle.canonical_abi.specs.Types.{record_type, record_fields}
use Rattle.canonical_abi.specs.Layout.{lifted_signature, max_flat_params, passed_kinds}
use Rattle.canonical_abi.specs.Reading.{kind_of}
use Rattle.canonical_abi.specs.Call.{KindsFit}
use Rattle.tables.specs.Closed.{function_type}
use Rattle.values.specs.Members.{fields_of_types, AreAllInside}
use Rattle.values.proofs.PackageTypesAreStandard.{all-known-inside}
use Rattle.adapter.proofs.FunctionsInLayouts.{function-stands, params-row, params-inside, params-known, params-are}
use Rattle.adapter.proofs.CallFromItsWays.{argument-kinds, arguments-stand, arguments-room, same-arguments, EndsArguments, arguments-end}
use Rattle.adapter.proofs.arguments.pass_arguments.Goals as goal

pub takes-requires : goal.takes-requires
takes-requires g c = function-stands c.args.walk.now.types.now c.layouts-layouts.result.now c.args.call.now.func c.layouts-layouts.ensures c.requires.function

pub lifted_count-count-requires : goal.lifted_count-count-requires
lifted_count-count-requires g c = function-stands c.args.walk.now.types.now c.layouts-layouts.result.now c.args.call.now.func c.layouts-layouts.ensures c.requires.function

pub slice_bounds-flats-end : goal.slice_bounds-flats-end
slice_bounds-flats-end g c =
    let r = c.args.walk.now.types.now in
    let f = function_type r c.args.call.now.func in
    let flats = c.args.call.now.flats.now in
    let kinds : KindsFit f flats = search rules in
    let count = c.lifted_count-count.result in
    let counted : count ≡ length (lifted_signature f).params = c.lifted_count-count.ensures r c.layouts-layouts.ensures c.requires.function in
    omega (arith, counted, arguments-stand f flats kinds, length-take count flats)

pub cross_params-crossed-requires : goal.cross_params-crossed-requires
cross_params-crossed-requires g c =
    let r = c.args.walk.now.types.now in
    let func = c.args.call.now.func in
    let f = function_type r func in
    let flats = c.args.call.now.flats.now in
    let kinds : KindsFit f flats = search rules in
    let row = params-row r func c.requires.function _ refl in
    let same = same-arguments f flats _ c.lifted_count-count.result (lifted_signature f) refl (c.lifted_count-count.ensures r c.layouts-layouts.ensures c.requires.function) refl in
    let s = c.signature.result.now in
    let found = rw c.resolve.ensures at c.signature.ensures in
    let known = all-known-inside r (map (λ p. p.ty) s.params) (params-known r func c.requires.function s found) in
    let inside : AreAllInside r (map (λ p. p.ty) c.as_slice.result.now) = rw c.as_slice.ensures known in
    let listed : record_fields (record_type f.params) ≡ fields_of_types r (map (λ p. p.ty) c.as_slice.result.now) = rw c.as_slice.ensures (params-are r func c.requires.function s found) in
    let room = subst (λ l. length l ≤ g.row.N) (sym same) (arguments-room f flats g.row.N kinds c.requires.room) in (
      search rules,
      (
        params-inside r func c.requires.function _ refl,
        (
          row ∙ sym (ap (λ t. record_type (record_fields t)) row),
          (
            c.requires.short,
            (
              ap (map kind_of) same ∙ argument-kinds f flats kinds ∙ sym (ap (λ t. passed_kinds max_flat_params (record_fields t)) row),
              (
                inside,
                (ap record_fields row ∙ listed, (c.requires.capacity, (room, c.requires.empty))),
              ),
            ),
          ),
        ),
      ),
    )

pub returns-in-Ok-clause-entered : goal.returns-in-Ok-clause-entered
returns-in-Ok-clause-entered g c =
    let r = c.args.walk.now.types.now in
    let f = function_type r c.args.call.now.func in
    let flats = c.args.call.now.flats.now in
    let EA = g.E.Guest.allocates in
    let m = c.args.walk.now.source.now in
    let callee = g.E.Guest.memory c.args.callee.now in
    let callee' = g.E.Guest.memory c.cross_params-crossed.new.guest in
    let row = params-row r c.args.call.now.func c.requires.function _ refl in
    let kinds : KindsFit f flats = search rules in
    let same = same-arguments f flats _ c.lifted_count-count.result (lifted_signature f) refl (c.lifted_count-count.ensures r c.layouts-layouts.ensures c.requires.function) refl in
    let ends = rw (row, same) at c.cross_params-crossed.ensures in
    let told = arguments-end EA f flats m callee kinds _ c.cross_params-crossed.result callee' _ c.cross_params-crossed.new.out.items c.requires.fresh (omega arith) (omega arith) ends in
    subst (EndsArguments EA f flats m callee callee' c.cross_params-crossed.new.nodes c.cross_params-crossed.new.out.items) c.in-Ok.is told

pub returns-in-Err-clause-fault : goal.returns-in-Err-clause-fault
returns-in-Err-clause-fault g c =
    let r = c.args.walk.now.types.now in
    let f = function_type r c.args.call.now.func in
    let flats = c.args.call.now.flats.now in
    let EA = g.E.Guest.allocates in
    let m = c.args.walk.now.source.now in
    let callee = g.E.Guest.memory c.args.callee.now in
    let callee' = g.E.Guest.memory c.cross_params-crossed.new.guest in
    let row = params-row r c.args.call.now.func c.requires.function _ refl in
    let kinds : KindsFit f flats = search rules in
    let same = same-arguments f flats _ c.lifted_count-count.result (lifted_signature f) refl (c.lifted_count-count.ensures r c.layouts-layouts.ensures c.requires.function) refl in
    let ends = rw (row, same) at c.cross_params-crossed.ensures in
    let told = arguments-end EA f flats m callee kinds _ c.cross_params-crossed.result callee' _ c.cross_params-crossed.new.out.items c.requires.fresh (omega arith) (omega arith) ends in
    rw c.fault_of.ensures (subst (EndsArguments EA f flats m callee callee' c.cross_params-crossed.new.nodes c.cross_params-crossed.new.out.items) c.in-Err.is told)

use Rattle.std.proofs.Common.{◌<◌, map, length, get_or, sym, ap, arith}
use Rattle.canonical_abi.specs.Layout.{flat_kinds, field_kinds}
use Rattle.tables.proofs.ErasesToClosed.{erases}
use Rattle.tables.specs.Labelled.{labelled_types}
use Rattle.tables.specs.Tables.{is_type}
use Rattle.tables.specs.declared.tables.Field.{Field}
use Rattle.value_json.proofs.LabelledTypesRowByRow.{all-at as every}
use Rattle.value_text.proofs.Carried.{before-none, before-next, before-room, as-members, known-below, field-at}
use Rattle.value_text.proofs.held.Held.flats_before.Goals as goal

pub loop-i-init : goal.loop-i-init
loop-i-init c = sym (before-none (labelled_types c.args.self.now.types.now) (map (λ f. f.ty) c.args.fields.now))

pub kind_count-count-requires-clause-inside : goal.kind_count-count-requires-clause-inside
kind_count-count-requires-clause-inside c =
    let ds = c.args.self.now.types.now.definitions in
    let fs = c.args.fields.now in
    let f = c.index-fields-i.result in
    let lt : c.loop-i.i < length fs = omega (arith, c.loop-i-test.true, c.requires.inside) in
    known-below ds (get_or fs c.loop-i.i f).ty (every (λ (x : Field). is_type ds x.ty) fs c.loop-i.i f lt c.requires.types)

pub kind_count-count-requires-clause-flat : goal.kind_count-count-requires-clause-flat
kind_count-count-requires-clause-flat c =
    let r = c.args.self.now.types.now in
    let fs = c.args.fields.now in
    let f = c.index-fields-i.result in
    let ty = (get_or fs c.loop-i.i f).ty in
    let lt : c.loop-i.i < length fs = omega (arith, c.loop-i-test.true, c.requires.inside) in
    let room = before-room (labelled_types r) (map (λ f. f.ty) fs) c.loop-i.i ty (field-at fs c.loop-i.i f lt) in
    let all = ap (λ ts. length (field_kinds ts)) (as-members (labelled_types r) fs) in
    let same = ap (λ t. length (flat_kinds t)) (erases r ty) in
    omega (arith, room, all, same, c.requires.few)

pub overflow_add-count : goal.overflow_add-count
overflow_add-count c =
    let r = c.args.self.now.types.now in
    let fs = c.args.fields.now in
    let f = c.index-fields-i.result in
    let ty = (get_or fs c.loop-i.i f).ty in
    let lt : c.loop-i.i < length fs = omega (arith, c.loop-i-test.true, c.requires.inside) in
    let room = before-room (labelled_types r) (map (λ f. f.ty) fs) c.loop-i.i ty (field-at fs c.loop-i.i f lt) in
    let all = ap (λ ts. length (field_kinds ts)) (as-members (labelled_types r) fs) in
    let same = ap (λ t. length (flat_kinds t)) (erases r ty) in
    omega (arith, room, all, same, c.requires.few, c.loop-i.invariant, c.kind_count-count.ensures)

pub loop-i-preserved : goal.loop-i-preserved
loop-i-preserved c =
    let r = c.args.self.now.types.now in
    let fs = c.args.fields.now in
    let f = c.index-fields-i.result in
    let ty = (get_or fs c.loop-i.i f).ty in
    let lt : c.loop-i.i < length fs = omega (arith, c.loop-i-test.true, c.requires.inside) in
    let next = before-next (labelled_types r) (map (λ f. f.ty) fs) c.loop-i.i ty (field-at fs c.loop-i.i f lt) in
    let same = ap (λ t. length (flat_kinds t)) (erases r ty) in
    omega (arith, next, same, c.loop-i.invariant, c.kind_count-count.ensures)

use Rattle.std.proofs.Common.{map, length, sym, ap, ◌∙◌, subst, arith}
use Rattle.canonical_abi.specs.Flat.{FieldsLift}
use Rattle.canonical_abi.specs.Labelled.{closed_members}
use Rattle.canonical_abi.specs.Layout.{field_kinds, max_flat_params, size}
use Rattle.canonical_abi.specs.Memory.{FieldsHold}
use Rattle.canonical_abi.specs.Reading.{number_of, low_bits}
use Rattle.canonical_abi.specs.Types.{record_type}
use Rattle.tables.specs.Labelled.{labelled_members, labelled_types}
use Rattle.values.specs.Members.{fields_of_types}
use Rattle.value_text.proofs.Spilled.{types-erased, go-flat, go-spilled, all-below, on-some, if-none}
use Rattle.value_text.proofs.held.Held.write_arguments.Goals as goal

pub count_within-requires-clause-inside : goal.count_within-requires-clause-inside
count_within-requires-clause-inside c = all-below c.args.self.now.types.now.definitions c.args.types.now c.requires.types

pub write_flat_members-requires-clause-flat : goal.write_flat_members-requires-clause-flat
write_flat_members-requires-clause-flat c =
    let r = c.args.self.now.types.now in
    let ts = c.args.types.now in
    let m = c.args.self.now.memory.now in
    let flats = c.args.flats.now in
    let same = types-erased r ts in
    let fits = on-some c.count_within.result _ (sym c.is_some.ensures ∙ c.if-is_some.true) c.count_within.ensures.flat in
    let (vs, den) = c.requires.denoted in
    let (len, lifts) = go-flat max_flat_params (fields_of_types r ts) m flats vs fits den in
    omega (arith, len, ap (λ x. length (field_kinds x)) same)

pub write_flat_members-requires-clause-carried : goal.write_flat_members-requires-clause-carried
write_flat_members-requires-clause-carried c =
    let r = c.args.self.now.types.now in
    let ts = c.args.types.now in
    let m = c.args.self.now.memory.now in
    let flats = c.args.flats.now in
    let same = types-erased r ts in
    let fits = on-some c.count_within.result _ (sym c.is_some.ensures ∙ c.if-is_some.true) c.count_within.ensures.flat in
    let (vs, den) = c.requires.denoted in
    let (len, lifts) = go-flat max_flat_params (fields_of_types r ts) m flats vs fits den in
    (vs, subst (λ x. FieldsLift x m (map number_of flats) vs) same lifts)

pub write_spilled-requires-clause-fits : goal.write_spilled-requires-clause-fits
write_spilled-requires-clause-fits c =
    let r = c.args.self.now.types.now in
    let ts = c.args.types.now in
    let m = c.args.self.now.memory.now in
    let flats = c.args.flats.now in
    let same = types-erased r ts in
    let fits = if-none c.count_within.result _ (sym c.is_some.ensures ∙ c.if-is_some.false) c.count_within.ensures.spilled in
    let (vs, den) = c.requires.denoted in
    let (len, (block, fields)) = go-spilled max_flat_params (fields_of_types r ts) m flats vs fits den in
    omega (arith, block.1, c.low_word.ensures, ap (λ x. size (record_type x)) same)

pub write_spilled-requires-clause-holds : goal.write_spilled-requires-clause-holds
write_spilled-requires-clause-holds c =
    let r = c.args.self.now.types.now in
    let ts = c.args.types.now in
    let m = c.args.self.now.memory.now in
    let flats = c.args.flats.now in
    let same = types-erased r ts in
    let fits = if-none c.count_within.result _ (sym c.is_some.ensures ∙ c.if-is_some.false) c.count_within.ensures.spilled in
    let (vs, den) = c.requires.denoted in
    let (len, (block, fields)) = go-spilled max_flat_params (fields_of_types r ts) m flats vs fits den in
    (vs, subst (λ a. FieldsHold (closed_members (labelled_members (labelled_types r) ts)) m a 0 vs) (sym c.low_word.ensures) (subst (λ x. FieldsHold x m (low_bits (map number_of flats) 0 32) 0 vs) same fields))

pub returns-then-is_some : goal.returns-then-is_some
returns-then-is_some c = λ vs den.
    let r = c.args.self.now.types.now in
    let ts = c.args.types.now in
    let m = c.args.self.now.memory.now in
    let flats = c.args.flats.now in
    let same = types-erased r ts in
    let fits = on-some c.count_within.result _ (sym c.is_some.ensures ∙ c.if-is_some.true) c.count_within.ensures.flat in
    let (len, lifts) = go-flat max_flat_params (fields_of_types r ts) m flats vs fits den in
    c.write_flat_members.ensures vs (subst (λ x. FieldsLift x m (map number_of flats) vs) same lifts)

pub returns-else-is_some : goal.returns-else-is_some
returns-else-is_some c = λ vs den.
    let r = c.args.self.now.types.now in
    let ts = c.args.types.now in
    let m = c.args.self.now.memory.now in
    let flats = c.args.flats.now in
    let same = types-erased r ts in
    let fits = if-none c.count_within.result _ (sym c.is_some.ensures ∙ c.if-is_some.false) c.count_within.ensures.spilled in
    let (len, (block, fields)) = go-spilled max_flat_params (fields_of_types r ts) m flats vs fits den in
    c.write_spilled.ensures vs (subst (λ a. FieldsHold (closed_members (labelled_members (labelled_types r) ts)) m a 0 vs) (sym c.low_word.ensures) (subst (λ x. FieldsHold x m (low_bits (map number_of flats) 0 32) 0 vs) same fields))

use Rattle.std.proofs.Common.{◌≡◌, length, map, sym, ap, ◌∙◌, arith, rules}
use Rattle.std.proofs.lemmas.Bool.{leb-true}
use Rattle.std.proofs.lemmas.List.{length-map}
use Rattle.canonical_abi.specs.Layout.{field_kinds}
use Rattle.canonical_abi.specs.Reading.{kind_of}
use Rattle.values.specs.Members.{fields_of_types}
use Rattle.values.proofs.FieldsFromAPlace.{count-types}
use Rattle.crossing.proofs.walk.Walk.cross_result.Goals as goal

pub carry_fields-requires : goal.carry_fields-requires
carry_fields-requires g c =
    let ts = fields_of_types c.args.self.now.types.now c.args.types.now in
    let flats = c.args.returned.now.flats.now in
    let fits = c.in-Some.ensures.flat in
    let kinds : map kind_of flats ≡ field_kinds ts = rw fits at c.requires.kinds in
    let count : length flats ≡ length (field_kinds ts) = sym (length-map flats kind_of) ∙ ap length kinds in
    let few = leb-true _ _ fits in
    let none = ap length c.requires.empty in
    (search rules, (c.requires.inside, (c.requires.short, (count-types c.args.self.now.types.now c.args.types.now, (omega (arith, count), (omega (arith, count, few), (c.requires.capacity, omega (arith, few, none, c.requires.room))))))))

use Rattle.std.proofs.Common.{◌≡◌, true, refl, ap, arith}
use Rattle.canonical_abi.specs.Layout.{lifted_signature, lowered_signature}
use Rattle.tables.specs.Closed.{function_type, IsFunction}
use Rattle.package_diff.proofs.CallsToldByShapes.{row-there, told-alike, alike-told}
use Rattle.package_diff.proofs.calling.Versions.are_called_alike.Goals as goal
use Rattle.package_diff.proofs.calling.Versions.are_called_alike.Goals.{After-have_same_shapes}

pub index-row-requires : goal.index-row-requires
index-row-requires c =
    let v = c.args.self.now in
    let there = row-there v.shapes.known.keys v.old.table.now v.old_rows.items v.old_stands c.args.function (c.if-not-is_function.ensures.0 refl) in
    omega (arith, there, v.old_rows.ok.0)

pub index-other_row-requires : goal.index-other_row-requires
index-other_row-requires c =
    let v = c.args.self.now in
    let there = row-there v.shapes.known.keys v.new.table.now v.new_rows.items v.new_stands c.args.other (c.if-not-is_function-2.ensures.0 refl) in
    omega (arith, there, v.new_rows.ok.0)

known-old : (c : After-have_same_shapes) → IsFunction c.args.self.now.old.table.now c.args.function
known-old c = c.if-not-is_function.ensures.0 refl

known-new : (c : After-have_same_shapes) → IsFunction c.args.self.now.new.table.now c.args.other
known-new c = c.if-not-is_function-2.ensures.0 refl

-- what equal rows tell
told : (c : After-have_same_shapes) → c.have_same_shapes.result ≡ true → function_type c.args.self.now.old.table.now c.args.function ≡ function_type c.args.self.now.new.table.now c.args.other
told c same =
    let v = c.args.self.now in
    told-alike v.shapes.known.keys v.old.table.now v.new.table.now v.old_rows.items v.new_rows.items c.args.function c.args.other c.index-row.result.now c.index-other_row.result.now
    (known-old c) (known-new c) c.index-row.ensures c.index-other_row.ensures v.old_stands v.new_stands (c.have_same_shapes.ensures.0 same)

pub returns-clause-alike : goal.returns-clause-alike
returns-clause-alike c =
    let v = c.args.self.now in (
      λ same. (known-old c, known-new c, told c same),
      λ alike. alike-told v.shapes.known.keys v.old.table.now v.new.table.now v.old_rows.items v.new_rows.items c.args.function c.args.other c.index-row.result.now c.index-other_row.result.now
          (known-old c) (known-new c) c.index-row.ensures c.index-other_row.ensures v.shapes.distinct v.old_stands v.new_stands alike.2 c.have_same_shapes.result c.have_same_shapes.ensures.1,
    )

pub returns-clause-signatures : goal.returns-clause-signatures
returns-clause-signatures c = λ same. (ap lifted_signature (told c same), ap lowered_signature (told c same))

use Rattle.std.proofs.Common.{◌≡◌, ◌≤◌, ap, ◌∙◌, length, arith, min}
use Rattle.std.proofs.lemmas.List.{get_or_default}
use Rattle.set_rows.specs.Places.{place}
use Rattle.set_rows.proofs.PlacesOfMarked.{place-le, place-min}
use Rattle.set_rows.proofs.places.Places.at.Goals as goal

told : (c : goal.After-row_known-1) → c.index.result.now ≡ place c.args.self.now c.args.old
told c =
    let within : c.min-old.result ≤ length c.self.inside.marks.items = omega arith in
    let counted : c.len.result ≡ length c.self.inside.marks.items = omega arith in
    c.index.ensures
    ∙ (get_or_default c.self.inside.before.items c.min-old.result _ 0 (omega (arith, c.self.inside.counted))
    ∙ (c.self.inside.each c.min-old.result within
    ∙ (ap (place c.self.inside.marks.items) (c.min-old.ensures ∙ ap (min c.args.old) counted) ∙ (place-min c.self.inside.marks.items c.args.old ∙ ap (λ x. place x c.args.old) c.self.view_is))))

pub overflow_cast-result : goal.overflow_cast-result
overflow_cast-result c = omega (arith, told c, place-le c.args.self.now c.args.old)

pub returns : goal.returns
returns c = told c

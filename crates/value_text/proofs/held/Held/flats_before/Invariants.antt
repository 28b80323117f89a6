use Rattle.std.proofs.Common.{◌≡◌, map}
use Rattle.tables.specs.Labelled.{labelled_types}
use Rattle.value_text.specs.Flats.{flats_before}
use Rattle.value_text.proofs.held.Held.flats_before.Given as goal

abbrev pub invariant-loop-i : goal.invariant-loop-i
invariant-loop-i l = l.count ≡ flats_before (labelled_types l.self.types.now) (map (λ f. f.ty) l.fields) l.i

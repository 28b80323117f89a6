use Rattle.std.proofs.Common.{◌≡◌, ℕ, Option, Some, sym, subst, IfSome}
use Rattle.std.specs.Prelude.{Contains}
use Rattle.std.specs.BTreeMap.{get}
use Rattle.std.specs.Ordering.{nat_cmp}
use Rattle.std.proofs.lemmas.Cmp.{nat_cmp_total}
use Rattle.std.proofs.lemmas.Map.Lookups.{exact_unsigned}
use Rattle.std.proofs.lemmas.Map.Views.{IfSome-get}
use Rattle.structure_comparison.proofs.ListsInStep.{same_of_test}
use Rattle.structure_comparison.proofs.site.Site.is_written.Goals as goal

pub returns-in-Some : goal.returns-in-Some
returns-in-Some c = λ t.
    let m = c.args.self.now.written in
    let row = c.args.row.0 in
    let at : get nat_cmp m row ≡ Some c.in-Some.written.now = sym c.in-Some.ensures.value in
    let held : Contains m.entries (row, c.in-Some.written.now) =
    subst (λ (o : Option ℕ). IfSome o (λ (v : ℕ). Contains m.entries (row, v))) at (IfSome-get nat_cmp_total exact_unsigned m row) in
    subst (λ (n : ℕ). Contains m.entries (row, n)) (same_of_test c.in-Some.written.now c.args.id t) held

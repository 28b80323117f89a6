use Rattle.std.proofs.Common.{◌≡◌, Result, Ok, Err, IfOk, sym, subst}
use Rattle.tables.specs.Labelled.{labelled_type}
use Rattle.package_changes.specs.Exact.{IsLikeness}
use Rattle.package_changes.specs.Likeness.{likeness}
use Rattle.package_changes.proofs.VerdictsAreExact.{likeness-exact}
use Rattle.package_changes.proofs.types.TypeComparison.likeness.Goals as goal

if-ok : {T E : Type 0} (o : Result T E) (x : T) (P : T → Type 0) → P x → IfOk o (λ l. l ≡ x) → IfOk o P
if-ok (Ok l) x P p e = subst P (sym e) p
if-ok (Err y) x P p e = tt

pub returns-clause-exact : goal.returns-clause-exact
returns-clause-exact c =
    let t = labelled_type c.args.self.now.comparer.old.table.now c.args.old in
    let u = labelled_type c.args.self.now.comparer.new.table.now c.args.new in
    if-ok c.compare.result (likeness t u) (IsLikeness t u) (likeness-exact t u) c.compare.ensures.ok

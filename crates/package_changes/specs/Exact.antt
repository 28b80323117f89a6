-- What is said of how alike two types are.
use Rattle.std.specs.Prelude.{◌≡◌, ◌↔◌, IsTrue}
use Rattle.canonical_abi.specs.Labelled.{LabelledType, closed}
use Rattle.package_changes.specs.declared.likeness.Likeness.{Likeness}
use Rattle.package_changes.specs.Forms.{form_of, moves, renames}
use Rattle.package_changes.specs.Widening.{Widens}

-- each test is true exactly if what it says is
pub record IsLikeness (t u : LabelledType) (l : Likeness) : Type 0 where
  pub same : IsTrue l.same ↔ (t ≡ u)
  pub equal : IsTrue l.equal ↔ (closed t ≡ closed u)
  pub wider : IsTrue l.wider ↔ Widens (closed t) (closed u)
  pub moved : l.moved ≡ moves (form_of t) (form_of u)
  pub renamed : l.renamed ≡ renames (form_of t) (form_of u)

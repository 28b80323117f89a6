use Rattle.std.proofs.Common.{◌≡◌, ℕ, zero, suc, false, [], replicate, get_or, refl, sym, subst}
use Rattle.std.proofs.lemmas.List.{length-replicate}
use Rattle.package_form.specs.Marks.{AreMarked}
use Rattle.package_form.proofs.closed.reached_marks.Goals as goal

-- nothing is marked
none-yet : (n : ℕ) → AreMarked n [] (replicate n false)
none-yet n = record { counted = length-replicate n false; each = λ k l. by n k }
  where
    by : (n k : ℕ) → get_or (replicate n false) k false ≡ false
    by zero k = refl
    by (suc n) zero = refl
    by (suc n) (suc k) = by n k

pub returns : goal.returns
returns c =
    let none : c.in_ok-marks.marks.items ≡ replicate c.args.count false = c.in_ok-marks.ensures.items_if_clones_equal (λ y e. e) in
    c.mark_worlds.ensures c.args.count _ (c.mark_uses.ensures c.args.count [] (subst (AreMarked c.args.count []) (sym none) (none-yet c.args.count)))

-- The rows of interfaces: where they end.
use Rattle.std.proofs.Common.{◌≡◌, ℕ, ◌+◌, ◌<◌, List, [], ◌∷◌, ◌++◌, length, take, get_or, refl, ap, sym, ◌∙◌}
use Rattle.std.proofs.lemmas.Grind.{take_at_read}
use Rattle.tables.specs.declared.tables.TypeId.{TypeId}
use Rattle.tables.specs.declared.tables.FunctionId.{FunctionId}
use Rattle.package_form.specs.Ends.{behind_types, behind_functions}

types-end : (start : ℕ) (xs : List TypeId) (x : TypeId) → behind_types start (xs ++ x ∷ []) ≡ x.0 + 1
types-end start [] x = refl
types-end start (y ∷ ys) x = types-end (y.0 + 1) ys x

functions-end : (start : ℕ) (xs : List FunctionId) (x : FunctionId) → behind_functions start (xs ++ x ∷ []) ≡ x.0 + 1
functions-end start [] x = refl
functions-end start (y ∷ ys) x = functions-end (y.0 + 1) ys x

pub types-more : (start : ℕ) (ids : List TypeId) (k : ℕ) (d : TypeId) → k < length ids → (get_or ids k d).0 + 1 ≡ behind_types start (take (k + 1) ids)
types-more start ids k d l = sym (ap (behind_types start) (take_at_read ids k d l).1 ∙ types-end start (take k ids) (get_or ids k d))

pub functions-more : (start : ℕ) (ids : List FunctionId) (k : ℕ) (d : FunctionId) → k < length ids → (get_or ids k d).0 + 1 ≡ behind_functions start (take (k + 1) ids)
functions-more start ids k d l = sym (ap (behind_functions start) (take_at_read ids k d l).1 ∙ functions-end start (take k ids) (get_or ids k d))

-- Marks of places: the code's way to see which of so many places are among others.
use Rattle.std.specs.Prelude.{◌≡◌, ◌<◌, ℕ, Bool, false, List, length, slice_index_or}
use Rattle.package_form.specs.Reached.{is_among}

-- of the first `count` places just these are marked
pub record AreMarked (count : ℕ) (places : List ℕ) (marks : List Bool) : Type 0 where
  pub counted : length marks ≡ count
  pub each : (k : ℕ) → k < count → slice_index_or marks k false ≡ is_among places k

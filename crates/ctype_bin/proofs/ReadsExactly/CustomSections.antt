-- Custom sections before a section, and to the end.
use Rattle.std.proofs.Common.{◌≡◌, ℕ, suc, ◌+◌, ◌-◌, ◌<◌, ◌≤◌, List, Some, None, Result, Ok, Err, refl, sym, ◌∙◌, arith}
use Rattle.atoms.specs.Production.{at_end}
use Rattle.ctype_format.specs.declared.error.Stuck.{Stuck}
use Rattle.ctype_format.specs.declared.error.Stuck.TheVariants.{End}
use Rattle.ctype_format.specs.declared.error.ItemError.{ItemError}
use Rattle.ctype_format.specs.declared.error.ItemError.TheVariants as errors
use Rattle.ctype_format.specs.Bytes.{Stops}
use Rattle.ctype_format.specs.File.{head, section, custom_next, trailing, trailing_fault}

one_less : (n i : ℕ) → i < n → n - i ≡ suc (n - (i + 1))
one_less n i lt = omega arith

none_left : (n i : ℕ) → n ≤ i → n - i ≡ 0
none_left n i le = omega arith

module _ (id n i : ℕ) (bytes : List ℕ) (total : Result (ℕ × List ℕ) Stuck) (so_far : (section id (n - i)).read bytes ≡ total) where
  pub head_skips : (rest : List ℕ) → i < n → (head id).read bytes ≡ Ok (None, rest) → (section id (n - (i + 1))).read rest ≡ total
  unfolding section
  head_skips rest lt h = let one : (section id (n - i)).read bytes ≡ (section id (n - (i + 1))).read rest = rw (one_less n i lt, h) refl in sym one ∙ so_far

  pub head_found : (size : ℕ) (rest : List ℕ) → i < n → (head id).read bytes ≡ Ok (Some size, rest) → total ≡ Ok (size, rest)
  unfolding section
  head_found size rest lt h = let one : (section id (n - i)).read bytes ≡ Ok (size, rest) = rw (one_less n i lt, h) refl in sym so_far ∙ one

  pub head_stops : (e : ItemError) → i < n → Stops e ((head id).read bytes) → Stops e total
  unfolding section
  head_stops errors.Memory lt h = tt
  head_stops (errors.Stuck f) lt h = let one : (section id (n - i)).read bytes ≡ Err f = rw (one_less n i lt, h) refl in sym so_far ∙ one

  pub none_found : n ≤ i → total ≡ Err End
  unfolding section
  none_found le = let one : (section id (n - i)).read bytes ≡ Err End = rw (none_left n i le) refl in sym so_far ∙ one

module _ (n i : ℕ) (bytes : List ℕ) (total : Result (ℕ × List ℕ) Stuck) (so_far : (trailing (n - i)).read bytes ≡ total) where
  pub trailing_ends : (rest : List ℕ) → i < n → custom_next.read bytes ≡ Ok (None, rest) → total ≡ (at_end trailing_fault).read rest
  unfolding trailing
  trailing_ends rest lt h = let one : (trailing (n - i)).read bytes ≡ (at_end trailing_fault).read rest = rw (one_less n i lt, h) refl in sym so_far ∙ one

  pub trailing_skips : (x : ℕ) (rest : List ℕ) → i < n → custom_next.read bytes ≡ Ok (Some x, rest) → (trailing (n - (i + 1))).read rest ≡ total
  unfolding trailing
  trailing_skips x rest lt h = let one : (trailing (n - i)).read bytes ≡ (trailing (n - (i + 1))).read rest = rw (one_less n i lt, h) refl in sym one ∙ so_far

  pub trailing_stops : (e : ItemError) → i < n → Stops e (custom_next.read bytes) → Stops e total
  unfolding trailing
  trailing_stops errors.Memory lt h = tt
  trailing_stops (errors.Stuck f) lt h = let one : (trailing (n - i)).read bytes ≡ Err f = rw (one_less n i lt, h) refl in sym so_far ∙ one

  pub none_trails : n ≤ i → total ≡ Err End
  unfolding trailing
  none_trails le = let one : (trailing (n - i)).read bytes ≡ Err End = rw (none_left n i le) refl in sym so_far ∙ one

-- What `Pages::reach` does to the bytes.
use Rattle.std.proofs.Common.{◌≡◌, ◌+◌, ◌-◌, ◌*◌, ◌%◌, ◌<◌, ◌≤◌, ℕ, zero, suc, List, [], ◌∷◌, ◌++◌, length, take, replicate, refl, ap, ◌∙◌, arith}
use Rattle.std.specs.Int.{div_ceil}
use Rattle.memory.specs.Growth.{GrowsTo}

take_whole : (n : ℕ) (bytes : List ℕ) → length bytes ≤ n → take n bytes ≡ bytes
take_whole zero [] within = refl
take_whole zero (b ∷ bytes) within = absurd (omega arith)
take_whole (suc n) [] within = refl
take_whole (suc n) (b ∷ bytes) within = ap (λ rest. b ∷ rest) (take_whole n bytes (omega arith))

pub grows : (old new : List ℕ) (max end pages : ℕ) → end ≤ max → length old ≤ max → (max - length old) % 65536 ≡ 0 → pages ≡ div_ceil (end - length old) 65536
    → new ≡ take (length old + pages * 65536) old ++ replicate (length old + pages * 65536 - length old) 0 → GrowsTo old max end new
grows old new max end pages below short whole count new_is = (
  pages,
  record {
    within = omega arith;
    enough = omega arith;
    least = λ fewer less enough. omega arith;
  },
  new_is ∙ ap (λ front. front ++ replicate (length old + pages * 65536 - length old) 0) (take_whole (length old + pages * 65536) old (omega arith)) ∙ ap (λ n. old ++ replicate n 0) behind,
)
  where
    behind : length old + pages * 65536 - length old ≡ pages * 65536
    behind = omega arith

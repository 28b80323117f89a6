-- Why no memory is made.
use Rattle.std.specs.Prelude.{◌≡◌, ◌⊎◌, ◌<◌, ◌≤◌, ℕ}
use Rattle.memory.specs.Growth.{ArePages}
use Rattle.memory.specs.declared.error.MemoryError.{MemoryError}
use Rattle.memory.specs.declared.error.MemoryError.TheVariants.{MemoryLimit, NoMemory, BadPages}

-- why a memory is not made that may grow to so many bytes
abbrev pub RefusesLength : ℕ → MemoryError → Type 0
RefusesLength max MemoryLimit = 16777216 < max
RefusesLength max NoMemory = max ≤ 16777216
RefusesLength max BadPages = ⊥

-- why a memory of `len` bytes is not made that may grow to `max`: these are no whole pages, or `max` is too large
abbrev pub RefusesGrowing : ℕ → ℕ → MemoryError → Type 0
RefusesGrowing len max e = ((e ≡ BadPages) × ¬ ArePages len max) ⊎ (ArePages len max × RefusesLength max e)

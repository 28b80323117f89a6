-- A `Space` as a memory.
use Rattle.canonical_abi.specs.Guest.{Memory}
use Rattle.memory.specs.Bump.{bump}
use Rattle.memory.specs.Holes.{first_fit}
use Rattle.memory.specs.HolesView.{listed_holes}
use Rattle.memory.specs.Space.{of_kind, bump_kind, first_fit_kind}
use Rattle.memory.specs.declared.space.Space as declared
use Rattle.memory.specs.declared.space.Space.TheVariants.{Bump, FirstFit}

-- a `Space` as a memory, whose state begins with the number of its kind
abbrev pub space_memory : declared.Space → Memory
space_memory (Bump b) = of_kind bump_kind (bump b.pages.bytes.items b.pages.max b.top)
space_memory (FirstFit f) = of_kind first_fit_kind (first_fit f.pages.bytes.items f.pages.max f.holes.limit (listed_holes f.holes))

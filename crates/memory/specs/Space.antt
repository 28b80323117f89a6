-- A memory of one of several kinds: its state begins with the number of its kind.
use Rattle.std.specs.Prelude.{◌≡◌, ◌⊎◌, ℕ, List, [], ◌∷◌}
use Rattle.canonical_abi.specs.Guest.{Memory, Allocation, Release}
use Rattle.canonical_abi.specs.Call.{Run, PostRun, Parties}
use Rattle.memory.specs.Bump.{BumpAllocates, BumpReleases}
use Rattle.memory.specs.FirstFit.{FirstFitAllocates, FirstFitReleases}
use Rattle.memory.specs.Growth.{most_bytes}

-- a memory of one kind as a memory of several: its state begins with the number of the kind
abbrev pub of_kind : ℕ → Memory → Memory
of_kind kind memory = record { bytes = memory.bytes; live = memory.live; state = kind ∷ memory.state }

-- the number of the kind that hands out rising addresses
abbrev pub bump_kind : ℕ
bump_kind = 0

-- the number of the kind that hands out the first hole that is large enough
abbrev pub first_fit_kind : ℕ
first_fit_kind = 1

-- the numbers that are fixed when a memory is made: its kind, and the most bytes it may grow to
abbrev pub kind_and_most_bytes : List ℕ → List ℕ
kind_and_most_bytes [] = []
kind_and_most_bytes (kind ∷ state) = kind ∷ most_bytes state

-- the allocations of the kind with this number, over memories whose state begins with it
abbrev pub AllocatesAs : ℕ → Allocation → Allocation
AllocatesAs kind allocates old align size answer new =
    (before after : Memory) × (old ≡ of_kind kind before) × allocates before align size answer after × (new ≡ of_kind kind after)

-- the releases of the kind with this number, over memories whose state begins with it
abbrev pub ReleasesAs : ℕ → Release → Release
ReleasesAs kind releases old at size answer new =
    (before after : Memory) × (old ≡ of_kind kind before) × releases before at size answer after × (new ≡ of_kind kind after)

-- the allocations of each kind; a further kind is one more alternative
abbrev pub SpaceAllocates : Allocation
SpaceAllocates old align size answer new =
    AllocatesAs bump_kind BumpAllocates old align size answer new ⊎ AllocatesAs first_fit_kind FirstFitAllocates old align size answer new

-- the releases of each kind; a further kind is one more alternative
abbrev pub SpaceReleases : Release
SpaceReleases old at size answer new =
    ReleasesAs bump_kind BumpReleases old at size answer new ⊎ ReleasesAs first_fit_kind FirstFitReleases old at size answer new

-- the parties of a call between two memories of any kinds, with this body and post-return
abbrev pub spaces : Run → PostRun → Parties
spaces runs posts = record { caller_allocates = SpaceAllocates; callee_allocates = SpaceAllocates; runs = runs; posts = posts }

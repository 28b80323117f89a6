-- The functions of a package by their numbers, which are those of their rows.
use Rattle.std.specs.Prelude.{◌≡◌, ◌⊎◌, ℕ, Result, Err, Option, Some, None}
use Rattle.host_calls.specs.declared.error.CallError.{CallError}
use Rattle.host_calls.specs.declared.error.CallError.TheVariants as error
use Rattle.opening.specs.declared.package.Package.{Package}
use Rattle.tables.specs.Closed.{IsFunction}
use Rattle.tables.specs.declared.tables.FunctionId.{FunctionId}
use Rattle.tables.specs.declared.tables.Resolve.{Resolve}

-- the function of this number, its row in the table
abbrev pub numbered : ℕ → FunctionId
numbered n = record { 0 = n }

-- there is this package, and it has the function of this number
abbrev pub HasFunction : Option Package → ℕ → Package → FunctionId → Type 0
HasFunction None number p f = ⊥
HasFunction (Some opened) number p f = (p ≡ opened) × (f ≡ numbered number) × IsFunction p.resolve f

-- why a call has no function: the package has none of this number (63), or no package is open (70)
abbrev pub HasNoFunction : Option Package → ℕ → CallError → Type 0
HasNoFunction None number e = e ≡ error.NotOpen
HasNoFunction (Some p) number e = (e ≡ error.NoFunction) × (¬ IsFunction p.resolve (numbered number))

-- what a call of the function of this number comes to: what the table and the function tell; or 63 or 70, and nothing was changed
abbrev pub OfFunction : Option Package → ℕ → (Resolve → FunctionId → Result ℕ CallError → Type 0) → Type 0 → Result ℕ CallError → Type 0
OfFunction None number Tells unchanged done = (done ≡ Err error.NotOpen) × unchanged
OfFunction (Some p) number Tells unchanged done =
    (IsFunction p.resolve (numbered number) × Tells p.resolve (numbered number) done)
    ⊎ ((¬ IsFunction p.resolve (numbered number)) × (done ≡ Err error.NoFunction) × unchanged)

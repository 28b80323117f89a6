-- What a host has of what it asked for, and why it has not.
use Rattle.std.specs.Prelude.{◌≡◌, ◌⊎◌, ◌<◌, ◌≤◌, ◌++◌, ℕ, List, length, drop, Option, None, Some, Result, Ok, Err, MatchResult}
use Rattle.host_calls.specs.declared.error.CallError.{CallError}
use Rattle.host_calls.specs.declared.error.CallError.TheVariants as error
use Rattle.tables.specs.declared.tables.Resolve.{Resolve}

-- these bytes in front of an array, or how many they are
abbrev pub BytesDone : List ℕ → List ℕ → Result ℕ CallError → List ℕ → Type 0
BytesDone bytes old done new = MatchResult done
    (λ count. (count ≡ length bytes) × (length bytes ≤ length old) × (new ≡ bytes ++ drop (length bytes) old))
    (λ e. (e ≡ error.NoRoom (length bytes)) × (length old < length bytes) × (new ≡ old))

-- what is there; 75 where nothing is, and what the host had before
abbrev pub IsToldIfThere : {A : Type 0} → Option A → A → Result ℕ CallError → A → Type 0
IsToldIfThere None old done new = (done ≡ Err error.NotThere) × (new ≡ old)
IsToldIfThere (Some x) old done new = (done ≡ Ok 0) × (new ≡ x)

-- these bytes in front of an array, or how many they are; 75 not there if the thing asked for is not there
abbrev pub IsToldAsBytes : Option (List ℕ) → List ℕ → Result ℕ CallError → List ℕ → Type 0
IsToldAsBytes None old done new = (done ≡ Err error.NotThere) × (new ≡ old)
IsToldAsBytes (Some bytes) old done new = BytesDone bytes old done new

-- what is asked of a package's table; 75 not there if there is no such thing, 70 not open without a package
abbrev pub TellsOfTable : {A : Type 0} → Option Resolve → (Resolve → Option A) → A → Result ℕ CallError → A → Type 0
TellsOfTable None at old done new = (done ≡ Err error.NotOpen) × (new ≡ old)
TellsOfTable (Some r) at old done new = IsToldIfThere (at r) old done new

-- the bytes asked of a package's table, in front of an array; 75 not there, 70 not open
abbrev pub TellsName : Option Resolve → (Resolve → Option (List ℕ)) → List ℕ → Result ℕ CallError → List ℕ → Type 0
TellsName None at old done new = (done ≡ Err error.NotOpen) × (new ≡ old)
TellsName (Some r) at old done new = IsToldAsBytes (at r) old done new

-- the bytes of a name that is put together, in front of an array; 75 not there, or out of memory if it is there
abbrev pub IsToldAsNewBytes : Option (List ℕ) → List ℕ → Result ℕ CallError → List ℕ → Type 0
IsToldAsNewBytes None old done new = (done ≡ Err error.NotThere) × (new ≡ old)
IsToldAsNewBytes (Some bytes) old done new = BytesDone bytes old done new ⊎ ((done ≡ Err error.NoMemory) × (new ≡ old))

-- a name put together from a package's table, in front of an array; 75 not there, 70 not open, or out of memory
abbrev pub TellsNewName : Option Resolve → (Resolve → Option (List ℕ)) → List ℕ → Result ℕ CallError → List ℕ → Type 0
TellsNewName None at old done new = (done ≡ Err error.NotOpen) × (new ≡ old)
TellsNewName (Some r) at old done new = IsToldAsNewBytes (at r) old done new

-- Binary.md and WIT.md: a package, written as a binary, as a text and as a document.
use Rattle.std.specs.Prelude.{◌≡◌, ◌⊎◌, ℕ, List, Result, Err, Option, Some, None}
use Rattle.host_calls.specs.declared.error.CallError.{CallError}
use Rattle.host_calls.specs.declared.error.CallError.TheVariants as error
use Rattle.host_calls.specs.Told.{BytesDone}
use Rattle.opening.specs.Opening.{AreBytesOf, HasLongBinary, HasLongText, IsCanonicalText, IsWrittenAs, IsPrintedAs}
use Rattle.opening.specs.declared.package.Package.{Package}

-- bytes that `IsWritten` allows in front of an array, or how many they are; or why not, and the array is as it was
abbrev pub Writes : (List ℕ → Type 0) → (CallError → Type 0) → List ℕ → Result ℕ CallError → List ℕ → Type 0
Writes IsWritten IsTooLong old done new =
    ((bytes : List ℕ) × IsWritten bytes × BytesDone bytes old done new)
    ⊎ ((new ≡ old) × ((e : CallError) × (done ≡ Err e) × ((e ≡ error.NoMemory) ⊎ IsTooLong e)))

-- the shortest binary of the package, which opens as the same package after the same packages
abbrev pub IsBinary : Package → List ℕ → Type 0
IsBinary p bytes = AreBytesOf p.resolve bytes × ∥ IsWrittenAs bytes p.resolve ∥₁

-- the package's binary is longer than a binary may be (17)
abbrev pub IsLongBinary : Package → CallError → Type 0
IsLongBinary p e = (e ≡ error.LongBinary) × HasLongBinary p.resolve

-- the package's binary in front of an array, or why not; 70 if no package is open
abbrev pub WritesBinary : Option Package → List ℕ → Result ℕ CallError → List ℕ → Type 0
WritesBinary None old done new = (done ≡ Err error.NotOpen) × (new ≡ old)
WritesBinary (Some p) old done new = Writes (IsBinary p) (IsLongBinary p) old done new

-- the canonical text of the package, which opens as the same package after the same packages
abbrev pub IsText : Package → List ℕ → Type 0
IsText p bytes = IsCanonicalText p.resolve bytes × ∥ IsPrintedAs bytes p.resolve ∥₁

-- the package's canonical text is longer than a text may be (36)
abbrev pub AnswersLongText : Package → CallError → Type 0
AnswersLongText p e = (e ≡ error.LongText) × HasLongText p.resolve

-- the package's canonical text in front of an array, or why not; 70 if no package is open
abbrev pub WritesText : Option Package → List ℕ → Result ℕ CallError → List ℕ → Type 0
WritesText None old done new = (done ≡ Err error.NotOpen) × (new ≡ old)
WritesText (Some p) old done new = Writes (IsText p) (AnswersLongText p) old done new

-- a text of the package in front of an array, or how long it is; out of memory, or 70 if no package is open. What the text says is tested.
abbrev pub Describes : Option Package → List ℕ → Result ℕ CallError → List ℕ → Type 0
Describes None old done new = (done ≡ Err error.NotOpen) × (new ≡ old)
Describes (Some p) old done new = ((text : List ℕ) × BytesDone text old done new) ⊎ ((done ≡ Err error.NoMemory) × (new ≡ old))

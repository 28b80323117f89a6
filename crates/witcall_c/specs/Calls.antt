-- What is told of what a handle stands for: a package, why the bytes are none, or a call.
use Rattle.std.specs.Prelude.{length, ◌≡◌, ◌⊎◌, ℕ, List, Result, Ok, Err, Option, Some, None, MatchResult, if◌then◌else◌}
use Rattle.std.specs.Option.{option_map}
use Rattle.std.specs.Str.{IsUtf8}
use Rattle.c_border.specs.Functions.{OfFunction, numbered}
use Rattle.c_border.specs.Inputs.{ArePieces, AreNoPieces}
use Rattle.c_border.specs.Line.{FitsRoom}
use Rattle.c_border.specs.Modules.{OpensCarried}
use Rattle.canonical_abi.specs.Layout.{lifted_signature, lowered_signature}
use Rattle.canonical_abi.specs.Types.{FunctionType}
use Rattle.canonical_abi.specs.declared.flat.CoreKind.{CoreKind}
use Rattle.layout.specs.Layout.{AreWithin}
use Rattle.tables.specs.Closed.{IsFunction, function_type}
use Rattle.tables.specs.Names.{IsNamed}
use Rattle.tables.specs.declared.tables.Direction.{Direction}
use Rattle.tables.specs.declared.tables.FunctionId.{FunctionId}
use Rattle.tables.specs.declared.tables.Resolve.{Resolve}
use Rattle.host_calls.specs.Status.{status_of, refused, out_of_memory, no_memory}
use Rattle.host_calls.specs.declared.error.CallError.{CallError}
use Rattle.host_calls.specs.declared.error.CallError.TheVariants as error
use Rattle.host_calls.specs.declared.status.Status.{Status}
use Rattle.opening.specs.Numbers.{open_number, is_out_of_memory}
use Rattle.opening.specs.Opening.{IsOpened, OpenRefuses}
use Rattle.opening.specs.declared.indexed.IndexedPackage.{IndexedPackage}
use Rattle.opening.specs.declared.package.OpenError.{OpenError}
use Rattle.opening.specs.declared.package.Package.{Package}
use Rattle.witcall_c.specs.declared.calls.SignaturePart.{SignaturePart}
use Rattle.witcall_c.specs.declared.calls.SignaturePart.TheVariants as part
use Rattle.witcall_c.specs.declared.handle.Handle.{Handle}
use Rattle.witcall_c.specs.declared.held.Held.{Held}
use Rattle.function_index.specs.Named.{IsNamedOfWorld}

-- what opening inputs gives: a package with an index of its functions, or why they are refused
abbrev pub Opening : Type 0
Opening = Result IndexedPackage OpenError

-- these inputs are opened as this package, or refused for this reason
abbrev pub IsOpening : List (List ℕ) → Opening → Type 0
IsOpening inputs opened = MatchResult opened (λ p. IsOpened inputs p.«package».resolve) (OpenRefuses inputs)

-- the status of an opening: done, out of memory, or refused; the last two have the error's number
abbrev pub opening_status : Opening → Status
opening_status (Ok p) = status_of (Ok 0)
opening_status (Err e) = if is_out_of_memory (open_number e) then out_of_memory (open_number e) else refused (open_number e) 0

-- what a handle holds: an opening, or nothing
abbrev pub stands_for : Handle → Option Held
stands_for h = h.kept.held

-- the package that was opened, with its index, or none if the inputs were refused
abbrev pub opened_package : Opening → Option IndexedPackage
opened_package (Ok p) = Some p
opened_package (Err e) = None

-- the package that a handle holds, with its index, or none if it holds a refusal or nothing
abbrev pub held_indexed : Option Held → Option IndexedPackage
held_indexed None = None
held_indexed (Some held) = opened_package held.opened

-- the package itself
abbrev pub held_package : Option Held → Option Package
held_package held = option_map (λ p. p.«package») (held_indexed held)

-- the table of the package of a handle, if one is open
abbrev pub held_table : Option Held → Option Resolve
held_table held = option_map (λ p. p.resolve) (held_package held)

-- there is a package with this table, and it has the function of this number
abbrev pub HasFunction : Option Package → ℕ → Resolve → FunctionId → Type 0
HasFunction None number r f = ⊥
HasFunction (Some p) number r f = (r ≡ p.resolve) × (f ≡ numbered number) × IsFunction r f × ∥ AreWithin r ∥₁

-- what a call of the function of this number comes to: what the function's type tells; or 63 or 70, and nothing was changed
abbrev pub CallsFunction : Option Package → ℕ → (FunctionType → Result ℕ CallError → Type 0) → Type 0 → Result ℕ CallError → Type 0
CallsFunction opened number Tells unchanged done = OfFunction opened number (λ r f. Tells (function_type r f)) unchanged done

-- the number of the function of this name in the interface of this full name; 63 where there is none, 70 where there is no package
abbrev pub FindsFunction : Option Package → List ℕ → List ℕ → Result ℕ CallError → Type 0
FindsFunction None interface name done = done ≡ Err error.NotOpen
FindsFunction (Some p) interface name done = MatchResult done
    (λ number. IsFunction p.resolve (numbered number) × IsNamed p.resolve interface name (numbered number))
    (λ e. (e ≡ error.NoFunction) × (IsUtf8 interface → IsUtf8 name → (f : FunctionId) → ¬ IsNamed p.resolve interface name f))

-- the number of the function of this name on this side of the world of this full name; 63 where there is none, 70 where there is no package
abbrev pub FindsOfWorld : Option Package → List ℕ → Direction → List ℕ → Result ℕ CallError → Type 0
FindsOfWorld None world side name done = done ≡ Err error.NotOpen
FindsOfWorld (Some p) world side name done = MatchResult done
    (λ number. IsFunction p.resolve (numbered number) × IsNamedOfWorld p.resolve world side name (numbered number))
    (λ e. (e ≡ error.NoFunction) × (IsUtf8 world → IsUtf8 name → (f : FunctionId) → ¬ IsNamedOfWorld p.resolve world side name f))

-- of a refusal, a line that fits the array, or how long it is; of a package none, and the array is as it was
abbrev pub LineIn : Opening → List ℕ → List ℕ → Result ℕ CallError → Type 0
LineIn (Ok p) old new done = (done ≡ Ok 0) × (new ≡ old)
LineIn (Err refusal) old new done = FitsRoom (length old) done

-- the line of a handle that holds a refusal, or none of a package; 70 not open if it holds neither
abbrev pub LineOf : Option Held → List ℕ → List ℕ → Result ℕ CallError → Type 0
LineOf None old new done = (done ≡ Err error.NotOpen) × (new ≡ old)
LineOf (Some held) old new done = LineIn held.opened old new done

-- a handle stands for what it stood for, and the status tells what was done with it
abbrev pub TellsOf : Option Held → Option Held → Status → (Option Held → Result ℕ CallError → Type 0) → Type 0
TellsOf old new status Comes = (held : Option Held) × (old ≡ held) × (new ≡ held) × ((done : Result ℕ CallError) × (status ≡ status_of done) × Comes held done)

-- the handle keeps what it holds, and the status is that of a call of the function of this number
abbrev pub CallsOf : Option Held → Option Held → ℕ → Status → (FunctionType → Result ℕ CallError → Type 0) → Type 0 → Type 0
CallsOf old new number status Tells unchanged = TellsOf old new status (λ held done. CallsFunction (held_package held) number Tells unchanged done)

-- a handle holds this opening, and the status is that of it; or nothing, if there was no memory for it
abbrev pub IsHeld : Opening → Option Held → Status → Type 0
IsHeld opened None status = status ≡ no_memory
IsHeld opened (Some held) status = (held.opened ≡ opened) × (status ≡ opening_status opened)

-- a handle stands for what the inputs are opened as, and the status tells which; or for nothing, where there was no memory for it
abbrev pub Opens : List (List ℕ) → Option Held → Status → Type 0
Opens inputs None status = status ≡ no_memory
Opens inputs (Some held) status = IsOpening inputs held.opened × (status ≡ opening_status held.opened)

-- a handle holds what the packages that a binary carries are opened as, and the status tells which; or nothing, if there was no memory for it
abbrev pub OpensModule : Option Held → Status → Type 0
OpensModule None status = status ≡ no_memory
OpensModule (Some held) status = OpensCarried held.opened × (status ≡ opening_status held.opened)

-- the handle holds what the pieces of the bytes with these lengths are opened as; 74 bad lengths if there are none
abbrev pub OpensPieces : List ℕ → List ℕ → Option Held → Status → Type 0
OpensPieces bytes lengths new status =
    ((inputs : List (List ℕ)) × ArePieces bytes lengths inputs × Opens inputs new status)
    ⊎ ((new ≡ None) × ((e : CallError) × AreNoPieces bytes lengths e × (status ≡ status_of (Err e))))

-- the kinds of a part of the core signatures of a function
abbrev pub kinds_of_part : SignaturePart → FunctionType → List CoreKind
kinds_of_part part.LiftedParams f = (lifted_signature f).params
kinds_of_part part.LiftedResult f = (lifted_signature f).results
kinds_of_part part.LoweredParams f = (lowered_signature f).params
kinds_of_part part.LoweredResult f = (lowered_signature f).results

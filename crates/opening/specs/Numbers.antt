-- The numbers of the errors of a package (docs/ERRORS.md).
use Rattle.std.specs.Prelude.{ℕ, Bool, ◌||◌, ◌==◌}
use Rattle.ctype_format.specs.declared.error.BinError.{BinError}
use Rattle.ctype_format.specs.declared.error.BinError.TheVariants as binary_error
use Rattle.ctype_format.specs.declared.error.Fault.{Fault}
use Rattle.ctype_format.specs.declared.error.Fault.TheVariants as fault
use Rattle.layout.specs.declared.error.LayoutError.{LayoutError}
use Rattle.layout.specs.declared.error.LayoutError.TheVariants as layout_error
use Rattle.tables.specs.declared.error.ResolveError.{ResolveError}
use Rattle.tables.specs.declared.error.ResolveError.TheVariants as resolve_error
use Rattle.wit_tokens.specs.declared.error.TextError.{TextError}
use Rattle.wit_tokens.specs.declared.error.TextError.TheVariants as text_error
use Rattle.opening.specs.declared.package.OpenError.{OpenError}
use Rattle.opening.specs.declared.package.OpenError.TheVariants as error

-- of a text that isn't read or isn't of its grammar (WIT.md, "WIT Grammar"), and of a limit
abbrev pub text_number : TextError → ℕ
text_number (text_error.BadChar s) = 30
text_number (text_error.OpenComment s) = 31
text_number (text_error.Expected k s) = 32
text_number (text_error.Unsupported f s) = 33
text_number (text_error.Depth s) = 34
text_number text_error.NoMemory = 35
text_number text_error.Limit = 36

-- of bytes that are no component of this shape (Binary.md, "Component Definitions" to "Import and Export Definitions")
abbrev pub fault_number : Fault → ℕ
fault_number fault.NotComponent = 10
fault_number fault.Truncated = 11
fault_number (fault.BadSection n) = 12
fault_number (fault.UnknownOpcode n) = 13
fault_number (fault.Unsupported f) = 14
fault_number fault.BadIndex = 15
fault_number fault.EmptyType = 16
fault_number fault.Limit = 17
fault_number fault.SizeMismatch = 18
fault_number fault.Trailing = 19
fault_number fault.BadName = 22
fault_number fault.Overlong = 23

-- of a binary: that of its first fault, of a reader that failed, and of memory that was refused
abbrev pub binary_number : BinError → ℕ
binary_number (binary_error.At f place) = fault_number f
binary_number (binary_error.Read place) = 20
binary_number binary_error.NoMemory = 21

-- of names that don't resolve (WIT.md, "Package Names", "Item: `use`"), of a package that isn't of this shape, and of sets
abbrev pub resolve_number : ResolveError → ℕ
resolve_number (resolve_error.Duplicate n) = 40
resolve_number (resolve_error.Unknown n) = 41
resolve_number resolve_error.Cycle = 42
resolve_number resolve_error.EmptyPackage = 43
resolve_number resolve_error.NotThisShape = 44
resolve_number resolve_error.Limit = 45
resolve_number resolve_error.NoMemory = 46
resolve_number (resolve_error.NoPackage n) = 47
resolve_number (resolve_error.SamePackage n) = 48
resolve_number resolve_error.SetLimit = 49

-- of types that are too large or too deep to be laid out (CanonicalABI.md, "Element Size")
abbrev pub layout_number : LayoutError → ℕ
layout_number layout_error.TooLarge = 50
layout_number layout_error.TooDeep = 51
layout_number layout_error.NoMemory = 52

-- of inputs that aren't opened: that of the cause, and of bytes that are no UTF-8
abbrev pub open_number : OpenError → ℕ
open_number (error.Read place) = 20
open_number (error.Text e) = text_number e
open_number (error.Binary e) = binary_number e
open_number (error.Resolve e) = resolve_number e
open_number (error.Layout e) = layout_number e
open_number (error.NotUtf8 place) = 60
open_number error.NoMemory = 66

-- the numbers of out of memory: of a name, in a binary, in a text, of names, of layouts, of a memory, and elsewhere
abbrev pub is_out_of_memory : ℕ → Bool
is_out_of_memory number =
    number == 5 || (number == 21 || (number == 35 || (number == 46 || (number == 52 || (number == 54 || number == 66)))))

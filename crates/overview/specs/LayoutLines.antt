-- How a package is laid out, in lines: CanonicalABI.md, "Alignment", "Element Size" and "Flattening" of its named types and functions.
use Rattle.std.specs.Prelude.{ℕ, if◌then◌else◌, List, [], ◌++◌, flat_map, codes, Option, None, Some, slice_get}
use Rattle.std.specs.List.{join_by}
use Rattle.std.specs.Fmt.{decimal}
use Rattle.canonical_abi.specs.Layout.{size, align, CoreSignature, lifted_signature, lowered_signature}
use Rattle.canonical_abi.specs.declared.flat.CoreKind.{CoreKind}
use Rattle.canonical_abi.specs.declared.flat.CoreKind.TheVariants.{I32, I64}
use Rattle.tables.specs.Closed.{closed_type, function_at, function_type}
use Rattle.tables.specs.Names.{full_name, label_in}
use Rattle.tables.specs.Tables.{type_of}
use Rattle.tables.specs.declared.tables.TypeId.{TypeId}
use Rattle.tables.specs.declared.tables.FunctionId.{FunctionId}
use Rattle.tables.specs.declared.tables.TypeDef.{TypeDef}
use Rattle.tables.specs.declared.tables.Function.{Function}
use Rattle.tables.specs.declared.tables.ValType.TheVariants as val
use Rattle.tables.specs.declared.tables.Interface.{Interface}
use Rattle.tables.specs.declared.tables.Resolve.{Resolve}
use Rattle.package_form.specs.Closed.{own_package}
use Rattle.package_form.specs.Reached.{is_interface_of}

-- the word of a core value type
abbrev pub kind_word : CoreKind → List ℕ
kind_word I32 = codes "i32"
kind_word I64 = codes "i64"

-- the kinds in parentheses, with a space between each two
abbrev pub kinds_text : List CoreKind → List ℕ
kinds_text ks = codes "(" ++ (join_by kind_word (codes " ") ks ++ codes ")")

-- a core signature: its parameters and its results in parentheses
abbrev pub signature_text : CoreSignature → List ℕ
signature_text s = kinds_text s.params ++ (codes " -> " ++ kinds_text s.results)

-- the label of a type, or nothing if there is no type or it has no name
abbrev pub type_label : Option TypeDef → List ℕ
type_label None = []
type_label (Some d) = label_in d.name

-- the label of a function, or nothing if there is no function
abbrev pub function_label : Option Function → List ℕ
function_label None = []
function_label (Some f) = f.name

-- the line of a type: its interface's full name, its label, its size and its alignment in bytes
abbrev pub type_line : Resolve → List ℕ → TypeId → List ℕ
type_line r interface id =
    codes "type " ++ (interface ++ (codes " " ++ (type_label (type_of (slice_get r.definitions id.0))
    ++ (codes " size " ++ (decimal (size (closed_type r (val.Id id))) ++ (codes " align " ++ (decimal (align (closed_type r (val.Id id))) ++ codes "\n")))))))

-- the line of a function: its name, and its core signatures as the callee's function and as the caller's import
abbrev pub function_line : Resolve → List ℕ → FunctionId → List ℕ
function_line r interface id =
    codes "func " ++ (interface ++ (codes " " ++ (function_label (function_at r id)
    ++ (codes " lift " ++ (signature_text (lifted_signature (function_type r id)) ++ (codes " lower " ++ (signature_text (lowered_signature (function_type r id)) ++ codes "\n")))))))

-- the lines of an interface's used names, of its types, and of its functions
abbrev pub lines_of : Resolve → List ℕ → Interface → List ℕ
lines_of r name i = flat_map (type_line r name) i.uses ++ (flat_map (type_line r name) i.types ++ flat_map (function_line r name) i.functions)

-- the lines of an interface's used names, types and functions if it is of this package, or nothing
abbrev pub lines_in : Resolve → ℕ → Interface → List ℕ
lines_in r own i = if is_interface_of own i then lines_of r (full_name r i) i else []

-- the lines of the used names, types and functions of all interfaces of the last package
abbrev pub laid_out : Resolve → List ℕ
laid_out r = flat_map (lines_in r (own_package r.packages)) r.interfaces

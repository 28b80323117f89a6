-- Binary.md: a component's sections of types and exports, with custom sections among them, and a core module with such a component in it.
use Rattle.std.specs.Prelude.{ℕ, ◌-◌, ◌==◌, ◌||◌, ◌&&◌, not, false, List, [], ◌∷◌, ◌++◌, length, drop, codes, Option, Some, None, is_some, Result, Ok, Err, Bool, true, nat_lt, if◌then◌else◌}
use Rattle.std.specs.List.{starts_with}
use Rattle.std.specs.Str.{bytes_eq}
use Rattle.atoms.specs.Production.{after, give, ◌>>=◌, at_end}
use Rattle.ctype_format.specs.File.{max_scope_depth, preamble}
use Rattle.component_structure.specs.declared.error.Feature.{Feature}
use Rattle.component_structure.specs.declared.error.Feature.TheVariants.{AscribedType, Encoding, Utf16, Section}
use Rattle.component_structure.specs.declared.error.Fault.{Fault}
use Rattle.component_structure.specs.declared.error.Fault.TheVariants.{NotComponent, Outside, NameTwice, Limit, SizeMismatch, NoSection, SeveralSections, NoEncoding, BadDocs, BadProducers}
use Rattle.component_structure.specs.declared.error.DecodeError.{DecodeError}
use Rattle.component_structure.specs.declared.error.DecodeError.TheVariants as errors
use Rattle.component_structure.specs.declared.structure.ScopeId.{ScopeId}
use Rattle.component_structure.specs.declared.structure.Entry.{Entry}
use Rattle.component_structure.specs.declared.reader.Reader.{Reader}
use Rattle.component_decoding.specs.declared.file.File.{File}
use Rattle.component_decoding.specs.declared.file.Custom.{Custom}
use Rattle.component_decoding.specs.declared.file.ProducersFields.{ProducersFields}
use Rattle.component_decoding.specs.declared.file.Custom.TheVariants as customs
use Rattle.component_structure.specs.Bytes.{repeat, front_of, to_end, while_left, Bytes, at, judged, here, granted, byte, several, flag, u32, sized, name, extern_name}
use Rattle.component_structure.specs.Names.{has_name, with_name}
use Rattle.component_structure.specs.Parts.{ScopePart, Parts, scope_view, new_scope}
use Rattle.component_decoding.specs.Declarations.{Reading, decoder_view, with_begun, nothing_read, pushed, sort_of, label_at, entry_at, component_at, type}

-- what was read of a component: its own scope, the names of its exports in lower case, and all that was read
pub record FileRead : Type 0 where
  pub scope : ScopePart
  pub names : List (List ℕ)
  pub reading : Reading

-- what was read of a component in the code
abbrev pub file_view : File → FileRead
file_view f = record { scope = scope_view f.scope; names = f.names; reading = decoder_view f.decoder }

-- ---- the sections of types and of exports

-- a type of the type section, which gets the next type index
unfoldable pub component_type : ℕ → FileRead → Bytes FileRead
component_type end s = do
  place ← here end
  t ← type max_scope_depth end [] s.scope s.reading
  next ← granted (pushed place t.0 (s.scope, t.1))
  give (record { scope = next.0; names = s.names; reading = next.1 })

-- the content of a type section, number 7
unfoldable pub type_section : ℕ → FileRead → Bytes FileRead
type_section end s = do
  n ← u32 end
  repeat n (component_type end) s

-- the names with that of an export at this offset, if it differs in more than case from those before
abbrev pub export_named : ℕ → List (List ℕ) → List ℕ → Result (List (List ℕ)) DecodeError
export_named place names text = if has_name names text then Err (errors.At NameTwice place) else Ok (with_name names text)

-- the component type that an export at this offset is of, by the index at another offset; it has no type of its own
abbrev pub export_of : ℕ → ℕ → Bool → Entry → Result ScopeId DecodeError
export_of place index ascribed e = if ascribed then Err (errors.At (Outside AscribedType) place) else component_at index e

-- what was read, with an export of a component type
abbrev pub with_export : List (List ℕ) → ℕ → List ℕ → ScopeId → ScopePart × Reading → FileRead
with_export names place l scope s = record {
  scope = s.0;
  names = names;
  reading = record s.1 { parts = record s.1.parts { exports = s.1.parts.exports ++ record { place = place; name = l; scope = scope } ∷ [] } };
}

-- the name of an export at this offset, which is a label, and the names with it
unfoldable pub export_label : ℕ → ℕ → List (List ℕ) → Bytes (List ℕ × List (List ℕ))
export_label end place names = do
  text ← extern_name end
  l ← granted (label_at place text)
  next ← granted (export_named place names l)
  give (l, next)

-- what an export is: sort 3 (a type), and an index; its offset, and the entry that it stands for
unfoldable pub export_entry : ℕ → List Entry → Bytes (ℕ × Entry)
export_entry end types = do
  sort ← judged end (byte end) sort_of
  index ← here end
  e ← entry_at end types
  give (index, e)

-- an export of Binary.md: a label and a component type, which gets one more index, and no ascribed type
unfoldable pub export : ℕ → FileRead → Bytes FileRead
export end s = do
  place ← here end
  l ← export_label end place s.names
  e ← export_entry end s.scope.types
  ascribed ← flag end
  scope ← granted (export_of place e.0 ascribed e.1)
  next ← granted (pushed place e.1 (s.scope, s.reading))
  give (with_export l.1 place l.0 scope next)

-- the content of an export section, number 11
unfoldable pub export_section : ℕ → FileRead → Bytes FileRead
export_section end s = do
  n ← u32 end
  repeat n (export end) s

-- ---- custom sections

-- the custom section of this name
abbrev pub custom_of : List ℕ → Custom
custom_of text =
    if bytes_eq text (codes "wit-component-encoding") then customs.Encoding
    else (if bytes_eq text (codes "package-docs") then customs.Docs
    else (if bytes_eq text (codes "producers") then customs.Producers else customs.Other))

-- what was read, of a file that says that it encodes one world
abbrev pub with_world : FileRead → FileRead
with_world s = record s { reading = record s.reading { parts = record s.reading.parts { is_world = true } } }

-- what is wrong with the version and the encoding of strings: 4 and UTF-8 (0) are read
abbrev pub encoding_fault : List ℕ → Option Feature
encoding_fault (version ∷ strings ∷ []) = if version == 4 then (if strings == 0 then None else Some Utf16) else Some Encoding
encoding_fault _ = Some Encoding

-- what was read, with the content of a section `wit-component-encoding` behind its name
abbrev pub encoded : ℕ → FileRead → List ℕ → Option Feature → Result FileRead DecodeError
encoded end s content None = Ok (with_world s)
encoded end s content (Some feature) = Err (at end (Outside feature) content)

-- what was read, with comments of this version at this offset: there are none yet, and the version is 0 or 1
abbrev pub documented : ℕ → FileRead → ℕ → List ℕ → Result FileRead DecodeError
documented place s version json =
    if nat_lt 1 version || is_some s.reading.parts.docs then Err (errors.At BadDocs place)
    else Ok (record s { reading = record s.reading { parts = record s.reading.parts { docs = Some (record { place = place; json = json }) } } })

-- what was read, with the content of a section `package-docs` behind its name
abbrev pub documented_by : ℕ → FileRead → List ℕ → Result FileRead DecodeError
documented_by end s content = after ((byte end).read content) (λ x. documented (end - length content) s x.0 x.1)

-- a name and a version
unfoldable pub version : ℕ → ℕ → Bytes ℕ
version end before = do
  tool ← name end
  number ← name end
  give before

-- no field of a section `producers` was read
abbrev pub no_fields : ProducersFields
no_fields = record { language = false; processed_by = false; sdk = false }

-- the fields with one of this name at this offset: a known one that was not read before
abbrev pub with_field : ℕ → List ℕ → ProducersFields → Result ProducersFields DecodeError
with_field place text f =
    if bytes_eq text (codes "language") && not f.language then Ok (record f { language = true })
    else (if bytes_eq text (codes "processed-by") && not f.processed_by then Ok (record f { processed_by = true })
    else (if bytes_eq text (codes "sdk") && not f.sdk then Ok (record f { sdk = true }) else Err (errors.At BadProducers place)))

-- a field of a section `producers`: a name, and so many names and versions
unfoldable pub producer : ℕ → ProducersFields → Bytes ProducersFields
producer end fields = do
  place ← here end
  text ← name end
  next ← granted (with_field place text fields)
  n ← u32 end
  versions ← repeat n (version end) 0
  give next

-- the content of a section `producers` behind its name, of which 0 is the value
unfoldable pub producers : ℕ → Bytes ℕ
producers end = do
  n ← u32 end
  all ← repeat n (producer end) no_fields
  at_end (at end SizeMismatch)

-- what was read, with the content of a custom section behind its name
abbrev pub with_custom : ℕ → FileRead → Custom → List ℕ → Result FileRead DecodeError
with_custom end s customs.Encoding content = encoded end s content (encoding_fault content)
with_custom end s customs.Docs content = documented_by end s content
with_custom end s customs.Producers content = after ((producers end).read content) (λ x. Ok s)
with_custom end s customs.Other content = Ok s

-- what was read, with the content of a custom section
unfoldable pub custom : ℕ → FileRead → List ℕ → Result FileRead DecodeError
custom end s content = after ((name end).read content) (λ x. with_custom end s (custom_of x.0) x.1)

-- ---- sections

-- what was read, with the content of a section of this number at this offset; the content ends at `end`
unfoldable pub section_content : ℕ → ℕ → ℕ → FileRead → List ℕ → Result FileRead DecodeError
section_content place id end s content =
    if id == 0 then custom end s content
    else (if id == 7 then front_of (to_end end (type_section end s)) content
    else (if id == 11 then front_of (to_end end (export_section end s)) content
    else Err (errors.At (Outside (Section id)) place)))

-- a section: its number, its size, and its content
unfoldable pub section : ℕ → FileRead → Bytes FileRead
section end s = do
  place ← here end
  id ← byte end
  content ← sized end
  within ← here end
  granted (section_content place id within s content)

-- the bytes that a component may have behind its preamble
abbrev pub max_length : ℕ
max_length = 1048576

-- a component of which nothing was read but that it begins
abbrev pub no_file : FileRead
no_file = record { scope = new_scope 0; names = []; reading = with_begun nothing_read }

-- what is read of the sections of a component
abbrev pub sections : ℕ → List ℕ → Result (FileRead × List ℕ) DecodeError
sections end bytes = while_left (section end) no_file bytes

-- what the bytes behind a component's preamble have
unfoldable pub component : ℕ → List ℕ → Result Parts DecodeError
component end bytes = if nat_lt max_length (length bytes) then Err (at end Limit bytes) else after (sections end bytes) (λ x. Ok x.0.reading.parts)

-- ---- core modules

-- bytes, and the offset of the file at which they end
pub record Content : Type 0 where
  pub bytes : List ℕ
  pub end : ℕ

-- what is left of some bytes in the code
abbrev pub content_view : Reader → Content
content_view r = record { bytes = r.rest.now; end = r.end }

-- the name begins with `component-type`
abbrev pub is_component_type : List ℕ → Bool
is_component_type text = starts_with (λ a b. a == b) text (codes "component-type")

-- what stands behind the name of a custom section, if the name begins with `component-type`
abbrev pub named_content : ℕ → List ℕ × List ℕ → Option Content
named_content end x = if is_component_type x.0 then Some (record { bytes = x.1; end = end }) else None

-- what a section of this number and with this content has of a component
abbrev pub component_in : ℕ → ℕ → List ℕ → Result (Option Content) DecodeError
component_in id end content = if id == 0 then after ((name end).read content) (λ x. Ok (named_content end x)) else Ok None

-- a section of a core module, and what it has of a component
unfoldable pub module_section : ℕ → Bytes (Option Content)
module_section end = do
  id ← byte end
  content ← sized end
  within ← here end
  granted (component_in id within content)

-- the component of a module, by what was found before and what a section has: the same one may stand twice
abbrev pub one_of_both : Option Content → Option Content → Result (Option Content) DecodeError
one_of_both found None = Ok found
one_of_both None (Some x) = Ok (Some x)
one_of_both (Some first) (Some x) = if bytes_eq first.bytes x.bytes then Ok (Some first) else Err (at x.end SeveralSections x.bytes)

-- one more section of a core module
unfoldable pub more_module : ℕ → Option Content → Bytes (Option Content)
more_module end found = do
  x ← module_section end
  granted (one_of_both found x)

-- the component of a core module, which has to have one
abbrev pub some_content : ℕ → List ℕ → Option Content → Result Content DecodeError
some_content end bytes None = Err (at end NoSection bytes)
some_content end bytes (Some x) = Ok x

-- the content of the section of a core module that is a component, by the bytes behind the module's preamble
unfoldable pub content_of_module : ℕ → List ℕ → Result Content DecodeError
content_of_module end bytes = after (while_left (more_module end) None bytes) (λ x. some_content end x.1 x.0)

-- the preamble of a core module: magic `\0asm`, version 1
abbrev pub module_preamble : List ℕ
module_preamble = 0x00 ∷ 0x61 ∷ 0x73 ∷ 0x6d ∷ 0x01 ∷ 0x00 ∷ 0x00 ∷ 0x00 ∷ []

-- what a component has that says that it encodes a world
abbrev pub world_of : ℕ → Parts → Result Parts DecodeError
world_of place parts = if parts.is_world then Ok parts else Err (errors.At NoEncoding place)

-- the preamble of the component in a core module
abbrev pub preamble_of : List ℕ → Result ℕ Fault
preamble_of bytes = if bytes_eq bytes preamble then Ok 0 else Err NotComponent

-- what the component in a core module has: its preamble, and what says that it encodes a world
unfoldable pub component_of_module : Content → Result Parts DecodeError
component_of_module x =
    after ((judged x.end (several x.end 8) preamble_of).read x.bytes) (λ y. after (component x.end y.1) (λ parts. world_of (x.end - length x.bytes) parts))

-- what the bytes behind a core module's preamble have
abbrev pub module_parts : ℕ → List ℕ → Result Parts DecodeError
module_parts end bytes = after (content_of_module end bytes) component_of_module

-- what a file has: a component, or a core module with a component in it
unfoldable pub decoded : List ℕ → Result Parts DecodeError
decoded bytes =
    if starts_with (λ a b. a == b) bytes preamble then component (length bytes) (drop 8 bytes)
    else (if starts_with (λ a b. a == b) bytes module_preamble then module_parts (length bytes) (drop 8 bytes)
    else Err (errors.At NotComponent 0))

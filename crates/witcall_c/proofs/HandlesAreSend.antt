-- A handle may go to another thread: nothing that it owns is of one thread. A type as an argument has its row, as a field that of its parts.
use base.Shift.{Keyless}
use denote.Memory.{lone}
use denote.Param.Send.{IsSend, sendable, owning_send}
use denote.RattleType.{RattleType}
use denote.RawPtr.{Ptr}
use mir.Raw.{raw}
use Rattle.atoms.specs.contracts.label.Label as label
use Rattle.ctype_format.specs.contracts.error.BinError as bin_error
use Rattle.layout.specs.contracts.error.LayoutError as layout_error
use Rattle.layout.specs.contracts.layouts.Layouts as layouts
use Rattle.layout.specs.contracts.packed_kinds.PackedKinds as packed_kinds
use Rattle.layout.specs.contracts.parts.Head as head
use Rattle.layout.specs.contracts.parts.PartsTable as parts
use Rattle.layout.specs.contracts.queries.FieldInfo as field_info
use Rattle.layout.specs.contracts.rows.Row as row
use Rattle.witcall_c.proofs.IndexSent.{index-send}
use Rattle.opening.specs.contracts.indexed.IndexedPackage as indexed
use Rattle.opening.specs.contracts.package.OpenError as open_error
use Rattle.opening.specs.contracts.package.Package as opened
use Rattle.std.proofs.Crossing.{crosses, frees, Vec-send}
use Rattle.std.proofs.MapsCrossing.{String-send}
use Rattle.std.specs.Prelude.{Option, Some, None}
use Rattle.std_alloc.proofs.SendSync.{lies}
use Rattle.tables.specs.contracts.error.ResolveError as resolve_error
use Rattle.tables.specs.contracts.name.Name as name
use Rattle.tables.specs.contracts.sequence.Sequence as sequence
use Rattle.tables.specs.contracts.tables.Case as case
use Rattle.tables.specs.contracts.tables.Definition as definition
use Rattle.tables.specs.contracts.tables.Field as field
use Rattle.tables.specs.contracts.tables.Function as function
use Rattle.tables.specs.contracts.tables.FunctionId as function_id
use Rattle.tables.specs.contracts.tables.Interface as interface
use Rattle.tables.specs.contracts.tables.PackageName as package_name
use Rattle.tables.specs.contracts.tables.Parameter as parameter
use Rattle.tables.specs.contracts.tables.Resolve as resolve
use Rattle.tables.specs.contracts.tables.TypeDef as type_def
use Rattle.tables.specs.contracts.tables.TypeDefKind as kind
use Rattle.tables.specs.contracts.tables.TypeId as type_id
use Rattle.tables.specs.contracts.tables.TypeName as type_name
use Rattle.tables.specs.contracts.tables.ValType as val
use Rattle.tables.specs.contracts.tables.World as world
use Rattle.tables.specs.contracts.tables.WorldItem as item
use Rattle.wit_tokens.specs.contracts.error.TextError as text_error
use Rattle.witcall_c.specs.Handle.{boxes, holds}
use Rattle.witcall_c.specs.contracts.held.Held as held
use Rattle.witcall_c.specs.contracts.kept.Kept as kept
use Rattle.witcall_c.specs.declared.held.Held.{Held}

-- ---- what stands in a table

label-send : IsSend label.the_row
label-send = search (sendable, crosses) depth 40

sequence-send : (T : RattleType) → IsSend T → IsSend (sequence.the_row T)
sequence-send T s = let v = Vec-send T s in search sendable depth 80 fits 20000

name-send : IsSend name.the_row
name-send = search (sendable, crosses) depth 60 fits 20000

type_id-send : IsSend type_id.the_row
type_id-send = search sendable depth 80 fits 20000

function_id-send : IsSend function_id.the_row
function_id-send = search sendable depth 80 fits 20000

val-send : IsSend val.the_row
val-send = search sendable depth 80 fits 20000

item-send : IsSend item.the_row
item-send = search sendable depth 80 fits 20000

field-send : IsSend field.the_row
field-send = let l = label-send in let v = val-send in search sendable depth 80 fits 20000

case-send : IsSend case.the_row
case-send = let l = label-send in let v = val-send in search sendable depth 80 fits 20000

parameter-send : IsSend parameter.the_row
parameter-send = let l = label-send in let v = val-send in search sendable depth 80 fits 20000

package_name-send : IsSend package_name.the_row
package_name-send = let l = label-send in let s = String-send in search sendable depth 80 fits 20000

kind-field : IsSend (kind.the_field).row
kind-field =
    let v = val-send in let t = type_id-send in let a = sequence-send val.the_row val-send in let b = sequence-send field.the_row field-send in
    let c = sequence-send case.the_row case-send in let d = sequence-send label.the_row label-send in search sendable depth 80 fits 20000

type_name-send : IsSend type_name.the_row
type_name-send = let l = label-send in search sendable depth 80 fits 20000

type_def-field : IsSend (type_def.the_field).row
type_def-field = let n = type_name-send in let k = kind-field in search sendable depth 80 fits 20000

function-field : IsSend (function.the_field).row
function-field = let l = label-send in let v = val-send in let a = sequence-send parameter.the_row parameter-send in search sendable depth 80 fits 20000

definition-send : IsSend definition.the_row
definition-send = let a = type_def-field in let b = function-field in search sendable depth 80 fits 20000

interface-send : IsSend interface.the_row
interface-send = let l = label-send in let a = sequence-send type_id.the_row type_id-send in let b = sequence-send function_id.the_row function_id-send in search sendable depth 80 fits 20000

world-send : IsSend world.the_row
world-send = let l = label-send in let a = sequence-send item.the_row item-send in search sendable depth 80 fits 20000

sequence-field : (T : RattleType) → IsSend T → IsSend (sequence.the_field T).row
sequence-field T s = let v = Vec-send T s in search sendable depth 20

resolve-field : IsSend (resolve.the_field).row
resolve-field =
    let a = sequence-field package_name.the_row package_name-send in let b = sequence-field interface.the_row interface-send in
    let c = sequence-field world.the_row world-send in let d = sequence-field definition.the_row definition-send in search sendable depth 80 fits 20000

-- ---- layouts

packed_kinds-send : IsSend packed_kinds.the_row
packed_kinds-send = search (sendable, crosses) depth 40

row-send : IsSend row.the_row
row-send = search (sendable, crosses) depth 60

head-send : IsSend head.the_row
head-send = search (sendable, crosses) depth 60

field_info-send : IsSend field_info.the_row
field_info-send = search (sendable, crosses) depth 60

parts-field : IsSend (parts.the_field).row
parts-field = let a = Vec-send head.the_row head-send in let b = Vec-send field_info.the_row field_info-send in search (sendable, crosses, val-send) depth 60

layouts-field : IsSend (layouts.the_field).row
layouts-field = let a = Vec-send row.the_row row-send in let b = Vec-send packed_kinds.the_row packed_kinds-send in let c = parts-field in search sendable depth 60

-- ---- a package, and why there is none

opened-field : IsSend (opened.the_field).row
opened-field = let a = resolve-field in let b = layouts-field in search sendable depth 60 fits 20000

indexed-send : IsSend indexed.the_row
indexed-send = let a = opened-field in let b = index-send in search sendable depth 60 fits 20000

layout_error-field : IsSend (layout_error.the_field).row
layout_error-field = search sendable depth 80 fits 20000

text_error-field : IsSend (text_error.the_field).row
text_error-field = search sendable depth 80 fits 20000

bin_error-field : IsSend (bin_error.the_field).row
bin_error-field = search sendable depth 80 fits 20000

resolve_error-field : IsSend (resolve_error.the_field).row
resolve_error-field = let a = name-send in let b = label-send in let d = package_name-send in search sendable depth 80 fits 20000

open_error-send : IsSend open_error.the_row
open_error-send = let a = text_error-field in let b = bin_error-field in let c = resolve_error-field in let d = layout_error-field in search sendable depth 80 fits 20000

-- ---- what a handle owns

pub held-send : IsSend held.the_row
held-send = let a = indexed-send in let b = open_error-send in search sendable depth 80 fits 20000

box-Keyless : (p : Ptr) (h : Held) → Keyless (boxes p h)
box-Keyless p h = λ from. (lies held.the_row held-send p h, frees.frees from (raw (lone held.the_row.mir)) p)

holds-Keyless : (p : Ptr) (k : Option Held) → Keyless (holds p k)
holds-Keyless p None = tt
holds-Keyless p (Some h) = box-Keyless p h

pub kept-send : IsSend kept.the_row
kept-send = owning_send kept.the_type (search sendable, tt) (λ d. holds-Keyless d.at d.held) (λ k x w. tt)

-- An index may go to another thread: its maps are vectors, and nothing in them is of one thread.
use denote.RattleType.{RattleType}
use denote.Param.Send.{IsSend, sendable}
use Rattle.atoms.specs.contracts.key.KeyedState as keyed
use Rattle.std.specs.declared.cmp.PartialEq as eq
use Rattle.std.specs.declared.hash.Hash as hash
use Rattle.std.specs.declared.hash.Hasher as hasher
use Rattle.std.specs.declared.hash.BuildHasher as builder
use Rattle.indexmap.specs.contracts.columns.Columns as columns
use Rattle.indexmap.specs.contracts.index_table.Bucket as bucket
use Rattle.indexmap.specs.contracts.index_table.IndexTable as table
use Rattle.indexmap.specs.contracts.index_table.group.Group as group
use Rattle.indexmap.specs.contracts.map.IndexMap as map
use Rattle.std.proofs.Crossing.{Vec-send}
use Rattle.std.proofs.MapsCrossing.{String-send}
use Rattle.std.specs.contracts.alloc.Global as Heap
use Rattle.std.specs.contracts.impls.GlobalAllocator.TheImpl.{ghosts}
use Rattle.tables.specs.contracts.tables.FunctionId as function_id
use Rattle.function_index.specs.contracts.index.FunctionIndex as index
use Rattle.function_index.specs.contracts.names.NamedFunctions as named

columns-send : (K V : RattleType) → IsSend K → IsSend V → IsSend (columns.the_field K V Heap.the_row ghosts).row
columns-send K V k v = let a = Vec-send K k in let b = Vec-send V v in search sendable depth 20

table-send : IsSend (table.the_field Heap.the_row ghosts).row
table-send =
    let a = Vec-send group.the_row (search sendable depth 20) in
    let b = Vec-send bucket.the_row (search sendable depth 20) in
    search sendable depth 20

module _ (K V S T : RattleType) (e : eq.Ghosts K.Denot) (h : hash.Ghosts K.Denot) (b : builder.Ghosts S.Denot T.Denot) (w : hasher.Ghosts T.Denot) where
  map-send : IsSend K → IsSend V → IsSend S → IsSend (map.the_field K V S Heap.the_row T e h b w ghosts).row
  map-send k v s = let c = columns-send K V k v in let t = table-send in search sendable depth 20

keyed-send : IsSend keyed.the_row
keyed-send = search sendable depth 80

function_id-send : IsSend function_id.the_row
function_id-send = search sendable depth 80

named-send : IsSend named.the_row
named-send = let k = String-send in let v = function_id-send in let s = keyed-send in search (map-send, sendable) depth 40

pub index-send : IsSend (index.the_field).row
index-send = let k = String-send in let v = named-send in let s = keyed-send in search (map-send, sendable) depth 40

-- The return area's address stands behind the flat values of the arguments.
use Rattle.std.proofs.Common.{ap₂, refl}
use Rattle.canonical_abi.specs.Layout.{lifted_signature}
use Rattle.tables.specs.Closed.{function_type}
use Rattle.memory.specs.declared.block.Block.{Block}
use Rattle.adapter.proofs.FunctionsInLayouts.{function-stands}
use Rattle.adapter.proofs.CallFromItsWays.{area-is}
use Rattle.host_calls.proofs.area.return_area.Goals as goal

pub lifted_count-count-requires : goal.lifted_count-count-requires
lifted_count-count-requires c = function-stands c.args.types.now c.layouts.result.now c.args.func c.layouts.ensures c.requires.function

pub returns : goal.returns
returns c =
    let r = c.args.types.now in
    let f = function_type r c.args.func in
    let at = area-is f c.args.flats.now c.address_behind.result c.lifted_count-count.result (lifted_signature f) c.address_behind.ensures (c.lifted_count-count.ensures r c.layouts.ensures c.requires.function) refl in
    let block : _ → _ → Block = λ size at. record { align = 1; size = size; at = at } in
    ap₂ block c.area_len.ensures at

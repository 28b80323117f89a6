use Rattle.std.proofs.Common.{map}
use Rattle.canonical_abi.specs.Storing.{EachStores, Stores}
use Rattle.canonical_abi.specs.Types.{string_type}
use Rattle.lift_lower.specs.Scripts.{IsBegun}
use Rattle.values.specs.Val.{value_of}
use Rattle.lift_lower.proofs.StoredFromParts.{ItemsFrom}
use Rattle.lift_lower.proofs.storing.store_texts.Given as goal

abbrev pub invariant-loop-index : goal.invariant-loop-index
invariant-loop-index g l =
    let vs = map value_of l.items in
    IsBegun l.limit g.G.Guest.allocates (EachStores (Stores string_type) 8 l.start vs) (ItemsFrom string_type l.start vs l.index) (g.G.Guest.memory l.initial.guest) (g.G.Guest.memory l.guest)

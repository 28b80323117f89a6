use Rattle.std.proofs.Common.{IfSome, subst}
use Rattle.values.specs.Types.{IsInside}
use Rattle.adapter.proofs.FunctionsInLayouts.{result-inside}
use Rattle.adapter.proofs.plain.is_plain_result.Goals as goal

pub primitive_of-requires : goal.primitive_of-requires
primitive_of-requires c =
    let r = c.args.types.now in
    let s = c.signature.result.now in
    subst (λ o. IfSome o (IsInside r)) c.in-Some.is (result-inside r c.args.func c.requires s (rw c.resolve.ensures at c.signature.ensures))

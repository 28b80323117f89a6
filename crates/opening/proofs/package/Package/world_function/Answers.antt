-- The table is the package's own.
use Rattle.std.proofs.Common.{IfNone, subst}
use Rattle.tables.specs.declared.tables.FunctionId.{FunctionId}
use Rattle.tables.specs.declared.tables.Resolve.{Resolve}
use Rattle.function_index.specs.Named.{IsNamedOfWorld}
use Rattle.opening.proofs.package.Package.world_function.Goals as goal

pub returns-clause-none : goal.returns-clause-none
returns-clause-none c =
    subst (λ (s : Resolve). IfNone c.world_function.result ((f : FunctionId) → ¬ IsNamedOfWorld s c.args.world.now c.args.side c.args.name.now f)) c.resolve.ensures c.world_function.ensures.none

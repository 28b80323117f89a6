use Rattle.std.proofs.Common.{sym, length}
use Rattle.tables.specs.Closed.{closed_types}
use Rattle.values.proofs.TypesShapes.{field-Tuple, below-Tuple}
use Rattle.values.proofs.types.Types.member_type.Goals as goal

pub returns-in-Listed-clause-found : goal.returns-in-Listed-clause-found
returns-in-Listed-clause-found c = rw (c.type_at.ensures, c.in-Listed.is) (sym (field-Tuple (closed_types c.args.self.now) c.in-Listed.types.now c.args.index))

pub returns-in-Listed-clause-inside : goal.returns-in-Listed-clause-inside
returns-in-Listed-clause-inside c = rw c.type_at.ensures (below-Tuple (length c.args.self.now.definitions) c.in-Listed.types.now c.args.index (rw c.in-Listed.is at c.requires))

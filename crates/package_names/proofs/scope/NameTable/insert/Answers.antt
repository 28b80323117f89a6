use Rattle.std.specs.String.{string_bytes}
use Rattle.package_names.proofs.NamesMetBefore.{new-where, met-where}
use Rattle.package_names.proofs.scope.NameTable.insert.Goals as goal

pub returns-clause-new : goal.returns-clause-new
returns-clause-new c = new-where string_bytes (string_bytes c.args.name) c.self.inside.met.keys _ c.in_ok-insert.field-0 c.in_ok-insert.ensures.added c.self.view_is

pub returns-clause-met_before : goal.returns-clause-met_before
returns-clause-met_before c = met-where string_bytes (string_bytes c.args.name) c.self.inside.met.keys _ c.in_ok-insert.field-0 c.in_ok-insert.ensures.added c.self.view_is

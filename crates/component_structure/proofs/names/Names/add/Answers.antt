use Rattle.std.specs.String.{string_bytes}
use Rattle.component_structure.proofs.NamesInOrder.{is_new, are_with}
use Rattle.component_structure.proofs.names.Names.add.Goals as goal

pub returns-clause-new : goal.returns-clause-new
returns-clause-new c = is_new (λ k. string_bytes k) c.self.inside.lower.keys c.in_ok-to_ascii_lowercase.field-0 c.args.self.now c.args.name.now c.in_ok-insert.field-0 c.in_ok-insert.ensures.added c.self.view_is c.in_ok-to_ascii_lowercase.ensures.ok

pub returns-clause-names : goal.returns-clause-names
returns-clause-names c = are_with (λ k. string_bytes k) c.self.inside.lower.keys c.insert.new.self.keys c.in_ok-to_ascii_lowercase.field-0 c.args.self.now c.args.name.now c.in_ok-insert.ensures.keys c.self.view_is c.in_ok-to_ascii_lowercase.ensures.ok

use Rattle.std.proofs.Common.{refl}
use Rattle.std.specs.String.{string_bytes}
use Rattle.component_structure.proofs.Kept.{entry_put}
use Rattle.component_structure.proofs.structure.Scope.export_type.Goals as goal

pub returns : goal.returns
returns c = rw (c.in_ok-insert.ensures.entries, entry_put (λ t. string_bytes t) c.args.self.now.exported_types.entries c.in_ok-text.text c.args.id, c.in_ok-text.ensures.ok) refl

use Rattle.std.proofs.Common.{refl}
use Rattle.std.specs.String.{string_bytes}
use Rattle.component_structure.proofs.Kept.{entry_put}
use Rattle.core_modules.proofs.module.CoreModule.export.Goals as goal

pub returns : goal.returns
returns c = rw (c.in_ok-insert.ensures.entries, entry_put (λ t. string_bytes t) c.args.self.now.exports.entries c.in_ok-text.text c.args.item, c.in_ok-text.ensures.ok) refl

use Rattle.std.proofs.Common.{◌∙◌, ◌++◌, ap, List, ℕ}
use Rattle.std.proofs.Math.Logic.{∥∥₁_map}
use Rattle.ctype_bin.specs.FileView.{raw_component_view}
use Rattle.ctype_bin.proofs.DecodesByProductions.{written_bytes}
use Rattle.ctype_bin.proofs.encoding.encode.Goals as goal

pub returns-in-Ok-extend_from_slice-clause-ok : goal.returns-in-Ok-extend_from_slice-clause-ok
returns-in-Ok-extend_from_slice-clause-ok c =
    ∥∥₁_map c.args.component.now.spellable (λ s. written_bytes (raw_component_view c.args.component.now) s c.args.out.now.items c.extend_from_slice.new.self.items
    (c.in-Ok-extend_from_slice.ensures.items ∙ ap (λ (l : List ℕ). c.args.out.now.items ++ l) (rw c.as_slice.ensures.value (rw (c.types.ensures, c.exports.ensures) at c.in-Ok.ensures.bytes))))

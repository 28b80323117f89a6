use Rattle.std.proofs.Math.Logic.{∥∥₁_elim}
use Rattle.ctype_bin.specs.FileView.{raw_component_view}
use Rattle.ctype_bin.proofs.SpeltIndicesAreInRange.{file_in_range, prop_file}
use Rattle.ctype_bin.proofs.laws.indices_are_in_range.Goals as goal

pub returns-clause-files : goal.returns-clause-files
returns-clause-files c = file_in_range

pub returns-clause-components : goal.returns-clause-components
returns-clause-components c = λ raw. ∥∥₁_elim raw.spellable (prop_file (raw_component_view raw)) (λ s. file_in_range s.0 (raw_component_view raw) s.1)

use Rattle.std.proofs.Common.{sym, ◌∙◌}
use Rattle.std.specs.Ordering.{is_eq, nat_cmp}
use Rattle.std.specs.Cmp.Lexicographic.{slice_cmp}
use Rattle.std.specs.String.{string_bytes}
use Rattle.component_structure.proofs.Kept.{found_mapped}
use Rattle.core_modules.proofs.module.CoreModule.exported.Goals as goal

pub returns : goal.returns
returns c = c.copied.ensures ∙ c.get.ensures.value ∙ sym (found_mapped (λ t. string_bytes t) (λ key. is_eq (slice_cmp nat_cmp c.args.name.now key)) c.args.self.now.exports.entries)

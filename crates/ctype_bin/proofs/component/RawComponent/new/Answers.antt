use Rattle.std.proofs.Common.{◌≡◌, ◌∙◌, arith}
use Rattle.std.proofs.lemmas.Grind.{common_steps}
use Rattle.ctype_bin.specs.Parts.{ComponentRefuses}
use Rattle.ctype_format.specs.View.{parts_file}
use Rattle.ctype_format.specs.Writing.{file_bytes}
use Rattle.ctype_format.specs.Formed.{FormedFile}
use Rattle.ctype_bin.proofs.WrittenComponentsAreReadBack.{only_memory}
use Rattle.ctype_bin.proofs.component.RawComponent.new.Goals as goal

pub of-requires : goal.of-requires
of-requires c =
    c.in_ok-reread.ensures (parts_file c.args.types c.args.exports) (c.as_slice-3.ensures.value ∙ rw (c.as_slice.ensures.value, c.as_slice-2.ensures.value) at c.in-Ok.ensures.bytes) (rw (c.as_slice.ensures.value, c.as_slice-2.ensures.value) at c.in-Ok.ensures.formed)

pub returns-in_err-reread-clause-accepted : goal.returns-in_err-reread-clause-accepted
returns-in_err-reread-clause-accepted c =
    let formed : FormedFile (parts_file c.args.types c.args.exports) = rw (c.as_slice.ensures.value, c.as_slice-2.ensures.value) at c.in-Ok.ensures.formed in
    let bytes : c.as_slice-3.result.now ≡ file_bytes (parts_file c.args.types c.args.exports) = c.as_slice-3.ensures.value ∙ rw (c.as_slice.ensures.value, c.as_slice-2.ensures.value) at c.in-Ok.ensures.bytes in
    let told : ComponentRefuses (parts_file c.args.types c.args.exports) c.in_err-reread.field-0.0 = c.in_err-reread.ensures (parts_file c.args.types c.args.exports) bytes formed in
    λ accepted. let memory = only_memory (parts_file c.args.types c.args.exports) c.in_err-reread.field-0.0 formed accepted told in grind (arith, common_steps, memory)

use Rattle.std.proofs.Common.{◌∙◌, ap, sym}
use Rattle.component_decoding.specs.File.{decoded}
use Rattle.component_structure.specs.Parts.{structure_view}
use Rattle.module_worlds.proofs.encoded_packages.bytes.world_bytes.Goals as goal

pub returns-then-branch : goal.returns-then-branch
returns-then-branch c =
    let parts = structure_view c.in_ok-structure.structure in
    (parts, ap decoded (sym c.as_slice.ensures.value) ∙ c.in_ok-structure.ensures, c.in_ok-has_world.ensures c.if-branch.true)

use Rattle.std.proofs.Common.{refl, arith}
use Rattle.ctype_format.specs.declared.error.Stuck.TheVariants.{End, At, Past}
use Rattle.ctype_format.specs.File.{component_file}
use Rattle.ctype_format.specs.View.{parts_file}
use Rattle.ctype_bin.proofs.WrittenComponentsAreReadBack.{stopped_at, made, no_end, no_past, wrong}
use Rattle.ctype_bin.proofs.component.reread.Goals.{in-Ok, in-Err-Memory, in-Err-Stuck-At}
use Rattle.ctype_bin.proofs.component.reread.Goals as goal

pub returns : goal.returns
returns c =
    elim c.match-parts_of.branch [
      | in-Ok w ↦ rw w.result-is (λ f written formed. ∣ made f c.args.bytes.now written formed (parts_file w.in-Ok.field-0.0 w.in-Ok.field-0.1) (λ i. omega (arith, c.type_inv.bytes i)) w.in-Ok.ensures ∣₁)
      | in-Err-Memory w ↦ rw w.result-is (λ f written formed. tt)
      | in-Err-Stuck-At w ↦
          let s = w.in-Err-Stuck-At in
          rw w.result-is (λ f written formed. (
            refl,
            wrong f c.args.bytes.now written formed s.fault s.field-0-0-1 (λ i. omega (arith, c.type_inv.bytes i))
                (stopped_at s.field-0 s.field-0-0 (At s.fault s.field-0-0-1) (component_file.read c.args.bytes.now) s.field-0-is s.field-0-0-is s.ensures),
          ))
    ]

pub unreachable-requires : goal.unreachable-requires
unreachable-requires c =
    let s = c.in-Err-Stuck-End in
    no_end c.requires.0 c.args.bytes.now c.requires.1 c.requires.2 (stopped_at s.field-0 s.field-0-0 End (component_file.read c.args.bytes.now) s.field-0-is s.field-0-0-is s.ensures)

pub unreachable-requires-in-Err-Stuck-Past : goal.unreachable-requires-in-Err-Stuck-Past
unreachable-requires-in-Err-Stuck-Past c =
    let s = c.in-Err-Stuck-Past in
    no_past c.requires.0 c.args.bytes.now c.requires.1 c.requires.2 s.field-0-0-0 (stopped_at s.field-0 s.field-0-0 (Past s.field-0-0-0) (component_file.read c.args.bytes.now) s.field-0-is s.field-0-0-is s.ensures)

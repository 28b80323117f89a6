use Rattle.tables.specs.declared.tables.Case.{Case}
use Rattle.layout.proofs.StepsSumOverDefinitions.{count-payloads, count-none}
use Rattle.layout.proofs.parts.PartsTable.lay_kind.Goals as goal

pub returns-in-Variant-clause-steps : goal.returns-in-Variant-clause-steps
returns-in-Variant-clause-steps c =
    rw c.in-Variant.is (rw (c.as_slice-in-Variant.ensures, count-payloads c.args.rows.now.items (λ (x : Case). x.ty)) at c.lay_variant-in-Variant.ensures.steps)

pub returns-in-Enum-clause-steps : goal.returns-in-Enum-clause-steps
returns-in-Enum-clause-steps c =
    rw c.in-Enum.is (rw (c.as_slice-in-Enum.ensures, count-none c.args.rows.now.items) at c.lay_variant-in-Enum.ensures.steps)

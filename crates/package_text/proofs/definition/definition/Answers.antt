use Rattle.std.proofs.Common.{map, ap, sym, ◌∙◌}
use Rattle.wit_tokens.specs.Syntax.{Record, Variant, Enumeration}
use Rattle.package_text.specs.Tree.{own_trees}
use Rattle.package_text.specs.Pieces.{field_by, case_by}
use Rattle.package_text.proofs.WrittenTrees.ExpressionsOfKinds.{record-written, variant-written, enum-written}
use Rattle.package_text.proofs.definition.definition.Goals as goal

pub returns-in_ok-members-in-Record : goal.returns-in_ok-members-in-Record
returns-in_ok-members-in-Record c =
    let trees = own_trees c.args.resolve.now in
    ap Record (c.in_ok-members-in-Record.ensures ∙ ap (map (field_by trees)) c.as_slice.ensures) ∙ sym (record-written trees c.args.kind.now c.in-Record.members c.in-Record.is)

pub returns-in_ok-cases-in-Variant : goal.returns-in_ok-cases-in-Variant
returns-in_ok-cases-in-Variant c =
    let trees = own_trees c.args.resolve.now in
    ap Variant (c.in_ok-cases-in-Variant.ensures ∙ ap (map (case_by trees)) c.as_slice-in-Variant.ensures) ∙ sym (variant-written trees c.args.kind.now c.in-Variant.choices c.in-Variant.is)

pub returns-in_ok-names-in-Enum : goal.returns-in_ok-names-in-Enum
returns-in_ok-names-in-Enum c =
    ap Enumeration (c.in_ok-names-in-Enum.ensures ∙ c.as_slice-in-Enum.ensures) ∙ sym (enum-written (own_trees c.args.resolve.now) c.args.kind.now c.in-Enum.names c.in-Enum.is)

use Rattle.std.proofs.Common.{◌≡◌, Some, None, option_map, ap, sym, ◌∙◌, rules}
use Rattle.canonical_abi.specs.Types.{variant_cases, nth_case}
use Rattle.tables.specs.Closed.{closed_type}
use Rattle.adapter.proofs.NestedValuesCrossAsTheyAre.{case-alone}
use Rattle.adapter.proofs.nested.is_own_case.Goals as goal

pub returns-in-Some-None : goal.returns-in-Some-None
returns-in-Some-None c = λ own.
    let r = c.args.types.now in
    let t = closed_type r c.args.ty in
    let found : nth_case (variant_cases t) c.in-I32.case ≡ Some None = sym c.in-Some-None.ensures.found ∙ ap (λ o. Some (option_map (closed_type r) o)) c.in-Some-None.field-0-is in
    case-alone t c.in-I32.case c.args.flat c.requires.variant c.in-I32.is (search rules) found

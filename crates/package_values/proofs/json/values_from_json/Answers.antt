use Rattle.std.proofs.Common.{Err, sym, ap, subst}
use Rattle.serde_json.specs.View.{view}
use Rattle.package_values.specs.Json.{JsonArray}
use Rattle.package_values.proofs.json.values_from_json.Goals as goal

pub returns-in-Err-NotThisType-clause-err : goal.returns-in-Err-NotThisType-clause-err
returns-in-Err-NotThisType-clause-err c =
    let j = view c.in_ok-json.json in (
      j,
      c.in_ok-json.ensures.ok,
      λ vs stands.
          c.in-Err-NotThisType.ensures.other (ap Err c.in-Err-NotThisType.field-0-is) vs (subst (λ r. JsonArray r c.args.types.now vs j) (sym c.resolve.ensures) stands),
    )

use Rattle.std.proofs.Common.{sym, ap, ◌∙◌}
use Rattle.canonical_abi.specs.Types.{result_fields}
use Rattle.adapter.specs.Signature.{function_signature}
use Rattle.adapter.proofs.FunctionsInLayouts.{all-known, result-fields, result-is, result-inside, result-known}
use Rattle.adapter.proofs.signature.result_type.Goals as goal

pub returns-clause-ty : goal.returns-clause-ty
returns-clause-ty c = sym (ap (λ o. (function_signature o).result) c.signature.ensures)

pub returns-clause-known : goal.returns-clause-known
returns-clause-known c = result-known c.args.resolve.now c.args.func c.requires c.signature.result.now c.signature.ensures

pub returns-clause-inside : goal.returns-clause-inside
returns-clause-inside c = result-inside c.args.resolve.now c.args.func c.requires c.signature.result.now c.signature.ensures

pub returns-clause-all_known : goal.returns-clause-all_known
returns-clause-all_known c = all-known c.args.resolve.now c.signature.result.now.result (returns-clause-known c)

pub returns-clause-fields : goal.returns-clause-fields
returns-clause-fields c =
    let r = c.args.resolve.now in
    let s = c.signature.result.now in
    result-fields r s.result ∙ sym (ap result_fields (result-is r c.args.func c.requires s c.signature.ensures))

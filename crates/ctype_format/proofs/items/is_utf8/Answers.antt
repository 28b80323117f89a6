use Rattle.std.proofs.Common.{◌∙◌}
use Rattle.ctype_format.proofs.FullNamesAreTested.{utf8_tested}
use Rattle.ctype_format.proofs.items.is_utf8.Goals as goal

pub returns : goal.returns
returns c = c.is_ok.ensures.value ∙ utf8_tested c.args.bytes.now _ _ c.from_utf8.result c.from_utf8.ensures.cases

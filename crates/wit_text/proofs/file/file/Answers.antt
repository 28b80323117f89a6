use Rattle.wit_tokens.specs.View.{header_view}
use Rattle.wit_grammar.specs.Left.{tokens_from, text_end}
use Rattle.wit_text.proofs.HasFullNames.{read-names, version-kept}
use Rattle.wit_text.proofs.file.file.Goals as goal

pub invariant_of-result : goal.invariant_of-result
invariant_of-result c =
    let tokens = c.args.tokens.now in
    let package_id = c.in_ok-package.package in
    let names = read-names (text_end tokens) (tokens_from tokens c.args.at) (header_view package_id) (tokens_from tokens c.in_ok-package.at) c.in_ok-package.ensures.gives in
    record { namespace_is = names.0; name_is = names.1.0; version_is = version-kept package_id.version names.1.1 }

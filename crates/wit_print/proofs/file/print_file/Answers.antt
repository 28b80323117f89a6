use Rattle.std.proofs.Common.{◌∙◌}
use Rattle.std.specs.String.{string_bytes}
use Rattle.wit_print.proofs.TextsOfWords.{ended_text, pushed}
use Rattle.wit_print.proofs.file.print_file.Goals as goal

pub returns-clause-ok : goal.returns-clause-ok
unfolding lib.Utf8.encode
returns-clause-ok c =
    let text = ended_text c.push.new.self c.new-text.ensures.bytes c.in_ok-write_file.ensures c.in_ok-push.ensures.bytes in
    pushed (string_bytes c.args.out.now) c.push_str.result c.push_str.ensures.bytes (c.as_str.ensures.value ∙ text)

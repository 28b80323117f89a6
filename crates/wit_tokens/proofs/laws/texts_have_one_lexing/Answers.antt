use Rattle.std.proofs.Common.{◌-◌}
use Rattle.wit_tokens.proofs.TextsHaveOneReading.{one_lexing, bad_is_refused, open_is_refused}
use Rattle.wit_tokens.proofs.laws.texts_have_one_lexing.Goals as goal

pub returns-clause-one : goal.returns-clause-one
returns-clause-one c = one_lexing

pub returns-clause-bad : goal.returns-clause-bad
returns-clause-bad c = λ text s ts bad v. bad_is_refused text s.start (s.end - s.start) bad.0 ts bad.1 bad.2 v

pub returns-clause-unclosed : goal.returns-clause-unclosed
returns-clause-unclosed c = λ text s ts bad v. open_is_refused text s.start bad.0 ts bad.1 bad.2 v

use Rattle.std.proofs.Common.{◌≡◌, ap, sym, ◌∙◌, is_some, option_map, None, true, false, rules}
use Rattle.clap.specs.Matches.{found_of}
use Rattle.clap.specs.Walk.{first_of, rows_of}
use Rattle.clap.proofs.WalkLemmas.{first_value-rows}
use Rattle.words.proofs.parsing.word.Goals as goal

pub returns-in_ok-from_str-in-Some-clause-found : goal.returns-in_ok-from_str-in-Some-clause-found
returns-in_ok-from_str-in-Some-clause-found c = sym (first_value-rows (found_of c.args.words.now) c.args.id.now) ∙ search rules

pub returns-in-None-clause-answered : goal.returns-in-None-clause-answered
returns-in-None-clause-answered c = λ found.
    let none : first_of c.args.id.now (rows_of (found_of c.args.words.now)) ≡ None =
    sym (first_value-rows (found_of c.args.words.now) c.args.id.now) ∙ sym c.get_str.ensures ∙ ap (option_map (λ s. s.now)) c.in-None.is in
    let bad : false ≡ true = ap is_some (sym none) ∙ found in
    absurd (cc)

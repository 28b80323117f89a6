-- The numbers of what is wrong.
use Rattle.std.specs.Prelude.{ℕ}
use Rattle.wit_tree.specs.declared.fault.Problem.{Problem}
use Rattle.wit_tree.specs.declared.fault.Problem.TheVariants as problem

-- the number of a problem's error: 33 is what is WIT, and not read
abbrev pub number_of_problem : Problem → ℕ
number_of_problem problem.BadCharacter = 30
number_of_problem problem.BadWord = 30
number_of_problem problem.OpenComment = 31
number_of_problem (problem.Outside f) = 33
number_of_problem problem.Deep = 34
number_of_problem _ = 32

use Rattle.std.proofs.Common.{◌≡◌, ◌-◌}
use Rattle.atoms.specs.Production.{times}
use Rattle.ctype_format.specs.Grammar.{case}
use Rattle.ctype_bin.proofs.ReadsExactly.ItemLoops.{with_front}
use Rattle.ctype_bin.proofs.defined.cases_of.Given as goal

abbrev pub invariant-loop : goal.invariant-loop
invariant-loop l = with_front l.cases.items ((times (l.count - l.counter) (case l.types)).read l.rest) ≡ (times l.count (case l.types)).read l.bytes

use Rattle.std.proofs.Common.{◌≡◌, ◌-◌}
use Rattle.ctype_format.specs.File.{trailing, max_length}
use Rattle.ctype_bin.proofs.sections.trailing_of.Given as goal

abbrev pub invariant-loop : goal.invariant-loop
invariant-loop l = (trailing (max_length - l.counter)).read l.rest ≡ (trailing max_length).read l.bytes

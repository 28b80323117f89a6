use Rattle.std.proofs.Common.{◌≡◌}
use Rattle.wit_rules.proofs.findings.findings_of.Given as goal

abbrev pub invariant-loop-finding : goal.invariant-loop-finding
invariant-loop-finding l = l.ordered.text.now ≡ l.text

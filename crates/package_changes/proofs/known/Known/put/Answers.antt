use Rattle.std.proofs.Common.{sym, subst, All}
use Rattle.package_changes.specs.Comparing.{IsRight}
use Rattle.package_changes.proofs.PairsAreKnown.{all-inserted, pair-one}
use Rattle.package_changes.proofs.known.Known.put.Goals as goal

pub returns : goal.returns
returns c = λ r s right here.
    subst (All (IsRight r s)) (sym c.in_ok-insert.ensures.entries)
    (all-inserted (IsRight r s) _ (λ a b same. pair-one a b same) c.args.self.now.pairs.entries c.args.pair c.args.likeness right here)

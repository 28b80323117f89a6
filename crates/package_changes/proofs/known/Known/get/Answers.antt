use Rattle.std.proofs.Common.{◌≡◌, Bool, true, sym, ◌∙◌}
use Rattle.package_changes.specs.Comparing.{IsRight}
use Rattle.package_changes.specs.declared.known.TypePair.{TypePair}
use Rattle.package_changes.proofs.PairsAreKnown.{found, pair-one, if-some}
use Rattle.package_changes.proofs.known.Known.get.Goals as goal

pub returns : goal.returns
returns c = λ r s right.
    if-some c.copied.result (λ l. IsRight r s (c.args.pair, l)) (λ l is.
    found (IsRight r s) _ c.args.pair (λ k same. sym (pair-one c.args.pair k same)) c.args.self.now.pairs.entries right l (sym c.get.ensures.value ∙ sym c.copied.ensures ∙ is))

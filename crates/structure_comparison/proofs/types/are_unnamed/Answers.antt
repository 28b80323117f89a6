use Rattle.std.proofs.Common.{◌≡◌, ℕ, List, map, subst, rules}
use Rattle.std.specs.Prelude.{All}
use Rattle.std.specs.Map.Iter.{deref_pair}
use Rattle.std.proofs.lemmas.Map.Iter.{iter_end}
use Rattle.std.proofs.lemmas.List.Elements.{All-map}
use Rattle.structure_comparison.specs.Types.{site_view, IsPair}
use Rattle.structure_comparison.proofs.types.are_unnamed.Goals as goal

pub returns : goal.returns
returns c = λ t.
    let site = site_view c.args.site.now in
    let xs = c.loop-row.yielded in
    let e : map deref_pair xs ≡ c.args.site.now.written.entries = search (rules, iter_end) in
    subst (λ (ps : List (ℕ × ℕ)). All (IsPair site) ps) e (All-map (IsPair site) deref_pair xs c.loop-row.invariant)

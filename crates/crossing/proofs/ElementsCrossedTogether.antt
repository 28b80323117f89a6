-- Elements that crossed many at a time, ahead of those that cross one by one.
use Rattle.std.proofs.Common.{◌≡◌, ℕ, ◌+◌, ◌-◌, ◌*◌, ◌^◌, ◌≤◌, min, List, [], ◌++◌, length, Option, Some, None, refl, sym, ap, ◌∙◌, subst, arith}
use Rattle.canonical_abi.specs.Guest.{Memory, Allocation}
use Rattle.canonical_abi.specs.Types.{ClosedType}
use Rattle.canonical_abi.specs.Layout.{size}
use Rattle.canonical_abi.specs.Memory.{Holds}
use Rattle.canonical_abi.specs.Storing.{Stores, EachStores}
use Rattle.canonical_abi.specs.Trace.{Event, nodes_of}
use Rattle.canonical_abi.specs.declared.trap.TrapKind.{TrapKind}
use Rattle.ranges.specs.Bytewise.{Crosses, each_nodes}
use Rattle.ranges.proofs.CrossedElementsAppend.{holds-both, holds-length, stores-both, stops-behind}
use Rattle.crossing.specs.Outcome.{EachWalks, IsCrossed}
use Rattle.crossing.proofs.PartsOfWaysInOrder.{IsBegun}
use Rattle.crossing.proofs.ScriptsOfTypes.{each-none}
use Rattle.crossing.proofs.OneNodeOfAWay.{EachScript, EachFrom}

each-both : (t : ClosedType) (m : List ℕ) (a at n k : ℕ) (es : List Event) (o : Option TrapKind) (fs : List Event) → EachWalks t m a at n None es → EachWalks t m (a + n * size t) (at + n * size t) k o fs
    → EachWalks t m a at (n + k) o (es ++ fs)
each-both t m a at n k es None fs (vs, held, stored) (ws, helds, storeds) =
    let long = holds-length (Holds t m) (size t) a n vs held in
    let place : at + n * size t ≡ at + length vs * size t = ap (λ x. at + x * size t) (sym long) in (
      vs ++ ws,
      holds-both (Holds t m) (size t) a n k vs ws held helds,
      stores-both (Stores t) (size t) at vs ws es fs stored (subst (λ p. EachStores (Stores t) (size t) p ws fs) place storeds),
    )
each-both t m a at n k es (Some j) fs (vs, held, stored) stops = stops-behind t m a at n k j vs es fs held stored stops

module _ (allocates : Allocation) (t : ClosedType) (m : List ℕ) (a at : ℕ) where
  pub none-done : (old : Memory) (n : ℕ) → IsCrossed allocates (EachWalks t m a at 0) old n old n
  none-done old n = record { events = []; scripted = each-none t m a at; leads = refl; no_shorter = omega arith; counted = omega arith }

  -- so many nodes were counted
  pub crossed-done : (j k : ℕ) (old new : Memory) → length new.bytes ≡ length old.bytes → Crosses t m a j allocates old at new → each_nodes t m a j ≡ k
      → (n c : ℕ) → min c (2 ^ 64 - 1) ≡ min (n + k) (2 ^ 64 - 1) → IsCrossed allocates (EachWalks t m a at j) old n new c
  crossed-done j k old new same x visited n c counted = record {
    events = x.events;
    scripted = (x.values, x.held, x.stored);
    leads = x.leads;
    no_shorter = omega (arith, same);
    counted = (let e : nodes_of x.events ≡ k = x.visited ∙ visited in omega (arith, e, counted));
  }

  pub each-ahead : (n j : ℕ) → j ≤ n → (old mid : Memory) (k c : ℕ) → IsCrossed allocates (EachWalks t m a at j) old k mid c → IsBegun allocates (EachScript allocates t m a at n) (EachFrom allocates t m a at n j) old k mid c
  each-ahead n j few old mid k c u =
      let e : j + (n - j) ≡ n = omega (arith, few) in
      record {
        events = u.events;
        completed = λ o rest v. subst (λ i. EachWalks t m a at i o (u.events ++ rest)) e (each-both t m a at j (n - j) u.events o rest u.scripted v);
        leads = u.leads;
        no_shorter = u.no_shorter;
        counted = u.counted;
      }

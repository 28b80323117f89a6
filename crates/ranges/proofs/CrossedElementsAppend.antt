-- Elements that crossed, and those behind them.
use Rattle.std.proofs.Common.{◌≡◌, inr, ℕ, zero, suc, ◌+◌, ◌*◌, List, [], ◌∷◌, ◌++◌, length, refl, sym, ap, ◌∙◌, subst, arith, append_assoc}
use Rattle.canonical_abi.specs.Types.{Prim, ClosedType, prim_type, flags_type}
use Rattle.canonical_abi.specs.Values.{Value}
use Rattle.canonical_abi.specs.Layout.{size}
use Rattle.canonical_abi.specs.Memory.{Holds, EachHolds}
use Rattle.canonical_abi.specs.Storing.{Stores, EachStores}
use Rattle.canonical_abi.specs.Script.{StoresUntil, EachStops}
use Rattle.canonical_abi.specs.Guest.{Memory, Allocation}
use Rattle.canonical_abi.specs.Trace.{Event}
use Rattle.canonical_abi.specs.declared.trap.TrapKind.{TrapKind}
use Rattle.ranges.specs.Bytewise.{nodes_at, each_nodes, Crosses}
use Rattle.canonical_abi.proofs.Traces.ConfinedTraces.{leads-both}
use Rattle.canonical_abi.proofs.StoredValues.VisitsNodes.{visited-both}

pub holds-both : (P : ℕ → Value → Type 0) (step a n k : ℕ) (vs ws : List Value) → EachHolds P step a n vs → EachHolds P step (a + n * step) k ws → EachHolds P step a (n + k) (vs ++ ws)
holds-both P step a zero k vs ws e f =
    let here : a + 0 * step ≡ a = omega arith in
    let none : 0 + k ≡ k = omega arith in
    rw (e, none) (rw here at f)
holds-both P step a (suc n) k vs ws (v, rest, is, here, there) f =
    let at : a + suc n * step ≡ a + step + n * step = omega arith in
    let more : suc n + k ≡ suc (n + k) = omega arith in
    rw (is, more) (v, rest ++ ws, refl, here, holds-both P step (a + step) n k rest ws there (rw at at f))

pub holds-length : (P : ℕ → Value → Type 0) (step a n : ℕ) (vs : List Value) → EachHolds P step a n vs → length vs ≡ n
holds-length P step a zero vs e = ap length e
holds-length P step a (suc n) vs (v, rest, is, here, there) = let h = holds-length P step (a + step) n rest there in rw is (omega (arith, h))

pub stores-both : (P : ℕ → Value → List Event → Type 0) (step at : ℕ) (vs ws : List Value) (es fs : List Event)
    → EachStores P step at vs es → EachStores P step (at + length vs * step) ws fs → EachStores P step at (vs ++ ws) (es ++ fs)
stores-both P step at [] ws es fs e f =
    let here : at + 0 * step ≡ at = omega arith in
    rw e (rw here at f)
stores-both P step at (v ∷ vs) ws es fs (first, rest, is, here, there) f =
    let next : at + suc (length vs) * step ≡ at + step + length vs * step = omega arith in
    (first, rest ++ fs, ap (λ l. l ++ fs) is ∙ append_assoc first rest fs, here, stores-both P step (at + step) vs ws rest fs there (rw next at f))

pub nodes-both : (t : ClosedType) (m : List ℕ) (a n k : ℕ) → each_nodes t m a (n + k) ≡ each_nodes t m a n + each_nodes t m (a + n * size t) k
nodes-both t m a zero k =
    let here : a + 0 * size t ≡ a = omega arith in
    let none : 0 + k ≡ k = omega arith in
    rw (here, none) (omega arith)
nodes-both t m a (suc n) k =
    let at : a + suc n * size t ≡ a + size t + n * size t = omega arith in
    let more : suc n + k ≡ suc (n + k) = omega arith in
    let rest = nodes-both t m (a + size t) n k in
    rw (at, more) (omega (arith, rest))

pub crosses-both : (t : ClosedType) (m : List ℕ) (a n k : ℕ) (allocates : Allocation) (old : Memory) (at : ℕ) (mid new : Memory) → Crosses t m a n allocates old at mid
    → Crosses t m (a + n * size t) k allocates mid (at + n * size t) new → Crosses t m a (n + k) allocates old at new
crosses-both t m a n k allocates old at mid new c d =
    let long = holds-length (Holds t m) (size t) a n c.values c.held in
    let place : at + n * size t ≡ at + length c.values * size t = ap (λ x. at + x * size t) (sym long) in
    record {
      values = c.values ++ d.values;
      held = holds-both (Holds t m) (size t) a n k c.values d.values c.held d.held;
      events = c.events ++ d.events;
      stored = stores-both (Stores t) (size t) at c.values d.values c.events d.events c.stored (subst (λ p. EachStores (Stores t) (size t) p d.values d.events) place d.stored);
      leads = leads-both allocates c.events d.events old mid new c.leads d.leads;
      visited = omega (arith, visited-both c.events d.events, c.visited, d.visited, nodes-both t m a n k);
    }

-- where some elements crossed and one of those behind them is at fault, the events of both come before that fault
pub stops-behind : (t : ClosedType) (m : List ℕ) (a at n r : ℕ) (k : TrapKind) (vs : List Value) (es fs : List Event) → EachHolds (Holds t m) (size t) a n vs → EachStores (Stores t) (size t) at vs es
    → EachStops (Holds t m) (Stores t) (StoresUntil t m) (size t) (a + n * size t) (at + n * size t) r k fs
    → EachStops (Holds t m) (Stores t) (StoresUntil t m) (size t) a at (n + r) k (es ++ fs)
stops-behind t m a at zero r k vs es fs h s f =
    let here : a + 0 * size t ≡ a = omega arith in
    let there : at + 0 * size t ≡ at = omega arith in
    let none : 0 + r ≡ r = omega arith in
    let nothing : es ≡ [] = subst (λ l. EachStores (Stores t) (size t) at l es) h s in
    rw (none, nothing) (rw (here, there) at f)
stops-behind t m a at (suc n) r k vs es fs (v, rest, is, one, others) s f =
    let here : a + suc n * size t ≡ a + size t + n * size t = omega arith in
    let there : at + suc n * size t ≡ at + size t + n * size t = omega arith in
    let more : suc n + r ≡ suc (n + r) = omega arith in
    let (first, behind, both, stored, all) = subst (λ l. EachStores (Stores t) (size t) at l es) is s in
    rw more (inr (
      v,
      first,
      behind ++ fs,
      ap (λ l. l ++ fs) both ∙ append_assoc first behind fs,
      one,
      stored,
      stops-behind t m (a + size t) (at + size t) n r k rest behind fs others all (rw (here, there) at f),
    ))

-- elements that have so many nodes each
pub same-visited : (t : ClosedType) (m : List ℕ) (k : ℕ) → ((a : ℕ) → nodes_at t m a ≡ k) → (n a : ℕ) → each_nodes t m a n ≡ n * k
same-visited t m k each zero a = omega arith
same-visited t m k each (suc n) a = let h = same-visited t m k each n (a + size t) in let e = each a in omega (arith, h, e)

-- a primitive is one node
pub prims-visited : (p : Prim) (m : List ℕ) (a n : ℕ) → each_nodes (prim_type p) m a n ≡ n
prims-visited p m a n = same-visited (prim_type p) m 1 (λ a. refl) n a ∙ (let e : n * 1 ≡ n = omega arith in e)

-- so are flags
pub flags-visited : (labels : ℕ) (m : List ℕ) (a n : ℕ) → each_nodes (flags_type labels) m a n ≡ n
flags-visited labels m a n = same-visited (flags_type labels) m 1 (λ a. refl) n a ∙ (let e : n * 1 ≡ n = omega arith in e)

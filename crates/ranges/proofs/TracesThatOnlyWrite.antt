-- Traces that ask for nothing, as writes over a list of bytes.
use Rattle.std.proofs.Common.{◌≡◌, ℕ, ◌+◌, ◌≤◌, List, [], ◌∷◌, ◌++◌, length, refl, ap, subst}
use Rattle.canonical_abi.specs.Guest.{Memory, Allocation, overwrite, with_bytes}
use Rattle.canonical_abi.specs.Trace.{Event, node, grant, write, TraceLeads}

-- the events write, one after another, over `old`, which gives `new`
abbrev pub Puts : List Event → List ℕ → List ℕ → Type 0
Puts [] old new = new ≡ old
Puts (node ∷ es) old new = Puts es old new
Puts (grant g ∷ es) old new = ⊥
Puts (write at part ∷ es) old new = (at + length part ≤ length old) × Puts es (overwrite old at part) new

pub puts-both : (es fs : List Event) (a b c : List ℕ) → Puts es a b → Puts fs b c → Puts (es ++ fs) a c
puts-both [] fs a b c p q = subst (λ l. Puts fs l c) p q
puts-both (node ∷ es) fs a b c p q = puts-both es fs a b c p q
puts-both (grant g ∷ es) fs a b c p q = elim p [ ]
puts-both (write at part ∷ es) fs a b c p q = (p.0, puts-both es fs (overwrite a at part) b c p.1 q)

pub puts-lead : (allocates : Allocation) (es : List Event) (old : Memory) (new : List ℕ) → Puts es old.bytes new → TraceLeads allocates old es (with_bytes old new)
puts-lead allocates [] old new p = ap (with_bytes old) p
puts-lead allocates (node ∷ es) old new p = (old, refl, puts-lead allocates es old new p)
puts-lead allocates (grant g ∷ es) old new p = elim p [ ]
puts-lead allocates (write at part ∷ es) old new p =
    let mid = with_bytes old (overwrite old.bytes at part) in
    (mid, (p.0, refl), puts-lead allocates es mid new p.1)

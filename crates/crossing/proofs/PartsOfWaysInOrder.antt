-- How the parts of a way follow one another.
use Rattle.std.proofs.Common.{◌≡◌, ℕ, ◌≤◌, List, [], ◌∷◌, ◌++◌, length, Option, Some, None, Result, Ok, Err, refl, sym, subst, append_assoc, append-nil, arith}
use Rattle.canonical_abi.specs.Guest.{Memory, Allocation}
use Rattle.canonical_abi.specs.Trace.{Grant, Event, node, grant, write, EventLeads, TraceLeads, RequestFails}
use Rattle.canonical_abi.specs.declared.trap.TrapKind.{TrapKind}
use Rattle.canonical_abi.proofs.Traces.ConfinedTraces.{leads-both}
use Rattle.canonical_abi.proofs.StoredValues.VisitsNodes.{visited-both}
use Rattle.crossing.specs.Outcome.{Behind, Counts, IsCrossed, WasRefused, HasStopped, Ends}
use Rattle.crossing.specs.declared.stopped.Stopped.{Stopped}
use Rattle.crossing.specs.declared.stopped.Stopped.TheVariants as stopped

-- a beginning of the script S was done, which those of T complete
pub record IsBegun (allocates : Allocation) (S T : Option TrapKind → List Event → Type 0) (old : Memory) (n : ℕ) (now : Memory) (c : ℕ) : Type 0 where
  pub events : List Event
  pub completed : (o : Option TrapKind) (rest : List Event) → T o rest → S o (events ++ rest)
  pub leads : TraceLeads allocates old events now
  pub no_shorter : length old.bytes ≤ length now.bytes
  pub counted : Counts n events c

-- ---- counts

counts-both : (es fs : List Event) (n c d : ℕ) → Counts n es c → Counts c fs d → Counts n (es ++ fs) d
counts-both es fs n c d p q = omega (arith, visited-both es fs, p, q)

module _ (allocates : Allocation) where
  pub begun : (S : Option TrapKind → List Event → Type 0) (m : Memory) (n : ℕ) → IsBegun allocates S S m n m n
  begun S m n = record { events = []; completed = λ o rest t. t; leads = refl; no_shorter = omega arith; counted = omega arith }

  pub begun-as : (S T V : Option TrapKind → List Event → Type 0) (old new : Memory) (n c : ℕ) → ((o : Option TrapKind) (es : List Event) → V o es → T o es)
      → IsBegun allocates S T old n new c → IsBegun allocates S V old n new c
  begun-as S T V old new n c as_other b = record { events = b.events; completed = λ o rest v. b.completed o rest (as_other o rest v); leads = b.leads; no_shorter = b.no_shorter; counted = b.counted }

  pub begun-then : (S T U V : Option TrapKind → List Event → Type 0) (old mid new : Memory) (n c d : ℕ) → IsBegun allocates S T old n mid c → IsCrossed allocates U mid c new d
      → ((first : List Event) (o : Option TrapKind) (rest : List Event) → U None first → V o rest → T o (first ++ rest)) → IsBegun allocates S V old n new d
  begun-then S T U V old mid new n c d b u joins = record {
    events = b.events ++ u.events;
    completed = λ o rest v. subst (S o) (sym (append_assoc b.events u.events rest)) (b.completed o (u.events ++ rest) (joins u.events o rest u.scripted v));
    leads = leads-both allocates b.events u.events old mid new b.leads u.leads;
    no_shorter = omega (arith, b.no_shorter, u.no_shorter);
    counted = counts-both b.events u.events n c d b.counted u.counted;
  }

  pub begun-done : (S T : Option TrapKind → List Event → Type 0) (old new : Memory) (n c : ℕ) → IsBegun allocates S T old n new c → T None [] → IsCrossed allocates S old n new c
  begun-done S T old new n c b t = record {
    events = b.events;
    scripted = subst (S None) (append-nil b.events) (b.completed None [] t);
    leads = b.leads;
    no_shorter = b.no_shorter;
    counted = b.counted;
  }

  -- all that is left was done, or stopped
  pub begun-last : (S T : Option TrapKind → List Event → Type 0) (old mid new : Memory) (n c d : ℕ) → IsBegun allocates S T old n mid c → IsCrossed allocates T mid c new d → IsCrossed allocates S old n new d
  begun-last S T old mid new n c d b u = record {
    events = b.events ++ u.events;
    scripted = b.completed None u.events u.scripted;
    leads = leads-both allocates b.events u.events old mid new b.leads u.leads;
    no_shorter = omega (arith, b.no_shorter, u.no_shorter);
    counted = counts-both b.events u.events n c d b.counted u.counted;
  }

  pub begun-stopped : (S T : Option TrapKind → List Event → Type 0) (old mid : Memory) (s : Stopped) (new : Memory) (n c d : ℕ) → IsBegun allocates S T old n mid c → HasStopped allocates T mid c s new d → HasStopped allocates S old n s new d
  begun-stopped S T old mid (stopped.Source k) new n c d b u = record {
    events = b.events ++ u.events;
    scripted = b.completed (Some k) u.events u.scripted;
    leads = leads-both allocates b.events u.events old mid new b.leads u.leads;
    counted = counts-both b.events u.events n c d b.counted u.counted;
  }
  begun-stopped S T old mid (stopped.Target k) new n c d b u = record {
    outcome = u.outcome;
    done = b.events ++ u.done;
    next = u.next;
    rest = u.rest;
    asked = u.asked;
    scripted = subst (S u.outcome) (sym (append_assoc b.events u.done (grant u.next ∷ u.rest))) (b.completed u.outcome (u.done ++ grant u.next ∷ u.rest) u.scripted);
    leads = leads-both allocates b.events u.done old mid u.asked b.leads u.leads;
    fails = u.fails;
    counted = counts-both b.events u.done n c d b.counted u.counted;
  }

  pub begun-ends : (S T : Option TrapKind → List Event → Type 0) (old mid : Memory) (r : Result (Unit {0}) Stopped) (new : Memory) (n c d : ℕ) → IsBegun allocates S T old n mid c → Ends allocates T mid c r new d → Ends allocates S old n r new d
  begun-ends S T old mid (Ok x) new n c d b u = begun-last S T old mid new n c d b u
  begun-ends S T old mid (Err s) new n c d b u = begun-stopped S T old mid s new n c d b u

  -- the first part of what is left stopped, and all scripts of what stands behind it would do
  pub part-stopped : (T U V : Option TrapKind → List Event → Type 0) (mid : Memory) (s : Stopped) (new : Memory) (c d : ℕ)
      → ((k : TrapKind) (first : List Event) → U (Some k) first → T (Some k) first)
      → ((first : List Event) (o : Option TrapKind) (rest : List Event) → U None first → V o rest → T o (first ++ rest))
      → ((o : Option TrapKind) × (rest : List Event) × V o rest)
      → HasStopped allocates U mid c s new d → HasStopped allocates T mid c s new d
  part-stopped T U V mid (stopped.Source k) new c d stops joins behind u = record { events = u.events; scripted = stops k u.events u.scripted; leads = u.leads; counted = u.counted }
  part-stopped T U V mid (stopped.Target k) new c d stops joins (o, more, v) u = by u.outcome u.scripted
    where
      by : (p : Option TrapKind) → U p (u.done ++ grant u.next ∷ u.rest) → WasRefused allocates T mid c k new d
      by (Some j) h = record { outcome = Some j; done = u.done; next = u.next; rest = u.rest; asked = u.asked; scripted = stops j _ h; leads = u.leads; fails = u.fails; counted = u.counted }
      by None h = record {
        outcome = o;
        done = u.done;
        next = u.next;
        rest = u.rest ++ more;
        asked = u.asked;
        scripted = subst (T o) (append_assoc u.done (grant u.next ∷ u.rest) more) (joins (u.done ++ grant u.next ∷ u.rest) o more h v);
        leads = u.leads;
        fails = u.fails;
        counted = u.counted;
      }

  -- ---- one event

  pub begun-node : (S : Option TrapKind → List Event → Type 0) (m : Memory) (n c : ℕ) → Counts n (node ∷ []) c → IsBegun allocates S (Behind S) m n m c
  begun-node S m n c counted = record { events = node ∷ []; completed = λ o rest t. t; leads = (m, refl, refl); no_shorter = omega arith; counted = counted }

  pub begun-write : (S T : Option TrapKind → List Event → Type 0) (at : ℕ) (part : List ℕ) (old mid new : Memory) (n c : ℕ) → IsBegun allocates S T old n mid c
      → EventLeads allocates mid (write at part) new → length new.bytes ≡ length mid.bytes → IsBegun allocates S (λ o rest. T o (write at part ∷ rest)) old n new c
  begun-write S T at part old mid new n c b led same =
      begun-then S T (λ o es. es ≡ write at part ∷ []) (λ o rest. T o (write at part ∷ rest)) old mid new n c c b
      (record { events = write at part ∷ []; scripted = refl; leads = (new, led, refl); no_shorter = omega (arith, same); counted = omega arith })
      (λ first o rest is t. subst (λ es. T o (es ++ rest)) (sym is) t)

  pub begun-grant : (S T : Option TrapKind → List Event → Type 0) (g : Grant) (old mid new : Memory) (n c : ℕ) → IsBegun allocates S T old n mid c
      → EventLeads allocates mid (grant g) new → length mid.bytes ≤ length new.bytes → IsBegun allocates S (λ o rest. T o (grant g ∷ rest)) old n new c
  begun-grant S T g old mid new n c b led more =
      begun-then S T (λ o es. es ≡ grant g ∷ []) (λ o rest. T o (grant g ∷ rest)) old mid new n c c b
      (record { events = grant g ∷ []; scripted = refl; leads = (new, led, refl); no_shorter = more; counted = omega arith })
      (λ first o rest is t. subst (λ es. T o (es ++ rest)) (sym is) t)

  -- the next request failed
  pub refused : (T : Option TrapKind → List Event → Type 0) (o : Option TrapKind) (g : Grant) (rest : List Event) (old : Memory) (k : TrapKind) (new : Memory) (c : ℕ) → T o (grant g ∷ rest)
      → RequestFails allocates old g.align g.size k new → WasRefused allocates T old c k new c
  refused T o g rest old k new c t fails = record { outcome = o; done = []; next = g; rest = rest; asked = old; scripted = t; leads = refl; fails = fails; counted = omega arith }

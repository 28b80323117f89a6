-- How the parts of a script follow one another.
use Rattle.std.proofs.Common.{◌≡◌, ℕ, ◌+◌, ◌%◌, ◌≤◌, List, [], ◌∷◌, Some, inl, ◌++◌, length, refl, sym, ap, ◌∙◌, subst, inr, append_assoc, append-nil, arith}
use Rattle.canonical_abi.specs.Guest.{Memory, Allocation}
use Rattle.std.specs.Prelude.{slice_range}
use Rattle.canonical_abi.specs.Trace.{Grant, Event, node, grant, write, EventLeads, LeavesOutWrites, AreGrantsWithin, RequestEnds}
use Rattle.canonical_abi.specs.declared.trap.TrapKind.{TrapKind}
use Rattle.canonical_abi.proofs.Traces.ConfinedTraces.{leads-both}
use Rattle.lift_lower.specs.Scripts.{IsDone, HasEnded, IsBegun, AsksBlock, GrantsBlock, PutsText, PutsTextAt}

pub within-both : (limit : ℕ) (es fs : List Event) → AreGrantsWithin limit es → AreGrantsWithin limit fs → AreGrantsWithin limit (es ++ fs)
within-both limit [] fs p q = q
within-both limit (node ∷ es) fs p q = within-both limit es fs p q
within-both limit (grant g ∷ es) fs p q = (p.0, within-both limit es fs p.1 q)
within-both limit (write a bs ∷ es) fs p q = within-both limit es fs p q

left-front : (es done made : List Event) → LeavesOutWrites done made → LeavesOutWrites (es ++ done) (es ++ made)
left-front [] done made l = l
left-front (node ∷ es) done made l = (es ++ made, refl, left-front es done made l)
left-front (grant g ∷ es) done made l = (es ++ made, refl, left-front es done made l)
left-front (write a bs ∷ es) done made l = inr (es ++ made, refl, left-front es done made l)

-- a size that is above all limits may be cut off
pub saturated-ends : (limit : ℕ) (allocates : Allocation) (old : Memory) (align cut n : ℕ) (k : TrapKind) (new : Memory) → cut ≤ n → (cut ≤ limit → cut ≡ n)
    → RequestEnds limit allocates old align cut k new → RequestEnds limit allocates old align n k new
saturated-ends limit allocates old align cut n k new less same (inl h) = inl (omega (arith, h.0, less), h.1, h.2)
saturated-ends limit allocates old align cut n k new less same (inr h) =
    subst (λ m. RequestEnds limit allocates old align m k new) (same h.0) (inr h)

module _ (limit : ℕ) (allocates : Allocation) where
  pub begun : (S : List Event → Type 0) (m : Memory) → IsBegun limit allocates S S m m
  begun S m = record { events = []; completed = λ rest t. t; within = tt; leads = refl; no_shorter = omega arith }

  pub begun-then : (S T U V : List Event → Type 0) (old mid new : Memory) → IsBegun limit allocates S T old mid → IsDone limit allocates U mid new
      → ((first rest : List Event) → U first → V rest → T (first ++ rest)) → IsBegun limit allocates S V old new
  begun-then S T U V old mid new b d joins = record {
    events = b.events ++ d.events;
    completed = λ rest v. subst S (sym (append_assoc b.events d.events rest)) (b.completed (d.events ++ rest) (joins d.events rest d.scripted v));
    within = within-both limit b.events d.events b.within d.within;
    leads = leads-both allocates b.events d.events old mid new b.leads d.leads;
    no_shorter = omega (arith, b.no_shorter, d.no_shorter);
  }

  pub begun-done : (S T : List Event → Type 0) (old new : Memory) → IsBegun limit allocates S T old new → T [] → IsDone limit allocates S old new
  begun-done S T old new b t = record {
    events = b.events;
    scripted = subst S (append-nil b.events) (b.completed [] t);
    within = b.within;
    leads = b.leads;
    no_shorter = b.no_shorter;
  }

  pub begun-ended : (S T U : List Event → Type 0) (old mid : Memory) (k : TrapKind) (new : Memory) → IsBegun limit allocates S T old mid → HasEnded limit allocates U mid k new
      → ((first : List Event) → U first → (rest : List Event) × T (first ++ rest)) → HasEnded limit allocates S old k new
  begun-ended S T U old mid k new b e joins =
      let more = joins e.events e.scripted in
      let h = e.ends in
      record {
        events = b.events ++ (e.events ++ more.0);
        scripted = b.completed (e.events ++ more.0) more.1;
        ends = (
          b.events ++ h.0,
          b.events ++ h.1,
          h.2 ++ more.0,
          h.3,
          h.4,
          ap (λ es. b.events ++ (es ++ more.0)) h.5 ∙ ap (λ es. b.events ++ es) (append_assoc h.0 (grant h.3 ∷ h.2) more.0) ∙ sym (append_assoc b.events h.0 (grant h.3 ∷ (h.2 ++ more.0))),
          within-both limit b.events h.0 b.within h.6,
          left-front b.events h.0 h.1 h.7,
          leads-both allocates b.events h.1 old mid h.4 b.leads h.8,
          h.9,
        );
      }

  pub begun-as : (S T V : List Event → Type 0) (old new : Memory) → ((es : List Event) → V es → T es) → IsBegun limit allocates S T old new → IsBegun limit allocates S V old new
  begun-as S T V old new as_other b = record { events = b.events; completed = λ rest v. b.completed rest (as_other rest v); within = b.within; leads = b.leads; no_shorter = b.no_shorter }

  -- one event at a time
  pub wrote : (old new : Memory) (at : ℕ) (part : List ℕ) → EventLeads allocates old (write at part) new → length new.bytes ≡ length old.bytes
      → IsDone limit allocates (λ es. es ≡ write at part ∷ []) old new
  wrote old new at part led same = record { events = write at part ∷ []; scripted = refl; within = tt; leads = (new, led, refl); no_shorter = omega (arith, same) }

  pub visited : (m : Memory) → IsDone limit allocates (λ es. es ≡ node ∷ []) m m
  visited m = record { events = node ∷ []; scripted = refl; within = tt; leads = (m, refl, refl); no_shorter = omega arith }

  pub begun-event : (S T : List Event → Type 0) (e : Event) (old mid new : Memory) → IsBegun limit allocates S T old mid → IsDone limit allocates (λ es. es ≡ e ∷ []) mid new
      → IsBegun limit allocates S (λ rest. T (e ∷ rest)) old new
  begun-event S T e old mid new b d =
      begun-then S T (λ es. es ≡ e ∷ []) (λ rest. T (e ∷ rest)) old mid new b d (λ first rest is t. subst (λ es. T (es ++ rest)) (sym is) t)

  -- a request that failed, with whatever else stands in the script
  pub asked : (align size : ℕ) (old : Memory) (k : TrapKind) (new : Memory) → RequestEnds limit allocates old align size k new → HasEnded limit allocates (AsksBlock align size) old k new
  asked align size old k new h =
      let g : Grant = record { align = align; size = size; at = 0; contents = [] } in
      record {
        events = grant g ∷ [];
        scripted = (g, (refl, refl), refl);
        ends = ([], [], [], g, old, refl, tt, refl, refl, h);
      }

  -- a script does as well for another of which it is one
  pub done-as : (S T : List Event → Type 0) (old new : Memory) → ((es : List Event) → S es → T es) → IsDone limit allocates S old new → IsDone limit allocates T old new
  done-as S T old new as_other d = record { events = d.events; scripted = as_other d.events d.scripted; within = d.within; leads = d.leads; no_shorter = d.no_shorter }

  pub ended-as : (S T : List Event → Type 0) (old : Memory) (k : TrapKind) (new : Memory) → ((es : List Event) → S es → T es) → HasEnded limit allocates S old k new → HasEnded limit allocates T old k new
  ended-as S T old k new as_other e = record { events = e.events; scripted = as_other e.events e.scripted; ends = e.ends }

  -- the last part of a script
  pub begun-last : (S T U : List Event → Type 0) (old mid new : Memory) → IsBegun limit allocates S T old mid → IsDone limit allocates U mid new
      → ((es : List Event) → U es → T es) → IsDone limit allocates S old new
  begun-last S T U old mid new b d last =
      let nothing : List Event → Type 0 = λ es. es ≡ [] in
      begun-done S nothing old new
      (begun-then S T U nothing old mid new b d (λ first rest u r. subst T (sym (ap (λ es. first ++ es) r ∙ append-nil first)) (last first u))) refl

  pub ended-last : (S T U : List Event → Type 0) (old mid : Memory) (k : TrapKind) (new : Memory) → IsBegun limit allocates S T old mid → HasEnded limit allocates U mid k new
      → ((es : List Event) → U es → T es) → HasEnded limit allocates S old k new
  ended-last S T U old mid k new b e last =
      begun-ended S T U old mid k new b e (λ first u. ([], subst T (sym (append-nil first)) (last first u)))

  -- a node, and what is in it
  node-begun : (S : List Event → Type 0) (m : Memory) → IsBegun limit allocates S (λ rest. S (node ∷ rest)) m m
  node-begun S m = begun-event S S node m m m (begun S m) (visited m)

  pub node-done : (S U : List Event → Type 0) (old new : Memory) → ((es : List Event) → U es → S (node ∷ es)) → IsDone limit allocates U old new → IsDone limit allocates S old new
  node-done S U old new holds d = begun-last S (λ rest. S (node ∷ rest)) U old old new (node-begun S old) d holds

  pub node-ended : (S U : List Event → Type 0) (old : Memory) (k : TrapKind) (new : Memory) → ((es : List Event) → U es → S (node ∷ es)) → HasEnded limit allocates U old k new
      → HasEnded limit allocates S old k new
  node-ended S U old k new holds e = ended-last S (λ rest. S (node ∷ rest)) U old old k new (node-begun S old) e holds

  pub node-alone : (S : List Event → Type 0) (m : Memory) → S (node ∷ []) → IsDone limit allocates S m m
  node-alone S m s = begun-done S (λ rest. S (node ∷ rest)) m m (node-begun S m) s

  -- ---- a block, and a text in a block

  pub granted : (align size at : ℕ) (old new : Memory) → size ≤ limit → allocates old align size (Some at) new → at % align ≡ 0 → at + size ≤ length new.bytes
      → length old.bytes ≤ length new.bytes → IsDone limit allocates (GrantsBlock align size at) old new
  granted align size at old new few step aligned inside longer =
      let g : Grant = record { align = align; size = size; at = at; contents = slice_range new.bytes at (at + size) } in
      record {
        events = grant g ∷ [];
        scripted = (g, (refl, refl), refl, refl);
        within = (few, tt);
        leads = (new, (step, record { aligned = aligned; inside = inside }, refl), refl);
        no_shorter = longer;
      }

  pub text-refused : (text : List ℕ) (old : Memory) (k : TrapKind) (new : Memory) → HasEnded limit allocates (AsksBlock 1 (length text)) old k new → HasEnded limit allocates (PutsText text) old k new
  text-refused text old k new ended =
      begun-ended (PutsText text) (PutsText text) (AsksBlock 1 (length text)) old old k new (begun (PutsText text) old) ended (λ first p.
      (write p.0.at text ∷ [], (p.0, p.1, ap (λ es. es ++ write p.0.at text ∷ []) p.2)))

  pub text-put : (text : List ℕ) (start : ℕ) (old mid new : Memory) → IsDone limit allocates (GrantsBlock 1 (length text) start) old mid
      → EventLeads allocates mid (write start text) new → length new.bytes ≡ length mid.bytes → IsDone limit allocates (PutsTextAt text start) old new
  text-put text start old mid new granted led same =
      let S = PutsTextAt text start in
      let told = write start text in
      let T : List Event → Type 0 = λ rest. rest ≡ told ∷ [] in
      let b = begun-then S S (GrantsBlock 1 (length text) start) T old old mid (begun S old) granted (λ first rest p r.
      (p.0, p.1, p.2, ap (λ es. es ++ rest) p.3 ∙ ap (λ es. grant p.0 ∷ es) r ∙ ap (λ a. grant p.0 ∷ write a text ∷ []) (sym p.2))) in
      begun-last S T (λ es. es ≡ told ∷ []) old mid new b (wrote mid new start text led same) (λ es u. u)

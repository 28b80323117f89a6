-- What a way over tame guests that broke off leaves in live bytes is what its events tell.
use Rattle.std.proofs.Common.{◌≡◌, ◌⊎◌, inl, inr, ℕ, ◌+◌, ◌-◌, ◌<◌, ◌≤◌, true, List, [], ◌∷◌, length, drop, Some, refl, sym, ap, ◌∙◌, subst, arith}
use Rattle.std.specs.Prelude.{slice_get, slice_range}
use Rattle.canonical_abi.specs.AnyHonest.{AnyGrant, AnyRelease}
use Rattle.canonical_abi.specs.Guest.{Memory, Allocation, Release, IsWithin, overwrite, with_bytes}
use Rattle.canonical_abi.specs.Trace.{Grant, Event, node, grant, write, TraceLeads, LeavesOutWrites}
use Rattle.canonical_abi.specs.Stands.{AreAligned, IsGranted}
use Rattle.canonical_abi.specs.Call.{Parties}
use Rattle.canonical_abi.specs.OnlyValues.{TellsByte}
use Rattle.canonical_abi.specs.Tame.{IsTame}
use Rattle.canonical_abi.specs.TameValues.{ShowsLive, TrapsShowLive}
use Rattle.canonical_abi.proofs.Traces.BytesWrittenOver.{length-overwrite}
use Rattle.canonical_abi.proofs.Traces.TracesLeaveImages.{slice_get-drop, slice_get-take}
use Rattle.canonical_abi.proofs.StoredValues.WritesOwnPlaceAndBlocks.{Confined}
use Rattle.canonical_abi.proofs.Traces.TameTraces.{any-is-honest, trace-leaves, refuses-leaves}
use Rattle.canonical_abi.proofs.Sessions.TrapsShowEvents.{Shows, shows-there, shows-back}
use Rattle.canonical_abi.proofs.Sessions.OnlyValuesCross.{written-shows}

-- each trace is confined to all addresses
anywhere : (P : ℕ → Type 0) → ((x : ℕ) → P x) → (es : List Event) → Confined P es
anywhere P all [] = tt
anywhere P all (node ∷ es) = anywhere P all es
anywhere P all (grant g ∷ es) = anywhere (λ x. P x ⊎ IsWithin x g.at g.size) (λ x. inl (all x)) es
anywhere P all (write a bs ∷ es) = ((λ x w. all x), anywhere P all es)

module _ (allocates : Allocation) (releases : Release) (tame : IsTame allocates releases) where
  -- live addresses stay live
  stays-live : (es : List Event) (old new : Memory) → AreAligned es → TraceLeads allocates old es new → (length old.bytes ≤ length new.bytes) × ((x : ℕ) → old.live x ≡ true → new.live x ≡ true)
  stays-live es old new al t =
      let left = trace-leaves allocates releases tame (λ x. Unit {0}) es old new al (anywhere (λ x. Unit {0}) (λ x. tt) es) t in
      (left.0, λ x l. (left.1 x l).0)

  -- a byte of a block as it was granted
  told-by-block : (g : Grant) (mid : Memory) → g.contents ≡ slice_range mid.bytes g.at (g.at + g.size) → (a b : ℕ) → IsWithin a g.at g.size → slice_get mid.bytes a ≡ Some b → slice_get g.contents (a - g.at) ≡ Some b
  told-by-block g mid contents a b w e =
      let size : g.at + g.size - g.at ≡ g.size = omega arith in
      let there : g.at + (a - g.at) ≡ a = let h = w.0 in omega arith in
      let short : a - g.at < g.size = let h = w.0 in let i = w.1 in omega arith in
      let part : slice_get (slice_range mid.bytes g.at (g.at + g.size)) (a - g.at) ≡ slice_get mid.bytes a =
      rw size (slice_get-take g.size (drop g.at mid.bytes) (a - g.at) short ∙ slice_get-drop g.at mid.bytes (a - g.at) ∙ ap (λ i. slice_get mid.bytes i) there) in
      ap (λ bs. slice_get bs (a - g.at)) contents ∙ part ∙ e

  trace-shows : (es made : List Event) (old new : Memory) → AreAligned made → LeavesOutWrites es made → TraceLeads allocates old made new → ShowsLive old es new
  trace-shows [] made old new al is t a b e =
      let same : new ≡ old = subst (λ l. TraceLeads allocates old l new) is t in
      ((λ l below. inl (ap (λ m. slice_get m.bytes a) (sym same) ∙ e)), λ g. absurd g)
  trace-shows (node ∷ es) made old new al (rest, is, left) t a b e =
      let (mid, same, more) = subst (λ l. TraceLeads allocates old l new) is t in
      trace-shows es rest old new (subst AreAligned is al) left (subst (λ m. TraceLeads allocates m rest new) same more) a b e
  trace-shows (grant g ∷ es) made old new al (rest, is, left) t a b e =
      let (mid, step, more) = subst (λ l. TraceLeads allocates old l new) is t in
      let aligned : AreAligned (grant g ∷ rest) = subst AreAligned is al in
      let granted = tame.granted old g.align g.size g.at mid aligned.0 step.0 in
      let then = trace-shows es rest mid new aligned.1 left more a b e in (
        (λ l below. elim (then.0 (granted.leaves.live a l) (let h = granted.leaves.no_shorter in omega arith)) [
          | inl m ↦ inl (sym (granted.leaves.bytes a l below (inr (omega arith))) ∙ m)
          | inr told ↦ inr (inr told)
        ]),
        λ i. elim i [
          | inl w ↦ elim (then.0 (granted.is_live a w) (let h = granted.inside in let j = w.1 in omega arith)) [ inl m ↦ inl (w, told-by-block g mid step.2 a b w m) | inr told ↦ inr told ]
          | inr later ↦ inr (then.1 later)
        ],
      )
  trace-shows (write at part ∷ es) made old new al (inl left) t a b e =
      let then = trace-shows es made old new al left t a b e in
      ((λ l below. elim (then.0 l below) [ inl m ↦ inl m | inr told ↦ inr (inr told) ]), λ i. inr (then.1 i))
  trace-shows (write at part ∷ es) made old new al (inr (rest, is, left)) t a b e =
      let (mid, step, more) = subst (λ l. TraceLeads allocates old l new) is t in
      let over = overwrite old.bytes at part in
      let size : length over ≡ length old.bytes = length-overwrite old.bytes at part step.0 in
      let then = trace-shows es rest (with_bytes old over) new (subst AreAligned is al) left (subst (λ m. TraceLeads allocates m rest new) step.1 more) a b e in (
        (λ l below. elim (then.0 l (omega (arith, size))) [
          | inl m ↦ elim (written-shows AnyGrant AnyRelease any-is-honest at part old.bytes over step.0 refl a b m) [ inl o ↦ inl o | inr w ↦ inr (inl w) ]
          | inr told ↦ inr (inr told)
        ]),
        λ i. inr (then.1 i),
      )

  granted-live : (es made : List Event) (old new : Memory) → AreAligned made → LeavesOutWrites es made → TraceLeads allocates old made new → (x : ℕ) → IsGranted es x → (new.live x ≡ true) × (x < length new.bytes)
  granted-live [] made old new al is t x g = absurd g
  granted-live (node ∷ es) made old new al (rest, is, left) t x g =
      let (mid, same, more) = subst (λ l. TraceLeads allocates old l new) is t in granted-live es rest mid new (subst AreAligned is al) left more x g
  granted-live (grant b ∷ es) made old new al (rest, is, left) t x (inl w) =
      let (mid, step, more) = subst (λ l. TraceLeads allocates old l new) is t in
      let aligned : AreAligned (grant b ∷ rest) = subst AreAligned is al in
      let granted = tame.granted old b.align b.size b.at mid aligned.0 step.0 in
      let stay = stays-live rest mid new aligned.1 more in
      (stay.1 x (granted.is_live x w), let h = granted.inside in let i = stay.0 in let j = w.1 in omega arith)
  granted-live (grant b ∷ es) made old new al (rest, is, left) t x (inr g) =
      let (mid, step, more) = subst (λ l. TraceLeads allocates old l new) is t in
      let aligned : AreAligned (grant b ∷ rest) = subst AreAligned is al in
      granted-live es rest mid new aligned.1 left more x g
  granted-live (write at part ∷ es) made old new al (inl left) t x g = granted-live es made old new al left t x g
  granted-live (write at part ∷ es) made old new al (inr (rest, is, left)) t x g =
      let (mid, step, more) = subst (λ l. TraceLeads allocates old l new) is t in granted-live es rest mid new (subst AreAligned is al) left more x g

  shows-live : Shows allocates ShowsLive
  shows-live es made old mid new al left leads refuses a b e =
      let after = refuses-leaves allocates releases tame mid new refuses in
      let stay = stays-live made old mid al leads in
      let shows : slice_get mid.bytes a ≡ Some b → (old.live a ≡ true → a < length old.bytes → (slice_get old.bytes a ≡ Some b) ⊎ TellsByte es a b) × (IsGranted es a → TellsByte es a b) =
      λ h. trace-shows es made old mid al left leads a b h in (
        (λ l below. (shows (sym (after.bytes a (stay.1 a l) (let h = stay.0 in omega arith) (inr (omega arith))) ∙ e)).0 l below),
        λ g. let there = granted-live es made old mid al left leads a g in
            (shows (sym (after.bytes a there.0 there.1 (inr (omega arith))) ∙ e)).1 g,
      )

pub traps-show-live : (parties : Parties) (caller_releases callee_releases : Release) → TrapsShowLive parties caller_releases callee_releases
traps-show-live parties caller_releases callee_releases = record {
  there = λ f flats old s k ways new tame before t.
      shows-there parties caller_releases callee_releases tame ShowsLive (shows-live parties.callee_allocates callee_releases tame.callee) (shows-live parties.caller_allocates caller_releases tame.caller)
      f flats old s k ways new before t;
  back = λ f flats old s k ways new tame t.
      shows-back parties caller_releases callee_releases tame ShowsLive (shows-live parties.callee_allocates callee_releases tame.callee) (shows-live parties.caller_allocates caller_releases tame.caller)
      f flats old s k ways new t;
}

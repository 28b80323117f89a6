-- Values tell what two ways into one memory leave there; and what a way that broke off leaves is what its events tell.
use Rattle.std.proofs.Common.{◌≡◌, ◌⊎◌, inl, inr, ℕ, ◌+◌, ◌-◌, ◌<◌, ◌≤◌, true, cond, List, [], ◌∷◌, length, drop, Option, Some, refl, sym, ap, ◌∙◌, subst, arith}
use Rattle.std.specs.Prelude.{slice_get, slice_range}
use Rattle.std.proofs.lemmas.Bool.{cases_lt}
use Rattle.std.proofs.lemmas.Option.{slice_get_within}
use Rattle.canonical_abi.specs.Types.{record_type, result_fields}
use Rattle.canonical_abi.specs.Layout.{size, max_flat_params, max_flat_results}
use Rattle.canonical_abi.specs.Guest.{Memory, Allocation, Release, IsGrant, IsHonest, IsWithin, IsOutside, overwrite}
use Rattle.canonical_abi.specs.Trace.{Grant, Event, node, grant, write, TraceLeads, LeavesOutWrites}
use Rattle.canonical_abi.specs.Stands.{AreAligned}
use Rattle.canonical_abi.specs.Lowering.{PassesResult}
use Rattle.canonical_abi.specs.Call.{Run, PostRun, Parties, area_of}
use Rattle.canonical_abi.specs.OnlyValues.{OnlyValuesCross, ShowsAlone, TrapsShowValues}
use Rattle.canonical_abi.specs.TameValues.{OnlyValuesCrossLive}
use Rattle.canonical_abi.proofs.Traces.TracesLeaveImages.{byte_over-before, byte_over-within, byte_over-after, overwrite-get, slice_get-drop, slice_get-take}
use Rattle.canonical_abi.proofs.Traces.WhatTracesKeep.{runs-keep}
use Rattle.canonical_abi.proofs.Traces.ConfinedTraces.{refuses-same}
use Rattle.canonical_abi.proofs.FlatValues.LoweredIsDenoted.{Nowhere, passes-aligned, passes-confined}
use Rattle.canonical_abi.proofs.Sessions.ValuesTellTraces.{same-entry, same-return, same-entry-live, same-return-live}
use Rattle.canonical_abi.proofs.Sessions.TrapsShowEvents.{Shows, shows-there, shows-back}
use Rattle.canonical_abi.proofs.Calls.WaysOfCalls.{InArea, passes-result-confined, passes-result-aligned}
use Rattle.canonical_abi.proofs.Calls.LinkKeepsPromise.{are-tame}

-- ---- ways that were taken to their end

pub only-values-cross : (target one two : Allocation) (runs : Run) (posts : PostRun) → OnlyValuesCross target one two runs posts
only-values-cross target one two runs posts = λ one_way ignores. record {
  there = λ f flats others old past values handed given es fs new last e x same.
      let leads = subst (λ m. TraceLeads target m fs last.callee) (sym same) x.leads in
      let both = same-entry target one_way ignores max_flat_params f.params values es fs handed given old.callee new.callee last.callee
      (passes-aligned max_flat_params f.params values es handed e.passes) e.passes x.passes e.leads leads in
      (both.1, both.0);
  back = λ f flats others old past answer reply values handed given es fs new last e x area same.
      let leads = subst (λ m. TraceLeads target m fs last.caller) (sym same) x.leads in
      let passes = subst (λ a. PassesResult max_flat_results (result_fields f.result) a values fs given) (sym area) x.passes in
      let both = same-return target one_way ignores max_flat_results (result_fields f.result) (area_of f flats) values es fs handed given old.caller new.caller last.caller
      (passes-result-aligned (result_fields f.result) (area_of f flats) values es handed e.passes) e.passes passes e.leads leads in
      (both.1, both.0);
}

-- so where the allocator keeps notes in bytes that are not live
pub only-values-cross-live : (target : Allocation) (releases : Release) (one two : Allocation) (runs : Run) (posts : PostRun) → OnlyValuesCrossLive target releases one two runs posts
only-values-cross-live target releases one two runs posts = λ tame one_way ignores. record {
  there = λ f flats others old past values handed given es fs new last e x same.
      let both = same-entry-live target releases tame one_way ignores max_flat_params f.params values es fs handed given old.callee new.callee last.callee Nowhere Nowhere
      (record { aligned = passes-aligned max_flat_params f.params values es handed e.passes; confined = passes-confined max_flat_params f.params values es handed e.passes; live = λ a i. absurd i; leads = e.leads })
      (record {
        aligned = passes-aligned max_flat_params f.params values fs given x.passes;
        confined = passes-confined max_flat_params f.params values fs given x.passes;
        live = λ a i. absurd i;
        leads = subst (λ m. TraceLeads target m fs last.callee) (sym same) x.leads;
      }) e.passes x.passes in
      (both.1, both.0);
  back = λ f flats others old past answer reply values handed given es fs new last e x kinds lends area same.
      let results = result_fields f.result in
      let at = area_of f flats in
      let passes = subst (λ a. PassesResult max_flat_results results a values fs given) (sym area) x.passes in
      let live : (y : ℕ) → InArea results at y → old.caller.live y ≡ true = λ y i. lends kinds e.area_stands y (subst (λ b. IsWithin y at (cond b 0 (size (record_type results)))) (sym i.0) i.1) in
      let both = same-return-live target releases tame one_way ignores max_flat_results results at values es fs handed given old.caller new.caller last.caller (InArea results at) (InArea results at)
      (record { aligned = passes-result-aligned results at values es handed e.passes; confined = passes-result-confined results at values es handed e.passes; live = live; leads = e.leads })
      (record {
        aligned = passes-result-aligned results at values fs given passes;
        confined = passes-result-confined results at values fs given passes;
        live = live;
        leads = subst (λ m. TraceLeads target m fs last.caller) (sym same) x.leads;
      }) e.passes passes in
      (both.1, both.0);
}

-- ---- ways that broke off

module _ (allocates : Allocation) (releases : Release) (honest : IsHonest allocates releases) where
  -- a byte of a memory that a block was granted in
  granted-shows : (g : Grant) (old mid : Memory) → AreAligned (grant g ∷ []) → TraceLeads allocates old (grant g ∷ []) mid → (a b : ℕ) → slice_get mid.bytes a ≡ Some b
      → (slice_get old.bytes a ≡ Some b) ⊎ ((IsWithin a g.at g.size × (slice_get g.contents (a - g.at) ≡ Some b)) ⊎ ((length old.bytes ≤ a) × (b ≡ 0)))
  granted-shows g old mid al (between, (step, placed, contents), last) a b e =
      elim (cases_lt a g.at) [
        | inl l ↦ outside (inl l)
        | inr h ↦
            elim (cases_lt a (g.at + g.size)) [
              | inl l ↦
                  let size : g.at + g.size - g.at ≡ g.size = omega arith in
                  let there : g.at + (a - g.at) ≡ a = omega (arith, h) in
                  let short : a - g.at < g.size = omega (arith, h, l) in
                  let part : slice_get (slice_range between.bytes g.at (g.at + g.size)) (a - g.at) ≡ slice_get between.bytes a =
                  rw size (slice_get-take g.size (drop g.at between.bytes) (a - g.at) short ∙ slice_get-drop g.at between.bytes (a - g.at) ∙ ap (λ i. slice_get between.bytes i) there) in
                  inr (inl ((h, l), ap (λ bs. slice_get bs (a - g.at)) contents ∙ part ∙ here))
              | inr q ↦ outside (inr q)
            ]
      ]
    where
      granted : IsGrant old g.align g.size g.at between
      granted = honest.granted old g.align g.size g.at between al.0 step

      here : slice_get between.bytes a ≡ Some b
      here = ap (λ m. slice_get m.bytes a) (sym last) ∙ e

      some-one : (x y : ℕ) → ◌≡◌ {A = Option ℕ} (Some x) (Some y) → x ≡ y
      some-one x y p = cc

      outside : IsOutside a g.at g.size → (slice_get old.bytes a ≡ Some b) ⊎ ((IsWithin a g.at g.size × (slice_get g.contents (a - g.at) ≡ Some b)) ⊎ ((length old.bytes ≤ a) × (b ≡ 0)))
      outside out =
          elim (cases_lt a (length old.bytes)) [
            | inl l ↦ inl (sym (granted.same_outside a l out) ∙ here)
            | inr q ↦ inr (inr (q, some-one b 0 (sym here ∙ granted.added a q (slice_get_within between.bytes a b here) out)))
          ]

  -- a byte of a memory that was written to
  pub written-shows : (at : ℕ) (part old new : List ℕ) → at + length part ≤ length old → new ≡ overwrite old at part → (a b : ℕ) → slice_get new a ≡ Some b
      → (slice_get old a ≡ Some b) ⊎ (IsWithin a at (length part) × (slice_get part (a - at) ≡ Some b))
  written-shows at part old new fits is a b e =
      let here = sym (overwrite-get old part at a fits) ∙ ap (λ bs. slice_get bs a) (sym is) ∙ e in
      elim (cases_lt a at) [
        | inl l ↦ inl (sym (byte_over-before at part a (slice_get old a) l) ∙ here)
        | inr h ↦
            elim (cases_lt a (at + length part)) [
              | inl l ↦ inr ((h, l), sym (byte_over-within at part a (slice_get old a) h l) ∙ here)
              | inr q ↦ inl (sym (byte_over-after at part a (slice_get old a) h q) ∙ here)
            ]
      ]

  trace-shows : (es made : List Event) (old new : Memory) → AreAligned made → LeavesOutWrites es made → TraceLeads allocates old made new → ShowsAlone old.bytes es new.bytes
  trace-shows [] made old new al is t =
      let same : new ≡ old = subst (λ l. TraceLeads allocates old l new) is t in
      λ a b e. inl (ap (λ m. slice_get m.bytes a) (sym same) ∙ e)
  trace-shows (node ∷ es) made old new al (rest, is, left) t =
      let (mid, same, more) = subst (λ l. TraceLeads allocates old l new) is t in
      trace-shows es rest old new (subst AreAligned is al) left (subst (λ m. TraceLeads allocates m rest new) same more)
  trace-shows (grant g ∷ es) made old new al (rest, is, left) t =
      let (mid, step, more) = subst (λ l. TraceLeads allocates old l new) is t in
      let aligned : AreAligned (grant g ∷ rest) = subst AreAligned is al in
      let one : TraceLeads allocates old (grant g ∷ []) mid = (mid, step, refl) in
      let keeps = runs-keep allocates releases honest (grant g ∷ []) old mid (aligned.0, tt) one in
      by mid keeps.no_shorter (granted-shows g old mid (aligned.0, tt) one) (trace-shows es rest mid new aligned.1 left more)
    where
      by : (mid : Memory) → length old.bytes ≤ length mid.bytes
          → ((a b : ℕ) → slice_get mid.bytes a ≡ Some b → (slice_get old.bytes a ≡ Some b) ⊎ ((IsWithin a g.at g.size × (slice_get g.contents (a - g.at) ≡ Some b)) ⊎ ((length old.bytes ≤ a) × (b ≡ 0))))
          → ShowsAlone mid.bytes es new.bytes → ShowsAlone old.bytes (grant g ∷ es) new.bytes
      by mid longer first then a b e = elim (then a b e) [
        | inl m ↦ elim (first a b m) [ inl o ↦ inl o | inr n ↦ elim n [ inl c ↦ inr (inl (inl c)) | inr z ↦ inr (inr z) ] ]
        | inr n ↦ elim n [ inl told ↦ inr (inl (inr told)) | inr z ↦ inr (inr (omega (arith, z.0, longer), z.1)) ]
      ]
  trace-shows (write at part ∷ es) made old new al (inl left) t =
      let rest = trace-shows es made old new al left t in
      λ a b e. elim (rest a b e) [ inl o ↦ inl o | inr n ↦ elim n [ inl told ↦ inr (inl (inr told)) | inr z ↦ inr (inr z) ] ]
  trace-shows (write at part ∷ es) made old new al (inr (rest, is, left)) t =
      let (mid, step, more) = subst (λ l. TraceLeads allocates old l new) is t in
      by mid (runs-keep allocates releases honest (write at part ∷ []) old mid tt (mid, step, refl)).no_shorter (written-shows at part old.bytes mid.bytes step.0 (ap (λ m. m.bytes) step.1))
      (trace-shows es rest mid new (subst AreAligned is al) left more)
    where
      by : (mid : Memory) → length old.bytes ≤ length mid.bytes
          → ((a b : ℕ) → slice_get mid.bytes a ≡ Some b → (slice_get old.bytes a ≡ Some b) ⊎ (IsWithin a at (length part) × (slice_get part (a - at) ≡ Some b)))
          → ShowsAlone mid.bytes es new.bytes → ShowsAlone old.bytes (write at part ∷ es) new.bytes
      by mid longer first then a b e = elim (then a b e) [
        | inl m ↦ elim (first a b m) [ inl o ↦ inl o | inr c ↦ inr (inl (inl c)) ]
        | inr n ↦ elim n [ inl told ↦ inr (inl (inr told)) | inr z ↦ inr (inr (omega (arith, z.0, longer), z.1)) ]
      ]

  shows-alone : Shows allocates (λ old es new. ShowsAlone old.bytes es new.bytes)
  shows-alone es made old mid new al left leads after =
      subst (λ m. ShowsAlone old.bytes es m.bytes) (sym (refuses-same allocates releases honest mid new after)) (trace-shows es made old mid al left leads)

pub traps-show-values : (parties : Parties) (caller_releases callee_releases : Release) → TrapsShowValues parties caller_releases callee_releases
traps-show-values parties caller_releases callee_releases = record {
  there = λ f flats old s k ways new honest before t.
      shows-there parties caller_releases callee_releases (are-tame parties caller_releases callee_releases honest) (λ old es new. ShowsAlone old.bytes es new.bytes)
      (shows-alone parties.callee_allocates callee_releases honest.callee) (shows-alone parties.caller_allocates caller_releases honest.caller) f flats old s k ways new before t;
  back = λ f flats old s k ways new honest t.
      shows-back parties caller_releases callee_releases (are-tame parties caller_releases callee_releases honest) (λ old es new. ShowsAlone old.bytes es new.bytes)
      (shows-alone parties.callee_allocates callee_releases honest.callee) (shows-alone parties.caller_allocates caller_releases honest.caller) f flats old s k ways new t;
}

-- The steps of an allocator with headers keep what is live.
use Rattle.std.specs.Prelude.{◌≡◌, ◌⊎◌, ◌+◌, ◌*◌, ◌/◌, ◌%◌, ◌<◌, ◌≤◌, ℕ, zero, suc, Bool, true, false, Some, None, List, length, slice_get}
use Rattle.std.specs.Int.{w32, to_le_bytes}
use Rattle.std.proofs.Common.{refl, sym, ap, ◌∙◌, subst, arith, inl, inr}
use Rattle.std.proofs.lemmas.Bool.Decides.{nat_tests}
use Rattle.canonical_abi.specs.Guest.{Memory, IsAlignment, IsWithin, IsOutside, IsLimited, KeepsLimit, overwrite, rounded_to_eight}
use Rattle.canonical_abi.specs.Tame.{LeavesLive, IsTameGrant, IsTameRelease, IsTame}
use Rattle.canonical_abi.proofs.Traces.BytesWrittenOver.{length-overwrite, length-le_bytes, within_or_not}
use Rattle.canonical_abi.proofs.Traces.TracesLeaveImages.{byte_over-before, byte_over-after, overwrite-get}
use Rattle.memory.specs.FirstFitLaws.{divides}
use Rattle.memory.specs.GrowthLaws.{length-with_pages, same_bytes}
use Rattle.memory.specs.Headers.{word, with_word, top, HasNotes, IsFree, HasRoom, Leads, TakesListed, TakesTop, HeadersAllocates, HeadersReleases}

-- ---- one note

module _ (m : List ℕ) (at n : ℕ) (fits : at + 4 ≤ length m) where
  pub same_length : length (overwrite m at (to_le_bytes w32 n)) ≡ length m
  same_length = length-overwrite m at (to_le_bytes w32 n) (omega (arith, length-le_bytes w32 n))

  -- a byte that is not in it
  pub beside : (a : ℕ) → IsOutside a at 4 → slice_get (overwrite m at (to_le_bytes w32 n)) a ≡ slice_get m a
  beside a (inl l) = overwrite-get m (to_le_bytes w32 n) at a (omega (arith, length-le_bytes w32 n)) ∙ byte_over-before at (to_le_bytes w32 n) a (slice_get m a) l
  beside a (inr r) =
      overwrite-get m (to_le_bytes w32 n) at a (omega (arith, length-le_bytes w32 n))
      ∙ byte_over-after at (to_le_bytes w32 n) a (slice_get m a) (omega arith) (omega (arith, length-le_bytes w32 n))

-- what is live is in no block that is not
apart : (m : Memory) (at size : ℕ) → ((a : ℕ) → IsWithin a at size → m.live a ≡ false) → (a : ℕ) → m.live a ≡ true → IsOutside a at size
apart m at size free a live = elim (within_or_not a at size) [
  | inl w ↦ let e : true ≡ false = sym live ∙ free a w in cc
  | inr o ↦ o
]

pub led : (m : Memory) (size steps link found : ℕ) → Leads m size steps link found → (link ≡ 8) ⊎ IsFree m link 8 → ((found ≡ 8) ⊎ IsFree m found 8) × HasRoom m (word m found) size
led m size zero link found none from = absurd none
led m size (suc steps) link found (free, inl (room, is)) from = subst (λ l. ((l ≡ 8) ⊎ IsFree m l 8) × HasRoom m (word m l) size) (sym is) (from, room)
led m size (suc steps) link found (free, inr (less, more)) from = led m size steps (word m link) found more (inr free)

-- a note is beside what is live
beside_notes : (m : Memory) → HasNotes m → (at : ℕ) → at + 4 ≤ 16 → (a : ℕ) → m.live a ≡ true → IsOutside a at 4
beside_notes m notes at low = apart m at 4 (λ a w. notes.free a (omega (arith, w.1)))

beside_link : (m : Memory) → HasNotes m → (link : ℕ) → (link ≡ 8) ⊎ IsFree m link 8 → (a : ℕ) → m.live a ≡ true → IsOutside a link 4
beside_link m notes link (inl is) = beside_notes m notes link (omega arith)
beside_link m notes link (inr free) = apart m link 4 (λ a w. free.free a (omega (arith, w.0)) (omega (arith, w.1)))

pub link_fits : (m : Memory) → HasNotes m → (link : ℕ) → (link ≡ 8) ⊎ IsFree m link 8 → link + 4 ≤ length m.bytes
link_fits m notes link (inl is) = omega (arith, notes.inside)
link_fits m notes link (inr free) = omega (arith, free.inside)

-- ---- grants

listed : (old : Memory) (align size at : ℕ) (new : Memory) → IsAlignment align → HasNotes old → TakesListed old (rounded_to_eight size) at new → IsTameGrant old align size at new
listed old align size at new legal notes step =
    let l = led old (rounded_to_eight size) (length old.bytes / 8) 8 step.link step.leads (inl refl) in
    let room : HasRoom old at (rounded_to_eight size) = subst (λ p. HasRoom old p (rounded_to_eight size)) (sym step.there) l.1 in
    let fits : step.link + 4 ≤ length old.bytes = link_fits old notes step.link l.0 in
    let bytes : new.bytes ≡ overwrite old.bytes step.link (to_le_bytes w32 (word old at)) = step.takes.same_bytes in
    let long : length new.bytes ≡ length old.bytes = ap (λ bs. length bs) bytes ∙ same_length old.bytes step.link (word old at) fits in
    record {
      aligned = divides align at legal room.block.unit;
      inside = omega (arith, room.block.inside);
      was_free = λ a w. room.block.free a (omega (arith, w.0)) (omega (arith, w.1));
      is_live = λ a w. let is = step.takes.live a in let p = w.0 in let q = w.1 in grind (arith, nat_tests);
      leaves = record {
        no_shorter = omega arith;
        live = λ a h. let is = step.takes.live a in grind (arith, nat_tests);
        bytes = λ a h below out. ap (λ bs. slice_get bs a) bytes ∙ beside old.bytes step.link (word old at) fits a (beside_link old notes step.link l.0 a h);
      };
    }

-- of the top and what is behind it nothing is live
raised : (old : Memory) (align size at : ℕ) (new : Memory) → IsAlignment align → HasNotes old → TakesTop old (rounded_to_eight size) at new → IsTameGrant old align size at new
raised old align size at new legal notes step =
    let r = rounded_to_eight size in
    let there = step.there in
    let pages = step.grown.0 in
    let grown : length step.bytes ≡ length old.bytes + pages * 65536 = ap (λ bs. length bs) step.grown.2 ∙ length-with_pages old.bytes pages in
    let enough : top old + 8 + r ≤ length old.bytes + pages * 65536 = step.grown.1.enough in
    let fits : top old + 4 ≤ length step.bytes = omega arith in
    let header = overwrite step.bytes (top old) (to_le_bytes w32 r) in
    let headed : length header ≡ length step.bytes = same_length step.bytes (top old) r fits in
    let noted : 12 + 4 ≤ length header = omega (arith, notes.inside) in
    let bytes : new.bytes ≡ overwrite header 12 (to_le_bytes w32 (at + r)) = step.takes.same_bytes in
    let long : length new.bytes ≡ length header = ap (λ bs. length bs) bytes ∙ same_length header 12 (at + r) noted in
    let unit = step.room.unit in
    record {
      aligned = divides align at legal (omega arith);
      inside = omega arith;
      was_free = λ a w. step.room.free a (omega (arith, w.0)) (omega (arith, w.1));
      is_live = λ a w. let is = step.takes.live a in let p = w.0 in let q = w.1 in grind (arith, nat_tests);
      leaves = record {
        no_shorter = omega arith;
        live = λ a h. let is = step.takes.live a in grind (arith, nat_tests);
        bytes = λ a h below out.
            ap (λ bs. slice_get bs a) bytes ∙ beside header 12 (at + r) noted a (beside_notes old notes 12 (omega arith) a h)
            ∙ beside step.bytes (top old) r fits a (apart old (top old) 4 (λ b w. step.room.free b w.0 (omega (arith, w.1))) a h)
            ∙ ap (λ bs. slice_get bs a) step.grown.2 ∙ same_bytes old.bytes pages a below;
      };
    }

same_leaves : (m : Memory) → LeavesLive 0 0 m m
same_leaves m = record { no_shorter = omega arith; live = λ a l. l; bytes = λ a l below out. refl }

granted : (old : Memory) (align size at : ℕ) (new : Memory) → IsAlignment align → HeadersAllocates old align size (Some at) new → IsTameGrant old align size at new
granted old align size at new legal (inl (none, start, same)) = record {
  aligned = divides align at legal (rw start refl);
  inside = rw (none, start) (omega arith);
  was_free = λ a w. absurd (omega (arith, w.0, w.1));
  is_live = λ a w. absurd (omega (arith, w.0, w.1));
  leaves = subst (λ m. LeavesLive 0 0 old m) (sym same) (same_leaves old);
}
granted old align size at new legal (inr (some, notes, inl step)) = listed old align size at new legal notes step
granted old align size at new legal (inr (some, notes, inr (nowhere, step))) = raised old align size at new legal notes step

refused : (old : Memory) (align size : ℕ) (new : Memory) → HeadersAllocates old align size None new → LeavesLive 0 0 old new
refused old align size new (some, notes, nowhere, full, is) =
    let fits : 4 + 4 ≤ length old.bytes = omega (arith, notes.inside) in
    subst (λ m. LeavesLive 0 0 old m) (sym is) (record {
      no_shorter = omega (arith, same_length old.bytes 4 48 fits);
      live = λ a l. l;
      bytes = λ a l below out. beside old.bytes 4 48 fits a (beside_notes old notes 4 (omega arith) a l);
    })

-- ---- releases

taken : (old : Memory) (at size : ℕ) (new : Memory) → HeadersReleases old at size true new → IsTameRelease old at size new
taken old at size new (inl (none, same)) = subst (λ m. IsTameRelease old at size m) (sym same) (record {
  no_shorter = omega arith;
  stays_live = λ a l out. l;
  bytes = λ a l now below. refl;
})
taken old at size new (inr (some, notes, block, frees)) =
    let r = rounded_to_eight size in
    let fits : at + 4 ≤ length old.bytes = omega (arith, block.inside) in
    let linked = overwrite old.bytes at (to_le_bytes w32 (word old 8)) in
    let same : length linked ≡ length old.bytes = same_length old.bytes at (word old 8) fits in
    let noted : 8 + 4 ≤ length linked = omega (arith, notes.inside) in
    let bytes : new.bytes ≡ overwrite linked 8 (to_le_bytes w32 at) = frees.same_bytes in
    let long : length new.bytes ≡ length linked = ap (λ bs. length bs) bytes ∙ same_length linked 8 at noted in
    record {
      no_shorter = omega arith;
      stays_live = λ a l out. let is = frees.live a in grind (arith, nat_tests);
      bytes = λ a l now below.
          let is = frees.live a in
          let out : IsOutside a at 4 = elim (within_or_not a at 4) [
            | inl w ↦ (let p = w.0 in let q : a < at + r = omega (arith, w.1) in absurd (grind (arith, nat_tests)))
            | inr o ↦ o
          ] in
          ap (λ bs. slice_get bs a) bytes ∙ beside linked 8 at noted a (beside_notes old notes 8 (omega arith) a l) ∙ beside old.bytes at (word old 8) fits a out;
    }

-- an allocator with headers is tame
pub HeadersIsTame : IsTame HeadersAllocates HeadersReleases
HeadersIsTame = record {
  granted = granted;
  full = refused;
  taken = taken;
  not_taken = λ old at size new step. subst (λ m. LeavesLive 0 0 old m) (sym step.2) (same_leaves old);
}

-- no step of an allocator with headers makes a memory 2^32 bytes long or longer
pub HeadersKeepsLimit : KeepsLimit HeadersAllocates
HeadersKeepsLimit old new align size (Some at) (inl (none, start, same)) limited = subst IsLimited (sym same) limited
HeadersKeepsLimit old new align size (Some at) (inr (some, notes, inl step)) limited =
    let l = led old (rounded_to_eight size) (length old.bytes / 8) 8 step.link step.leads (inl refl) in
    let fits : step.link + 4 ≤ length old.bytes = link_fits old notes step.link l.0 in
    let long : length new.bytes ≡ length old.bytes = ap (λ bs. length bs) step.takes.same_bytes ∙ same_length old.bytes step.link (word old at) fits in
    omega arith
HeadersKeepsLimit old new align size (Some at) (inr (some, notes, inr (nowhere, step))) limited =
    let r = rounded_to_eight size in
    let pages = step.grown.0 in
    let few = step.few in
    let within : length old.bytes + pages * 65536 ≤ step.most = step.grown.1.within in
    let enough : top old + 8 + r ≤ length old.bytes + pages * 65536 = step.grown.1.enough in
    let grown : length step.bytes ≡ length old.bytes + pages * 65536 = ap (λ bs. length bs) step.grown.2 ∙ length-with_pages old.bytes pages in
    let fits : top old + 4 ≤ length step.bytes = omega arith in
    let headed : length (overwrite step.bytes (top old) (to_le_bytes w32 r)) ≡ length step.bytes = same_length step.bytes (top old) r fits in
    let noted : 12 + 4 ≤ length (overwrite step.bytes (top old) (to_le_bytes w32 r)) = omega (arith, notes.inside) in
    let long : length new.bytes ≡ length (overwrite step.bytes (top old) (to_le_bytes w32 r)) =
    ap (λ bs. length bs) step.takes.same_bytes ∙ same_length (overwrite step.bytes (top old) (to_le_bytes w32 r)) 12 (at + r) noted in
    omega arith
HeadersKeepsLimit old new align size None (some, notes, nowhere, full, is) limited =
    let fits : 4 + 4 ≤ length old.bytes = omega (arith, notes.inside) in
    subst IsLimited (sym is) (omega (arith, same_length old.bytes 4 48 fits))

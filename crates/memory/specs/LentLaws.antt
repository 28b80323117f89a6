-- The blocks that a host has granted keep the laws of an honest allocator, and none makes its memory longer.
use Rattle.std.specs.Prelude.{◌≡◌, ◌+◌, ◌≤◌, ◌%◌, ℕ, true, false, not, ◌&&◌, Some, None, nat_lt, nat_le, slice_get, List, [], ◌∷◌, ◌==◌, length}
use Rattle.std.specs.List.{list_all}
use Rattle.std.proofs.Common.{sym, ap, ◌∙◌, subst, arith, refl}
use Rattle.std.proofs.lemmas.Bool.{le-leb, lt-ltb, leb-true, eqb-true, and_from, and_parts, or_from, or_left, or_parts, not-true, not_from_false}
use Rattle.std.proofs.lemmas.Bool.Decides.{nat_tests}
use Rattle.canonical_abi.specs.Guest.{Memory, IsWithin, IsGrant, IsHonest, IsLimited, KeepsLimit}
use Rattle.memory.specs.declared.block.Block.{Block}
use Rattle.memory.specs.Blocks.{is_in_block, is_apart, are_blocks_apart, has_alignment, is_block_placed, are_good}
use Rattle.memory.specs.Lent.{is_kept, lent, LentAllocates, LentReleases}

within : (b : Block) (a : ℕ) → IsWithin a b.at b.size → is_in_block b a ≡ true
within b a h = and_from (nat_le b.at a) (nat_lt a (b.at + b.size)) (le-leb b.at a h.0) (lt-ltb a (b.at + b.size) h.1)

-- what more blocks don't keep, fewer don't
fewer : (b : Block) (bs : List Block) (a : ℕ) → not (is_kept (b ∷ bs) a) ≡ true → not (is_kept bs a) ≡ true
fewer b bs a h = not_from_false (is_kept bs a) (or_parts (is_in_block b a) (is_kept bs a) (not-true (is_kept (b ∷ bs) a) h)).1

aligned : (len : ℕ) (b : Block) → is_block_placed len b ≡ true → b.at % b.align ≡ 0
unfolding is_block_placed
aligned len b h = eqb-true (b.at % b.align) 0 (and_parts (b.at % b.align == 0) (nat_le (b.at + b.size) len) (and_parts (has_alignment b) (b.at % b.align == 0 && nat_le (b.at + b.size) len) h).1).0

inside : (len : ℕ) (b : Block) → is_block_placed len b ≡ true → b.at + b.size ≤ len
unfolding is_block_placed
inside len b h = leb-true (b.at + b.size) len (and_parts (b.at % b.align == 0) (nat_le (b.at + b.size) len) (and_parts (has_alignment b) (b.at % b.align == 0 && nat_le (b.at + b.size) len) h).1).1

apart_at : (b c : Block) (a : ℕ) → is_apart b c ≡ true → is_in_block b a ≡ true → is_in_block c a ≡ false
unfolding is_apart
apart_at b c a h i = grind (arith, nat_tests)

-- an address of a block is kept by no other one
not_kept : (b : Block) (bs : List Block) (a : ℕ) → list_all (is_apart b) bs ≡ true → is_in_block b a ≡ true → is_kept bs a ≡ false
not_kept b [] a h i = refl
not_kept b (c ∷ bs) a h i =
    let t = and_parts (is_apart b c) (list_all (is_apart b) bs) h in
    or_from (is_in_block c a) (is_kept bs a) (apart_at b c a t.0 i) (not_kept b bs a t.1 i)

grant_of : (old : Memory) (name : ℕ) (b : Block) (bs : List Block) (new : Memory) → old ≡ lent name old.bytes (b ∷ bs) → is_block_placed (length old.bytes) b ≡ true
    → list_all (is_apart b) bs ≡ true → new ≡ lent name old.bytes bs → IsGrant old b.align b.size b.at new
grant_of old name b bs new old_is placed far new_is =
    let same_bytes : new.bytes ≡ old.bytes = ap (λ m. m.bytes) new_is in
    let was : (a : ℕ) → old.live a ≡ not (is_kept (b ∷ bs) a) = λ a. ap (λ m. m.live a) old_is in
    let now : (a : ℕ) → new.live a ≡ not (is_kept bs a) = λ a. ap (λ m. m.live a) new_is in
    record {
      aligned = aligned (length old.bytes) b placed;
      inside = rw same_bytes (inside (length old.bytes) b placed);
      was_free = λ a h. was a ∙ ap not (or_left (is_in_block b a) (is_kept bs a) (within b a h));
      is_live = λ a h. now a ∙ ap not (not_kept b bs a far (within b a h));
      stays_live = λ a h. now a ∙ fewer b bs a (sym (was a) ∙ h);
      same_outside = λ a h o. ap (λ bytes. slice_get bytes a) same_bytes;
      added = λ a past below o. absurd (let longer = ap (λ bytes. length bytes) same_bytes in omega arith);
    }

good_parts : (len : ℕ) (b : Block) (bs : List Block) → are_good len (b ∷ bs) ≡ true → (is_block_placed len b ≡ true) × (list_all (is_apart b) bs ≡ true)
good_parts len b bs h =
    let t = and_parts (list_all (is_block_placed len) (b ∷ bs)) (are_blocks_apart (b ∷ bs)) h in
    ((and_parts (is_block_placed len b) (list_all (is_block_placed len) bs) t.0).0, (and_parts (list_all (is_apart b) bs) (are_blocks_apart bs) t.1).0)

grants : (old : Memory) (align size at : ℕ) (new : Memory) → LentAllocates old align size (Some at) new → IsGrant old align size at new
grants old align size at new (name, b, bs, next, good, is_at, new_is) =
    let g = good_parts (length old.bytes) b bs good in
    let whole = grant_of old name b bs new next.memory_is g.0 g.1 new_is in
    subst (λ x. IsGrant old x size at new) next.same_align (subst (λ x. IsGrant old b.align x at new) next.same_size (subst (λ x. IsGrant old b.align b.size x new) is_at whole))

-- the allocator of a lent memory is honest
pub LentIsHonest : IsHonest LentAllocates LentReleases
LentIsHonest = record {
  granted = λ old align size at new pos step. grants old align size at new step;
  full = λ old align size new step. step.1;
  taken = λ old at size new step. absurd step;
  not_taken = λ old at size new step. step;
}

-- no step of an allocator of lent blocks makes a memory 2^32 bytes long or longer
pub LentKeepsLimit : KeepsLimit LentAllocates
LentKeepsLimit old new align size (Some at) (name, b, bs, next, good, is_at, new_is) limited =
    let same : length new.bytes ≡ length old.bytes = ap (λ m. length m.bytes) new_is in
    rw same limited
LentKeepsLimit old new align size None (other, new_is) limited = subst IsLimited (sym new_is) limited

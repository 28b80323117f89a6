-- A lent memory answers in one way, and looks at no byte.
use Rattle.std.proofs.Common.{◌≡◌, ℕ, Bool, not, List, [], ◌∷◌, length, Some, None, refl, sym, ap, ◌∙◌}
use mathlib.Core.Path.{fun_ext}
use Rattle.canonical_abi.specs.Guest.{Memory}
use Rattle.canonical_abi.specs.Told.{AllocatesInOneWay, IgnoresBytes, SameButBytes}
use Rattle.memory.specs.declared.block.Block.{Block}
use Rattle.memory.specs.Lent.{is_kept, numbers, lent, IsNextBlock, LentAllocates}

-- a block is told by its parts
block_of : (a b c d e f : ℕ) → a ≡ d → b ≡ e → c ≡ f → ◌≡◌ {A = Block} (record { align = a; size = b; at = c }) (record { align = d; size = e; at = f })
block_of a b c d e f p q r = rw (p, q, r) refl

-- blocks of the same numbers are the same
same_blocks : (bs cs : List Block) → numbers bs ≡ numbers cs → bs ≡ cs
same_blocks [] [] e = refl
same_blocks [] (c ∷ cs) e = absurd (cc)
same_blocks (b ∷ bs) [] e = absurd (cc)
same_blocks (b ∷ bs) (c ∷ cs) e =
    let head : b ≡ c = block_of b.align b.size b.at c.align c.size c.at (cc) (cc) (cc) in
    let tail : bs ≡ cs = same_blocks bs cs (cc) in
    rw (head, tail) refl

-- a state has one name, and one list of blocks
pub same_state : (name other : ℕ) (bs cs : List Block) → name ∷ numbers bs ≡ other ∷ numbers cs → (name ≡ other) × (bs ≡ cs)
same_state name other bs cs e =
    let blocks : numbers bs ≡ numbers cs = cc in
    (cc, same_blocks bs cs blocks)

head_same : (b c : Block) (bs cs : List Block) → b ∷ bs ≡ c ∷ cs → (b ≡ c) × (bs ≡ cs)
head_same b c bs cs e = (cc, cc)

next_is : (m : Memory) (align size name other : ℕ) (b c : Block) (bs cs : List Block) → IsNextBlock m align size name b bs → IsNextBlock m align size other c cs → (name ≡ other) × (b ≡ c) × (bs ≡ cs)
next_is m align size name other b c bs cs next follows =
    let both = same_state name other (b ∷ bs) (c ∷ cs) (sym (ap (λ w. w.state) next.memory_is) ∙ ap (λ w. w.state) follows.memory_is) in
    let heads = head_same b c bs cs both.1 in
    (both.0, heads.0, heads.1)

pub lents_in_one_way : AllocatesInOneWay LentAllocates
lents_in_one_way old align size (Some a) (Some b) m n alignment (name, x, xs, next, good, at, m_is) (other, y, ys, follows, fine, to, n_is) =
    let same = next_is old align size name other x y xs ys next follows in
    let left : lent name old.bytes xs ≡ lent other old.bytes ys = rw (same.0, same.2) refl in
    (ap Some (sym at ∙ ap (λ z. z.at) same.1 ∙ to), m_is ∙ left ∙ sym n_is)
lents_in_one_way old align size (Some a) None m n alignment (name, x, xs, next, good, at, m_is) (none, n_is) = absurd (none name x xs next)
lents_in_one_way old align size None (Some b) m n alignment (none, m_is) (other, y, ys, follows, fine, to, n_is) = absurd (none other y ys follows)
lents_in_one_way old align size None None m n alignment (none, m_is) (never, n_is) = (refl, m_is ∙ sym n_is)

-- ---- and looks at no byte

made_of : (bs : List ℕ) (f g : ℕ → Bool) (s t : List ℕ) → f ≡ g → s ≡ t → ◌≡◌ {A = Memory} (record { bytes = bs; live = f; state = s }) (record { bytes = bs; live = g; state = t })
made_of bs f g s t q r = rw (q, r) refl

next_of_other : (m n : Memory) (align size name : ℕ) (b : Block) (bs : List Block) → SameButBytes m n → IsNextBlock m align size name b bs → IsNextBlock n align size name b bs
next_of_other m n align size name b bs s next = record {
  memory_is =
      made_of n.bytes n.live (λ a. not (is_kept (b ∷ bs) a)) n.state (name ∷ numbers (b ∷ bs)) (fun_ext (λ a. sym (s.same_live a) ∙ ap (λ w. w.live a) next.memory_is))
      (sym s.same_state ∙ ap (λ w. w.state) next.memory_is);
  same_align = next.same_align;
  same_size = next.same_size;
}

turned : (m n : Memory) → SameButBytes m n → SameButBytes n m
turned m n s = record { same_length = sym s.same_length; same_live = λ a. sym (s.same_live a); same_state = sym s.same_state }

pub lents_ignore_bytes : IgnoresBytes LentAllocates
lents_ignore_bytes m n align size (Some a) (Some b) m' n' alignment s (name, x, xs, next, good, at, m'_is) (other, y, ys, follows, fine, to, n'_is) =
    let same = next_is n align size name other x y xs ys (next_of_other m n align size name x xs s next) follows in (
      ap Some (sym at ∙ ap (λ z. z.at) same.1 ∙ to),
      record {
        same_length = ap (λ w. length w.bytes) m'_is ∙ s.same_length ∙ sym (ap (λ w. length w.bytes) n'_is);
        same_live = λ z. ap (λ w. w.live z) m'_is ∙ ap (λ l. not (is_kept l z)) same.2 ∙ sym (ap (λ w. w.live z) n'_is);
        same_state = ap (λ w. w.state) m'_is ∙ ap (λ l. name ∷ numbers l) same.2 ∙ ap (λ l. l ∷ numbers ys) same.0 ∙ sym (ap (λ w. w.state) n'_is);
      },
    )
lents_ignore_bytes m n align size (Some a) None m' n' alignment s (name, x, xs, next, good, at, m'_is) (none, n'_is) = absurd (none name x xs (next_of_other m n align size name x xs s next))
lents_ignore_bytes m n align size None (Some b) m' n' alignment s (none, m'_is) (other, y, ys, follows, fine, to, n'_is) = absurd (none other y ys (next_of_other n m align size other y ys (turned m n s) follows))
lents_ignore_bytes m n align size None None m' n' alignment s (none, m'_is) (never, n'_is) = (
  refl,
  record {
    same_length = ap (λ w. length w.bytes) m'_is ∙ s.same_length ∙ sym (ap (λ w. length w.bytes) n'_is);
    same_live = λ z. ap (λ w. w.live z) m'_is ∙ s.same_live z ∙ sym (ap (λ w. w.live z) n'_is);
    same_state = ap (λ w. w.state) m'_is ∙ s.same_state ∙ sym (ap (λ w. w.state) n'_is);
  },
)

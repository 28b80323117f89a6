-- What growth leaves as it was, and what it adds.
use Rattle.std.specs.Prelude.{◌≡◌, ◌+◌, ◌*◌, ◌<◌, ◌≤◌, ◌++◌, ℕ, zero, suc, List, [], ◌∷◌, Some, length, replicate, slice_get}
use Rattle.std.proofs.Common.{refl, ap, ◌∙◌, arith}
use Rattle.std.proofs.lemmas.List.{length-append, length-replicate}
use Rattle.memory.specs.Growth.{with_pages}

-- growth by pages makes a memory longer by 65536 bytes each
pub length-with_pages : (bytes : List ℕ) (pages : ℕ) → length (with_pages bytes pages) ≡ length bytes + pages * 65536
length-with_pages bytes pages = length-append bytes (replicate (pages * 65536) 0) ∙ ap (λ n. length bytes + n) (length-replicate (pages * 65536) 0)

byte_before : (bytes more : List ℕ) (a : ℕ) → a < length bytes → slice_get (bytes ++ more) a ≡ slice_get bytes a
byte_before [] more a below = absurd (omega arith)
byte_before (b ∷ bytes) more zero below = refl
byte_before (b ∷ bytes) more (suc a) below = byte_before bytes more a (omega arith)

zero_behind : (bytes : List ℕ) (n a : ℕ) → length bytes ≤ a → a < length bytes + n → slice_get (bytes ++ replicate n 0) a ≡ Some 0
zero_behind [] zero a past below = absurd (omega arith)
zero_behind [] (suc n) zero past below = refl
zero_behind [] (suc n) (suc a) past below = zero_behind [] n a (omega arith) (omega arith)
zero_behind (b ∷ bytes) n zero past below = absurd (omega arith)
zero_behind (b ∷ bytes) n (suc a) past below = zero_behind bytes n a (omega arith) (omega arith)

-- the bytes that were there stay
pub same_bytes : (bytes : List ℕ) (pages a : ℕ) → a < length bytes → slice_get (with_pages bytes pages) a ≡ slice_get bytes a
same_bytes bytes pages a below = byte_before bytes (replicate (pages * 65536) 0) a below

-- the bytes that are added are zeros
pub zero_bytes : (bytes : List ℕ) (pages a : ℕ) → length bytes ≤ a → a < length (with_pages bytes pages) → slice_get (with_pages bytes pages) a ≡ Some 0
zero_bytes bytes pages a past below = zero_behind bytes (pages * 65536) a past (omega (arith, length-with_pages bytes pages))

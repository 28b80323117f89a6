-- Faults, by their bytes.
use Rattle.std.specs.Prelude.{◌≡◌, ℕ, ◌-◌, ◌≤◌, List, slice_get, if◌then◌else◌, nat_lt}
use Rattle.std.specs.Option.{option_map_or}
use Rattle.wit_tree.specs.declared.word.Word.{Word}
use Rattle.wit_tree.specs.declared.fault.Fault.{Fault}
use Rattle.wit_tree.specs.declared.told.Told.{Told}

-- a fault is about bytes of a text of so many, and what mends it is written in it or at its end
abbrev pub IsInText : ℕ → Told → Type 0
IsInText len f = (f.start ≤ f.end) × (f.end ≤ len) × (f.insert ≤ len)

-- where a word begins, or the end of the text if there is none
abbrev pub start_at : List Word → ℕ → ℕ → ℕ
start_at ws at len = option_map_or (λ (w : Word). w.start) (slice_get ws at) len

-- where a word ends, or the end of the text if there is none
abbrev pub end_at : List Word → ℕ → ℕ → ℕ
end_at ws at len = option_map_or (λ (w : Word). w.end) (slice_get ws at) len

-- A fault of the grammar by its bytes: from the first byte of its first word to the last one of its last. One that has no
-- word is before the word at which it is, or at the end of the text.
pub record IsPlaced (ws : List Word) (len : ℕ) (f : Fault) (t : Told) : Type 0 where
  pub problem : t.problem ≡ f.problem
  pub fix : t.fix ≡ f.fix
  pub start : t.start ≡ start_at ws f.from len
  pub end : t.end ≡ (if nat_lt f.from f.to then end_at ws (f.to - 1) len else start_at ws f.from len)

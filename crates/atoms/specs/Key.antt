-- Keys of hashers, made of names.
use Rattle.std.specs.Prelude.{ℕ}
use Rattle.std.specs.List.{fold}
use Rattle.std.specs.Hash.{u64}
use Rattle.std.specs.Hash.DefaultHasher.{write, finish}
use Rattle.std.specs.declared.hash.DefaultHasher.{DefaultHasher}
use Rattle.atoms.specs.declared.hasher.NameHasher.{NameHasher}

-- a hasher to which this number was written
abbrev pub with_number : DefaultHasher → ℕ → DefaultHasher
with_number h n = fold write h (u64 n)

-- A hasher whose key is what this one has hashed, as two numbers: its hash, and its hash once that was written too.
abbrev pub keyed_by : DefaultHasher → NameHasher
keyed_by h = record { state = finish h; multiplier = finish (with_number h (finish h)) }

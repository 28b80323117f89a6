-- The lower-case letters at a front of bytes.
use Rattle.std.specs.Prelude.{ℕ, List, [], ◌∷◌, if◌then◌else◌}
use Rattle.atoms.specs.Label.{is_lower}

-- the bytes after the lower-case letters at the front
abbrev pub behind_lower : List ℕ → List ℕ
behind_lower [] = []
behind_lower (c ∷ cs) = if is_lower c then behind_lower cs else c ∷ cs

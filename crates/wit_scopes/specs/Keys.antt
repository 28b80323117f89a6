-- Names under which something is found.
use Rattle.std.specs.Prelude.{ℕ, Bool, ◌==◌, ◌&&◌}
use Rattle.wit_names.specs.declared.name.NameId.{NameId}
use Rattle.wit_names.specs.declared.places.ScopeId.{ScopeId}

-- whether a key is this name in this scope
abbrev pub is_in_scope : ScopeId → NameId → ScopeId × NameId → Bool
is_in_scope s n k = (s.0 == k.0.0) && (n.0 == k.1.0)

-- whether a key is this name of the include of an index
abbrev pub is_of_include : ℕ → NameId → ℕ × NameId → Bool
is_of_include i n k = (i == k.0) && (n.0 == k.1.0)

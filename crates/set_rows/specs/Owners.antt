-- Whose the rows of a table are: an interface's or a world's.
use Rattle.std.specs.Prelude.{List, [], ◌∷◌, Option, None, Some}
use Rattle.std.specs.Option.{option_or}
use Rattle.package_form.specs.References.{row_references}
use Rattle.package_form.specs.Reached.{used_in}
use Rattle.tables.specs.Names.{owner_of}
use Rattle.tables.specs.declared.tables.TypeId.{TypeId}
use Rattle.tables.specs.declared.tables.Owner.{Owner}
use Rattle.tables.specs.declared.tables.Definition.{Definition}

-- the owner of the first of these rows, or none if there is no row
abbrev pub first_owner : List (Option Owner) → Option Owner
first_owner [] = None
first_owner (o ∷ os) = o

-- whose each row is, in order; a row without a name is of the owner of the next row with one
abbrev pub owners : List Definition → List (Option Owner)
owners [] = []
owners (d ∷ ds) = option_or (owner_of d) (first_owner (owners ds)) ∷ owners ds

-- the rows that a row names: the type that a used name stands for, or what it is made of
abbrev pub names_or : Option TypeId → List TypeId → List TypeId
names_or None ts = ts
names_or (Some t) ts = t ∷ []

-- the rows that a row refers to: of a used name the type that it names, of others what they are made of
abbrev pub names : Definition → List TypeId
names d = names_or (used_in d) (row_references d)

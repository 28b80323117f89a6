-- Where what is kept of a table stands in another: each kind of thing by its marks.
use Rattle.std.specs.Prelude.{false, slice_index_or}
use Rattle.set_rows.specs.Places.{place}
use Rattle.set_rows.specs.Moved.{Renaming}
use Rattle.set_rows.specs.declared.moved.Moved.{Moved}

-- the new index of what is kept: how many of its kind are kept before it
abbrev pub renaming : Moved → Renaming
renaming m = record {
  packages = place m.packages;
  interfaces = place m.interfaces;
  worlds = place m.worlds;
  rows = place m.rows;
  keeps = λ k. slice_index_or m.rows k false;
}

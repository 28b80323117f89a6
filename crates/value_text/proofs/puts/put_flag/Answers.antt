use Rattle.std.proofs.Common.{List, ℕ, [], ◌++◌, Bool, sym, subst}
use Rattle.std.specs.Prelude.{if◌then◌else◌}
use Rattle.json.specs.Print.{quoted}
use Rattle.value_text.specs.Puts.{PutsWithin}
use Rattle.value_text.specs.Texts.{comma_at}
use Rattle.value_text.proofs.PutsInTurn.{within-then}
use Rattle.value_text.proofs.puts.put_flag.Goals as goal

pub returns-in_ok-begun : goal.returns-in_ok-begun
returns-in_ok-begun c =
    let text : List ℕ = comma_at c.args.index ++ quoted c.args.label.now in
    let P : Bool → Type 0 = λ b. PutsWithin c.args.limit (if b then text else []) c.args.room.now c.args.at c.put_quoted.result c.put_quoted.new.room in
    subst P (sym c.if-is_set.true)
    (within-then c.args.limit c.args.room.now c.args.at (comma_at c.args.index) c.put_comma.new.room c.in_ok-begun.begun (quoted c.args.label.now) c.put_quoted.new.room c.put_quoted.result c.in_ok-begun.ensures.0 c.put_quoted.ensures)

use Rattle.std.proofs.Common.{◌≡◌, inr, cond, IsTrue, length, None, Some, refl, ap, sym, ◌∙◌}
use Rattle.tables.specs.Parts.{is_package}
use Rattle.component_reader.specs.Component.{Candidate}
use Rattle.tables.proofs.NamesEarlierTypes.{package-whole, tests-of}
use Rattle.component_reader.proofs.component.ComponentReader.finish.Goals as goal

pub returns-in-Ok : goal.returns-in-Ok
returns-in-Ok c =
    let packages = c.args.self.packages.items in
    let rows = c.args.self.rows.items in
    let interfaces = c.args.self.interfaces.items in
    let worlds = c.args.self.worlds.items in
    let r = c.in-Ok.resolve in
    let has = c.in-Ok.ensures.ok in
    let packages_are : r.packages ≡ packages = has.has_packages ∙ c.new.ensures in
    let definitions_are : r.definitions ≡ rows = has.has_definitions ∙ c.new-4.ensures in
    let interfaces_are : r.interfaces ≡ interfaces = has.has_interfaces ∙ c.new-2.ensures in
    let worlds_are : r.worlds ≡ worlds = has.has_worlds ∙ c.new-3.ensures in
    let whole : IsTrue (is_package (length r.packages) r.definitions r.interfaces r.worlds) = package-whole (length r.packages) r.definitions r.interfaces r.worlds (tests-of r) in
    let same : is_package (length r.packages) r.definitions r.interfaces r.worlds ≡ is_package (length packages) rows interfaces worlds =
    λ j. is_package (length (packages_are j)) (definitions_are j) (interfaces_are j) (worlds_are j) in
    let made : Candidate = record { packages = packages; interfaces = interfaces; worlds = worlds; definitions = rows } in (
      made,
      ap (λ b. cond b (Some made) None) (sym same ∙ whole),
      record {
        packages = packages_are;
        interfaces = interfaces_are;
        worlds = worlds_are;
        definitions = definitions_are;
      },
    )

pub returns : goal.returns
returns c =
    let packages = c.args.self.packages.items in
    let rows = c.args.self.rows.items in
    let interfaces = c.args.self.interfaces.items in
    let worlds = c.args.self.worlds.items in
    let made : Candidate = record { packages = packages; interfaces = interfaces; worlds = worlds; definitions = rows } in
    let same : is_package (length c.new.result) c.new-4.result c.new-2.result c.new-3.result ≡ is_package (length packages) rows interfaces worlds =
    λ j. is_package (length (c.new.ensures j)) (c.new-4.ensures j) (c.new-2.ensures j) (c.new-3.ensures j) in
    inr (refl, ap (λ b. cond b (Some made) None) (sym same ∙ c.in-Err.ensures.err.1))

use Rattle.std.proofs.Common.{rules, ◌≡◌, ◌∙◌, false, true, sym, ◌-◌, length, take, drop, slice_index_or}
use Rattle.std.specs.Char.{is_ascii_lowercase}
use Rattle.std.specs.Prelude.{not}
use Rattle.atoms.specs.declared.label.Place.TheVariants.{Start, Lower}
use Rattle.atoms.proofs.LabelsInOnePass.{label_from, words_by, label_behind_lower, starts_lower}
use Rattle.atoms.proofs.label.is_words.Goals as goal

pub returns-in_default-place : goal.returns-in_default-place
returns-in_default-place c = let e : false ≡ label_from Start c.args.text.now = search rules in e ∙ words_by c.args.text.now

pub returns-in_default-place-2 : goal.returns-in_default-place-2
returns-in_default-place-2 c = let e : false ≡ label_from Start c.args.text.now = search rules in e ∙ words_by c.args.text.now

pub returns : goal.returns
returns c = let e : not c.match-matches.matches ≡ label_from Start c.args.text.now = search rules in e ∙ words_by c.args.text.now

pub loop-rest-preserved-in-Start : goal.loop-rest-preserved-in-Start
loop-rest-preserved-in-Start c =
    let lower : is_ascii_lowercase (slice_index_or c.loop-rest.rest.now 0 0) ≡ true = sym c.is_ascii_lowercase.ensures.value ∙ c.if-is_ascii_lowercase.true in
    let first : label_from Start c.loop-rest.rest.now ≡ label_from Lower (take (length c.loop-rest.rest.now - 1) (drop 1 c.loop-rest.rest.now)) = starts_lower c.loop-rest.rest.now c.in-len1-up.len_at_least lower in
    rw (c.behind_lower-rest.ensures, label_behind_lower _) (sym first ∙ rw c.in-Start.is at c.loop-rest.invariant)

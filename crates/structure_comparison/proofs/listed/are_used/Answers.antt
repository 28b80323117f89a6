use Rattle.std.proofs.Common.{ℕ, List, sym, subst}
use Rattle.tables.specs.declared.tables.InterfaceId.{InterfaceId}
use Rattle.std.proofs.lemmas.List.Elements.{All-nil}
use Rattle.structure_comparison.specs.Worlds.{AreIds, IsUsedByOne}
use Rattle.structure_comparison.proofs.Sets.{ids_chain, ids_found}
use Rattle.structure_comparison.proofs.listed.are_used.Goals as goal

pub returns : goal.returns
returns c = λ t.
    let r = c.args.comparison.now.resolve.now in
    let P : InterfaceId → Type 0 = IsUsedByOne r c.args.users.now in
    let none : AreIds P c.new-set.result.keys = subst (λ (ks : List ℕ). AreIds P ks) (sym c.new-set.ensures.empty) (All-nil (λ (n : ℕ). P (record { 0 = n }))) in
    ids_found P c.put_used.new.set.keys c.args.used.now (ids_chain P P c.new-set.result.keys c.put_used.new.set.keys none (λ (id : InterfaceId) u. u) c.in_ok-put_used.ensures) (c.has_all.ensures t)

use Rattle.std.proofs.Common.{◌≡◌, ◌<◌, ◌≤◌, ℕ, List, ◌++◌, ◌∷◌, [], length, slice_index_or, ◌∙◌, ap, refl, map, arith, rules}
use Rattle.std.proofs.lemmas.Result.{err_from_is_err_and}
use Rattle.std.proofs.lemmas.List.{map_push}
use Rattle.ctype_format.specs.Grammar.{decl, type}
use Rattle.ctype_format.specs.View.{decl_view, type_view}
use Rattle.ctype_bin.proofs.ReadsExactly.ItemLoopsWithState.{goes_on, ends, is_done}
use Rattle.ctype_bin.proofs.ReadsExactly.TypesByOpcode.{type_stops, type_plain, type_nested, plain_ok, plain_stops}
use Rattle.ctype_bin.proofs.types.Nesting.+types.Goals as goal

pub decls_of-returns-in_err-decl-clause-reads : goal.decls_of-returns-in_err-decl-clause-reads
decls_of-returns-in_err-decl-clause-reads t c =
    let p = err_from_is_err_and c.from_residual.result c.from_residual.ensures.1 in
    rw (p.1, p.2) (ends (decl (type c.args.self.now.depth) c.args.component c.args.self.now.around.now) c.in_err-decl.field-0.0 (map decl_view c.loop.decls.items) c.args.count c.loop.counter c.loop.scope c.loop.rest.now _ c.loop-test.true c.in_err-decl.ensures.reads c.loop.invariant.so_far)

pub decls_of-loop-preserved : goal.decls_of-loop-preserved
decls_of-loop-preserved t c =
    let d = c.in_ok-decl.decl in
    let e : map decl_view c.push.new.self.items ≡ map decl_view c.loop.decls.items ++ decl_view d ∷ [] = rw c.in_ok-push.ensures.items (map_push _ c.loop.decls.items d) in
    record {
      within = c.in_ok-decl.ensures.within;
      more = omega (arith, c.loop.invariant.more, c.in_ok-decl.ensures.more);
      few = omega (arith, c.loop.invariant.few, c.in_ok-decl.ensures.instances);
      so_far = rw e (goes_on (decl (type c.args.self.now.depth) c.args.component c.args.self.now.around.now) (map decl_view c.loop.decls.items) c.args.count c.loop.counter c.loop.scope c.loop.rest.now ((decl_view d, c.in_ok-decl.after), c.in_ok-decl.behind.now) _ c.loop-test.true c.in_ok-decl.ensures.reads c.loop.invariant.so_far);
    }

pub decls_of-returns-clause-reads : goal.decls_of-returns-clause-reads
decls_of-returns-clause-reads t c = is_done (decl (type c.args.self.now.depth) c.args.component c.args.self.now.around.now) (map decl_view c.loop.decls.items) c.args.count c.loop.counter c.loop.scope c.loop.rest.now _ c.loop-test.false c.loop.invariant.so_far

pub type_of-returns-in_err-opcode-clause-reads : goal.type_of-returns-in_err-opcode-clause-reads
type_of-returns-in_err-opcode-clause-reads t c =
    let p = err_from_is_err_and c.from_residual.result c.from_residual.ensures.1 in
    rw (p.1, p.2) (type_stops c.args.self.now.depth c.args.self.now.around.now c.args.scope c.args.bytes.now c.in_err-opcode.field-0.0 c.in_err-opcode.ensures.reads)

pub type_of-returns-in_err-ty-clause-reads : goal.type_of-returns-in_err-ty-clause-reads
type_of-returns-in_err-ty-clause-reads t c =
    let p = err_from_is_err_and c.from_residual-in_err-ty.result c.from_residual-in_err-ty.ensures.1 in
    let e = type_plain c.args.self.now.depth c.args.self.now.around.now c.args.scope c.args.bytes.now c.in_ok-opcode.opcode c.in_ok-opcode.rest.now c.in_ok-opcode.ensures.reads (search rules) in
    rw (p.1, p.2, e) (plain_stops c.args.scope c.in_ok-opcode.opcode c.in_ok-opcode.rest.now c.in_err-ty.field-0.0 c.in_err-ty.ensures)

pub type_of-returns-clause-reads : goal.type_of-returns-clause-reads
type_of-returns-clause-reads t c =
    let e = type_plain c.args.self.now.depth c.args.self.now.around.now c.args.scope c.args.bytes.now c.in_ok-opcode.opcode c.in_ok-opcode.rest.now c.in_ok-opcode.ensures.reads (search rules) in
    e ∙ plain_ok c.args.scope c.in_ok-opcode.opcode c.in_ok-opcode.rest.now (type_view c.in_ok-ty.ty) c.in_ok-ty.rest.now c.in_ok-ty.ensures

pub type_of-returns-then-is_nested-clause-reads : goal.type_of-returns-then-is_nested-clause-reads
type_of-returns-then-is_nested-clause-reads t c =
    let e = type_nested c.args.self.now.depth c.args.self.now.around.now c.args.scope c.args.bytes.now c.in_ok-opcode.opcode c.in_ok-opcode.rest.now (c.in_ok-opcode.ensures.nested (search rules)) c.in_ok-opcode.ensures.reads (search rules) in
    let inner : c.as_slice.result.now ≡ c.args.self.now.around.now ++ c.args.scope.types ∷ [] = c.as_slice.ensures.value ∙ c.in_ok-push.ensures.items ∙ ap (λ (l : List ℕ). l ++ c.args.scope.types ∷ []) c.in_ok-around.ensures.items in
    rw e (rw inner at c.scope_of-then-is_nested.ensures.reads)

behind_one : (around : List ℕ) (types : ℕ) → 1 ≤ length around → length around < 2 → slice_index_or around 0 0 ∷ types ∷ [] ≡ around ++ types ∷ []
behind_one [] types low high = absurd (omega (arith, low))
behind_one (a ∷ []) types low high = refl
behind_one (a ∷ b ∷ bs) types low high = absurd (omega (arith, high))

pub type_of-returns-in-len1-clause-reads : goal.type_of-returns-in-len1-clause-reads
type_of-returns-in-len1-clause-reads t c =
    let e = type_nested c.args.self.now.depth c.args.self.now.around.now c.args.scope c.args.bytes.now c.in_ok-opcode.opcode c.in_ok-opcode.rest.now (c.in_ok-opcode.ensures.nested (search rules)) c.in_ok-opcode.ensures.reads (search rules) in
    let inner = behind_one c.args.self.now.around.now c.args.scope.types c.in-len1.len_at_least c.in-len1.len_below in
    rw e (rw inner at c.scope_of.ensures.reads)

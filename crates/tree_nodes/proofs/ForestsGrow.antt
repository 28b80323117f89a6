-- What opening, taking and closing do to the nodes.
use Rattle.std.proofs.Common.{◌≡◌, ℕ, ◌+◌, ◌-◌, ◌<◌, ◌≤◌, Bool, true, false, List, [], ◌∷◌, ◌++◌, length, Option, Some, None, refl, sym, ap, subst, ◌∙◌, append_assoc, append-nil, arith, length-append}
use Rattle.std.specs.Prelude.{reverse, option_to_list, if◌then◌else◌, nat_lt}
use Rattle.std.proofs.lemmas.Bool.{ltb-true}
use Rattle.std.specs.Coded.{le_prop}
use Rattle.std.proofs.Math.Logic.{∥∥₁_map, ∥∥₁_elim}
use Rattle.std.proofs.lemmas.List.{reverse-append}
use Rattle.tree_nodes.specs.declared.node.Node.{Node}
use Rattle.tree_nodes.specs.declared.node.NodeKind.{NodeKind}
use Rattle.tree_nodes.specs.declared.node.OpenNode.{OpenNode}
use Rattle.tree_nodes.specs.Forests.{Forest, empty, tree, Growing, closed, open_at, node_over, closed_node}

-- over more tokens
pub widened : (a b c : ℕ) (ns : List Node) → Forest a b ns → b ≤ c → Forest a c ns
widened _ _ c _ (empty a d h) k = empty a c (omega arith)
widened _ _ e _ (tree a b c d kind before inside f g few h) k = tree a b c e kind before inside f g few (omega arith)

-- nodes, and those behind them
pub joined : (a b c : ℕ) (xs ys : List Node) → Forest a b xs → Forest b c ys → Forest a c (xs ++ ys)
joined a _ _ xs _ f (empty b c h) = subst (λ (ns : List Node). Forest a c ns) (sym (append-nil xs)) (widened a b c xs f h)
joined a _ _ xs _ f (tree b m c d kind before inside g h few k) =
    subst (λ (ns : List Node). Forest a d ns) (append_assoc xs before (inside ++ node_over kind m c inside ∷ []))
    (tree a m c d kind (xs ++ before) inside (joined a b m xs before f g) h few k)

-- twice as many nodes as tokens at most
pub few : (a b : ℕ) (ns : List Node) → Forest a b ns → a + a + length ns ≤ b + b
few _ _ _ (empty a d h) = omega arith
few _ _ _ (tree a b c d kind before inside f g less h) =
    let outer = few a b before f in
    let all = length-append before (inside ++ node_over kind b c inside ∷ []) in
    let own = length-append inside (node_over kind b c inside ∷ []) in
    omega (arith, outer, all, own, less)

-- more tokens are taken
pub taken : (at later : ℕ) (ns : List Node) (ms : List OpenNode) → Growing at ns ms → at ≤ later → Growing later ns ms
taken _ later _ _ (closed at ns f) h = closed later ns (widened 0 at later ns f h)
taken _ later _ _ (open_at from at outer inner ms g f) h = open_at from later outer inner ms g (widened from at later inner f h)

-- a node is opened
pub opened : (at : ℕ) (ns : List Node) (ms : List OpenNode) → Growing at ns ms → Growing at ns (record { from = at; before = length ns } ∷ ms)
opened at ns ms g = subst (λ (all : List Node). Growing at all (record { from = at; before = length ns } ∷ ms)) (append-nil ns) (open_at at at ns [] ms g (empty at at (omega arith)))

-- nodes are put behind those that stand there
grown : (from at : ℕ) (ns more : List Node) (ms : List OpenNode) → Growing from ns ms → Forest from at more → Growing at (ns ++ more) ms
grown _ at _ more _ (closed from ns f) g = closed at (ns ++ more) (joined 0 from at ns more f g)
grown _ at _ more _ (open_at begin from outer inner ms g f) h =
    subst (λ (all : List Node). Growing at all (record { from = begin; before = length outer } ∷ ms)) (sym (append_assoc outer inner more))
    (open_at begin at outer (inner ++ more) ms g (joined begin from at inner more f h))

-- the last one opened is closed, and is no node
pub dropped : (at : ℕ) (ns : List Node) (m : OpenNode) (ms : List OpenNode) → Growing at ns (m ∷ ms) → Growing at ns ms
dropped _ _ _ _ (open_at from at outer inner ms g f) = grown from at outer inner ms g f

-- the last one opened is closed, and is a node of this kind
pub made : (k : NodeKind) (at : ℕ) (ns : List Node) (m : OpenNode) (ms : List OpenNode) → Growing at ns (m ∷ ms) → length ns - m.before < (at - m.from) + (at - m.from) → Growing at (ns ++ record { kind = k; from = m.from; to = at; inside = length ns - m.before } ∷ []) ms
made k _ _ _ _ (open_at from at outer inner ms g f) h =
    let all = length-append outer inner in
    let count : length (outer ++ inner) - length outer ≡ length inner = omega (arith, all) in
    let wide : from + from + length inner < at + at = omega (arith, count, h) in
    let own = tree from from at at k [] inner (empty from from (omega arith)) f wide (omega arith) in
    let grown_all = grown from at outer (inner ++ node_over k from at inner ∷ []) ms g own in
    rw count (subst (λ (ns : List Node). Growing at ns ms) (sym (append_assoc outer inner (node_over k from at inner ∷ []))) grown_all)

-- ---- the same over the open nodes as they are kept, the last one at the end

turned : (ms : List OpenNode) (m : OpenNode) → reverse (ms ++ m ∷ []) ≡ m ∷ reverse ms
turned ms m = reverse-append ms (m ∷ [])

popped : (at : ℕ) (ns : List Node) (ms rest : List OpenNode) (m : OpenNode) → ms ≡ rest ++ m ∷ [] → Growing at ns (reverse ms) → Growing at ns (m ∷ reverse rest)
popped at ns ms rest m e g = subst (λ (xs : List OpenNode). Growing at ns xs) (ap reverse e ∙ turned rest m) g

-- an open node is put behind the others
pub put : (at n : ℕ) (ns : List Node) (ms after : List OpenNode) → n ≡ length ns → after ≡ ms ++ record { from = at; before = n } ∷ [] → ∥ Growing at ns (reverse ms) ∥₁ → ∥ Growing at ns (reverse after) ∥₁
put at n ns ms after same e t =
    let behind : reverse after ≡ record { from = at; before = length ns } ∷ reverse ms = ap reverse e ∙ turned ms (record { from = at; before = n }) ∙ ap (λ (k : ℕ). record { from = at; before = k } ∷ reverse ms) same in
    ∥∥₁_map t (λ g. subst (λ (xs : List OpenNode). Growing at ns xs) (sym behind) (opened at ns (reverse ms) g))

-- the last open node is closed, and is no node
left_out : (at : ℕ) (ns : List Node) (os rest : List OpenNode) (o : OpenNode) → os ≡ rest ++ o ∷ [] → ∥ Growing at ns (reverse os) ∥₁ → ∥ Growing at ns (reverse rest) ∥₁
left_out at ns os rest o e t = ∥∥₁_map t (λ g. dropped at ns o (reverse rest) (popped at ns os rest o e g))

-- the same, if there is one
pub left_out_if : (at : ℕ) (ns : List Node) (os rest : List OpenNode) (last : Option OpenNode) → os ≡ rest ++ option_to_list last → ∥ Growing at ns (reverse os) ∥₁ → ∥ Growing at ns (reverse rest) ∥₁
left_out_if at ns os rest None e t = subst (λ (xs : List OpenNode). ∥ Growing at ns (reverse xs) ∥₁) (e ∙ append-nil rest) t
left_out_if at ns os rest (Some o) e t = left_out at ns os rest o e t

some_if : (t : Bool) (a b : Node) → (if t then Some a else None) ≡ Some b → (t ≡ true) × (a ≡ b)
some_if true a b e = (refl, cc)
some_if false a b e = cc

-- the last open node is closed, and a node is made of it
pub closed_off : (k : NodeKind) (at : ℕ) (ns after : List Node) (os rest : List OpenNode) (o : OpenNode) (n : Node) → os ≡ rest ++ o ∷ [] → closed_node k at (length ns) o ≡ Some n → after ≡ ns ++ n ∷ [] → ∥ Growing at ns (reverse os) ∥₁ → ∥ Growing at after (reverse rest) ∥₁
closed_off k at ns after os rest o n e closes grows t =
    let inside = length ns - o.before in
    let width = at - o.from in
    let node : Node = record { kind = k; from = o.from; to = at; inside = inside } in
    let is = some_if (nat_lt inside (width + width)) node n closes in
    let small : inside < width + width = ltb-true inside (width + width) (is.0) in
    let all : ns ++ node ∷ [] ≡ after = ap (λ (last : Node). ns ++ last ∷ []) (is.1) ∙ sym grows in
    ∥∥₁_map t (λ g. subst (λ (ns : List Node). Growing at ns (reverse rest)) all (made k at ns o (reverse rest) (popped at ns os rest o e g) small))

-- more tokens are taken
pub taken_on : (at later : ℕ) (ns : List Node) (ms : List OpenNode) → at ≤ later → ∥ Growing at ns ms ∥₁ → ∥ Growing later ns ms ∥₁
taken_on at later ns ms h t = ∥∥₁_map t (λ g. taken at later ns ms g h)

-- nodes that are open are left out
all_closed : (at : ℕ) (ns : List Node) (ms : List OpenNode) → Growing at ns ms → Forest 0 at ns
all_closed _ _ _ (closed at ns f) = f
all_closed _ _ _ (open_at from at outer inner ms g f) = joined 0 from at outer inner (all_closed from outer ms g) f

-- the nodes over so many tokens
pub left_whole : (at count : ℕ) (ns : List Node) (ms : List OpenNode) → at ≤ count → ∥ Growing at ns ms ∥₁ → ∥ Forest 0 count ns ∥₁
left_whole at count ns ms h t = ∥∥₁_map t (λ g. widened 0 at count ns (all_closed at ns ms g) h)

-- they are at most twice as many
pub left_few : (count : ℕ) (ns : List Node) → ∥ Forest 0 count ns ∥₁ → length ns ≤ count + count
left_few count ns t = ∥∥₁_elim t le_prop (λ f. let h = few 0 count ns f in omega (arith, h))

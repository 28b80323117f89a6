-- Nodes one after another, each right behind those that are in it.
use Rattle.std.specs.Prelude.{ℕ, ◌+◌, ◌-◌, ◌<◌, ◌≤◌, List, [], ◌∷◌, ◌++◌, length, Option, Some, None, if◌then◌else◌, nat_lt}
use Rattle.tree_nodes.specs.declared.node.Node.{Node}
use Rattle.tree_nodes.specs.declared.node.NodeKind.{NodeKind}
use Rattle.tree_nodes.specs.declared.node.OpenNode.{OpenNode}

-- the node of this kind over the tokens from b to c, with these nodes in it
abbrev pub node_over : NodeKind → ℕ → ℕ → List Node → Node
node_over k b c inside = record { kind = k; from = b; to = c; inside = length inside }

-- These nodes cover parts of the tokens from a to d, one behind another. The nodes in a node are right before it and
-- cover parts of its tokens, and with it they are at most twice as many.
pub data Forest : ℕ → ℕ → List Node → Type 0 where
  empty : (a d : ℕ) → a ≤ d → Forest a d []
  tree : (a b c d : ℕ) (k : NodeKind) (before inside : List Node) → Forest a b before → Forest b c inside → b + b + length inside < c + c → c ≤ d → Forest a d (before ++ (inside ++ node_over k b c inside ∷ []))

-- the nodes up to this token, while these nodes are open, the last one first
pub data Growing : ℕ → List Node → List OpenNode → Type 0 where
  closed : (at : ℕ) (ns : List Node) → Forest 0 at ns → Growing at ns []
  open_at : (from at : ℕ) (outer inner : List Node) (os : List OpenNode) → Growing from outer os → Forest from at inner → Growing at (outer ++ inner) (record { from = from; before = length outer } ∷ os)

-- The node of this kind that an open one is if it is closed behind this token and so many nodes: none if it has no
-- token, or twice as many nodes as tokens.
abbrev pub closed_node : NodeKind → ℕ → ℕ → OpenNode → Option Node
closed_node k at count o =
    let inside = count - o.before in
    let width = at - o.from in
    if nat_lt inside (width + width) then Some (record { kind = k; from = o.from; to = at; inside = inside }) else None

-- A block with other links. This project's own.
use Rattle.std.specs.Prelude.{ℕ, List}
use Rattle.icr_graph.specs.declared.parts.Block.{Block}

abbrev pub with_links : List ℕ → List ℕ → Block → Block
with_links nodes after b = record b { nodes = nodes; after = after }

use Rattle.std.proofs.Common.{List, ℕ, take, drop, arith, ap, ◌∙◌}
use Rattle.outside_io.specs.Memory.{SourceTold}
use Rattle.outside_io.proofs.Fronts.{put_back, some_there}
use Rattle.outside_io.proofs.in_memory.MemSourceSource.take.Goals as goal

pub returns-clause-moves : goal.returns-clause-moves
returns-clause-moves c =
    let count = c.copy_front-count.ensures.count in
    let back = c.split_at.ensures.back ∙ ap (λ (l : List ℕ). drop c.self.inside.taken l) c.deref.ensures.value in
    let there = some_there _ _ c.is_empty.ensures c.if-is_empty.false in (
      omega arith,
      omega arith,
      put_back _ _ _ _ _ (ap (λ (s : SourceTold). s.left) c.self.view_is)
          (c.copy_front-count.ensures.front ∙ ap (λ (l : List ℕ). take c.copy_front-count.result l) back),
    )

-- Keeping composes.
use Rattle.std.proofs.Common.{zero, suc, inl, inr, arith}
use Rattle.layers.specs.Shown.{Astray}
use Rattle.layers.specs.Laws.{KeepsItself, KeepsComposes, KeepsAlong, KeepsAtEachSize, NeverAstrayKept}
use Rattle.layers.proofs.SeenLemmas.{covers_itself, covers_on, comes_to_itself, comes_on}

pub keeps_itself : KeepsItself
keeps_itself heap stack a free = record {
  back = λ i k. (k, covers_itself heap stack (a i k) (free i k));
  forth = λ i j. (j, comes_to_itself (a i j));
}

pub keeps_composes : KeepsComposes
keeps_composes heap stack a b c free p q = record {
  back = λ i k. let m = q.back i k in let j = p.back i m.0 in (j.0, covers_on j.1 m.1);
  forth = λ i j. let m = p.forth i j in let k = q.forth i m.0 in (k.0, comes_on (free i m.0) m.1 k.1);
}

pub keeps_along : KeepsAlong
keeps_along heap stack zero layers free each = keeps_itself heap stack (layers 0) (free 0)
keeps_along heap stack (suc n) layers free each =
    keeps_composes heap stack (layers 0) (layers n) (layers (suc n)) (free n)
    (keeps_along heap stack n layers free (λ m h. each m (omega arith)))
    (each n (omega arith))

pub keeps_at_each_size : KeepsAtEachSize
keeps_at_each_size heap stack heap' stack' a b free p = record {
  back = λ i k. let j = p.back i k in (
    j.0,
    record {
      shows = j.1.shows;
      fuel = j.1.fuel;
      needs = j.1.needs;
      heap_full = λ h. absurd (free i k (inl h));
      stack_full = λ h. absurd (free i k (inr h));
    },
  );
  forth = p.forth;
}

pub never_astray_kept : NeverAstrayKept
never_astray_kept heap stack a b well p i k h =
    let j = p.back i k in well i j.0 (j.1.shows.ending Astray h).0

-- Heaps that hold what they held.
use Rattle.std.proofs.Common.{List, [], ◌++◌, sym, ap, ◌∙◌, append_assoc}
use Rattle.std.proofs.lemmas.List.{append-nil}
use Rattle.lisp_base.specs.Tables.{Object}
use Rattle.lisp_forms.specs.Growth.{Grows}

pub grows_same : (xs : List Object) → Grows xs xs
grows_same xs = ([], sym (append-nil xs))

pub grows_more : (xs ys more : List Object) → Grows xs ys → Grows xs (ys ++ more)
grows_more xs ys more (front, is) = (front ++ more, ap (λ (l : List Object). l ++ more) is ∙ append_assoc xs front more)

pub grows_on : (xs ys zs : List Object) → Grows xs ys → Grows ys zs → Grows xs zs
grows_on xs ys zs (m, is) (n, js) = (m ++ n, js ∙ (ap (λ (l : List Object). l ++ n) is ∙ append_assoc xs m n))

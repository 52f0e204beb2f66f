-- How a template that is a list is read.
use Rattle.std.specs.Prelude.{◌≡◌, map}
use Rattle.std.proofs.Common.{refl, ap, rules}
use Rattle.lisp_forms.specs.declared.template.Template.{the_lemmas}
use Rattle.lisp_forms.specs.declared.template.Template.TheBlock as t
use Rattle.lisp_forms.specs.Trees.{tree_of, trees_of, trees, also}
use Rattle.lisp_forms.specs.Laws.{ReadsList}

rows : (n : _) (k : t.Row_of-Template n) → trees_of k ≡ trees (map tree_of (t.items-the_row-Template n k))
rows _ t.end_of-Template = refl
rows _ (t.more_of-Template {n = n} x rest) = ap (also (tree_of x)) (rows n rest)

pub reads_list : ReadsList
reads_list v tail = search (rules, rows, the_lemmas)

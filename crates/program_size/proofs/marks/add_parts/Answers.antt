use Rattle.std.proofs.Common.{◌++◌, List, ap, sym, ◌∙◌, append-nil}
use Rattle.lisp_base.specs.declared.values.Val.{Val}
use Rattle.core_form.specs.Lawful.{values_in}
use Rattle.program_size.specs.Mentions.{data_of}
use Rattle.program_size.proofs.Inside.{no_parts}
use Rattle.program_size.proofs.marks.add_parts.Goals as goal

pub returns-in-None : goal.returns-in-None
returns-in-None c =
    let items = c.args.work.now.items in
    let heap = c.args.heap.now in
    sym
    (ap (λ (v : Val). items ++ values_in (data_of heap) v) c.in-Ref.is
    ∙ (ap (λ (k : List Val). items ++ k) (no_parts heap c.in-Ref.id (sym c.in-None.ensures)) ∙ append-nil items))

use Rattle.std.proofs.Common.{List, ap, ◌∙◌, slice_set}
use Rattle.std.proofs.lemmas.List.{map-set}
use Rattle.lisp_base.specs.declared.values.Obj.{Obj}
use Rattle.lisp_base.specs.Tables.{Object, object_of}
use Rattle.lisp_base.proofs.heap.Heap.change.Goals as goal

pub returns-clause-changed : goal.returns-clause-changed
returns-clause-changed c =
    map-set object_of c.self.inside.objects.items c.args.id.0 c.replace.new.dest
    ∙ (ap (λ (objects : List Object). slice_set objects c.args.id.0 (object_of c.replace.new.dest)) c.self.view_is
    ∙ ap (λ (o : Obj). slice_set c.args.self.now c.args.id.0 (object_of o)) c.replace.ensures.after)

-- The values inside an object, as the meaning of programs has them.
use Rattle.std.specs.Prelude.{◌≡◌, refl, List, [], Some, None, slice_get}
use Rattle.std.specs.Option.{option_map}
use Rattle.std.proofs.Common.{ap, ◌∙◌}
use Rattle.std.proofs.lemmas.Option.{slice_get-map}
use Rattle.lisp_base.specs.declared.values.ObjId.{ObjId}
use Rattle.lisp_base.specs.declared.values.Val.TheVariants.{Ref}
use Rattle.lisp_base.specs.Tables.{Object, Cons, Vector, Str, Fun, Cell}
use Rattle.core_form.specs.Lawful.{object_of, values_within, values_in}
use Rattle.program_size.specs.Mentions.{data_of}
use Rattle.program_size.specs.Inside.{inside_object}

inside_some : (o : Object) → values_within (Some (object_of o)) ≡ inside_object o
inside_some (Cons a d p) = refl
inside_some (Vector vs) = refl
inside_some (Str cs) = refl
inside_some (Fun k cells) = refl
inside_some (Cell v) = refl

pub parts_of : (heap : List Object) (o : ObjId) (x : Object) → slice_get heap o.0 ≡ Some x → values_in (data_of heap) (Ref o) ≡ inside_object x
parts_of heap o x is = ap values_within (slice_get-map object_of heap o.0 ∙ ap (option_map object_of) is) ∙ inside_some x

pub no_parts : (heap : List Object) (o : ObjId) → slice_get heap o.0 ≡ None → values_in (data_of heap) (Ref o) ≡ []
no_parts heap o is = ap values_within (slice_get-map object_of heap o.0 ∙ ap (option_map object_of) is)

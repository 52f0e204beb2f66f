-- Each primitive's name stands among the base names, and no two primitives have one name.
use Rattle.std.proofs.Common.{◌≡◌, ℕ, ◌<◌, ◌≤◌, List, map, length, get_or, slice_get, option_map, Option, None, Bor, refl, ap, sym, ◌∙◌}
use Rattle.std.proofs.lemmas.Option.{slice_get-map, slice_get_read, slice_get_past}
use Rattle.lisp_base.specs.declared.primitives.Primitive.TheVariants as op
use Rattle.lisp_base.specs.declared.primitives.Primitive.{Primitive}
use Rattle.lisp_base.specs.BaseNames.{base_names, helper_names, left_out_names, lambda_list_names}
use Rattle.lisp_base.specs.PrimNames.{EachPrimitiveIsNamed, prim_named, of_name, prim_at}

pub each_primitive_is_named : EachPrimitiveIsNamed
unfolding base_names helper_names left_out_names lambda_list_names
each_primitive_is_named op.Cons = (22, refl)
each_primitive_is_named op.List = (23, refl)
each_primitive_is_named op.Car = (61, refl)
each_primitive_is_named op.Cdr = (62, refl)
each_primitive_is_named op.Rplaca = (63, refl)
each_primitive_is_named op.Rplacd = (64, refl)
each_primitive_is_named op.MakeVector = (65, refl)
each_primitive_is_named op.MakeString = (66, refl)
each_primitive_is_named op.Svref = (67, refl)
each_primitive_is_named op.Schar = (68, refl)
each_primitive_is_named op.SetSvref = (69, refl)
each_primitive_is_named op.SetSchar = (70, refl)
each_primitive_is_named op.VectorLength = (71, refl)
each_primitive_is_named op.StringLength = (72, refl)
each_primitive_is_named op.Eq = (73, refl)
each_primitive_is_named op.Add = (74, refl)
each_primitive_is_named op.Subtract = (75, refl)
each_primitive_is_named op.Multiply = (36, refl)
each_primitive_is_named op.Truncate = (76, refl)
each_primitive_is_named op.Floor = (77, refl)
each_primitive_is_named op.Rem = (78, refl)
each_primitive_is_named op.Mod = (15, refl)
each_primitive_is_named op.Equal = (79, refl)
each_primitive_is_named op.NotEqual = (80, refl)
each_primitive_is_named op.Less = (81, refl)
each_primitive_is_named op.Greater = (82, refl)
each_primitive_is_named op.LessOrEqual = (83, refl)
each_primitive_is_named op.GreaterOrEqual = (84, refl)
each_primitive_is_named op.LogAnd = (85, refl)
each_primitive_is_named op.LogIor = (86, refl)
each_primitive_is_named op.LogXor = (87, refl)
each_primitive_is_named op.LogNot = (88, refl)
each_primitive_is_named op.Ash = (89, refl)
each_primitive_is_named op.CharCode = (90, refl)
each_primitive_is_named op.CodeChar = (91, refl)
each_primitive_is_named op.CharEqual = (92, refl)
each_primitive_is_named op.CharLess = (93, refl)
each_primitive_is_named op.ReadChar = (94, refl)
each_primitive_is_named op.WriteChar = (95, refl)
each_primitive_is_named op.SymbolName = (96, refl)
each_primitive_is_named op.SymbolValue = (97, refl)
each_primitive_is_named op.SymbolFunction = (98, refl)
each_primitive_is_named op.SetValue = (99, refl)
each_primitive_is_named op.Boundp = (100, refl)
each_primitive_is_named op.Fboundp = (101, refl)
each_primitive_is_named op.Uninternedp = (102, refl)
each_primitive_is_named op.Error = (103, refl)
each_primitive_is_named op.ValuesList = (104, refl)

-- a list of texts that is the base names gives the primitive of each number
module _ (texts : List (Bor (List ℕ))) (are : map (λ (t : Bor (List ℕ)). t.now) texts ≡ base_names) (n : ℕ) where
  at_number : prim_at n ≡ of_name (option_map (λ (t : Bor (List ℕ)). t.now) (slice_get texts n))
  at_number = ap of_name (ap (λ (names : List (List ℕ)). slice_get names n) (sym are) ∙ slice_get-map (λ (t : Bor (List ℕ)). t.now) texts n)

  pub named_at : (t : Bor (List ℕ)) (r : Option Primitive) → n < length texts → t ≡ get_or texts n t → r ≡ prim_named t.now → r ≡ prim_at n
  named_at t r within read found =
      found ∙ sym (at_number ∙ ap (λ (o : Option (Bor (List ℕ))). of_name (option_map (λ (t : Bor (List ℕ)). t.now) o)) (slice_get_read texts (length texts) n t refl within read))

  pub none_at : length texts ≤ n → None ≡ prim_at n
  none_at past =
      sym (at_number ∙ ap (λ (o : Option (Bor (List ℕ))). of_name (option_map (λ (t : Bor (List ℕ)). t.now) o)) (slice_get_past texts n past))

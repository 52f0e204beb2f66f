-- The local functions of a form are among its functions.
use Rattle.std.specs.Prelude.{◌≡◌, ℕ, ◌==◌, List, [], ◌∷◌, ◌++◌, Option, Some, None}
use Rattle.std.specs.List.{Contains}
use Rattle.std.proofs.Common.{sym, subst, ◌∙◌, ◌⊎◌, inl, inr}
use Rattle.std.proofs.lemmas.List.Elements.{Contains-append_left, Contains-append_right, Contains-push}
use Rattle.lisp_base.specs.declared.values.Place.{Place}
use Rattle.lisp_base.specs.declared.values.SymId.{SymId}
use Rattle.core_form.specs.Tree.{Core, Quote, Local, SetLocal, Global, SetGlobal, If, Progn, Let, Function, Labels, CallLocal, CallGlobal, Funcall, Apply, MvCall, FunLocal, FunGlobal, SetFun, Primitive, Is, The, Block, ReturnFrom, Tagbody, Go, Catch, Throw, Unwind, Values, MvProg1, Cores, no_core, core, Bindings, no_binding, binding, Optionals, no_optional, optional, Lambda, lambda, Definitions, no_definition, define, Items, no_item, tag, step}
use Rattle.core_form.specs.Facts.{FunctionText, lookup, gather, gather_all, gather_bindings, gather_optionals, gather_lambda, gather_definitions, gather_items, no_node, no_function, one_function, local_functions, definitions_of}
use Rattle.form_names.proofs.Looked.{lookup_append, either_found, first_found}

-- each function that is found among some is among others
pub record Inside (ds : List (ℕ × FunctionText)) (fs : List FunctionText) : Type 0 where
  pub each : (n : ℕ) (t : FunctionText) → lookup n ds ≡ Some t → Contains fs t

in_either : {A B C : Type 0} → A ⊎ B → (A → C) → (B → C) → C
in_either (inl a) f g = f a
in_either (inr b) f g = g b

nothing : (fs : List FunctionText) → Inside [] fs
nothing fs = record { each = λ n t h. cc }

both : {ds es : List (ℕ × FunctionText)} {fs gs : List FunctionText} → Inside ds fs → Inside es gs → Inside (ds ++ es) (fs ++ gs)
both {ds = ds} {es = es} {fs = fs} {gs = gs} h k = record {
  each = λ n t e.
      in_either (either_found (lookup n ds) (lookup n es) t (sym (lookup_append n ds es) ∙ e)) (λ here. Contains-append_left fs gs t (h.each n t here)) (λ later. Contains-append_right fs gs t (k.each n t later));
}

also : {ds es : List (ℕ × FunctionText)} {fs : List FunctionText} → Inside ds fs → Inside es fs → Inside (ds ++ es) fs
also {ds = ds} {es = es} h k = record {
  each = λ n t e. in_either (either_found (lookup n ds) (lookup n es) t (sym (lookup_append n ds es) ∙ e)) (h.each n t) (k.each n t);
}

-- further functions before or behind
before : {ds : List (ℕ × FunctionText)} (xs fs : List FunctionText) → Inside ds fs → Inside ds (xs ++ fs)
before xs fs h = record { each = λ n t e. Contains-append_right xs fs t (h.each n t e) }

is_same : (x y : FunctionText) → Some x ≡ Some y → x ≡ y
is_same x y h = cc

first : (m : ℕ) (x : FunctionText) (ds : List (ℕ × FunctionText)) (fs : List FunctionText) → Contains fs x → Inside ds fs → Inside ((m, x) ∷ ds) fs
first m x ds fs c h = record {
  each = λ n t e. in_either (first_found (n == m) x (lookup n ds) t e) (λ here. subst (Contains fs) (is_same x t here) c) (h.each n t);
}

-- a function is among those in it
itself : (name : Option SymId) (p : Place) (l : Lambda) → Contains (gather_lambda no_node one_function name p l) (record { name = name; place = p; lambda = l })
unfolding gather_lambda
itself name p (lambda k xs os r e) =
    let t : FunctionText = record { name = name; place = p; lambda = lambda k xs os r e } in
    Contains-append_left (t ∷ [] ++ gather_optionals no_node one_function os) (gather no_node one_function e) t
    (Contains-append_left (t ∷ []) (gather_optionals no_node one_function os) t (Contains-push [] t))

defined : (ds : Definitions) → Inside (definitions_of ds) (gather_definitions no_node one_function ds)
unfolding gather_definitions
defined no_definition = nothing []
defined (define p f n l ds) =
    let own = gather_lambda no_node one_function (Some n) p l in
    let rest = gather_definitions no_node one_function ds in
    first f (record { name = Some n; place = p; lambda = l }) (definitions_of ds) (own ++ rest) (Contains-append_left own rest _ (itself (Some n) p l)) (before own rest (defined ds))

mutual
  unfolding gather gather_all gather_bindings gather_optionals gather_lambda gather_definitions gather_items

  pub inside : (e : Core) → Inside (gather local_functions no_function e) (gather no_node one_function e)
  inside (Quote p v) = nothing []
  inside (Local p x) = nothing []
  inside (SetLocal p x e) = inside e
  inside (Global p s) = nothing []
  inside (SetGlobal p s e) = inside e
  inside (If p a b c) = both (both (inside a) (inside b)) (inside c)
  inside (Progn p es) = all_inside es
  inside (Let p bs e) = both (bindings_inside bs) (inside e)
  inside (Function p l) = lambda_inside None p l
  inside (Labels p ds e) = both (also (defined ds) (definitions_inside ds)) (inside e)
  inside (CallLocal p n es) = all_inside es
  inside (CallGlobal p s es) = all_inside es
  inside (Funcall p e es) = both (inside e) (all_inside es)
  inside (Apply p e es) = both (inside e) (all_inside es)
  inside (MvCall p e es) = both (inside e) (all_inside es)
  inside (FunLocal p n) = nothing []
  inside (FunGlobal p s) = nothing []
  inside (SetFun p s e) = inside e
  inside (Primitive p q es) = all_inside es
  inside (Is p t e) = inside e
  inside (The p t e) = inside e
  inside (Block p b n e) = inside e
  inside (ReturnFrom p b e) = inside e
  inside (Tagbody p is) = items_inside is
  inside (Go p t) = nothing []
  inside (Catch p t e) = both (inside t) (inside e)
  inside (Throw p t e) = both (inside t) (inside e)
  inside (Unwind p e c) = both (inside e) (inside c)
  inside (Values p es) = all_inside es
  inside (MvProg1 p e c) = both (inside e) (inside c)

  all_inside : (es : Cores) → Inside (gather_all local_functions no_function es) (gather_all no_node one_function es)
  all_inside no_core = nothing []
  all_inside (core e es) = both (inside e) (all_inside es)

  bindings_inside : (bs : Bindings) → Inside (gather_bindings local_functions no_function bs) (gather_bindings no_node one_function bs)
  bindings_inside no_binding = nothing []
  bindings_inside (binding x e bs) = both (inside e) (bindings_inside bs)

  optionals_inside : (os : Optionals) → Inside (gather_optionals local_functions no_function os) (gather_optionals no_node one_function os)
  optionals_inside no_optional = nothing []
  optionals_inside (optional x e s os) = both (inside e) (optionals_inside os)

  lambda_inside : (name : Option SymId) (p : Place) (l : Lambda) → Inside (gather_lambda local_functions no_function name p l) (gather_lambda no_node one_function name p l)
  lambda_inside name p (lambda k xs os r e) =
      both (before (record { name = name; place = p; lambda = lambda k xs os r e } ∷ []) (gather_optionals no_node one_function os) (optionals_inside os)) (inside e)

  definitions_inside : (ds : Definitions) → Inside (gather_definitions local_functions no_function ds) (gather_definitions no_node one_function ds)
  definitions_inside no_definition = nothing []
  definitions_inside (define p n name l ds) = both (lambda_inside (Some name) p l) (definitions_inside ds)

  items_inside : (is : Items) → Inside (gather_items local_functions no_function is) (gather_items no_node one_function is)
  items_inside no_item = nothing []
  items_inside (tag t name is) = items_inside is
  items_inside (step e is) = both (inside e) (items_inside is)

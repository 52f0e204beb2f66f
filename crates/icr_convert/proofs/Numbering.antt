-- The functions of a tree are those that its form numbers, where all of the form's are. (This project's own.)
use Rattle.std.specs.Prelude.{◌≡◌, refl, zero, suc, List, [], ◌++◌, slice_get, Option, Some, None}
use Rattle.std.specs.List.{All, Contains}
use Rattle.std.proofs.Common.{arith}
use Rattle.std.proofs.lemmas.List.Elements.{All-nil, All-append, Contains-append_left, Contains-append_right}
use Rattle.lisp_base.specs.declared.values.SymId.{SymId}
use Rattle.lisp_base.specs.declared.values.Place.{Place}
use Rattle.core_form.specs.Tree.{Core, Quote, Local, SetLocal, Global, SetGlobal, If, Progn, Let, Function, Labels, CallLocal, CallGlobal, Funcall, Apply, MvCall, FunLocal, FunGlobal, SetFun, Primitive, Is, The, Block, ReturnFrom, Tagbody, Go, Catch, Throw, Unwind, Values, MvProg1, Cores, no_core, core, Bindings, no_binding, binding, Optionals, no_optional, optional, Lambda, lambda, Definitions, no_definition, define, Items, no_item, tag, step}
use Rattle.core_form.specs.Facts.{FunctionText, gather, gather_all, gather_bindings, gather_optionals, gather_lambda, gather_definitions, gather_items, no_node, one_function}
use Rattle.form_graphs.specs.Standing.{lambda_number}
use Rattle.icr_convert.specs.Naming.{Named, AllNamed, BindingsNamed, ItemsNamed, OptionalsNamed, CodeNamed}

-- each of these texts stands under its number
abbrev pub Found : (ts found : List FunctionText) → Type 0
Found ts found = (t : FunctionText) → Contains found t → slice_get ts (lambda_number t.lambda) ≡ Some t

first : (ts xs ys : List FunctionText) → Found ts (xs ++ ys) → Found ts xs
first ts xs ys found t c = found t (Contains-append_left xs ys t c)

others : (ts xs ys : List FunctionText) → Found ts (xs ++ ys) → Found ts ys
others ts xs ys found t c = found t (Contains-append_right xs ys t c)

abbrev here : Core → List FunctionText
here e = gather no_node one_function e

abbrev here_all : Cores → List FunctionText
here_all es = gather_all no_node one_function es

abbrev here_items : Items → List FunctionText
here_items is = gather_items no_node one_function is

abbrev here_bindings : Bindings → List FunctionText
here_bindings bs = gather_bindings no_node one_function bs

abbrev here_optionals : Optionals → List FunctionText
here_optionals os = gather_optionals no_node one_function os

two : (ts : List FunctionText) (a b : Core) → (Found ts (here a) → Named ts a) → (Found ts (here b) → Named ts b) → Found ts (here a ++ here b) → Named ts a × Named ts b
two ts a b f g found = (f (first ts (here a) (here b) found), g (others ts (here a) (here b) found))

-- a text alone, before others
made : (ts : List FunctionText) (t : FunctionText) (xs ys : List FunctionText) → Found ts ((one_function t ++ xs) ++ ys) → slice_get ts (lambda_number t.lambda) ≡ Some t
made ts t xs ys found = first ts (one_function t) xs (first ts (one_function t ++ xs) ys found) t (0, omega (arith), refl)

mutual
  unfolding gather gather_all gather_bindings gather_optionals gather_lambda gather_definitions gather_items

  pub named_of : (ts : List FunctionText) (e : Core) → Found ts (here e) → Named ts e
  named_of ts (Quote p v) found = tt
  named_of ts (Local p x) found = tt
  named_of ts (SetLocal p x e) found = named_of ts e found
  named_of ts (Global p s) found = tt
  named_of ts (SetGlobal p s e) found = named_of ts e found
  named_of ts (If p a b c) found =
      let both = first ts (here a ++ here b) (here c) found in
      (named_of ts a (first ts (here a) (here b) both), named_of ts b (others ts (here a) (here b) both), named_of ts c (others ts (here a ++ here b) (here c) found))
  named_of ts (Progn p es) found = all_named_of ts es found
  named_of ts (Let p bs e) found =
      (bindings_named_of ts bs (first ts (here_bindings bs) (here e) found), named_of ts e (others ts (here_bindings bs) (here e) found))
  named_of ts (Function p (lambda k xs os r e)) found = made ts (record { name = None; place = p; lambda = lambda k xs os r e }) (here_optionals os) (here e) found
  named_of ts (Labels p ds e) found = named_of ts e (others ts (gather_definitions no_node one_function ds) (here e) found)
  named_of ts (CallLocal p f es) found = all_named_of ts es found
  named_of ts (CallGlobal p s es) found = all_named_of ts es found
  named_of ts (Funcall p e es) found = (named_of ts e (first ts (here e) (here_all es) found), all_named_of ts es (others ts (here e) (here_all es) found))
  named_of ts (Apply p e es) found = (named_of ts e (first ts (here e) (here_all es) found), all_named_of ts es (others ts (here e) (here_all es) found))
  named_of ts (MvCall p e es) found = (named_of ts e (first ts (here e) (here_all es) found), all_named_of ts es (others ts (here e) (here_all es) found))
  named_of ts (FunLocal p f) found = tt
  named_of ts (FunGlobal p s) found = tt
  named_of ts (SetFun p s e) found = named_of ts e found
  named_of ts (Primitive p o es) found = all_named_of ts es found
  named_of ts (Is p t e) found = named_of ts e found
  named_of ts (The p t e) found = named_of ts e found
  named_of ts (Block p b n e) found = named_of ts e found
  named_of ts (ReturnFrom p b e) found = named_of ts e found
  named_of ts (Tagbody p is) found = items_named_of ts is found
  named_of ts (Go p t) found = tt
  named_of ts (Catch p a b) found = two ts a b (named_of ts a) (named_of ts b) found
  named_of ts (Throw p a b) found = two ts a b (named_of ts a) (named_of ts b) found
  named_of ts (Unwind p a b) found = two ts a b (named_of ts a) (named_of ts b) found
  named_of ts (Values p es) found = all_named_of ts es found
  named_of ts (MvProg1 p a b) found = two ts a b (named_of ts a) (named_of ts b) found

  pub all_named_of : (ts : List FunctionText) (es : Cores) → Found ts (here_all es) → AllNamed ts es
  all_named_of ts no_core found = tt
  all_named_of ts (core e es) found = (named_of ts e (first ts (here e) (here_all es) found), all_named_of ts es (others ts (here e) (here_all es) found))

  pub bindings_named_of : (ts : List FunctionText) (bs : Bindings) → Found ts (here_bindings bs) → BindingsNamed ts bs
  bindings_named_of ts no_binding found = tt
  bindings_named_of ts (binding x e bs) found =
      (named_of ts e (first ts (here e) (here_bindings bs) found), bindings_named_of ts bs (others ts (here e) (here_bindings bs) found))

  pub items_named_of : (ts : List FunctionText) (is : Items) → Found ts (here_items is) → ItemsNamed ts is
  items_named_of ts no_item found = tt
  items_named_of ts (tag t n is) found = items_named_of ts is found
  items_named_of ts (step e is) found = (named_of ts e (first ts (here e) (here_items is) found), items_named_of ts is (others ts (here e) (here_items is) found))

optionals_named_of : (ts : List FunctionText) (os : Optionals) → Found ts (here_optionals os) → OptionalsNamed ts os
unfolding gather gather_all gather_bindings gather_optionals gather_lambda gather_definitions gather_items
optionals_named_of ts no_optional found = tt
optionals_named_of ts (optional x e s os) found =
    (named_of ts e (first ts (here e) (here_optionals os) found), optionals_named_of ts os (others ts (here e) (here_optionals os) found))

-- ---- what functions do

-- the functions inside one are among those of its form
lambda_named : (ts : List FunctionText) (n : Option SymId) (p : Place) (l : Lambda) → Found ts (gather_lambda no_node one_function n p l) → CodeNamed ts l
unfolding gather gather_all gather_bindings gather_optionals gather_lambda gather_definitions gather_items
lambda_named ts n p (lambda k xs os r e) found =
    let text : List FunctionText = one_function (record { name = n; place = p; lambda = lambda k xs os r e }) in (
      optionals_named_of ts os (others ts text (here_optionals os) (first ts (text ++ here_optionals os) (here e) found)),
      named_of ts e (others ts (text ++ here_optionals os) (here e) found),
    )

-- ---- the same of each function in a tree

abbrev Coded : (ts xs : List FunctionText) → Type 0
Coded ts xs = All (λ t. CodeNamed ts t.lambda) xs

one_coded : (ts : List FunctionText) (t : FunctionText) → CodeNamed ts t.lambda → Coded ts (one_function t)
one_coded ts t named zero d within = named
one_coded ts t named (suc k) d within = absurd (omega (arith, within))

both : (ts xs ys : List FunctionText) → (Found ts xs → Coded ts xs) → (Found ts ys → Coded ts ys) → Found ts (xs ++ ys) → Coded ts (xs ++ ys)
both ts xs ys f g found = All-append (λ t. CodeNamed ts t.lambda) xs ys (f (first ts xs ys found)) (g (others ts xs ys found))

none : (ts : List FunctionText) → Coded ts []
none ts = All-nil (λ t. CodeNamed ts t.lambda)

mutual
  unfolding gather gather_all gather_bindings gather_optionals gather_lambda gather_definitions gather_items

  pub coded : (ts : List FunctionText) (e : Core) → Found ts (here e) → Coded ts (here e)
  coded ts (Quote p v) found = none ts
  coded ts (Local p x) found = none ts
  coded ts (SetLocal p x e) found = coded ts e found
  coded ts (Global p s) found = none ts
  coded ts (SetGlobal p s e) found = coded ts e found
  coded ts (If p a b c) found = both ts (here a ++ here b) (here c) (both ts (here a) (here b) (coded ts a) (coded ts b)) (coded ts c) found
  coded ts (Progn p es) found = all_coded ts es found
  coded ts (Let p bs e) found = both ts (here_bindings bs) (here e) (bindings_coded ts bs) (coded ts e) found
  coded ts (Function p l) found = lambda_coded ts None p l found
  coded ts (Labels p ds e) found = both ts (gather_definitions no_node one_function ds) (here e) (definitions_coded ts ds) (coded ts e) found
  coded ts (CallLocal p f es) found = all_coded ts es found
  coded ts (CallGlobal p s es) found = all_coded ts es found
  coded ts (Funcall p e es) found = both ts (here e) (here_all es) (coded ts e) (all_coded ts es) found
  coded ts (Apply p e es) found = both ts (here e) (here_all es) (coded ts e) (all_coded ts es) found
  coded ts (MvCall p e es) found = both ts (here e) (here_all es) (coded ts e) (all_coded ts es) found
  coded ts (FunLocal p f) found = none ts
  coded ts (FunGlobal p s) found = none ts
  coded ts (SetFun p s e) found = coded ts e found
  coded ts (Primitive p o es) found = all_coded ts es found
  coded ts (Is p t e) found = coded ts e found
  coded ts (The p t e) found = coded ts e found
  coded ts (Block p b n e) found = coded ts e found
  coded ts (ReturnFrom p b e) found = coded ts e found
  coded ts (Tagbody p is) found = items_coded ts is found
  coded ts (Go p t) found = none ts
  coded ts (Catch p a b) found = both ts (here a) (here b) (coded ts a) (coded ts b) found
  coded ts (Throw p a b) found = both ts (here a) (here b) (coded ts a) (coded ts b) found
  coded ts (Unwind p a b) found = both ts (here a) (here b) (coded ts a) (coded ts b) found
  coded ts (Values p es) found = all_coded ts es found
  coded ts (MvProg1 p a b) found = both ts (here a) (here b) (coded ts a) (coded ts b) found

  all_coded : (ts : List FunctionText) (es : Cores) → Found ts (here_all es) → Coded ts (here_all es)
  all_coded ts no_core found = none ts
  all_coded ts (core e es) found = both ts (here e) (here_all es) (coded ts e) (all_coded ts es) found

  bindings_coded : (ts : List FunctionText) (bs : Bindings) → Found ts (here_bindings bs) → Coded ts (here_bindings bs)
  bindings_coded ts no_binding found = none ts
  bindings_coded ts (binding x e bs) found = both ts (here e) (here_bindings bs) (coded ts e) (bindings_coded ts bs) found

  optionals_coded : (ts : List FunctionText) (os : Optionals) → Found ts (here_optionals os) → Coded ts (here_optionals os)
  optionals_coded ts no_optional found = none ts
  optionals_coded ts (optional x e s os) found = both ts (here e) (here_optionals os) (coded ts e) (optionals_coded ts os) found

  lambda_coded : (ts : List FunctionText) (n : Option SymId) (p : Place) (l : Lambda) → Found ts (gather_lambda no_node one_function n p l) → Coded ts (gather_lambda no_node one_function n p l)
  lambda_coded ts n p (lambda k xs os r e) found =
      let text : FunctionText = record { name = n; place = p; lambda = lambda k xs os r e } in
      both ts (one_function text ++ here_optionals os) (here e)
      (both ts (one_function text) (here_optionals os) (λ _. one_coded ts text (lambda_named ts n p (lambda k xs os r e) found)) (optionals_coded ts os)) (coded ts e) found

  definitions_coded : (ts : List FunctionText) (ds : Definitions) → Found ts (gather_definitions no_node one_function ds) → Coded ts (gather_definitions no_node one_function ds)
  definitions_coded ts no_definition found = none ts
  definitions_coded ts (define p f n l ds) found =
      both ts (gather_lambda no_node one_function (Some n) p l) (gather_definitions no_node one_function ds) (lambda_coded ts (Some n) p l) (definitions_coded ts ds) found

  items_coded : (ts : List FunctionText) (is : Items) → Found ts (here_items is) → Coded ts (here_items is)
  items_coded ts no_item found = none ts
  items_coded ts (tag t n is) found = items_coded ts is found
  items_coded ts (step e is) found = both ts (here e) (here_items is) (coded ts e) (items_coded ts is) found

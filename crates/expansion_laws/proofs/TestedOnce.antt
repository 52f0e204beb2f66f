-- No two variables of a form have the same number.
use Rattle.std.specs.Prelude.{◌≡◌, ℕ, suc, ◌≤◌, ◌<◌, List, [], ◌∷◌, ◌++◌, flat_map, Contains, Option}
use Rattle.std.proofs.Common.{refl, sym, ap, subst, ◌∙◌, arith, ◌⊎◌, inl, inr}
use Rattle.std.proofs.lemmas.List.Elements.{Contains-append_cases, Contains-push_cases}
use Rattle.lisp_base.specs.declared.values.Place.{Place}
use Rattle.lisp_base.specs.declared.values.SymId.{SymId}
use Rattle.core_form.specs.declared.tree.Variable.{Variable}
use Rattle.core_form.specs.declared.tree.Variable.TheVariants.{Lexical, Special}
use Rattle.core_form.specs.Tree.{Parameter, Core, Quote, Local, SetLocal, Global, SetGlobal, If, Progn, Let, Function, Labels, CallLocal, CallGlobal, Funcall, Apply, MvCall, FunLocal, FunGlobal, SetFun, Primitive, Is, The, Block, ReturnFrom, Tagbody, Go, Catch, Throw, Unwind, Values, MvProg1, Cores, no_core, core, Bindings, no_binding, binding, Optionals, no_optional, optional, Lambda, lambda, Definitions, no_definition, define, Items, no_item, tag, step}
use Rattle.core_form.specs.Facts.{gather, gather_all, gather_bindings, gather_optionals, gather_lambda, gather_definitions, gather_items, lexical_number, parameter_number, binding_parameters, parameters_of, let_parameters, function_parameters, parameters_in}
use Rattle.core_form.specs.Checked.{function_numbers, tag_numbers}
use Rattle.core_form.specs.Lawful.{CountFrom, bound_here, bound_by, bound_in}

-- ---- lists

pub in_either : {A B C : Type 0} → A ⊎ B → (A → C) → (B → C) → C
in_either (inl a) f g = f a
in_either (inr b) f g = g b

pub nothing_in : {A : Type 0} (x : A) → Contains [] x → ⊥
nothing_in x h = let l : h.0 < 0 = h.1 in absurd (omega (arith, l))

pub only_one : {A : Type 0} (x y : A) → Contains (x ∷ []) y → x ≡ y
only_one {A = A} x y h = by (Contains-push_cases [] x y h)
  where
    by : Contains [] y ⊎ (x ≡ y) → x ≡ y
    by (inl k) = absurd (nothing_in y k)
    by (inr is) = is

pub first_or_later : {A : Type 0} (x : A) (xs : List A) (y : A) → Contains (x ∷ xs) y → (x ≡ y) ⊎ Contains xs y
first_or_later {A = A} x xs y h = by (Contains-append_cases (x ∷ []) xs y h)
  where
    by : Contains (x ∷ []) y ⊎ Contains xs y → (x ≡ y) ⊎ Contains xs y
    by (inl k) = inl (only_one x y k)
    by (inr k) = inr k

-- ---- variables whose numbers are among some, in their order

data Numbered : List Parameter → List ℕ → Type 0 where
  none : (ns : List ℕ) → Numbered [] ns
  other : (n : ℕ) (xs : List Parameter) (ns : List ℕ) → Numbered xs ns → Numbered xs (n ∷ ns)
  lexical : (x : Parameter) (n : ℕ) (xs : List Parameter) (ns : List ℕ) → parameter_number x ≡ n ∷ [] → Numbered xs ns → Numbered (x ∷ xs) (n ∷ ns)
  special : (x : Parameter) (xs : List Parameter) (ns : List ℕ) → parameter_number x ≡ [] → Numbered xs ns → Numbered (x ∷ xs) ns

after : (ms : List ℕ) (xs : List Parameter) (ns : List ℕ) → Numbered xs ns → Numbered xs (ms ++ ns)
after [] xs ns h = h
after (m ∷ ms) xs ns h = other m xs (ms ++ ns) (after ms xs ns h)

both : (xs ys : List Parameter) (ns ms : List ℕ) → Numbered xs ns → Numbered ys ms → Numbered (xs ++ ys) (ns ++ ms)
both xs ys ns ms (none _) k = after ns ys ms k
both xs ys ns ms (other n _ us h) k = other n (xs ++ ys) (us ++ ms) (both xs ys us ms h k)
both xs ys ns ms (lexical x n zs us is h) k = lexical x n (zs ++ ys) (us ++ ms) is (both zs ys us ms h k)
both xs ys ns ms (special x zs _ is h) k = special x (zs ++ ys) (ns ++ ms) is (both zs ys ns ms h k)

one_numbered : (x : Parameter) (v : Variable) → x.variable ≡ v → Numbered (x ∷ []) (lexical_number v)
one_numbered x (Lexical n s) is = lexical x n [] [] (ap lexical_number is) (none [])
one_numbered x (Special s) is = special x [] [] (ap lexical_number is) (none [])

each_numbered : (xs : List Parameter) → Numbered xs (flat_map parameter_number xs)
each_numbered [] = none []
each_numbered (x ∷ xs) = both (x ∷ []) xs (parameter_number x) (flat_map parameter_number xs) (one_numbered x x.variable refl) (each_numbered xs)

-- ---- the variables of a form

abbrev InCore : Core → Type 0
InCore e = Numbered (gather let_parameters function_parameters e) (gather bound_here bound_by e)

abbrev InCores : Cores → Type 0
InCores es = Numbered (gather_all let_parameters function_parameters es) (gather_all bound_here bound_by es)

abbrev InBindings : Bindings → Type 0
InBindings bs = Numbered (gather_bindings let_parameters function_parameters bs) (gather_bindings bound_here bound_by bs)

abbrev InOptionals : Optionals → Type 0
InOptionals os = Numbered (gather_optionals let_parameters function_parameters os) (gather_optionals bound_here bound_by os)

abbrev InLambda : Option SymId → Place → Lambda → Type 0
InLambda name p l = Numbered (gather_lambda let_parameters function_parameters name p l) (gather_lambda bound_here bound_by name p l)

abbrev InDefinitions : Definitions → Type 0
InDefinitions ds = Numbered (gather_definitions let_parameters function_parameters ds) (gather_definitions bound_here bound_by ds)

abbrev InItems : Items → Type 0
InItems is = Numbered (gather_items let_parameters function_parameters is) (gather_items bound_here bound_by is)

mutual
  unfolding gather gather_all gather_bindings gather_optionals gather_lambda gather_definitions gather_items

  in_core : (e : Core) → InCore e
  in_core (Quote p v) = none []
  in_core (Local p x) = none []
  in_core (SetLocal p x e) = in_core e
  in_core (Global p s) = none []
  in_core (SetGlobal p s e) = in_core e
  in_core (If p a b c) = both _ _ _ _ (both _ _ _ _ (in_core a) (in_core b)) (in_core c)
  in_core (Progn p es) = in_cores es
  in_core (Let p bs e) = both _ _ _ _ (both _ _ _ _ (each_numbered (binding_parameters bs)) (in_bindings bs)) (in_core e)
  in_core (Function p l) = in_lambda _ p l
  in_core (Labels p ds e) = both _ _ _ _ (after (function_numbers ds) _ _ (in_definitions ds)) (in_core e)
  in_core (CallLocal p f es) = in_cores es
  in_core (CallGlobal p s es) = in_cores es
  in_core (Funcall p e es) = both _ _ _ _ (in_core e) (in_cores es)
  in_core (Apply p e es) = both _ _ _ _ (in_core e) (in_cores es)
  in_core (MvCall p e es) = both _ _ _ _ (in_core e) (in_cores es)
  in_core (FunLocal p f) = none []
  in_core (FunGlobal p s) = none []
  in_core (SetFun p s e) = in_core e
  in_core (Primitive p q es) = in_cores es
  in_core (Is p t e) = in_core e
  in_core (The p t e) = in_core e
  in_core (Block p b n e) = other b _ _ (in_core e)
  in_core (ReturnFrom p b e) = in_core e
  in_core (Tagbody p is) = after (tag_numbers is) _ _ (in_items is)
  in_core (Go p t) = none []
  in_core (Catch p t e) = both _ _ _ _ (in_core t) (in_core e)
  in_core (Throw p t e) = both _ _ _ _ (in_core t) (in_core e)
  in_core (Unwind p e c) = both _ _ _ _ (in_core e) (in_core c)
  in_core (Values p es) = in_cores es
  in_core (MvProg1 p e c) = both _ _ _ _ (in_core e) (in_core c)

  in_cores : (es : Cores) → InCores es
  in_cores no_core = none []
  in_cores (core e es) = both _ _ _ _ (in_core e) (in_cores es)

  in_bindings : (bs : Bindings) → InBindings bs
  in_bindings no_binding = none []
  in_bindings (binding x e bs) = both _ _ _ _ (in_core e) (in_bindings bs)

  in_optionals : (os : Optionals) → InOptionals os
  in_optionals no_optional = none []
  in_optionals (optional x e s os) = both _ _ _ _ (in_core e) (in_optionals os)

  in_lambda : (name : Option SymId) (p : Place) (l : Lambda) → InLambda name p l
  in_lambda name p (lambda k xs os r e) =
      both _ _ _ _ (both _ _ _ _ (each_numbered (parameters_of (lambda k xs os r e))) (in_optionals os)) (in_core e)

  in_definitions : (ds : Definitions) → InDefinitions ds
  in_definitions no_definition = none []
  in_definitions (define p f n l ds) = both _ _ _ _ (in_lambda _ p l) (in_definitions ds)

  in_items : (is : Items) → InItems is
  in_items no_item = none []
  in_items (tag t n is) = in_items is
  in_items (step e is) = both _ _ _ _ (in_core e) (in_items is)

-- ---- numbers that count up

number_is : (x y : Parameter) (m n : ℕ) → parameter_number x ≡ m ∷ [] → x ≡ y → Contains (parameter_number y) n → m ≡ n
number_is x y m n is same h = only_one m n (subst (λ (ns : List ℕ). Contains ns n) is (subst (λ (z : Parameter). Contains (parameter_number z) n) (sym same) h))

no_number : {C : Type 0} (x y : Parameter) (n : ℕ) → parameter_number x ≡ [] → x ≡ y → Contains (parameter_number y) n → C
no_number x y n is same h = absurd (nothing_in n (subst (λ (ns : List ℕ). Contains ns n) is (subst (λ (z : Parameter). Contains (parameter_number z) n) (sym same) h)))

not_before : (k : ℕ) (xs : List Parameter) (ns : List ℕ) → Numbered xs ns → CountFrom k ns → (x : Parameter) (n : ℕ) → Contains xs x → Contains (parameter_number x) n → k ≤ n
not_before k xs ns (none _) count x n there has = absurd (nothing_in x there)
not_before k xs ns (other m _ us h) count x n there has = let l = not_before (suc k) xs us h count.1 x n there has in omega (arith, l)
not_before k xs ns (lexical y m ys us is h) count x n there has =
    in_either (first_or_later y ys x there) (λ same. let a = number_is y x m n is same has in let b : m ≡ k = count.0 in omega (arith, a, b)) (λ later.
    let l = not_before (suc k) ys us h count.1 x n later has in omega (arith, l))
not_before k xs ns (special y ys _ is h) count x n there has =
    in_either (first_or_later y ys x there) (λ same. no_number y x n is same has) (λ later. not_before k ys ns h count x n later has)

later_number : (k : ℕ) (y x : Parameter) (m n : ℕ) (ys : List Parameter) (us : List ℕ) → m ≡ k → parameter_number y ≡ m ∷ [] → Numbered ys us → CountFrom (suc k) us → (z : Parameter) → y ≡ z → Contains (parameter_number z) n → Contains ys x → Contains (parameter_number x) n → ⊥
later_number k y x m n ys us first is h count z same has there has_too =
    let a = number_is y z m n is same has in let l = not_before (suc k) ys us h count x n there has_too in absurd (omega (arith, a, l, first))

-- the variables of a list with a number are one
the_same : (k : ℕ) (xs : List Parameter) (ns : List ℕ) → Numbered xs ns → CountFrom k ns → (x y : Parameter) (n : ℕ) → Contains xs x → Contains xs y → Contains (parameter_number x) n → Contains (parameter_number y) n → x ≡ y
the_same k xs ns (none _) count x y n there too has has_too = absurd (nothing_in x there)
the_same k xs ns (other m _ us h) count x y n there too has has_too = the_same (suc k) xs us h count.1 x y n there too has has_too
the_same k xs ns (lexical z m zs us is h) count x y n there too has has_too =
    in_either (first_or_later z zs x there) (λ a. in_either (first_or_later z zs y too) (λ b. sym a ∙ b) (λ b.
    absurd (later_number k z y m n zs us count.0 is h count.1 x a has b has_too))) (λ a. in_either (first_or_later z zs y too) (λ b.
    absurd (later_number k z x m n zs us count.0 is h count.1 y b has_too a has)) (λ b. the_same (suc k) zs us h count.1 x y n a b has has_too))
the_same k xs ns (special z zs _ is h) count x y n there too has has_too =
    in_either (first_or_later z zs x there) (λ a. no_number z x n is a has) (λ a.
    in_either (first_or_later z zs y too) (λ b. no_number z y n is b has_too) (λ b. the_same k zs ns h count x y n a b has has_too))

-- no two variables of a form have the same number, where the numbers that it binds count up
pub one_variable : (first : ℕ) (e : Core) → CountFrom first (bound_in e) → (x y : Parameter) (n : ℕ) → Contains (parameters_in e) x → Contains (parameters_in e) y → Contains (parameter_number x) n → Contains (parameter_number y) n → x ≡ y
one_variable first e count x y n = the_same first (parameters_in e) (bound_in e) (in_core e) count x y n

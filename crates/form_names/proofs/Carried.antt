-- What is made of each element that a walk over a tree gathers is what another walk gathers.
use Rattle.std.specs.Prelude.{◌≡◌, refl, List, ◌++◌, flat_map, Option, Some, None}
use Rattle.std.proofs.Common.{ap, ◌∙◌}
use Rattle.std.proofs.lemmas.List.Concat.{flat_map-append}
use Rattle.lisp_base.specs.declared.values.Place.{Place}
use Rattle.lisp_base.specs.declared.values.SymId.{SymId}
use Rattle.core_form.specs.Tree.{Core, Quote, Local, SetLocal, Global, SetGlobal, If, Progn, Let, Function, Labels, CallLocal, CallGlobal, Funcall, Apply, MvCall, FunLocal, FunGlobal, SetFun, Primitive, Is, The, Block, ReturnFrom, Tagbody, Go, Catch, Throw, Unwind, Values, MvProg1, Cores, no_core, core, Bindings, no_binding, binding, Optionals, no_optional, optional, Lambda, lambda, Definitions, no_definition, define, Items, no_item, tag, step}
use Rattle.core_form.specs.Facts.{FunctionText, gather, gather_all, gather_bindings, gather_optionals, gather_lambda, gather_definitions, gather_items}

pub record Carries {A B : Type 0} (f : A → List B) (g : Core → List A) (h : FunctionText → List A) (g' : Core → List B) (h' : FunctionText → List B) : Type 0 where
  pub nodes : (e : Core) → flat_map f (g e) ≡ g' e
  pub functions : (t : FunctionText) → flat_map f (h t) ≡ h' t

joined : {A B : Type 0} (f : A → List B) (xs ys : List A) (us vs : List B) → flat_map f xs ≡ us → flat_map f ys ≡ vs → flat_map f (xs ++ ys) ≡ us ++ vs
joined f xs ys us vs p q = flat_map-append f xs ys ∙ ap (λ ws. ws ++ flat_map f ys) p ∙ ap (λ ws. us ++ ws) q

module _ {A B : Type 0} (f : A → List B) (g : Core → List A) (h : FunctionText → List A) (g' : Core → List B) (h' : FunctionText → List B) (k : Carries f g h g' h') where
  mutual
    unfolding gather gather_all gather_bindings gather_optionals gather_lambda gather_definitions gather_items

    pub carried : (e : Core) → flat_map f (gather g h e) ≡ gather g' h' e
    carried (Quote p v) = k.nodes (Quote p v)
    carried (Local p x) = k.nodes (Local p x)
    carried (SetLocal p x e) = joined f _ _ _ _ (k.nodes (SetLocal p x e)) (carried e)
    carried (Global p s) = k.nodes (Global p s)
    carried (SetGlobal p s e) = joined f _ _ _ _ (k.nodes (SetGlobal p s e)) (carried e)
    carried (If p a b c) = joined f _ _ _ _ (joined f _ _ _ _ (joined f _ _ _ _ (k.nodes (If p a b c)) (carried a)) (carried b)) (carried c)
    carried (Progn p es) = joined f _ _ _ _ (k.nodes (Progn p es)) (all_carried es)
    carried (Let p bs e) = joined f _ _ _ _ (joined f _ _ _ _ (k.nodes (Let p bs e)) (bindings_carried bs)) (carried e)
    carried (Function p l) = joined f _ _ _ _ (k.nodes (Function p l)) (lambda_carried None p l)
    carried (Labels p ds e) = joined f _ _ _ _ (joined f _ _ _ _ (k.nodes (Labels p ds e)) (definitions_carried ds)) (carried e)
    carried (CallLocal p n es) = joined f _ _ _ _ (k.nodes (CallLocal p n es)) (all_carried es)
    carried (CallGlobal p s es) = joined f _ _ _ _ (k.nodes (CallGlobal p s es)) (all_carried es)
    carried (Funcall p e es) = joined f _ _ _ _ (joined f _ _ _ _ (k.nodes (Funcall p e es)) (carried e)) (all_carried es)
    carried (Apply p e es) = joined f _ _ _ _ (joined f _ _ _ _ (k.nodes (Apply p e es)) (carried e)) (all_carried es)
    carried (MvCall p e es) = joined f _ _ _ _ (joined f _ _ _ _ (k.nodes (MvCall p e es)) (carried e)) (all_carried es)
    carried (FunLocal p n) = k.nodes (FunLocal p n)
    carried (FunGlobal p s) = k.nodes (FunGlobal p s)
    carried (SetFun p s e) = joined f _ _ _ _ (k.nodes (SetFun p s e)) (carried e)
    carried (Primitive p q es) = joined f _ _ _ _ (k.nodes (Primitive p q es)) (all_carried es)
    carried (Is p t e) = joined f _ _ _ _ (k.nodes (Is p t e)) (carried e)
    carried (The p t e) = joined f _ _ _ _ (k.nodes (The p t e)) (carried e)
    carried (Block p b n e) = joined f _ _ _ _ (k.nodes (Block p b n e)) (carried e)
    carried (ReturnFrom p b e) = joined f _ _ _ _ (k.nodes (ReturnFrom p b e)) (carried e)
    carried (Tagbody p is) = joined f _ _ _ _ (k.nodes (Tagbody p is)) (items_carried is)
    carried (Go p t) = k.nodes (Go p t)
    carried (Catch p t e) = joined f _ _ _ _ (joined f _ _ _ _ (k.nodes (Catch p t e)) (carried t)) (carried e)
    carried (Throw p t e) = joined f _ _ _ _ (joined f _ _ _ _ (k.nodes (Throw p t e)) (carried t)) (carried e)
    carried (Unwind p e c) = joined f _ _ _ _ (joined f _ _ _ _ (k.nodes (Unwind p e c)) (carried e)) (carried c)
    carried (Values p es) = joined f _ _ _ _ (k.nodes (Values p es)) (all_carried es)
    carried (MvProg1 p e c) = joined f _ _ _ _ (joined f _ _ _ _ (k.nodes (MvProg1 p e c)) (carried e)) (carried c)

    pub all_carried : (es : Cores) → flat_map f (gather_all g h es) ≡ gather_all g' h' es
    all_carried no_core = refl
    all_carried (core e es) = joined f _ _ _ _ (carried e) (all_carried es)

    pub bindings_carried : (bs : Bindings) → flat_map f (gather_bindings g h bs) ≡ gather_bindings g' h' bs
    bindings_carried no_binding = refl
    bindings_carried (binding x e bs) = joined f _ _ _ _ (carried e) (bindings_carried bs)

    pub optionals_carried : (os : Optionals) → flat_map f (gather_optionals g h os) ≡ gather_optionals g' h' os
    optionals_carried no_optional = refl
    optionals_carried (optional x e s os) = joined f _ _ _ _ (carried e) (optionals_carried os)

    pub lambda_carried : (name : Option SymId) (p : Place) (l : Lambda) → flat_map f (gather_lambda g h name p l) ≡ gather_lambda g' h' name p l
    lambda_carried name p (lambda n xs os r e) =
        joined f _ _ _ _ (joined f _ _ _ _ (k.functions (record { name = name; place = p; lambda = lambda n xs os r e })) (optionals_carried os)) (carried e)

    pub definitions_carried : (ds : Definitions) → flat_map f (gather_definitions g h ds) ≡ gather_definitions g' h' ds
    definitions_carried no_definition = refl
    definitions_carried (define p n name l ds) = joined f _ _ _ _ (lambda_carried (Some name) p l) (definitions_carried ds)

    pub items_carried : (is : Items) → flat_map f (gather_items g h is) ≡ gather_items g' h' is
    items_carried no_item = refl
    items_carried (tag t name is) = items_carried is
    items_carried (step e is) = joined f _ _ _ _ (carried e) (items_carried is)

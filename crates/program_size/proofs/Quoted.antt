-- What a tree mentions is what it quotes, and symbols.
use Rattle.std.specs.Prelude.{◌≡◌, ◌<◌, List, [], ◌∷◌, ◌++◌, Contains, Option, Some, None, is_some, slice_get, true}
use Rattle.lisp_base.specs.Sort.{index_of}
use Rattle.std.proofs.Common.{arith, sym, subst, ◌⊎◌, inl, inr}
use Rattle.std.proofs.lemmas.List.Elements.{Contains-push_cases, Contains-append_cases, Contains-append_left, Contains-append_right}
use Rattle.lisp_base.specs.declared.values.SymId.{SymId}
use Rattle.lisp_base.specs.declared.values.Place.{Place}
use Rattle.lisp_base.specs.declared.values.Val.{Val}
use Rattle.lisp_base.specs.declared.values.Val.TheVariants.{Sym, Ref}
use Rattle.lisp_base.specs.Tables.{Object}
use Rattle.core_form.specs.Tree.{Core, Quote, Local, SetLocal, Global, SetGlobal, If, Progn, Let, Function, Labels, CallLocal, CallGlobal, Funcall, Apply, MvCall, FunLocal, FunGlobal, SetFun, Primitive, Is, The, Block, ReturnFrom, Tagbody, Go, Catch, Throw, Unwind, Values, MvProg1, Cores, no_core, core, Bindings, no_binding, binding, Optionals, no_optional, optional, Lambda, lambda, Definitions, no_definition, define, Items, no_item, tag, step}
use Rattle.core_form.specs.Facts.{gather, gather_all, gather_bindings, gather_optionals, gather_lambda, gather_definitions, gather_items, no_function}
use Rattle.core_form.specs.Eval.{Program}
use Rattle.core_form.specs.Lawful.{Reaches, itself, within, values_in, quoted_here, quoted}
use Rattle.program_size.specs.Mentions.{mentioned_here, mentioned, data_of}
use Rattle.program_size.specs.Counting.{AreThere}

-- each of xs is one of ys, or a symbol
abbrev Covers : List Val → List Val → Type 0
Covers xs ys = (v : Val) → Contains xs v → Contains ys v ⊎ ((s : SymId) × (v ≡ Sym s))

same : (xs : List Val) → Covers xs xs
same xs v h = inl h

name : (s : SymId) → Covers (Sym s ∷ []) []
name s v h = inr (s, by (Contains-push_cases [] (Sym s) v h))
  where
    by : Contains [] v ⊎ (Sym s ≡ v) → v ≡ Sym s
    by (inl k) = absurd (let l : k.0 < 0 = k.1 in omega (arith, l))
    by (inr e) = sym e

join : (a b c d : List Val) → Covers a c → Covers b d → Covers (a ++ b) (c ++ d)
join a b c d f g v h = by (Contains-append_cases a b v h)
  where
    left : Contains c v ⊎ ((s : SymId) × (v ≡ Sym s)) → Contains (c ++ d) v ⊎ ((s : SymId) × (v ≡ Sym s))
    left (inl k) = inl (Contains-append_left c d v k)
    left (inr k) = inr k

    right : Contains d v ⊎ ((s : SymId) × (v ≡ Sym s)) → Contains (c ++ d) v ⊎ ((s : SymId) × (v ≡ Sym s))
    right (inl k) = inl (Contains-append_right c d v k)
    right (inr k) = inr k

    by : Contains a v ⊎ Contains b v → Contains (c ++ d) v ⊎ ((s : SymId) × (v ≡ Sym s))
    by (inl k) = left (f v k)
    by (inr k) = right (g v k)

mutual
  unfolding gather

  covered : (e : Core) → Covers (gather mentioned_here no_function e) (gather quoted_here no_function e)
  covered (Quote p v) = same (v ∷ [])
  covered (Local p x) = same []
  covered (SetLocal p x e) = (covered e)
  covered (Global p s) = same []
  covered (SetGlobal p s e) = (covered e)
  covered (If p a b c) = (join ((gather mentioned_here no_function a) ++ (gather mentioned_here no_function b)) (gather mentioned_here no_function c) ((gather quoted_here no_function a) ++ (gather quoted_here no_function b)) (gather quoted_here no_function c) (join (gather mentioned_here no_function a) (gather mentioned_here no_function b) (gather quoted_here no_function a) (gather quoted_here no_function b) (covered a) (covered b)) (covered c))
  covered (Progn p es) = (covered_all es)
  covered (Let p bs e) = (join (gather_bindings mentioned_here no_function bs) (gather mentioned_here no_function e) (gather_bindings quoted_here no_function bs) (gather quoted_here no_function e) (covered_bindings bs) (covered e))
  covered (Function p l) = (covered_lambda None p l)
  covered (Labels p ds e) = (join (gather_definitions mentioned_here no_function ds) (gather mentioned_here no_function e) (gather_definitions quoted_here no_function ds) (gather quoted_here no_function e) (covered_definitions ds) (covered e))
  covered (CallLocal p f es) = (covered_all es)
  covered (CallGlobal p s es) = (join (Sym s ∷ []) (gather_all mentioned_here no_function es) ([]) (gather_all quoted_here no_function es) (name s) (covered_all es))
  covered (Funcall p e es) = (join (gather mentioned_here no_function e) (gather_all mentioned_here no_function es) (gather quoted_here no_function e) (gather_all quoted_here no_function es) (covered e) (covered_all es))
  covered (Apply p e es) = (join (gather mentioned_here no_function e) (gather_all mentioned_here no_function es) (gather quoted_here no_function e) (gather_all quoted_here no_function es) (covered e) (covered_all es))
  covered (MvCall p e es) = (join (gather mentioned_here no_function e) (gather_all mentioned_here no_function es) (gather quoted_here no_function e) (gather_all quoted_here no_function es) (covered e) (covered_all es))
  covered (FunLocal p f) = same []
  covered (FunGlobal p s) = name s
  covered (SetFun p s e) = (covered e)
  covered (Primitive p q es) = (covered_all es)
  covered (Is p t e) = (covered e)
  covered (The p t e) = (covered e)
  covered (Block p b n e) = (covered e)
  covered (ReturnFrom p b e) = (covered e)
  covered (Tagbody p is) = (covered_items is)
  covered (Go p t) = same []
  covered (Catch p t e) = (join (gather mentioned_here no_function t) (gather mentioned_here no_function e) (gather quoted_here no_function t) (gather quoted_here no_function e) (covered t) (covered e))
  covered (Throw p t e) = (join (gather mentioned_here no_function t) (gather mentioned_here no_function e) (gather quoted_here no_function t) (gather quoted_here no_function e) (covered t) (covered e))
  covered (Unwind p e c) = (join (gather mentioned_here no_function e) (gather mentioned_here no_function c) (gather quoted_here no_function e) (gather quoted_here no_function c) (covered e) (covered c))
  covered (Values p es) = (covered_all es)
  covered (MvProg1 p e c) = (join (gather mentioned_here no_function e) (gather mentioned_here no_function c) (gather quoted_here no_function e) (gather quoted_here no_function c) (covered e) (covered c))

  covered_all : (es : Cores) → Covers (gather_all mentioned_here no_function es) (gather_all quoted_here no_function es)
  covered_all no_core = same []
  covered_all (core e es) = (join (gather mentioned_here no_function e) (gather_all mentioned_here no_function es) (gather quoted_here no_function e) (gather_all quoted_here no_function es) (covered e) (covered_all es))

  covered_bindings : (bs : Bindings) → Covers (gather_bindings mentioned_here no_function bs) (gather_bindings quoted_here no_function bs)
  covered_bindings no_binding = same []
  covered_bindings (binding x e bs) = (join (gather mentioned_here no_function e) (gather_bindings mentioned_here no_function bs) (gather quoted_here no_function e) (gather_bindings quoted_here no_function bs) (covered e) (covered_bindings bs))

  covered_optionals : (os : Optionals) → Covers (gather_optionals mentioned_here no_function os) (gather_optionals quoted_here no_function os)
  covered_optionals no_optional = same []
  covered_optionals (optional x e s os) = (join (gather mentioned_here no_function e) (gather_optionals mentioned_here no_function os) (gather quoted_here no_function e) (gather_optionals quoted_here no_function os) (covered e) (covered_optionals os))

  covered_lambda : (name : Option SymId) (p : Place) (l : Lambda) → Covers (gather_lambda mentioned_here no_function name p l) (gather_lambda quoted_here no_function name p l)
  covered_lambda n p (lambda k xs os r e) = (join (gather_optionals mentioned_here no_function os) (gather mentioned_here no_function e) (gather_optionals quoted_here no_function os) (gather quoted_here no_function e) (covered_optionals os) (covered e))

  covered_definitions : (ds : Definitions) → Covers (gather_definitions mentioned_here no_function ds) (gather_definitions quoted_here no_function ds)
  covered_definitions no_definition = same []
  covered_definitions (define p f n l ds) = (join (gather_lambda mentioned_here no_function (Some n) p l) (gather_definitions mentioned_here no_function ds) (gather_lambda quoted_here no_function (Some n) p l) (gather_definitions quoted_here no_function ds) (covered_lambda (Some n) p l) (covered_definitions ds))

  covered_items : (is : Items) → Covers (gather_items mentioned_here no_function is) (gather_items quoted_here no_function is)
  covered_items no_item = same []
  covered_items (tag t n is) = (covered_items is)
  covered_items (step e is) = (join (gather mentioned_here no_function e) (gather_items mentioned_here no_function is) (gather quoted_here no_function e) (gather_items quoted_here no_function is) (covered e) (covered_items is))

symbol_reaches : (p : Program) (s : SymId) (v w : Val) → v ≡ Sym s → Reaches p v w → w ≡ Sym s
symbol_reaches p s v _ e itself = e
symbol_reaches p s v _ e (within u w r h) =
    let k : Contains (values_in p (Sym s)) w = subst (λ (x : Val). Contains (values_in p x) w) (symbol_reaches p s v u e r) h in
    absurd (let l : k.0 < 0 = k.1 in omega (arith, l))

-- so where all that it quotes is there, all that it mentions is
pub quoted_there : (heap : List Object) (e : Core) → AreThere heap (quoted e) → AreThere heap (mentioned e)
quoted_there heap e there o h = by (covered e h.0 h.1)
  where
    by : Contains (quoted e) h.0 ⊎ ((s : SymId) × (h.0 ≡ Sym s)) → is_some (slice_get heap (index_of o)) ≡ true
    by (inl k) = there o (h.0, k, h.2)
    by (inr k) = let x = symbol_reaches (data_of heap) k.0 h.0 (Ref o) k.1 h.2 in cc

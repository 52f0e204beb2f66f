-- Every form does in its graph what it does, where calls do and keep the time of the limit.
use Rattle.std.proofs.Common.{◌≡◌, ℕ, true, false, List, Some}
use Rattle.std.specs.Prelude.{slice_get}
use Rattle.core_form.specs.Tree.{Core, Quote, Local, SetLocal, Global, SetGlobal, If, Progn, Let, Function, Labels, CallLocal, CallGlobal, Funcall, Apply, MvCall, FunLocal, FunGlobal, SetFun, Primitive, Is, The, Block, ReturnFrom, Tagbody, Go, Catch, Throw, Unwind, Values, MvProg1, Cores, no_core, core, Bindings, no_binding, binding, Items, no_item, tag, step}
use Rattle.core_form.specs.Facts.{Facts}
use Rattle.core_form.specs.State.{Symbol}
use Rattle.core_form.specs.Eval.{Call}
use Rattle.icr_graph.specs.Plain.{FlowGraph}
use Rattle.graph_meaning.specs.Reading.{first_function}
use Rattle.form_graphs.specs.Calling.{CallsDo}
use Rattle.form_graphs.proofs.Leaves.{quote_does, global_does, set_global_does}
use Rattle.form_graphs.proofs.Data.{local_does, fun_global_does, set_fun_does, set_local_does, is_does, if_does, function_does, fun_local_does}
use Rattle.form_graphs.proofs.Operands.{AlwaysDoes, AllDo}
use Rattle.form_graphs.proofs.Combining.{values_does, primitive_does, the_does}
use Rattle.form_graphs.proofs.Sequences.{progn_does, labels_does}
use Rattle.form_graphs.proofs.Exits.{return_from_does, throw_does, go_does}
use Rattle.form_graphs.proofs.Extents.{block_does, catch_does}
use Rattle.form_graphs.proofs.Cleanups.{mv_prog1_does, unwind_does}
use Rattle.form_graphs.proofs.Timely.{IsTimely}
use Rattle.form_graphs.proofs.Tagbodies.{ItemsDo, tagbody_does}
use Rattle.form_graphs.proofs.Calls.{AllDo as ArgumentsDo}
use Rattle.form_graphs.proofs.CallForms.{call_global_does, apply_does, call_local_does, funcall_does}
use Rattle.form_graphs.proofs.CallValues.{mv_call_does}
use Rattle.form_graphs.proofs.Bindings.{InitialsDo, let_does}

module _ (symbols : List Symbol) (graphs : List FlowGraph) (number : ℕ) (g : FlowGraph) (facts : Facts) (rank : ℕ → ℕ) (there : slice_get graphs number ≡ Some g) (call : Call) (limit : ℕ) where
  -- forms that do what they do wherever they stand do so as arguments
  pub arguments_do : (es : Cores) → AllDo symbols graphs number g facts rank there call limit es → ArgumentsDo symbols graphs number g rank there facts call limit false es
  arguments_do no_core all = tt
  arguments_do (core e es) (does, all) = (does false false, arguments_do es all)

  module _ (calls_do : CallsDo symbols graphs call) (begins : facts.start ≡ first_function graphs number) (timely : IsTimely limit call) where
    mutual
      -- wherever a form stands in the graph it does what it does
      pub all_do : (e : Core) → AlwaysDoes symbols graphs number g facts rank there call limit e
      all_do (Quote pl v) t w n l low to p q = quote_does symbols graphs number g facts rank there call limit t w pl v n l low to p q
      all_do (Local pl x) t w n l low to p q = local_does symbols graphs number g facts rank there call limit t w pl x n l low to p q
      all_do (SetLocal pl x e) t w n l low to p q =
          set_local_does symbols graphs number g facts rank there call limit t w pl x e n l low to p q (λ j r. all_do e false _ _ _ _ _ _ _)
      all_do (Global pl x) t w n l low to p q = global_does symbols graphs number g facts rank there call limit t w pl x n l low to p q
      all_do (SetGlobal pl x e) t w n l low to p q =
          set_global_does symbols graphs number g facts rank there call limit t w pl x e n l low to p q (λ j r. all_do e false _ _ _ _ _ _ _)
      all_do (If pl a b c) t w n l low to p q =
          if_does symbols graphs number g facts rank there call limit t w pl a b c n l low to p q (λ j r. all_do a false _ _ _ _ _ _ _) (λ r r'. all_do b _ _ _ _ _ _ _ _) (λ r r'. all_do c _ _ _ _ _ _ _ _)
      all_do (Progn pl es) t w n l low to p q = progn_does symbols graphs number g facts rank there call limit t w pl es n l low to p q (list_do es)
      all_do (Let pl bs e) t w n l low to p q = let_does symbols graphs number g facts rank there call limit t w pl bs e n l low to p q (initials_do bs) (all_do e)
      all_do (Function pl k) t w n l low to p q = function_does symbols graphs number g facts rank there call limit begins t w pl k n l low to p q
      all_do (Labels pl ds e) t w n l low to p q = labels_does symbols graphs number g facts rank there call limit t w pl ds e n l low to p q (all_do e)
      all_do (CallLocal pl i es) t w n l low to p q =
          call_local_does symbols graphs number g facts rank there call limit calls_do begins t w pl i es n l low to p q (arguments_do es (list_do es))
      all_do (CallGlobal pl x es) t w n l low to p q =
          call_global_does symbols graphs number g facts rank there call limit calls_do t w pl x es n l low to p q (arguments_do es (list_do es))
      all_do (Funcall pl e es) t w n l low to p q =
          funcall_does symbols graphs number g facts rank there call limit calls_do begins t w pl e es n l low to p q (all_do e false false) (arguments_do es (list_do es))
      all_do (Apply pl e es) t w n l low to p q =
          apply_does symbols graphs number g facts rank there call limit calls_do t w pl e es n l low to p q (all_do e false false) (arguments_do es (list_do es))
      all_do (MvCall pl e es) t w n l low to p q =
          mv_call_does symbols graphs number g facts rank there call limit calls_do t w pl e es n l low to p q (all_do e false false) (arguments_do es (list_do es))
      all_do (FunLocal pl i) t w n l low to p q = fun_local_does symbols graphs number g facts rank there call limit begins t w pl i n l low to p q
      all_do (FunGlobal pl x) t w n l low to p q = fun_global_does symbols graphs number g facts rank there call limit t w pl x n l low to p q
      all_do (SetFun pl x e) t w n l low to p q =
          set_fun_does symbols graphs number g facts rank there call limit t w pl x e n l low to p q (λ j r. all_do e false _ _ _ _ _ _ _)
      all_do (Primitive pl o es) t w n l low to p q = primitive_does symbols graphs number g facts rank there call limit t w pl o es n l low to p q (list_do es)
      all_do (Is pl type e) t w n l low to p q =
          is_does symbols graphs number g facts rank there call limit t w pl type e n l low to p q (λ j r. all_do e false _ _ _ _ _ _ _)
      all_do (The pl type e) t w n l low to p q =
          the_does symbols graphs number g facts rank there call limit t w pl type e n l low to p q (λ j r. all_do e false _ _ _ _ _ _ _)
      all_do (Block pl b name e) t w n l low to p q =
          block_does symbols graphs number g facts rank there call limit t w pl b name e n l low to p q (λ r. all_do e _ _ _ _ _ _ _ _)
      all_do (ReturnFrom pl b e) t w n l low to p q =
          return_from_does symbols graphs number g facts rank there call limit t w pl b e n l low to p q (λ j r. all_do e false _ _ _ _ _ _ _)
      all_do (Tagbody pl is) t w n l low to p q = tagbody_does symbols graphs number g facts rank there call limit low t w pl is n l to p q timely (items_do is low)
      all_do (Go pl u) t w n l low to p q = go_does symbols graphs number g facts rank there call limit t w pl u n l low to p q
      all_do (Catch pl e c) t w n l low to p q =
          catch_does symbols graphs number g facts rank there call limit t w pl e c n l low to p q (λ j r. all_do e false _ _ _ _ _ _ _) (λ r x. all_do c false _ _ _ _ _ _ _)
      all_do (Throw pl e c) t w n l low to p q =
          throw_does symbols graphs number g facts rank there call limit t w pl e c n l low to p q (λ j r. all_do e false _ _ _ _ _ _ _) (λ more k r x. all_do c false _ _ _ _ _ _ _)
      all_do (Unwind pl e c) t w n l low to p q =
          unwind_does symbols graphs number g facts rank there call limit t w pl e c n l low to p q (λ k x r. all_do e false _ _ _ _ _ _ _) (λ r x. all_do c false _ _ _ _ _ _ _)
      all_do (Values pl es) t w n l low to p q = values_does symbols graphs number g facts rank there call limit t w pl es n l low to p q (list_do es)
      all_do (MvProg1 pl e c) t w n l low to p q =
          mv_prog1_does symbols graphs number g facts rank there call limit t w pl e c n l low to p q (λ j r. all_do e false _ _ _ _ _ _ _) (λ r x. all_do c false _ _ _ _ _ _ _)

      -- so do all of a list
      pub list_do : (es : Cores) → AllDo symbols graphs number g facts rank there call limit es
      list_do no_core = tt
      list_do (core e es) = (all_do e, list_do es)

      -- the forms that give the values for the variables of a LET
      pub initials_do : (bs : Bindings) → InitialsDo symbols graphs number g facts rank there call limit bs
      initials_do no_binding = tt
      initials_do (binding x e bs) = (all_do e, initials_do bs)

      -- and the forms of a tagbody
      pub items_do : (is : Items) (low : ℕ) → ItemsDo symbols graphs number g facts rank there call limit low is
      items_do no_item low = tt
      items_do (tag u name is) low = items_do is low
      items_do (step e is) low = ((λ p r. all_do e false true _ _ _ _ _ _), items_do is low)

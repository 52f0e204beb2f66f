-- The values that a program mentions, and so the functions of the prelude that it holds. (This project's own.)
use Rattle.std.specs.Prelude.{ℕ, List, [], ◌∷◌, Contains, map}
use Rattle.lisp_base.specs.declared.values.SymId.{SymId}
use Rattle.lisp_base.specs.declared.values.Val.{Val}
use Rattle.lisp_base.specs.declared.values.Val.TheVariants.{Sym}
use Rattle.lisp_base.specs.Tables.{Object}
use Rattle.core_form.specs.declared.tree.TopForm.{TopForm}
use Rattle.core_form.specs.Tree.{Core, Quote, CallGlobal, FunGlobal}
use Rattle.core_form.specs.Reading.{core_of}
use Rattle.core_form.specs.Facts.{at_nodes}
use Rattle.core_form.specs.Eval.{Program}
use Rattle.core_form.specs.Lawful.{parts_of, meant, values_in}
use Rattle.program_size.specs.declared.prelude_functions.PreludeFunction.{PreludeFunction}

-- a top-level form with the numbers of its nodes and of its closed copies
pub record Sized : Type 0 where
  pub core : Core
  pub nodes : ℕ
  pub copies : ℕ

abbrev pub sized : TopForm → (copies : ℕ) → Sized
sized form copies = record { core = core_of form.core; nodes = form.nodes; copies = copies }

-- a function of the prelude: its name, and the form that defines it
pub record Function : Type 0 where
  pub name : SymId
  pub form : Sized

abbrev pub function_of : PreludeFunction → Function
function_of f = record { name = f.name; form = sized f.form f.copies }

abbrev pub functions_of : List PreludeFunction → List Function
functions_of fs = map function_of fs

-- the objects of a heap, as the meaning of a program sees them
abbrev pub data_of : List Object → Program
data_of heap = meant (parts_of [] [] heap [])

-- The datum that a node quotes, or the symbol whose global function it calls or gives. A primitive is named by no symbol.
abbrev pub mentioned_here : Core → List Val
mentioned_here (Quote p v) = v ∷ []
mentioned_here (CallGlobal p s es) = Sym s ∷ []
mentioned_here (FunGlobal p s) = Sym s ∷ []
mentioned_here _ = []

abbrev pub mentioned : Core → List Val
mentioned e = at_nodes mentioned_here e

-- A program mentions what its forms mention, what a function of the prelude mentions whose name it mentions, and what
-- stands in a cons or vector that it mentions. So it holds a function exactly where it mentions its name.
pub data Mentions (heap : List Object) (prelude : List Function) (forms : List Sized) : Val → Type 0 where
  in_form : (f : Sized) (v : Val) → Contains forms f → Contains (mentioned f.core) v → Mentions heap prelude forms v
  in_function : (f : Function) (v : Val) → Contains prelude f → Mentions heap prelude forms (Sym f.name) →
      Contains (mentioned f.form.core) v → Mentions heap prelude forms v
  inside : (u v : Val) → Mentions heap prelude forms u → Contains (values_in (data_of heap) u) v → Mentions heap prelude forms v

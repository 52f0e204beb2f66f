-- What a form is, its parts being still forms: a sketch of its tree (this project's own).
use Rattle.std.specs.Prelude.{ℕ, ◌+◌, Bool, List, [], ◌∷◌, Option, map}
use Rattle.lisp_base.specs.declared.values.Place.{Place}
use Rattle.lisp_base.specs.declared.values.SymId.{SymId}
use Rattle.lisp_base.specs.declared.values.Val.{Val}
use Rattle.lisp_base.specs.declared.primitives.Primitive.{Primitive as Operation}
use Rattle.lisp_base.specs.Sort.{nil}
use Rattle.lisp_base.specs.Spec.{Spec, spec_size}
use Rattle.core_form.specs.Tree as tree
use Rattle.core_form.specs.Tree.{Core, Cores}
use Rattle.declarations.specs.Declarations.{Declared}
use Rattle.expansion.specs.declared.heads.Leaf.{Leaf}
use Rattle.expansion.specs.declared.heads.Leaf.TheVariants.{Constant, LocalVariable, GlobalVariable, LocalFunction, GlobalFunction, GoTo}
use Rattle.expansion.specs.declared.heads.Binary.{Binary}
use Rattle.expansion.specs.declared.heads.Binary.TheVariants.{Catching, Throwing, Unwinding, KeepingValues}
use Rattle.expansion.specs.declared.heads.Many.{Many}
use Rattle.expansion.specs.declared.heads.Many.TheVariants.{Sequence, CallingLocal, CallingGlobal, Operating, GivingValues}
use Rattle.expansion.specs.declared.heads.Calling.{Calling}
use Rattle.expansion.specs.declared.heads.Calling.TheVariants.{Funcalling, Applying, CallingWithValues}
use Rattle.expansion.specs.declared.heads.Reach.{Reach}

-- ---- nodes by their parts

-- a node of one part
pub data Unary : Type 0 where
  SettingLocal : ℕ → Unary
  SettingGlobal : SymId → Unary
  SettingFunction : SymId → Unary
  Testing : Spec → Unary
  Checking : Spec → Unary
  Returning : ℕ → Unary

abbrev pub leaf_node : Leaf → Place → Core
leaf_node (Constant v) p = tree.Quote p v
leaf_node (LocalVariable n) p = tree.Local p n
leaf_node (GlobalVariable s) p = tree.Global p s
leaf_node (LocalFunction f) p = tree.FunLocal p f
leaf_node (GlobalFunction s) p = tree.FunGlobal p s
leaf_node (GoTo t) p = tree.Go p t

abbrev pub unary_node : Unary → Place → Core → Core
unary_node (SettingLocal n) p e = tree.SetLocal p n e
unary_node (SettingGlobal s) p e = tree.SetGlobal p s e
unary_node (SettingFunction s) p e = tree.SetFun p s e
unary_node (Testing t) p e = tree.Is p t e
unary_node (Checking t) p e = tree.The p t e
unary_node (Returning b) p e = tree.ReturnFrom p b e

abbrev pub binary_node : Binary → Place → Core → Core → Core
binary_node Catching p a b = tree.Catch p a b
binary_node Throwing p a b = tree.Throw p a b
binary_node Unwinding p a b = tree.Unwind p a b
binary_node KeepingValues p a b = tree.MvProg1 p a b

abbrev pub many_node : Many → Place → Cores → Core
many_node Sequence p es = tree.Progn p es
many_node (CallingLocal f) p es = tree.CallLocal p f es
many_node (CallingGlobal s) p es = tree.CallGlobal p s es
many_node (Operating q) p es = tree.Primitive p q es
many_node GivingValues p es = tree.Values p es

abbrev pub calling_node : Calling → Place → Core → Cores → Core
calling_node Funcalling p f es = tree.Funcall p f es
calling_node Applying p f es = tree.Apply p f es
calling_node CallingWithValues p f es = tree.MvCall p f es

-- a test or a check counts the size of its type besides
abbrev pub unary_count : Unary → ℕ
unary_count (SettingLocal n) = 1
unary_count (SettingGlobal s) = 1
unary_count (SettingFunction s) = 1
unary_count (Testing t) = 1 + spec_size t
unary_count (Checking t) = 1 + spec_size t
unary_count (Returning b) = 1

-- ---- variables that a form binds

-- a variable, the types that the form declares of it, and whether it declares it special
pub record Binder : Type 0 where
  pub variable : SymId
  pub types : List Spec
  pub special : Bool

-- a variable with the form for its value
pub record Initial : Type 0 where
  pub binder : Binder
  pub value : Val

-- an optional parameter, the form for its value where no argument is given, and the variable that tells whether one was given
pub record Optional' : Type 0 where
  pub binder : Binder
  pub default : Val
  pub supplied : Option Binder

-- ---- sketches

mutual
  pub data Sketch : Type 0 where
    -- this form
    form : Val → Sketch
    leaf : Leaf → Sketch
    one : Unary → Sketch → Sketch
    two : Binary → Sketch → Sketch → Sketch
    choice : (test yes no : Sketch) → Sketch
    many : Many → Sketches → Sketch
    calling : Calling → Sketch → Sketches → Sketch
    -- bindings of variables, all values before all bindings
    bind : List Initial → Sketch → Sketch
    -- a variable that is set to the value of a form, with its checks
    assign : SymId → Val → Sketch
    -- a function as a value
    function : Function → Sketch
    -- local functions, whose definitions are forms
    functions : Reach → List Val → Sketch → Sketch
    -- a local function of this name as a value, which may call itself
    recursive : SymId → Function → Sketch
    block : SymId → Sketch → Sketch
    -- tags and forms
    tagbody : List Val → Sketch
    -- within declarations of variables that the form doesn't bind
    within : Declared → Sketch → Sketch

  pub data Sketches : Type 0 where
    no_sketch : Sketches
    sketch : Sketch → Sketches → Sketches

  pub data Function : Type 0 where
    function_of : (required : List Binder) → (optional : List Optional') → (rest : Option Binder) → (body : Sketch) → Function

abbrev pub sketches : List Sketch → Sketches
sketches [] = no_sketch
sketches (x ∷ xs) = sketch x (sketches xs)

abbrev pub forms : List Val → List Sketch
forms vs = map form vs

-- ---- sketches that are often needed

abbrev pub constant : Val → Sketch
constant v = leaf (Constant v)

-- PROGN of no form is NIL, and of one form that form
abbrev pub progn : List Sketch → Sketch
progn [] = constant nil
progn (x ∷ []) = x
progn (x ∷ y ∷ xs) = many Sequence (sketches (x ∷ y ∷ xs))

abbrev pub body : List Val → Sketch
body vs = progn (forms vs)

abbrev pub primitive : Operation → List Sketch → Sketch
primitive q xs = many (Operating q) (sketches xs)

-- checks of a value, the first innermost
abbrev pub checked : List Spec → Sketch → Sketch
checked [] x = x
checked (t ∷ ts) x = checked ts (one (Checking t) x)

-- ---- plans

-- what is to be done with a form: another form stands for it, or it gives a node
pub data Plan : Type 0 where
  instead : Val → Plan
  declared_around : Declared → Val → Plan
  makes : Sketch → Plan
